use Rattle.command_keys.proofs.Renewed.{moved_front, moved_between}
use Rattle.command_keys.proofs.last.make_newest.Goals as goal

pub returns-then-index-oldest-clause-order : goal.returns-then-index-oldest-clause-order
returns-then-index-oldest-clause-order g c =
    moved_front c.args.map.now.entries c.move_index-then-index-oldest.new.self.entries c.args.index c.args.oldest
    c.requires.index c.requires.oldest c.if-index-oldest.true c.move_index-then-index-oldest.ensures.entries

pub returns-then-oldest-last-clause-order : goal.returns-then-oldest-last-clause-order
returns-then-oldest-last-clause-order g c =
    moved_between c.args.map.now.entries c.move_index-2.new.self.entries c.args.index c.args.oldest
    c.requires.index c.requires.oldest c.if-index-oldest.false c.move_index-2.ensures.entries
