use Rattle.std.proofs.Common.{◌∙◌}
use Rattle.command_keys.proofs.Orders.{key_in_order}
use Rattle.command_keys.proofs.entry_keys.EntryKeys.key_in_order.Goals as goal

pub returns : goal.returns
returns g c =
    c.key_at.ensures
    ∙ key_in_order c.args.self.now.entries c.args.number c.count_behind.result c.requires c.count_behind.ensures.behind
    c.count_behind.ensures.others
