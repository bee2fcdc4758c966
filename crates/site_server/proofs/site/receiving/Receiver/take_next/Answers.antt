use Rattle.std.proofs.Common.{◌≤◌, ◌∙◌, sym, subst}
use Rattle.entry_codec.specs.Reading.{reading}
use Rattle.peer_links.proofs.PairLaws.{line_pair}
use Rattle.site_server.proofs.site.receiving.Receiver.take_next.Goals as goal

pub invariant_of-self : goal.invariant_of-self
invariant_of-self g c =
    let same = line_pair _ c.on_line.new.self (reading c.args.line.now) c.on_line.result c.on_line.ensures.leaves in (
      c.on_line.ensures.unfinished,
      record {
        me = same.me ∙ c.self.invariant.1.me;
        origin = subst (λ n. n ≤ g.D.DeskNames.id.sites) (sym same.origin) c.self.invariant.1.origin;
      },
    )
