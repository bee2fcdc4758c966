use Rattle.std.proofs.Common.{◌≡◌, true, false, sym, ◌∙◌}
use Rattle.world_core.proofs.LinkLaws.{one_applied, some_gone}
use Rattle.world_core.proofs.link.Link.apply_next.Goals as goal
use Rattle.world_core.proofs.link.Link.apply_next.Goals.{then-keeps, else-keeps}

pub returns-then-stays : goal.returns-then-stays
returns-then-stays g c e next =
    one_applied g.K.Keeping.keeps c.self.inside.incoming c.self.inside.applied c.args.self.now e c.self.view_is
    c.self.invariant.within next

pub returns-else-stays : goal.returns-else-stays
returns-else-stays g c e next =
    elim c.if-keeps.branch [
      | then-keeps w ↦ (
          let both : true ≡ false = sym w.if-keeps.true ∙ sym w.value-is ∙ c.if-stays.false in
          absurd cc)
      | else-keeps w ↦ (
          some_gone g.K.Keeping.keeps c.self.inside.incoming c.let_go.new.self c.self.inside.applied c.args.self.now e
          (sym c.keeps.ensures ∙ w.if-keeps.false)
          c.self.view_is c.self.invariant.within next c.let_go.ensures.rest c.let_go.ensures.gone c.let_go.ensures.put)
    ]
