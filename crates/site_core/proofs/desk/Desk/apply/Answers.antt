use Rattle.std.proofs.Common.{◌≡◌, false, sym, subst}
use Rattle.site_core.specs.Desks.{DeskValue}
use Rattle.site_core.specs.Faults.{has_closed}
use Rattle.site_core.proofs.RetiringLaws.{applied}
use Rattle.site_core.proofs.desk.Desk.apply.Goals as goal

pub invariant_of-self-2 : goal.invariant_of-self-2
invariant_of-self-2 g c =
    applied _ c.args.origin c.args.entry.now c.apply.new.self c.end_asks.new.manager c.self.invariant
    (subst (λ (d : DeskValue). has_closed d ≡ false) (sym c.self.view_is) c.requires.open) c.in_ok-number.ensures.ok
    c.end_asks.ensures.same
    c.end_asks.ensures.answered

pub returns-clause-keeps : goal.returns-clause-keeps
returns-clause-keeps g c = rw (← c.self.view_is) (λ h. c.in_ok-number.ensures.keeps h.entry)
