use Rattle.std.proofs.Common.{[], refl, sym, append-nil}
use Rattle.site_core.proofs.DeskLaws.{kept}
use Rattle.site_core.proofs.ExpiryLaws.{none_waits}
use Rattle.site_core.proofs.desk.Desk.expire.Goals as goal

pub invariant_of-self : goal.invariant_of-self
invariant_of-self g c =
    kept _ _ [] c.self.invariant refl (sym (append-nil _)) (λ j a. refl) refl
    (record { same_me = refl; same_sites = refl }) (λ past s. s)
    (λ closed. none_waits c.self.inside.queue c.args.time _ _ c.expire_late-count.ensures
    (c.self.invariant.idle closed))
