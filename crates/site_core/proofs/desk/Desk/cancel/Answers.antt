use Rattle.std.proofs.Common.{[], refl, sym, append-nil}
use Rattle.site_core.proofs.DeskLaws.{kept}
use Rattle.site_core.proofs.CancelLaws.{none_left, told_decided}
use Rattle.site_core.proofs.desk.Desk.cancel.Goals as goal

pub invariant_of-self : goal.invariant_of-self
invariant_of-self g c =
    kept _ _ [] c.self.invariant refl (sym (append-nil _)) (λ j a. refl) refl
    (record { same_me = refl; same_sites = refl }) (λ past s. s)
    (λ closed. none_left c.self.inside.queue c.cancel.new.self _ c.args.ticket c.cancel.result c.status.result
    c.cancel.ensures.cancels c.status.ensures (c.self.invariant.idle closed))

pub returns : goal.returns
returns g c = record {
  cancels = rw (← c.self.view_is) (record {
    waited = c.cancel.result;
    between = c.cancel.new.self;
    cancels = c.cancel.ensures.cancels;
    tells = c.status.ensures;
    rest = refl;
  });
  decided = told_decided _ c.args.ticket c.status.result _ c.status.ensures c.cancel.ensures.gone;
}
