use Rattle.apply_lanes.specs.Recorders.{RecorderValue}
use Rattle.std.proofs.Common.{◌≤◌, ap, subst, sym, ◌∙◌, refl}
use Rattle.apply_lanes.specs.Names.{DeskId}
use Rattle.apply_lanes.proofs.KeptLaws.{nothing_tallied, opens}
use Rattle.apply_lanes.proofs.kept.Kept.open.Goals as goal

pub invariant_of-result : goal.invariant_of-result
invariant_of-result g c =
    let received = sym c.received.ensures.value ∙ c.received.ensures.sum in
    let issued = sym c.issued.ensures.booked ∙ c.issued.ensures.value in
    let spent = sym c.spent.ensures.booked ∙ c.spent.ensures.value in
    opens _ c.args.desk _ _ _ _ _ _ _ _ _ (ap (λ (i : DeskId). i.site) c.requires.id)
    (ap (λ (i : DeskId). i.sites) c.requires.id)
    (sym c.site.ensures.booked
    ∙ c.site.ensures.value) (subst (λ n. n ≤ 16) c.sites.ensures.value c.sites.ensures.range.1)
    (nothing_tallied c.args.desk c.requires.unused issued spent received) c.open.ensures c.open-2.ensures
    c.open-3.ensures c.open-4.ensures refl refl c.requires.unused (ap (λ (r : RecorderValue). r.items) c.new.ensures)
