use Rattle.std.proofs.Common.{◌≡◌, refl, rules}
use Rattle.apply_lanes.proofs.ApplierLaws.{counted_new, other_site}
use Rattle.apply_lanes.proofs.kept.Kept.applier.Goals as goal

pub invariant_of-result : goal.invariant_of-result
invariant_of-result g c =
    let other = other_site g.D.DeskNames.id c.args.origin c.in-Ok.ensures.refused.0 in
    let number : c.in-Ok.number ≡ 0 = search rules in
    let received : c.in-Ok.received ≡ 0 = search rules in
    record {
      site = other.0;
      other = other.1;
      counted = counted_new g.D.DeskNames.id _ c.requires refl refl number received;
    }
