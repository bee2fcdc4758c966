use Rattle.std.proofs.Common.{◌≡◌, ◌-◌, ◌≤◌, true, false, length, get_or, arith, rules, subst}
use Rattle.rights_types.specs.Places.{at_site}
use Rattle.apply_lanes.specs.Kepts.{KeptValue}
use Rattle.apply_lanes.proofs.KeptLaws.{shard_left, free_site, kept_admit}
use Rattle.apply_lanes.proofs.kept.Kept.admit.Goals as goal

pub unreachable-requires : goal.unreachable-requires
unreachable-requires g c =
    let left = shard_left _ _ _ c.self.invariant.has_shards (omega (arith, c.number-2.ensures.range))
    c.if-self-place.false in
    omega (arith, left, c.in_default.ensures.none.0)

pub returns-clause-refused : goal.returns-clause-refused
returns-clause-refused g c =
    let free : get_or c.self.inside.admitted (c.args.origin - 1) false ≡ false =
    subst (λ n. get_or c.self.inside.admitted (n - 1) false ≡ false) c.number-2.ensures.value c.if-self-place.false in
    let high : c.args.origin ≤ length c.self.inside.admitted
    = omega (arith, c.self.invariant.has_shards.places, c.number.ensures.range) in
    let at = free_site c.self.inside.admitted c.args.origin c.number.ensures.range.0 high free in
    (search rules, subst (λ (k : KeptValue). at_site k.admitted c.args.origin true ≡ false) c.self.view_is at)

pub invariant_of-self : goal.invariant_of-self
invariant_of-self g c =
    let some = c.in-Some.ensures.some in
    let other = c.in-Some-split.ensures.some in
    kept_admit _ _ _ c.split.new.self c.split-2.new.self c.self.invariant (omega (arith, c.number-2.ensures.range))
    c.if-self-place.false some.1 some.2
    other.1 other.2

pub returns-clause-ok : goal.returns-clause-ok
returns-clause-ok g c = search rules

pub returns-clause-after : goal.returns-clause-after
returns-clause-after g c = invariant_of-self g c
