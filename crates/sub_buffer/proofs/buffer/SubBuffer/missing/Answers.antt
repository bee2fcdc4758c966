use Rattle.std.proofs.Common.{◌≡◌, ◌≤◌, ◌⊎◌, true, inl, inr, refl, subst, Some, arith, ◌∙◌}
use Rattle.sub_buffer.specs.Buffers.{BufferValue, HasPrev}
use Rattle.sub_buffer.specs.Gaps.{GapOf}
use Rattle.sub_buffer.proofs.Keeps.{gap_behind, gap_empty, none_held, can_ask, first_told}
use Rattle.sub_buffer.proofs.Windows.{window_found}
use Rattle.sub_buffer.proofs.buffer.SubBuffer.missing.Goals as goal
use Rattle.sub_buffer.proofs.buffer.SubBuffer.missing.Goals.{in-Some, in-None}

pub known-requires : goal.known-requires
known-requires g c =
    let i = c.self.inside in
    let within : c.match-front.end ≤ i.told = elim c.match-front.branch [
      | in-Some w ↦ omega (
        arith,
        w.end-is,
        w.prev-end.ensures.value,
        first_told _ w.in-Some.first.now c.self.invariant.0
            (omega (arith, w.in-Some.ensures.variant.0 refl, i.held.ok.0)) w.in-Some.ensures.lookup,
      )
      | in-None w ↦ omega (arith, w.end-is)
    ] in
    can_ask _ c.match-front.end c.self.invariant.0 c.if-self-2.false within

pub returns : goal.returns
returns g c =
    let i = c.self.inside in
    subst (λ (v : BufferValue). GapOf v (Some c.known.result)) c.self.view_is
    (elim c.match-front.branch [
      | in-Some w ↦ gap_behind _ w.in-Some.first.now c.match-front.end c.known.result c.self.invariant.0
          c.if-self-2.false c.if-self.false c.if-end-self.false
          (omega (arith, w.in-Some.ensures.variant.0 refl, i.held.ok.0)) w.in-Some.ensures.lookup (w.end-is
          ∙ w.prev-end.ensures.value) c.known.ensures
      | in-None w ↦ gap_empty _ c.match-front.end c.known.result c.self.invariant.0 c.if-self-2.false
          c.if-self.false (none_held i.held.items i.held.len i.held.ok.0 w.in-None.ensures.variant.1) w.end-is
          c.known.ensures
    ])

pub returns-then-end-self : goal.returns-then-end-self
returns-then-end-self g c =
    let i = c.self.inside in
    subst (λ (v : BufferValue). (v.told ≤ v.last) ⊎ (v.closed ≡ true) ⊎ HasPrev v.last v.held) c.self.view_is
    (elim c.match-front.branch [
      | in-Some w ↦ inr (inr (window_found i.last i.held.items 0 w.in-Some.first.now
          (omega (arith, w.in-Some.ensures.variant.0 refl, i.held.ok.0)) w.in-Some.ensures.lookup
          (omega (arith, w.end-is, w.prev-end.ensures.value, c.if-end-self.true))))
      | in-None w ↦ inl (omega (arith, w.end-is, c.if-end-self.true))
    ])
