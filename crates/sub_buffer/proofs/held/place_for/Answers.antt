use Rattle.std.proofs.Common.{◌≡◌, ◌≤◌, ◌+◌, ◌-◌, ◌/◌, ℕ, true, false, length, arith, refl, ◌∙◌, inl, inr}
use Rattle.std.proofs.lemmas.Bool.{cases_lt}
use Rattle.sub_buffer.proofs.Windows.{window_whole, window_up, window_down, place_at_end, place_here}
use Rattle.sub_buffer.proofs.held.place_for.Goals as goal

pub loop-low-init : goal.loop-low-init
loop-low-init g c = window_whole _ _ _ (c.len-high.ensures ∙ c.args.held.now.ok.0)

pub index-requires : goal.index-requires
index-requires g c = omega (arith, c.loop-low.invariant.within, c.args.held.now.ok.0)

pub loop-low-preserved-then-prev : goal.loop-low-preserved-then-prev
loop-low-preserved-then-prev g c =
    let low : ℕ = c.loop-low.low in
    let high : ℕ = c.loop-low.high in
    window_up _ _ low high (low + (high - low) / 2) c.index.result.now c.requires c.loop-low.invariant
    (omega arith) c.index.ensures (omega (arith, c.prev.ensures.value))

pub loop-low-preserved : goal.loop-low-preserved
loop-low-preserved g c =
    let low : ℕ = c.loop-low.low in
    let high : ℕ = c.loop-low.high in
    window_down _ _ low high (low + (high - low) / 2) c.index.result.now c.requires c.loop-low.invariant (omega arith)
    (omega arith) c.index.ensures (omega (arith, c.prev.ensures.value))

pub returns-in_default : goal.returns-in_default
returns-in_default g c =
    let past : length c.args.held.now.items ≤ c.loop-low.low
    = elim (cases_lt c.loop-low.low (length c.args.held.now.items)) [
      | inl lt ↦ absurd (let wrong : false
          ≡ true = c.in_default.ensures.variant.1 (omega (arith, lt, c.args.held.now.ok.0)) in cc)
      | inr le ↦ le
    ] in
    place_at_end _ _ c.loop-low.low c.loop-low.high c.loop-low.invariant c.loop-low-test.false past

pub returns-else-prev-2 : goal.returns-else-prev-2
returns-else-prev-2 g c =
    place_here _ _ c.loop-low.low c.loop-low.high c.in-Some.next.now c.requires c.loop-low.invariant
    c.loop-low-test.false
    (omega (arith, c.in-Some.ensures.variant.0 refl, c.args.held.now.ok.0))
    c.in-Some.ensures.lookup (λ at. c.if-prev-2.false (c.prev-2.ensures.value ∙ at))
