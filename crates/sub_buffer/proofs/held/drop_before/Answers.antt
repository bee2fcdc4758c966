use Rattle.std.proofs.Common.{◌≡◌, [], length, true, false, inl, inr, List, arith, refl, sym, ap, ◌∙◌}
use Rattle.std.proofs.lemmas.Bool.{cases_lt}
use Rattle.std.proofs.lemmas.List.{nil_from_length}
use Rattle.rights_types.specs.Entries.{EntryValue}
use Rattle.sub_buffer.specs.Buffers.{onward}
use Rattle.sub_buffer.proofs.Orders.{onward_settled, dropped_first}
use Rattle.sub_buffer.proofs.held.drop_before.Goals as goal

pub loop-first-init : goal.loop-first-init
loop-first-init g c = record { items = refl; order = c.requires; capacity = refl }

pub loop-first-preserved-else-prev-number : goal.loop-first-preserved-else-prev-number
loop-first-preserved-else-prev-number g c =
    let i = c.loop-first.invariant in
    let next = dropped_first c.args.number _ _ _ c.in-Some.first.now c.pop_front.ensures.rest c.in-Some.ensures.lookup
    (omega (arith, c.prev.ensures.value)) i.order i.items in
    record { items = next.0; order = next.1; capacity = c.pop_front.ensures.capacity ∙ i.capacity }

pub loop-first-preserved : goal.loop-first-preserved
loop-first-preserved g c =
    let i = c.loop-first.invariant in
    let next = dropped_first c.args.number _ _ _ c.in-Some.first.now c.pop_front.ensures.rest c.in-Some.ensures.lookup
    (omega (arith, c.prev.ensures.value)) i.order i.items in
    record { items = next.0; order = next.1; capacity = c.pop_front.ensures.capacity ∙ i.capacity }

pub returns-then-prev-number-clause-items : goal.returns-then-prev-number-clause-items
returns-then-prev-number-clause-items g c =
    let es : List EntryValue = c.loop-first.held.items in
    sym (onward_settled c.args.number es c.in-Some.first.now c.loop-first.invariant.order c.in-Some.ensures.lookup
    (omega (arith, c.prev.ensures.value)))
    ∙ c.loop-first.invariant.items

pub returns-then-prev-number-clause-capacity : goal.returns-then-prev-number-clause-capacity
returns-then-prev-number-clause-capacity g c = c.loop-first.invariant.capacity

pub returns-in_default-clause-items : goal.returns-in_default-clause-items
returns-in_default-clause-items g c =
    let es : List EntryValue = c.loop-first.held.items in
    let none : length es ≡ 0 = elim (cases_lt 0 (length es)) [
      | inl lt ↦ absurd (let wrong : false
          ≡ true = c.in_default.ensures.variant.1 (omega (arith, lt, c.loop-first.held.ok.0)) in cc)
      | inr le ↦ omega (arith, le)
    ] in
    let empty : es ≡ [] = nil_from_length es none in
    empty ∙ ap (onward c.args.number) (sym empty) ∙ c.loop-first.invariant.items

pub returns-in_default-clause-capacity : goal.returns-in_default-clause-capacity
returns-in_default-clause-capacity g c = c.loop-first.invariant.capacity
