use Rattle.std.proofs.Common.{refl, inr, subst, arith}
use Rattle.sub_buffer.specs.Buffers.{BufferValue, HasPrev}
use Rattle.sub_buffer.proofs.Keeps.{not_first, keeps_pop}
use Rattle.sub_buffer.proofs.buffer.SubBuffer.pop_next.Goals as goal

pub returns-then-prev-self-clause-table : goal.returns-then-prev-self-clause-table
returns-then-prev-self-clause-table g c =
    let i = c.self.inside in
    let first = c.in_ok-first.first.now in
    let none : HasPrev i.last i.held.items → ⊥ =
    not_first i.last i.held.items first c.self.invariant.0.in_order c.self.invariant.0.later
    c.in_ok-first.ensures.lookup (λ at. omega (arith, at, c.prev.ensures.value, c.if-prev-self.true)) in
    (inr (subst (λ (v : BufferValue). HasPrev v.last v.held → ⊥) c.self.view_is none), refl)

pub invariant_of-self-2 : goal.invariant_of-self-2
invariant_of-self-2 g c = (
  keeps_pop _ c.pop_front.new.self.items c.self.invariant.0 c.in_ok-entry.ensures.rest,
  omega (arith, c.self.invariant.1, c.in_ok-entry.ensures.capacity),
)
