use Rattle.std.proofs.Common.{◌≡◌, ◌++◌, [], ◌∷◌, List, length, length-append, ap, arith, subst, sym, ◌∙◌, append_assoc}
use Rattle.rights_types.specs.Entries.{EntryValue, own}
use Rattle.rights_types.specs.Chains.{ChainFrom}
use Rattle.sub_buffer.specs.Buffers.{BufferValue, told_of, delivered, onward}
use Rattle.sub_buffer.specs.Arrivals.{all_ready, IsContinuedBy}
use Rattle.sub_buffer.specs.declared.verdict.Verdict.{Verdict}
use Rattle.sub_buffer.specs.declared.verdict.Verdict.TheVariants.{Ready}
use Rattle.sub_buffer.proofs.buffer.SubBuffer.arrive_in_order.Goals as goal

pub loop-entry-preserved : goal.loop-entry-preserved
loop-entry-preserved g c =
    let old = c.loop-entry.self in
    let new = c.arrive_next.new.self in
    let e : EntryValue = c.in-Some.entry in
    let rest : List EntryValue = c.next.new.self.rest.items in
    let before : List (Verdict g.row.A.Denot) = c.loop-entry.verdicts.items in
    let ready : Verdict g.row.A.Denot = Ready e in
    let steps = c.in-Some.ensures.steps.0 in
    let pushed = c.push_reserved.ensures.items in
    let goes_on : IsContinuedBy old (e ∷ rest) = rw steps at c.loop-entry.invariant.next in
    let arrived = c.arrive_next.ensures.arrives (c.arrive_next.ensures.next.1 (goes_on.1.2, goes_on.1.0, goes_on.0)) in
    let new_is : new ≡ delivered (told_of old (own e)) e = arrived.table.2.1 ∙ arrived.table.1.3 in
    record {
      goes_on = λ final after h. c.loop-entry.invariant.goes_on final after
          (rw steps (new, c.push_reserved.new.self.items, ready, [], pushed, arrived, h));
      next = (
        ap (λ (b : BufferValue). b.held) new_is ∙ ap (λ (es : List EntryValue). onward (own e) es) goes_on.0,
        subst (λ (b : BufferValue). ChainFrom b.origin b.closed b.last rest) (sym new_is) goes_on.1.4,
      );
      settled = arrived.settled;
      ready = ap (λ vs. vs ++ all_ready rest) pushed ∙ append_assoc before (ready ∷ []) (all_ready rest)
          ∙ ap (λ (es : List EntryValue). before ++ all_ready es) (sym steps) ∙ c.loop-entry.invariant.ready;
      room = omega (
        arith,
        c.loop-entry.invariant.room,
        ap (λ (es : List EntryValue). length es) steps,
        ap (λ (vs : List (Verdict g.row.A.Denot)). length vs) pushed,
        length-append before (ready ∷ []),
        c.push_reserved.ensures.capacity,
      );
      capacity = c.push_reserved.ensures.capacity ∙ c.loop-entry.invariant.capacity;
    }
