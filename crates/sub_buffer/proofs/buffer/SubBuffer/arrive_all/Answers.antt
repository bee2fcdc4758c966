use Rattle.std.proofs.Common.{◌≡◌, ◌+◌, ◌<◌, ◌∷◌, List, length, length-append, ap, arith, subst, vec_capacity, ◌∙◌, inl}
use Rattle.std.proofs.Common.{inr}
use Rattle.std.specs.List.{All}
use Rattle.std.proofs.lemmas.List.{length-map}
use Rattle.std.proofs.lemmas.List.Elements.{All-head, All-tail}
use Rattle.rights_types.specs.Entries.{EntryValue}
use Rattle.sub_buffer.specs.Arrivals.{all_ready}
use Rattle.sub_buffer.specs.declared.verdict.Verdict.{Verdict}
use Rattle.sub_buffer.specs.declared.verdict.Verdict.TheVariants.{Ready}
use Rattle.sub_buffer.proofs.Arriving.{IsRoomFor, room_for_one, room_rest}
use Rattle.sub_buffer.proofs.buffer.SubBuffer.arrive_all.Goals as goal

pub arrive-requires : goal.arrive-requires
arrive-requires g c =
    let e : EntryValue = c.in-Some.entry in
    let rest : List EntryValue = c.next.new.self.rest.items in
    let next = c.in-Some.ensures.steps.0 in
    let all : All (λ (x : EntryValue). x.origin ≡ c.loop-entry.self.origin) (e ∷ rest)
    = rw next at c.loop-entry.invariant.origin in
    let some : 0 < length c.loop-entry.entry-iterator.rest.items = omega (arith, ap (λ xs. length xs) next) in
    record {
      of_origin = All-head (λ (x : EntryValue). x.origin ≡ c.loop-entry.self.origin) e rest all;
      settled = c.loop-entry.invariant.settled;
      room = room_for_one _ _ _ _ c.loop-entry.invariant.room some c.loop-entry.invariant.few;
    }

pub loop-entry-preserved : goal.loop-entry-preserved
loop-entry-preserved g c =
    let e : EntryValue = c.in-Some.entry in
    let rest : List EntryValue = c.next.new.self.rest.items in
    let next = c.in-Some.ensures.steps.0 in
    let all : All (λ (x : EntryValue). x.origin ≡ c.loop-entry.self.origin) (e ∷ rest)
    = rw next at c.loop-entry.invariant.origin in
    let a = c.arrive.ensures.arrives in
    let v : Verdict g.row.A.Denot = a.0 in
    let the_ready : EntryValue → Verdict g.row.A.Denot = λ x. Ready x in
    let many : length c.loop-entry.entry-iterator.rest.items ≡ length rest + 1
    = omega (arith, ap (λ xs. length xs) next) in
    let room : IsRoomFor (length rest + 1) (length c.loop-entry.self.held) (length c.loop-entry.verdicts.items)
    (vec_capacity c.loop-entry.verdicts) =
    subst (λ n. IsRoomFor n (length c.loop-entry.self.held) (length c.loop-entry.verdicts.items)
    (vec_capacity c.loop-entry.verdicts)) many c.loop-entry.invariant.room in
    record {
      goes_on = λ new after h. c.loop-entry.invariant.goes_on new after
          (rw next (c.arrive.new.self, c.arrive.new.verdicts.items, a.0, a.1, a.2, a.3, h));
      origin = rw a.3.pair.origin (All-tail (λ (x : EntryValue). x.origin ≡ c.loop-entry.self.origin) e rest all);
      settled = a.3.settled;
      few = a.3.few;
      room = inr (inl (omega (
        arith,
        room_rest (length rest) (length c.loop-entry.verdicts.items) (vec_capacity c.loop-entry.verdicts)
            c.loop-entry.self c.arrive.new.self e v a.1 room c.loop-entry.invariant.few a.3,
        ap (λ vs. length vs) a.2,
        length-append c.loop-entry.verdicts.items (v ∷ all_ready a.1),
        length-map a.1 the_ready,
        c.arrive.ensures.capacity,
      )));
      capacity = c.arrive.ensures.capacity ∙ c.loop-entry.invariant.capacity;
    }
