use Rattle.std.proofs.Common.{length, ap, arith, ◌∙◌, ◌++◌, ◌∷◌, [], append_assoc, length-append, sym}
use Rattle.std.proofs.lemmas.List.{map-append}
use Rattle.rights_types.specs.Entries.{EntryValue}
use Rattle.sub_buffer.specs.Arrivals.{all_ready}
use Rattle.sub_buffer.specs.declared.verdict.Verdict.TheVariants.{Ready}
use Rattle.sub_buffer.proofs.Arriving.{freeing_one, frees}
use Rattle.sub_buffer.proofs.buffer.SubBuffer.free_held.Goals as goal

pub loop-held-preserved : goal.loop-held-preserved
loop-held-preserved g c =
    let h = c.loop-held.invariant.freed in
    let e : EntryValue = c.in-Some.held in
    let before = c.args.verdicts.now.items in
    record {
      freed = (
        h.0 ++ e ∷ [],
        c.push_reserved.ensures.items ∙ ap (λ vs. vs ++ Ready e ∷ []) h.1
            ∙ append_assoc before (all_ready h.0) (Ready e ∷ [])
            ∙ ap (λ vs. before ++ vs) (sym (map-append (λ (x : EntryValue). Ready x) h.0 (e ∷ []))),
        freeing_one _ _ _ h.0 e h.2 c.in-Some.ensures.table (omega (arith, c.in-Some.ensures.fewer))
            c.in-Some.ensures.chain c.in-Some.ensures.follows,
      );
      room = omega (
        arith,
        c.loop-held.invariant.room,
        c.in-Some.ensures.fewer,
        ap (λ vs. length vs) c.push_reserved.ensures.items,
        length-append c.loop-held.verdicts.items (Ready e ∷ []),
        c.push_reserved.ensures.capacity,
      );
      capacity = c.push_reserved.ensures.capacity ∙ c.loop-held.invariant.capacity;
    }

pub returns-clause-freed : goal.returns-clause-freed
returns-clause-freed g c =
    let h = c.loop-held.invariant.freed in
    (h.0, h.1, frees _ _ _ h.0 h.2 c.in_default.ensures.table)
