use Rattle.std.proofs.Common.{◌≡◌, ℕ, ◌+◌, List, [], ◌∷◌, ◌++◌, take, length, inl, inr, ◌<◌, Some, None, arith, sym, ap}
use Rattle.std.proofs.Common.{◌∙◌}
use Rattle.std.specs.List.{slice_get}
use Rattle.std.proofs.lemmas.List.{take_all, take_more}
use Rattle.std.proofs.lemmas.Option.{slice_get_cases, slice_get_within, get_or_from_slice_get}
use Rattle.rights_types.specs.Entries.{EntryValue}
use Rattle.world_core.proofs.world.readers.copy_of.Goals as goal

one_more : (es : List EntryValue) (i : ℕ) (e : EntryValue) → slice_get es i ≡ Some e
    → take (i + 1) es ≡ take i es ++ e ∷ []
one_more es i e at =
    take_more es i e (slice_get_within es i e at)
    ∙ ap (λ (x : EntryValue). take i es ++ x ∷ []) (get_or_from_slice_get es i e e at)

-- an entry that exists is found
is_found : (es : List EntryValue) (i : ℕ) → i < length es → slice_get es i ≡ None → ⊥
is_found es i within none =
    elim (slice_get_cases es i).1 [
      | inl found ↦ let bad : Some found.0 ≡ None = sym found.2 ∙ none in absurd cc
      | inr past ↦ absurd (omega (arith, past.0))
    ]

pub unreachable-requires : goal.unreachable-requires
unreachable-requires g c =
    is_found c.args.log.now.entries c.loop-index.index (omega (arith, c.len-index-end.ensures.value))
    (sym c.in_ok-entry.ensures.value ∙ c.in-None.is)

pub loop-index-preserved : goal.loop-index-preserved
loop-index-preserved g c =
    let at : slice_get c.args.log.now.entries c.loop-index.index ≡ Some c.in-Some.entry =
    sym c.in_ok-entry.ensures.value ∙ c.in-Some.is in
    let more = one_more c.args.log.now.entries c.loop-index.index c.in-Some.entry at in
    let pushed = c.in_ok-push-in-Some.ensures.items in
    cc

pub returns-clause-value : goal.returns-clause-value
returns-clause-value g c =
    c.loop-index.invariant
    ∙ take_all c.loop-index.index c.args.log.now.entries
    (omega (arith, c.len-index-end.ensures.value, c.loop-index-test.false))
