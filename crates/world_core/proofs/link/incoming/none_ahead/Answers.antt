use Rattle.std.proofs.Common.{ℕ, ◌≡◌, ◌∙◌, ◌+◌, ◌<◌, ◌≤◌, List, ◌∷◌, drop, length, get_or, max, refl, arith, ap, sym}
use Rattle.std.proofs.Common.{subst}
use Rattle.std.proofs.Math.ListN.{drop_of_length-le}
use Rattle.std.proofs.lemmas.List.{drop_more}
use Rattle.rights_types.specs.Entries.{EntryValue}
use Rattle.world_core.specs.IncomingLists.{NoneAhead}
use Rattle.world_core.proofs.link.incoming.none_ahead.Goals as goal

-- what is left from an index begins with the entry that is read there
left : (es : List EntryValue) (i : ℕ) (e : EntryValue) → i < length es → e ≡ get_or es i e
    → drop i es ≡ e ∷ drop (i + 1) es
left es i e within is = drop_more es i e within ∙ ap (λ (x : EntryValue). x ∷ drop (i + 1) es) (sym is)

pub returns-then-end-prev : goal.returns-then-end-prev
returns-then-end-prev g c =
    let rest = left c.args.entries.now c.loop-entry.entry-index c.entry-item.result c.loop-entry-test.true
    c.entry-item.is in (
      λ bad. absurd cc,
      λ all.
          let here = subst (NoneAhead c.loop-entry.end) rest (c.loop-entry.invariant.0 all) in
          absurd (omega (arith, here.0, c.prev.ensures.value, c.if-end-prev.true)),
    )

pub loop-entry-preserved : goal.loop-entry-preserved
loop-entry-preserved g c =
    let end = c.loop-entry.end in
    let es = drop (c.loop-entry.entry-index + 1) c.args.entries.now in
    let rest = left c.args.entries.now c.loop-entry.entry-index c.entry-item.result c.loop-entry-test.true
    c.entry-item.is in
    let next = c.max-end.ensures ∙ ap (max end) c.own.ensures.value in (
      λ all. subst (λ n. NoneAhead n es) (sym next) (subst (NoneAhead end) rest (c.loop-entry.invariant.0 all)).1,
      λ others.
          let begins : c.entry-item.result.prev ≤ end = omega (arith, c.prev.ensures.value, c.if-end-prev.false) in
          c.loop-entry.invariant.1 (subst (NoneAhead end) (sym rest) (begins, subst (λ n. NoneAhead n es) next others)),
    )

pub returns : goal.returns
returns g c =
    let past = drop_of_length-le c.args.entries.now {i = c.loop-entry.entry-index} c.loop-entry-test.false in
    (λ _. c.loop-entry.invariant.1 (rw past tt), λ _. refl)
