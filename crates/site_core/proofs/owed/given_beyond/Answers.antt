use Rattle.std.proofs.Common.{◌≡◌, ◌-◌, ◌<◌, ◌≤◌, List, suc, drop, ap, sym, arith}
use Rattle.std.specs.List.{All}
use Rattle.std.proofs.lemmas.List.Elements.{All-cons}
use Rattle.rights_types.specs.Entries.{EntryValue}
use Rattle.rights_types.specs.Chains.{moves_of}
use Rattle.rights_types.specs.Rights.{to}
use Rattle.site_core.proofs.OwedLaws.{IsBefore, entry_before, all_beyond, those_behind, given_before, given_parts}
use Rattle.site_core.proofs.owed.given_beyond.Goals as goal

pub overflow_add-given : goal.overflow_add-given
overflow_add-given g c =
    let es : List EntryValue = c.args.log.now.entries in
    let e : EntryValue = c.in-Some.entry in
    let before : IsBefore es c.loop-index.index e
    = entry_before es c.loop-index.index e c.loop-index-test.true c.in_ok-entry.ensures.value c.in-Some.is in
    omega (
      arith,
      c.loop-index.invariant.sum,
      given_before c.args.peer es c.loop-index.index e before,
      c.gifts_to-given.ensures,
      ap (to c.args.peer) c.moves.ensures.value,
      c.requires,
    )

pub loop-index-preserved : goal.loop-index-preserved
loop-index-preserved g c =
    let es : List EntryValue = c.args.log.now.entries in
    let e : EntryValue = c.in-Some.entry in
    let before : IsBefore es c.loop-index.index e
    = entry_before es c.loop-index.index e c.loop-index-test.true c.in_ok-entry.ensures.value c.in-Some.is in
    let begins : c.args.number ≤ e.prev = omega (arith, c.prev.ensures.value) in
    record {
      within = omega (arith, c.loop-index.invariant.within);
      sum = omega (
        arith,
        c.loop-index.invariant.sum,
        given_before c.args.peer es c.loop-index.index e before,
        c.gifts_to-given.ensures,
        ap (to c.args.peer) c.moves.ensures.value,
      );
      later = rw before.rest (All-cons (λ (x : EntryValue). c.args.number ≤ x.prev) e
          (drop c.loop-index.index es) begins c.loop-index.invariant.later);
    }

pub returns-after-loop-index-clause-value : goal.returns-after-loop-index-clause-value
returns-after-loop-index-clause-value g c =
    let es : List EntryValue = c.args.log.now.entries in
    let none : c.loop-index.index ≡ 0 = omega arith in
    let later : All (λ (e : EntryValue). c.args.number ≤ e.prev) es = rw none at c.loop-index.invariant.later in
    omega (
      arith,
      c.loop-index.invariant.sum,
      given_parts c.args.peer es c.loop-index.index,
      ap (λ i. to c.args.peer (moves_of (drop i es))) none,
      ap (λ xs. to c.args.peer (moves_of xs)) (all_beyond c.args.number es later),
    )

pub returns-then-prev-number-clause-value : goal.returns-then-prev-number-clause-value
returns-then-prev-number-clause-value g c =
    let es : List EntryValue = c.args.log.now.entries in
    let k = c.loop-index.index - 1 in
    let e : EntryValue = c.in-Some.entry in
    let before : IsBefore es c.loop-index.index e
    = entry_before es c.loop-index.index e c.loop-index-test.true c.in_ok-entry.ensures.value c.in-Some.is in
    let later : All (λ (x : EntryValue). c.args.number ≤ x.prev) (drop (suc k) es)
    = rw (← before.place) at c.loop-index.invariant.later in
    let early : e.prev < c.args.number = omega (arith, c.prev.ensures.value) in
    omega (
      arith,
      c.loop-index.invariant.sum,
      given_parts c.args.peer es c.loop-index.index,
      ap (λ i. to c.args.peer (moves_of (drop i es))) (sym before.place),
      ap (λ xs. to c.args.peer (moves_of xs))
          (those_behind c.args.log.now.site _ 0 c.args.number es k e c.len-index.ensures.chain before.at early later),
    )
