use Rattle.std.proofs.Common.{ℕ, ◌+◌, ◌<◌, List, ◌∷◌, [], ◌++◌, length, take, sym, ap, ◌∙◌, arith}
use Rattle.std.specs.Prelude.{slice_index_or}
use Rattle.std.proofs.lemmas.List.{take_more, take_more_set, drop-set-lt, length-set}
use Rattle.std.proofs.lemmas.List.Elements.{All-push}
use Rattle.rights_types.specs.Ranges.{IsNumber}
use Rattle.rights_types.proofs.Zeros.{zeros_behind}
use Rattle.rights_types.proofs.frontier.Frontier.new.Goals as goal

pub loop-i-preserved : goal.loop-i-preserved
loop-i-preserved c =
    let i = c.loop-i.i in
    let kept = c.loop-i.kept in
    let numbers = c.args.numbers.now in
    let number : ℕ = slice_index_or numbers i 0 in
    let so_far = c.loop-i.invariant in
    let more : i < length numbers = c.loop-i-test.true in
    let small : i < 16 = omega (arith, c.if-count-gt-MAX_SITES.false) in
    let room : i < length kept = omega (arith, so_far.0) in (
      length-set kept i number ∙ so_far.0,
      take_more_set kept i number room ∙ ap (λ (xs : List ℕ). xs ++ number ∷ []) so_far.1
          ∙ sym (take_more numbers i 0 more),
      drop-set-lt (i + 1) kept i number (omega arith) ∙ zeros_behind kept i so_far.0 small so_far.2,
      rw (take_more numbers i 0 more)
          (All-push IsNumber (take i numbers) number so_far.3 c.if-numbers-i-gt-MAX_NUMBER.false),
    )
