use Rattle.std.proofs.Common.{ap, length, ◌∷◌, ◌++◌, [], ℕ, List, arith, length-append}
use Rattle.line_streams.proofs.CarryLaws.{short_whole, long_whole}
use Rattle.line_streams.proofs.lines.within_limit.Goals as goal

pub returns-then-text-lt-MAX_LINE : goal.returns-then-text-lt-MAX_LINE
returns-then-text-lt-MAX_LINE c = λ whole same.
    let all = short_whole whole c.args.text.now same c.if-text-lt-MAX_LINE.true in (
      ap (λ (l : List ℕ). l ++ 10 ∷ []) all,
      omega (arith, ap length all, c.if-text-lt-MAX_LINE.true, length-append whole (10 ∷ [])),
    )

pub returns-else-text-lt-MAX_LINE : goal.returns-else-text-lt-MAX_LINE
returns-else-text-lt-MAX_LINE c = λ whole same. long_whole whole c.args.text.now same c.if-text-lt-MAX_LINE.false
