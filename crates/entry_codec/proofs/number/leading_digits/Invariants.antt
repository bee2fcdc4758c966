use Rattle.entry_codec.specs.Digits.{IsReadUpTo}
use Rattle.entry_codec.proofs.number.leading_digits.Given as goal

abbrev pub invariant-loop-count : goal.invariant-loop-count
invariant-loop-count l = IsReadUpTo l.text l.count l.value
