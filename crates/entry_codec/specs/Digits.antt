-- Digits, read from the left, and the last digits of numbers.
use Rattle.std.specs.Prelude.{◌≡◌, ℕ, ◌+◌, ◌/◌, ◌%◌, List, [], ◌∷◌, ◌++◌, take}
use Rattle.std.specs.Str.Parse.{AllDigits, digits_value}

-- this many bytes of the text are digits, and spell the number
pub record IsReadUpTo (text : List ℕ) (count n : ℕ) : Type 0 where
  pub digits : AllDigits 10 (take count text)
  pub value : n ≡ digits_value 10 (take count text)

-- this many last digits of a number, with zeros if it has fewer
abbrev pub two_digits : ℕ → List ℕ
two_digits n = (48 + n / 10) ∷ (48 + n % 10) ∷ []

abbrev pub four_digits : ℕ → List ℕ
four_digits n = two_digits (n / 100) ++ two_digits (n % 100)

abbrev pub eight_digits : ℕ → List ℕ
eight_digits n = four_digits (n / 10000) ++ four_digits (n % 10000)
