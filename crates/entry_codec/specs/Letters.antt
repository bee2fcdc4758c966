-- Fields of one letter.
use Rattle.std.specs.Prelude.{ℕ, Bool, List, [], ◌∷◌}
use Rattle.std.specs.Str.{bytes_eq}

abbrev pub one_letter : ℕ → List ℕ
one_letter letter = letter ∷ []

abbrev pub is_letter : ℕ → List ℕ → Bool
is_letter letter field = bytes_eq field (one_letter letter)
