-- A site that has no clock of its own reads a deadline as the only number of its words.
use Rattle.std.proofs.Common.{◌≡◌, ℕ, ◌^◌, List, [], ◌∷◌, length, Option, Some, None, refl, arith}
use Rattle.std.proofs.lemmas.Bool.{ne_eqb}
use Rattle.std.specs.Prelude.{◌==◌, ◌-◌, if◌then◌else◌}
use Rattle.entry_codec.specs.Moves.{◌>>=◌, number_of, first_number, only_number as only_in}
use Rattle.line_streams.specs.Words.{only_number}
use Rattle.site_words.specs.Commands.{deadline_in}

-- what `only_in` makes of a number and the words after it
abbrev only_if_last : ℕ × List (List ℕ) → Option ℕ
only_if_last first = if length first.1 == 0 then Some first.0 else None

last : (n : Option ℕ) → ((n >>= (λ n. Some (n, []))) >>= only_if_last) ≡ n
last None = refl
last (Some n) = refl

more : (n : Option ℕ) (word : List ℕ) (words : List (List ℕ))
    → ((n >>= (λ n. Some (n, word ∷ words))) >>= only_if_last) ≡ None
more None word words = refl
more (Some n) word words = rw (ne_eqb (length (word ∷ words)) 0 (λ same. absurd (omega (arith, same)))) refl

pub plain_deadline : (words : List (List ℕ)) → only_number words ≡ deadline_in None words
unfolding only_in first_number
plain_deadline [] = refl
plain_deadline (word ∷ []) = last (number_of 0 (2 ^ 64 - 1) word)
plain_deadline (word ∷ next ∷ words) = more (number_of 0 (2 ^ 64 - 1) word) next words
