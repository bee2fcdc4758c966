-- The words of a line, separated by single spaces, and the names, sites and numbers that they spell.
use Rattle.std.specs.Prelude.{ℕ, ◌-◌, ◌^◌, List, [], ◌∷◌, Option, Some, None, ◌==◌, if◌then◌else◌}
use Rattle.std.specs.List.{slice_split}
use Rattle.std.specs.Borrow.{Bor}
use Rattle.std.specs.Str.{bytes_eq}
use Rattle.rights_types.specs.declared.limits.TheConstants.{MAX_SITES}
use Rattle.entry_codec.specs.Moves.{◌>>=◌, first_number as first_in, only_number as only_in}

abbrev pub words_of : List ℕ → List (List ℕ)
words_of text = slice_split (λ b. b == 32) text

-- the words of the rest of a line, if there is one
abbrev pub words_left : Option (Bor (List ℕ)) → List (List ℕ)
words_left None = []
words_left (Some text) = words_of text.now

-- the meaning of a name, looked up in a table
abbrev pub named : {X : Type 0} → List (List ℕ × X) → List ℕ → Option X
named [] text = None
named (entry ∷ others) text = if bytes_eq text entry.0 then Some entry.1 else named others text

-- the names of a table, as lists of bytes
abbrev pub names_of : {X : Type 0} → List (Bor (List ℕ) × X) → List (List ℕ × X)
names_of [] = []
names_of (entry ∷ others) = (entry.0.now, entry.1) ∷ names_of others

-- the meaning of a name, if no words follow it
abbrev pub alone : {X : Type 0} → X → List (List ℕ) → Option X
alone meaning [] = Some meaning
alone meaning (word ∷ words) = None

-- the site or the number that the first word spells, and the words after it
abbrev pub first_site : List (List ℕ) → Option (ℕ × List (List ℕ))
first_site words = first_in 1 MAX_SITES words

abbrev pub first_number : List (List ℕ) → Option (ℕ × List (List ℕ))
first_number words = first_in 0 (2 ^ 64 - 1) words

-- the site or the number that the only word spells
abbrev pub only_site : List (List ℕ) → Option ℕ
only_site words = only_in 1 MAX_SITES words

abbrev pub only_number : List (List ℕ) → Option ℕ
only_number words = only_in 0 (2 ^ 64 - 1) words

-- the site and the number that the two words spell
unfoldable pub site_and_number : List (List ℕ) → Option (ℕ × ℕ)
site_and_number words = do
  s ← first_site words
  n ← only_number s.1
  Some (s.0, n)

-- the site that the only word spells, if there is a word
abbrev pub optional_site : List (List ℕ) → Option (Option ℕ)
optional_site [] = Some None
optional_site (word ∷ words) = do
  site ← only_site (word ∷ words)
  Some (Some site)
