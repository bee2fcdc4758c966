-- A text that is split at a byte, and a search of a table.
use Rattle.std.proofs.Common.{◌≡◌, ◌==◌, ◌<◌, ℕ, ◌+◌, ◌-◌, Bool, List, [], ◌∷◌, length, take, drop, get_or, Option}
use Rattle.std.proofs.Common.{Some, None, refl, if◌then◌else◌}
use Rattle.std.proofs.lemmas.List.{drop_more}
use Rattle.std.specs.Borrow.{Bor}
use Rattle.std.specs.List.{slice_split, position}
use Rattle.std.specs.Str.{bytes_eq}
use Rattle.entry_codec.specs.Moves.{◌>>=◌}
use Rattle.entry_codec.proofs.Cuts.{uncut, cut}
use Rattle.line_streams.specs.Words.{words_of, only_site, optional_site, named, names_of}

-- there is at least one part
some_part : (p : ℕ → Bool) (xs : List ℕ) (o : Option ℕ) → position p xs ≡ o → (first : List ℕ) × (rest : List (List ℕ))
    × (slice_split p xs ≡ first ∷ rest)
some_part p xs None e = (xs, [], uncut p xs e)
some_part p xs (Some i) e = (take i xs, slice_split p (take (length xs - (i + 1)) (drop (i + 1) xs)), cut p xs i e)

pub split_some : (p : ℕ → Bool) (xs : List ℕ) → (first : List ℕ) × (rest : List (List ℕ))
    × (slice_split p xs ≡ first ∷ rest)
split_some p xs = some_part p xs (position p xs) refl

pub site_named : (text : Bor (List ℕ))
    → optional_site (words_of text.now) ≡ (only_site (words_of text.now) >>= (λ site. Some (Some site)))
site_named text = let words = split_some (λ (b : ℕ). b == 32) text.now in rw words.2 refl

module _ {X : Type 0} (table : List (Bor (List ℕ) × X)) (i : ℕ) (entry : Bor (List ℕ) × X) (text : List ℕ) where
  -- a search that has reached index i of a table
  pub named_at : i < length table → entry ≡ get_or table i entry
      → named (names_of (drop i table)) text
      ≡ (if bytes_eq text entry.0.now then Some entry.1 else named (names_of (drop (i + 1) table)) text)
  named_at below here = rw (drop_more table i entry below, ← here) refl
