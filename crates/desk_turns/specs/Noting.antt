-- What the turns at a desk with a journal note, each before it gives up the desk: how many records were made.
use Rattle.std.specs.Prelude.{◌≡◌, ◌⊎◌, ℕ, ◌≤◌, List, [], ◌∷◌, ◌++◌}
use Rattle.durability.specs.Counts.{CountsValue}
use Rattle.apply_lanes.specs.Kepts.{KeptValue, CountsAll}

-- all that was made for the journal at this state of the desk counts as made
pub record IsNoted (k : KeptValue) (counts : CountsValue) : Type 0 where
  pub made : ℕ
  pub all : CountsAll k made
  pub noted : made ≤ counts.made

-- the lock of the counts was held once, and after that it did
pub record NotesOnce (k : KeptValue) (was now : List CountsValue) : Type 0 where
  pub before : CountsValue
  pub after : CountsValue
  pub one : now ≡ was ++ before ∷ after ∷ []
  pub is_noted : IsNoted k after

-- .. unless nothing was made for the journal yet
abbrev pub NotesAll : KeptValue → List CountsValue → List CountsValue → Type 0
NotesAll k was now = (CountsAll k 0 × (now ≡ was)) ⊎ NotesOnce k was now

-- the first note is of this state, and the others are so
abbrev pub NotesFirst : KeptValue → (List CountsValue → Type 0) → List CountsValue → Type 0
NotesFirst k others [] = ⊥
NotesFirst k others (before ∷ []) = ⊥
NotesFirst k others (before ∷ after ∷ notes) = IsNoted k after × others notes

-- For each of these turns, so it did at the state of the desk after it. The lists have what was before and after each turn
-- and each note.
abbrev pub AreNoted : List KeptValue → List CountsValue → Type 0
AreNoted [] notes = notes ≡ []
AreNoted (old ∷ []) notes = ⊥
AreNoted (old ∷ new ∷ states) notes = (CountsAll new 0 × AreNoted states notes) ⊎ NotesFirst new (AreNoted states) notes
