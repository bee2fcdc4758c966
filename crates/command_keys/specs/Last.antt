-- The keys that were put last, the newest first, each with a value.
use Rattle.std.specs.Prelude.{◌≡◌, ℕ, ◌-◌, ◌<◌, ◌≤◌, ◌⊎◌, nat_lt, not, List, [], ◌∷◌, ◌++◌, length, take, drop, reverse}
use Rattle.std.specs.Prelude.{if◌then◌else◌}
use Rattle.std.specs.List.{filter}
use Rattle.std.specs.Str.{bytes_eq}

pub record LastValue (V : Type 0) : Type 0 where
  pub entries : List (List ℕ × V)
  pub cap : ℕ
  pub spare : ℕ

-- at most so many of a list that begins with the newest
abbrev pub newest_of : {X : Type 0} → ℕ → List X → List X
newest_of cap entries = take cap entries

-- a ring, whose oldest entry has this place, as a list that begins with the newest
abbrev pub newest_first : {X : Type 0} → List X → ℕ → List X
newest_first entries oldest = reverse (drop oldest entries ++ take oldest entries)

-- the oldest entry of a ring that is not full has the first place
pub record IsRing {X : Type 0} (entries : List X) (oldest cap : ℕ) : Type 0 where
  pub few : length entries ≤ cap
  pub within : (oldest ≡ 0) ⊎ (oldest < cap)
  pub first : length entries < cap → oldest ≡ 0

-- the place of the oldest entry once the entry at this index is taken out
abbrev pub place_left : ℕ → ℕ → ℕ
place_left oldest index = if nat_lt index oldest then oldest - 1 else oldest

-- ---- the last that were put under each key

-- the entries of other keys
abbrev pub without : {V : Type 0} → List ℕ → List (List ℕ × V) → List (List ℕ × V)
without key entries = filter (λ e. not (bytes_eq key e.0)) entries

-- of each key its newest entry, of a list that begins with the newest
abbrev pub distinct : {V : Type 0} → List (List ℕ × V) → List (List ℕ × V)
distinct [] = []
distinct (e ∷ entries) = e ∷ without e.0 (distinct entries)

-- the last that were put, at most so many, each under another key
abbrev pub last_of : {V : Type 0} → ℕ → List (List ℕ × V) → List (List ℕ × V)
last_of cap entries = newest_of cap (distinct entries)
