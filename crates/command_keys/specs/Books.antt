-- The keys of commands at a site that may keep a journal.
use Rattle.std.specs.Prelude.{◌≡◌, ℕ, ◌≤◌, Bool, true, false, List, [], ◌∷◌, ◌++◌, MatchOption}
use Rattle.command_keys.specs.Keys.{KeysValue, Serves, key_of}

-- The keys; whether a journal is kept; the keys that are not in it yet, in order, each with the number of its entry; and
-- for how many more of these there is memory.
pub record KeyBookValue : Type 0 where
  pub keys : KeysValue
  pub is_recorded : Bool
  pub unrecorded : List (List ℕ × ℕ)
  pub room : ℕ

-- there is memory for one more key, and for its record
pub record HasRoom (b : KeyBookValue) : Type 0 where
  pub keys : 1 ≤ b.keys.room
  pub record_ : 1 ≤ b.room

-- with the record of a key and of the number of its entry, if a journal is kept
abbrev pub record_if : Bool → List (List ℕ × ℕ) → List ℕ → ℕ → List (List ℕ × ℕ)
record_if true unrecorded key number = unrecorded ++ (key, number) ∷ []
record_if false unrecorded key number = unrecorded

abbrev pub with_record : KeyBookValue → List ℕ → ℕ → List (List ℕ × ℕ)
with_record b key number = record_if b.is_recorded b.unrecorded key number

-- the waiting spend of this key was served by the entry of this number, with so many rights
pub record ServesOne (old : KeyBookValue) (ticket number amount : ℕ) (key : List ℕ) (new : KeyBookValue) : Type 0 where
  pub keys : Serves old.keys ticket number amount new.keys
  pub unrecorded : new.unrecorded ≡ with_record old key number
  pub is_recorded : new.is_recorded ≡ old.is_recorded

-- the waiting spend with this ticket was, if it has a key
abbrev pub ServesKey : KeyBookValue → ℕ → ℕ → ℕ → KeyBookValue → Type 0
ServesKey old ticket number amount new =
    MatchOption (key_of ticket old.keys.waiting) (new ≡ old) (λ key. ServesOne old ticket number amount key new)
