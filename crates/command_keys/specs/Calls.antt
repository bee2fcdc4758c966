-- What any list of calls makes of the keys.
use Rattle.std.specs.Prelude.{◌≡◌, ◌⊎◌, ℕ, List, [], ◌∷◌, ◌++◌, None}
use Rattle.command_keys.specs.Last.{last_of}
use Rattle.command_keys.specs.Keys.{KeysValue, no_keys, outcome_of, remembered, replayed, serving, ServesAt, ExpiresAt, IsOnce}
use Rattle.command_keys.specs.declared.outcome.Waiting.{Waiting}
use Rattle.command_keys.specs.declared.outcome.Written.{Written}

-- ---- one call, with the key and the entry that it adds to those that wrote entries, if it adds one

pub record Remembers (old : KeysValue) (added : List (List ℕ × Written)) (new : KeysValue) : Type 0 where
  pub key : List ℕ
  pub entry : Written
  pub free : outcome_of old key ≡ None
  pub adds : added ≡ (key, entry) ∷ []
  pub becomes : new ≡ record (remembered old key entry) { room = new.room }

pub record Replays (old : KeysValue) (added : List (List ℕ × Written)) (new : KeysValue) : Type 0 where
  pub key : List ℕ
  pub entry : Written
  pub adds : added ≡ (key, entry) ∷ []
  pub becomes : new ≡ record (replayed old key entry) { room = new.room }

pub record Waits (old : KeysValue) (added : List (List ℕ × Written)) (new : KeysValue) : Type 0 where
  pub spend : Waiting
  pub free : outcome_of old spend.key ≡ None
  pub adds : added ≡ []
  pub becomes : new ≡ record old { waiting = old.waiting ++ spend ∷ []; room = new.room }

pub record Serves (old : KeysValue) (added : List (List ℕ × Written)) (new : KeysValue) : Type 0 where
  pub place : ℕ
  pub number : ℕ
  pub amount : ℕ
  pub serves : ServesAt old place number amount new
  pub adds : added ≡ (serves.spend.key, serving serves.spend number amount) ∷ []

pub record Expires (old : KeysValue) (added : List (List ℕ × Written)) (new : KeysValue) : Type 0 where
  pub place : ℕ
  pub expires : ExpiresAt old place new
  pub adds : added ≡ []

-- no key changes
pub record Keeps (old : KeysValue) (added : List (List ℕ × Written)) (new : KeysValue) : Type 0 where
  pub adds : added ≡ []
  pub becomes : new ≡ record old { room = new.room }

abbrev pub Calls : KeysValue → List (List ℕ × Written) → KeysValue → Type 0
Calls old added new =
    Remembers old added new
    ⊎ (Replays old added new
    ⊎ (Waits old added new ⊎ (Serves old added new ⊎ (Expires old added new ⊎ Keeps old added new))))

-- ---- one after another

abbrev pub Runs : KeysValue → List (List (List ℕ × Written)) → KeysValue → Type 0
Runs old [] new = new ≡ old
Runs old (added ∷ calls) new = (mid : KeysValue) × Calls old added mid × Runs mid calls new

-- all that they added, the newest first
abbrev pub all_added : List (List (List ℕ × Written)) → List (List ℕ × Written)
all_added [] = []
all_added (added ∷ calls) = all_added calls ++ added

-- The keys that wrote entries and are remembered are the last that were added, each with its last entry, and none occurs
-- twice.
pub record AreLast (cap : ℕ) (added : List (List ℕ × Written)) (k : KeysValue) : Type 0 where
  pub last : k.written ≡ last_of cap added
  pub once : IsOnce k

abbrev pub LastAreRemembered : Type 0
LastAreRemembered = (cap : ℕ) (calls : List (List (List ℕ × Written))) (k : KeysValue) → Runs (no_keys cap) calls k
    → AreLast cap (all_added calls) k
