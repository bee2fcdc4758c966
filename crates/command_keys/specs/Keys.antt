-- The keys of commands, with where each command ended.
use Rattle.std.specs.Prelude.{◌≡◌, ℕ, zero, suc, ◌+◌, ◌<◌, ◌≤◌, ◌==◌, Bool, true, false, List, [], ◌∷◌, length, Option, Some, None, position}
use Rattle.std.specs.Prelude.{MatchOption, slice_get, slice_index_or, remove, find, count_by, option_map, if◌then◌else◌}
use Rattle.std.specs.List.{All, list_any}
use Rattle.std.specs.Map.{lookup}
use Rattle.std.specs.Str.{bytes_eq}
use Rattle.request_queue.specs.declared.request.Request.{Request}
use Rattle.command_keys.specs.Last.{LastValue, newest_of, without}
use Rattle.command_keys.specs.declared.keys.TheConstants.{MAX_EXPIRED}
use Rattle.command_keys.specs.declared.outcome.Waiting.{Waiting}
use Rattle.command_keys.specs.declared.outcome.Written.{Written}
use Rattle.command_keys.specs.declared.outcome.Ended.{Ended}
use Rattle.command_keys.specs.declared.outcome.Effect.TheVariants.{Spend}
use Rattle.command_keys.specs.declared.outcome.Outcome.{Outcome}
use Rattle.command_keys.specs.declared.outcome.Outcome.TheVariants.{Wrote, Waits, Expired}

-- The keys that wrote entries with these entries, the newest first, and how many are remembered at most; the
-- spends that wait under keys, in order; the keys whose spend expired, the newest first; and how many
-- more keys there is memory for.
pub record KeysValue : Type 0 where
  pub written : List (List ℕ × Written)
  pub cap : ℕ
  pub waiting : List Waiting
  pub expired : List (List ℕ × Ended)
  pub room : ℕ

abbrev pub no_keys : ℕ → KeysValue
no_keys cap = record { written = []; cap = cap; waiting = []; expired = []; room = 0 }

-- ---- where the command of a key ended

abbrev pub outcome_by : Option Written → Option Waiting → Option Ended → Option Outcome
outcome_by (Some entry) waits ended = Some (Wrote entry)
outcome_by None (Some w) ended = Some (Waits w.ticket w.amount)
outcome_by None None (Some ended) = Some (Expired ended)
outcome_by None None None = None

abbrev pub outcome_of : KeysValue → List ℕ → Option Outcome
outcome_of k key = outcome_by (lookup (bytes_eq key) k.written) (find (λ (w : Waiting). bytes_eq key w.key) k.waiting)
    (lookup (bytes_eq key) k.expired)

-- the key of the waiting spend with this ticket
abbrev pub key_of : ℕ → List Waiting → Option (List ℕ)
key_of ticket waiting = option_map (λ (w : Waiting). w.key) (find (λ (w : Waiting). w.ticket == ticket) waiting)

-- the key whose command wrote the entry of this number; the newest, if there are several
abbrev pub entry_key : ℕ → List (List ℕ × Written) → Option (List ℕ)
entry_key number written = option_map (λ e. e.0) (find (λ (e : List ℕ × Written). e.1.number == number) written)

-- the key of a row, if its entry has this number
abbrev pub key_if : ℕ → Option (List ℕ × Written) → Option (List ℕ)
key_if number (Some row) = if row.1.number == number then Some row.0 else None
key_if number None = None

-- the numbers of the entries do not rise towards the oldest
abbrev pub AreInOrder : List (List ℕ × Written) → Type 0
AreInOrder written = (i j : ℕ) (none : List ℕ × Written) → i ≤ j → j < length written
    → (slice_index_or written j none).1.number ≤ (slice_index_or written i none).1.number

-- ---- no key twice

-- how often a key occurs
abbrev pub times : List (List ℕ × Written) → List Waiting → List (List ℕ × Ended) → List ℕ → ℕ
times written waiting expired key =
    count_by (λ e. bytes_eq key e.0) written
    + (count_by (λ (w : Waiting). bytes_eq key w.key) waiting + count_by (λ e. bytes_eq key e.0) expired)

abbrev pub IsOnce : KeysValue → Type 0
IsOnce k = (key : List ℕ) → times k.written k.waiting k.expired key ≤ 1

-- no key occurs twice, and each key of a spend that waits has room among those that wrote, and among the expired
pub record IsKeys (written : LastValue Written) (waiting : List Waiting) (expired : LastValue Ended) : Type 0 where
  pub once : (key : List ℕ) → times written.entries waiting expired.entries key ≤ 1
  pub may_write : length waiting ≤ written.spare
  pub may_expire : length waiting ≤ expired.spare
  pub cap : expired.cap ≡ MAX_EXPIRED

-- ---- changes

-- a key wrote this entry
abbrev pub remembered : KeysValue → List ℕ → Written → KeysValue
remembered k key entry = record k { written = newest_of k.cap ((key, entry) ∷ k.written) }

-- a key wrote this entry before a start, which forgets an older entry under it, and the spends that wait or expired
abbrev pub replayed : KeysValue → List ℕ → Written → KeysValue
replayed k key entry = record k {
  written = newest_of k.cap ((key, entry) ∷ without key k.written);
  waiting = [];
  expired = [];
}

-- the entry of this number, which served a spend with so many rights
abbrev pub serving : Waiting → ℕ → ℕ → Written
serving spend number amount = record { number = number; effect = Spend amount; ticket = spend.ticket }

abbrev pub ending : Waiting → Ended
ending spend = record { ticket = spend.ticket; amount = spend.amount }

-- the waiting spend with this place was served by the entry of this number, with so many rights
pub record ServesAt (old : KeysValue) (place number amount : ℕ) (new : KeysValue) : Type 0 where
  pub spend : Waiting
  pub found : slice_get old.waiting place ≡ Some spend
  pub wrote : new.written ≡ newest_of old.cap ((spend.key, serving spend number amount) ∷ old.written)
  pub others : new.waiting ≡ remove old.waiting place
  pub cap : new.cap ≡ old.cap
  pub expired : new.expired ≡ old.expired

-- .. or expired
pub record ExpiresAt (old : KeysValue) (place : ℕ) (new : KeysValue) : Type 0 where
  pub spend : Waiting
  pub found : slice_get old.waiting place ≡ Some spend
  pub ended : new.expired ≡ newest_of MAX_EXPIRED ((spend.key, ending spend) ∷ old.expired)
  pub others : new.waiting ≡ remove old.waiting place
  pub cap : new.cap ≡ old.cap
  pub written : new.written ≡ old.written

-- the place of the waiting spend with this ticket, if it has a key
abbrev pub place_of : ℕ → List Waiting → Option ℕ
place_of ticket waiting = position (λ (w : Waiting). w.ticket == ticket) waiting

abbrev pub Serves : KeysValue → ℕ → ℕ → ℕ → KeysValue → Type 0
Serves old ticket number amount new =
    MatchOption (place_of ticket old.waiting) (new ≡ old) (λ place. ServesAt old place number amount new)

abbrev pub Expires : KeysValue → ℕ → KeysValue → Type 0
Expires old ticket new = MatchOption (place_of ticket old.waiting) (new ≡ old) (λ place. ExpiresAt old place new)

-- ---- spends that wait no longer

-- one of these requests has this ticket
abbrev pub has_ticket : ℕ → List Request → Bool
has_ticket ticket requests = list_any (λ (r : Request). r.ticket == ticket) requests

-- a spend that waited under a key, and is not among these requests, expired
pub record ExpiresGone (requests : List Request) (old new : KeysValue) : Type 0 where
  pub place : ℕ
  pub expires : ExpiresAt old place new
  pub gone : has_ticket expires.spend.ticket requests ≡ false

-- so many did, one after another
abbrev pub ExpireGone : List Request → ℕ → KeysValue → KeysValue → Type 0
ExpireGone requests zero old new = new ≡ old
ExpireGone requests (suc n) old new = (mid : KeysValue) × ExpireGone requests n old mid × ExpiresGone requests mid new

-- the spends that still wait under keys are among these requests, and the others expired
pub record Settles (requests : List Request) (old new : KeysValue) : Type 0 where
  pub count : ℕ
  pub expire : ExpireGone requests count old new
  pub rest : All (λ (w : Waiting). has_ticket w.ticket requests ≡ true) new.waiting
