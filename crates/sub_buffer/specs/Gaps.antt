-- Gaps: the numbers of a log that are asked for.
use Rattle.std.specs.Prelude.{◌≡◌, ◌≢◌, ℕ, ◌+◌, ◌<◌, ◌≤◌, ◌⊎◌, true, false, List, Option, Some, None}
use Rattle.std.specs.List.{Contains}
use Rattle.rights_types.specs.Entries.{EntryValue}
use Rattle.rights_types.specs.Chains.{end, is_closed, IsBeyond}
use Rattle.rights_types.specs.Messages.{QueryValue}
use Rattle.sub_buffer.specs.Buffers.{BufferValue, HasPrev}
use Rattle.sub_buffer.specs.declared.buffer.State.{State}
use Rattle.sub_buffer.specs.declared.buffer.State.TheVariants.{Normal, Buffering}

-- n is the least previous number of the waiting entries, or the highest seen number if none waits
abbrev pub EndsGap : (EntryValue → Type 0) → ℕ → ℕ → Type 0
EndsGap Waits told n =
    (((e : EntryValue) → ¬ Waits e) × (n ≡ told))
    ⊎ ((e : EntryValue) × Waits e × (e.prev ≡ n) × ((f : EntryValue) → Waits f → n ≤ f.prev))

-- the site s asks the origin o for the numbers after n, up to the end of the gap
pub record AsksGap (s o n told : ℕ) (Waits : EntryValue → Type 0) (q : QueryValue) : Type 0 where
  pub asker : q.asker ≡ s
  pub origin : q.origin ≡ o
  pub first : q.first ≡ n + 1
  pub last : EndsGap Waits told q.last

-- the gap according to what a buffer has
abbrev pub GapOf : BufferValue → Option QueryValue → Type 0
GapOf b None = (b.told ≤ b.last) ⊎ (b.closed ≡ true) ⊎ HasPrev b.last b.held
GapOf b (Some q) =
    (b.last < b.told) × (b.closed ≡ false) × (¬ HasPrev b.last b.held)
    × AsksGap b.me b.origin b.last b.told (Contains b.held) q

-- there is a gap after put: a later number was seen, and put does not end in a closing move
abbrev pub HasGap : List EntryValue → ℕ → Type 0
HasGap put told = (end put < told) × (is_closed put ≡ false)

-- the gap after put, according to what reached the buffer and the highest seen number
abbrev pub GapIs : ℕ → ℕ → List EntryValue → List EntryValue → ℕ → Option QueryValue → Type 0
GapIs me origin set put told None = ¬ HasGap put told
GapIs me origin set put told (Some q) = HasGap put told × AsksGap me origin (end put) told (IsBeyond set put) q

-- Buffering means that there is a gap
abbrev pub StateOf : Option QueryValue → State → Type 0
StateOf None s = s ≡ Normal
StateOf (Some q) s = s ≡ Buffering

-- the query for this gap: none if it is the one that was asked for last
abbrev pub Wants : Option QueryValue → Option QueryValue → Option QueryValue → Type 0
Wants gap asked None = (gap ≡ None) ⊎ (gap ≡ asked)
Wants gap asked (Some q) = (gap ≡ Some q) × (asked ≢ Some q)

-- the gap was asked for, if there is one
abbrev pub asked_for : BufferValue → Option QueryValue → BufferValue
asked_for b None = b
asked_for b (Some q) = record b { asked = Some q }
