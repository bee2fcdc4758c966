-- The result and effect of each call of a buffer, for any entries, whether of one chain or not.
use Rattle.std.specs.Prelude.{◌≡◌, ℕ, ◌<◌, ◌≤◌, ◌⊎◌, true, false, if◌then◌else◌, List, [], ◌∷◌, length, Option, Some}
use Rattle.std.specs.Prelude.{None}
use Rattle.std.specs.List.{Contains}
use Rattle.rights_types.specs.Entries.{EntryValue, own}
use Rattle.sub_buffer.specs.Buffers.{BufferValue, HasPrev, IsSettled, told_of, delivered, with_held}
use Rattle.rights_types.specs.declared.limits.TheConstants.{MAX_HELD}
use Rattle.sub_buffer.specs.declared.verdict.Verdict.{Verdict}
use Rattle.sub_buffer.specs.declared.verdict.Verdict.TheVariants.{Ready, Held, Repeat, AfterClose, Full}

-- an entry that is later than the next one, and no held entry begins at the same number
pub record IsAhead (b : BufferValue) (e : EntryValue) : Type 0 where
  pub later : b.last < e.prev
  pub unclosed : b.closed ≡ false
  pub new : ¬ HasPrev e.prev b.held

-- the verdict on an entry of the buffer's origin, and what it leaves
abbrev pub OfferLeaves : {A : Type 0} → BufferValue → EntryValue → Verdict A → BufferValue → Type 0
OfferLeaves old e Repeat new =
    ((e.prev < old.last) ⊎ ((old.last < e.prev) × (old.closed ≡ false) × HasPrev e.prev old.held)) × (new ≡ old)
OfferLeaves old e AfterClose new = (old.last ≤ e.prev) × (old.closed ≡ true) × (new ≡ old)
OfferLeaves old e (Ready x) new = (x ≡ e) × (e.prev ≡ old.last) × (old.closed ≡ false)
    × (new ≡ delivered (told_of old (own e)) e)
OfferLeaves old e Full new = IsAhead old e × (length old.held ≡ MAX_HELD) × (new ≡ told_of old (own e))
OfferLeaves old e Held new = IsAhead old e × (length old.held < MAX_HELD) × (new ≡ with_held (told_of old (own e)) e)

-- the held entry that has become next, if there is one, and the buffer without it
abbrev pub PopLeaves : BufferValue → Option EntryValue → BufferValue → Type 0
PopLeaves old None new = IsSettled old × (new ≡ old)
PopLeaves old (Some e) new = Contains old.held e × (e.prev ≡ old.last) × (old.closed ≡ false) × (new ≡ delivered old e)

-- the buffer after a beat, which is ignored after the closing entry
abbrev pub after_beat : BufferValue → ℕ → BufferValue
after_beat b n = if b.closed then b else told_of b n

-- how many more are held, at most
abbrev pub more_held : {A : Type 0} → Verdict A → ℕ
more_held Held = 1
more_held v = 0

-- the held entries that became next, one after another, until none was left
abbrev pub PopsLeave : BufferValue → List EntryValue → BufferValue → Type 0
PopsLeave old [] new = PopLeaves old None new
PopsLeave old (e ∷ es) new = (mid : BufferValue) × PopLeaves old (Some e) mid × PopsLeave mid es new
