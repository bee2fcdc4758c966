-- The lines that wait in an outbox, as plain data.
use Rattle.std.specs.Prelude.{◌≡◌, ℕ, ◌-◌, ◌<◌, ◌≤◌, ◌⊎◌, ◌==◌, ◌&&◌, not, Bool, true, false, List, [], ◌∷◌, ◌++◌, length}
use Rattle.std.specs.Prelude.{take, Result, Ok, Err, nat_le, if◌then◌else◌}
use Rattle.entry_codec.specs.Pieces.{IsLine}
use Rattle.peer_links.specs.Sources.{AreLines}
use Rattle.peer_links.specs.declared.outbox.PutError.{PutError}
use Rattle.peer_links.specs.declared.outbox.PutError.TheVariants.{Ended, Full}
use Rattle.peer_links.specs.declared.outbox.TheConstants.{OUTBOX_LINES}
use Rattle.peer_links.specs.declared.source.Batch.{Batch}
use Rattle.peer_links.specs.declared.source.Batch.TheVariants.{Over, Copied, Large}

-- the lines that wait, the oldest first; whether the outbox has ended
pub record Waiting : Type 0 where
  pub lines : List (List ℕ)
  pub ended : Bool

-- the result and the effect of putting a line
abbrev pub Puts : Waiting → List ℕ → Result (Unit {0}) PutError → Waiting → Type 0
Puts old line (Ok _) new =
    (old.ended ≡ false) × (length old.lines < OUTBOX_LINES) × (new ≡ record old { lines = old.lines ++ line ∷ [] })
Puts old line (Err Ended) new = (old.ended ≡ true) × (new ≡ old)
Puts old line (Err Full) new = (old.ended ≡ false) × (length old.lines ≡ OUTBOX_LINES) × (new ≡ old)

-- the same, by whether the line was put
abbrev pub PutsIf : Waiting → List ℕ → Bool → Waiting → Type 0
PutsIf old line true new = Puts old line (Ok tt) new
PutsIf old line false new = Puts old line (Err Ended) new ⊎ Puts old line (Err Full) new

-- the longest prefix of these lines that fits into this number of bytes
abbrev pub front_in : ℕ → List (List ℕ) → List (List ℕ)
front_in room [] = []
front_in room (line ∷ lines) =
    if nat_le (length line) room then line ∷ front_in (room - length line) lines else []

-- the next batch to write; what is copied goes to the start of this buffer
abbrev pub Batches : {A : Type 0} → Waiting → Batch A → List ℕ → Waiting → Type 0
Batches old Over room new = (old.lines ≡ []) × (new ≡ old)
Batches old (Copied count) room new =
    (0 < count) × (count ≤ length room) × AreLines (front_in (length room) old.lines) (take count room) × (new ≡ old)
Batches old (Large line) room new =
    IsLine line.items × (length room < length line.items) × (old ≡ record new { lines = line.items ∷ new.lines })

-- the oldest line was taken
abbrev pub TakesOldest : Waiting → List ℕ → Waiting → Type 0
TakesOldest old line new = old ≡ record new { lines = line ∷ new.lines }

-- no line waits, and the outbox has not ended
abbrev pub is_idle : Waiting → Bool
is_idle queue = length queue.lines == 0 && not queue.ended

-- whoever takes lines need not wait: one waits, or none will
abbrev pub IsReady : Waiting → Type 0
IsReady queue = is_idle queue ≡ false

-- no line waits, and none will
pub record IsOver (queue : Waiting) : Type 0 where
  pub empty : queue.lines ≡ []
  pub ended : queue.ended ≡ true
