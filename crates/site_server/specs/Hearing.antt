-- What a reading thread does at its site with the messages of a peer.
use Rattle.std.specs.Prelude.{◌≡◌, ℕ, ◌≤◌, Bool, List, [], ◌∷◌, ◌++◌, Result, Ok, Err}
use Rattle.rights_types.specs.declared.fault.OutOfMemory.{OutOfMemory}
use Rattle.apply_lanes.specs.Names.{DeskId}
use Rattle.apply_lanes.specs.Kepts.{KeptValue, IsKept}
use Rattle.sub_buffer.specs.Buffers.{BufferValue}
use Rattle.site_node.specs.Hearing.{AnswersQuery, AnswersAsk, NotesDenial}
use Rattle.peer_links.specs.Ports.{Heard}
use Rattle.peer_links.specs.Ports.Heard.{AMessage, ALine, AState}
use Rattle.link_intake.specs.declared.desk_message.DeskMessage.{DeskMessage}
use Rattle.link_intake.specs.declared.desk_message.DeskMessage.TheVariants.{Query, Ask, Deny}

-- the buffer is for another site of the desk's system, at the desk's site
pub record IsBufferAt (id : DeskId) (buffer : BufferValue) : Type 0 where
  pub me : buffer.me ≡ id.site
  pub origin : buffer.origin ≤ id.sites

-- the messages that the desk may receive: queries; asks from sites of its system for its own site; denials from such
-- sites
abbrev pub IsForDesk : DeskId → DeskMessage → Type 0
IsForDesk id (Query query) = Unit {0}
IsForDesk id (Ask ask) = (ask.asker ≤ id.sites) × (ask.asked ≡ id.site)
IsForDesk id (Deny denial) = denial.denier ≤ id.sites

module _ {S : Type 0} (takes : S → List ℕ → Bool → S → Type 0) where
  -- the desk handled the message, and its answer, if any, was offered for the peer; or memory was refused, and nothing
  -- changed
  abbrev pub Handles : KeptValue → DeskMessage → S → Result (Unit {0}) OutOfMemory → KeptValue → S → Type 0
  Handles old (Query query) before (Ok _) new after = AnswersQuery takes old.desk query before after × (new ≡ old)
  Handles old (Ask ask) before (Ok _) new after = AnswersAsk takes old ask before new after
  Handles old (Deny denial) before (Ok _) new after = NotesDenial old denial new × (after ≡ before)
  Handles old message before (Err fault) new after = (new ≡ old) × (after ≡ before)

  -- the same, in one turn at the desk
  pub record HandlesAtDesk (id : DeskId) (message : DeskMessage) (was : List KeptValue) (before : S)
      (result : Result (Unit {0}) OutOfMemory) (now : List KeptValue) (after : S) : Type 0 where
    pub old : KeptValue
    pub new : KeptValue
    pub one : now ≡ was ++ old ∷ new ∷ []
    pub valid : IsKept id old
    pub handles : Handles old message before result new after

module _ {S : Type 0} (takes : S → List ℕ → Bool → S → Type 0) (queries : S → List ℕ → S → Type 0) where
  -- a query for missing entries is sent to the peer; the state of the buffer is recorded elsewhere
  abbrev pub Hears : DeskId → List KeptValue → S → Heard → List KeptValue → S → Type 0
  Hears id was before (AMessage message result) now after = HandlesAtDesk takes id message was before result now after
  Hears id was before (ALine line) now after = queries before line after × (now ≡ was)
  Hears id was before (AState state held) now after = (after ≡ before) × (now ≡ was)
