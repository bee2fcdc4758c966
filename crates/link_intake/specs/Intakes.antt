-- An intake: the lines of one other site, whose entries go to a lane as they become ready.
use Rattle.std.specs.Prelude.{◌≡◌, ℕ, ◌+◌, Bool, true, false, List, [], ◌∷◌, ◌++◌, count_by, None, Result, Ok, Err}
use Rattle.std.specs.List.{All, Contains}
use Rattle.rights_types.specs.Entries.{EntryValue}
use Rattle.rights_types.specs.Chains.{is_closed, closed_from, IsChain, IsLongest}
use Rattle.rights_types.specs.Messages.{MessageValue}
use Rattle.entry_codec.specs.declared.fault.LineError.{LineError}
use Rattle.sub_buffer.specs.Follows.{HasPut, Follows}
use Rattle.sub_buffer.specs.declared.verdict.Verdict.{Verdict}
use Rattle.sub_buffer.specs.declared.verdict.Verdict.TheVariants.{Ready, Held, Repeat, AfterClose, Full}
use Rattle.inbound.specs.Inbounds.{InboundValue, entries_of, line_fault, InboundRefuses, ready_in, Arrives}
use Rattle.inbound.specs.declared.inbound.Arrival.{Arrival}
use Rattle.inbound.specs.declared.inbound.Arrival.TheVariants.{Entries as ComesEntries, Beat as ComesBeat}
use Rattle.inbound.specs.declared.inbound.Arrival.TheVariants.{Query as ComesQuery, Ask as ComesAsk}
use Rattle.inbound.specs.declared.inbound.Arrival.TheVariants.{Deny as ComesDeny, Hello as ComesHello}
use Rattle.thread_parts.specs.declared.item.Item.{Item}
use Rattle.thread_parts.specs.declared.item.Item.TheVariants.{End}
use Rattle.link_intake.specs.declared.desk_message.DeskMessage.TheVariants.{Query, Ask, Deny}
use Rattle.link_intake.specs.declared.intake.VerdictCounts.{VerdictCounts}
use Rattle.link_intake.specs.declared.intake.Arrived.{Arrived}
use Rattle.link_intake.specs.declared.intake.Arrived.TheVariants.{Entries, Beat, Message, Hello}
use Rattle.link_intake.specs.declared.intake.Came.{Came}
use Rattle.link_intake.specs.declared.intake.Came.TheVariants.{Next, Other}
use Rattle.link_intake.specs.declared.intake.IntakeError.{IntakeError}
use Rattle.link_intake.specs.declared.intake.IntakeError.TheVariants.{Inbound, LaneClosed}
use Rattle.thread_parts.specs.Ends.{InletValue}
use Rattle.thread_parts.specs.Items.{items_of, end_if, IsOpen}

-- ---- the verdicts of a line

abbrev pub is_ready : {A : Type 0} → Verdict A → Bool
is_ready (Ready e) = true
is_ready v = false

abbrev pub is_held : {A : Type 0} → Verdict A → Bool
is_held Held = true
is_held v = false

abbrev pub is_repeat : {A : Type 0} → Verdict A → Bool
is_repeat Repeat = true
is_repeat v = false

abbrev pub is_after_close : {A : Type 0} → Verdict A → Bool
is_after_close AfterClose = true
is_after_close v = false

abbrev pub is_full : {A : Type 0} → Verdict A → Bool
is_full Full = true
is_full v = false

-- the number of verdicts of each kind
abbrev pub counts_of : {A : Type 0} → List (Verdict A) → VerdictCounts
counts_of vs = record {
  ready = count_by is_ready vs;
  held = count_by is_held vs;
  repeat = count_by is_repeat vs;
  after_close = count_by is_after_close vs;
  full = count_by is_full vs;
}

-- the counts with one more verdict
abbrev pub with_verdict : {A : Type 0} → VerdictCounts → Verdict A → VerdictCounts
with_verdict c (Ready e) = record c { ready = c.ready + 1 }
with_verdict c Held = record c { held = c.held + 1 }
with_verdict c Repeat = record c { repeat = c.repeat + 1 }
with_verdict c AfterClose = record c { after_close = c.after_close + 1 }
with_verdict c Full = record c { full = c.full + 1 }

-- the number of verdicts counted, of all kinds
abbrev pub all_counts : VerdictCounts → ℕ
all_counts c = c.ready + c.held + c.repeat + c.after_close + c.full

-- what arrived with a line
abbrev pub arrival_of : {A : Type 0} → Came A → Arrival A
arrival_of (Next e) = ComesEntries (Ready e ∷ [])
arrival_of (Other arrival) = arrival

-- what an intake returns for what arrived
abbrev pub arrived_of : {A : Type 0} → Arrival A → Arrived
arrived_of (ComesEntries vs) = Entries (counts_of vs)
arrived_of (ComesBeat b) = Beat b
arrived_of (ComesQuery q) = Message (Query q)
arrived_of (ComesAsk a) = Message (Ask a)
arrived_of (ComesDeny d) = Message (Deny d)
arrived_of ComesHello = Hello

-- the verdicts on what arrived
abbrev pub verdicts_of : {A : Type 0} → Arrival A → List (Verdict A)
verdicts_of (ComesEntries vs) = vs
verdicts_of arrival = []

-- the entries that became ready with what arrived
abbrev pub ready_of : {A : Type 0} → Arrival A → List EntryValue
ready_of (ComesEntries vs) = ready_in vs
ready_of arrival = []

-- the entries of a line, none where it can't be read
abbrev pub entries_read : Result MessageValue LineError → List EntryValue
entries_read (Ok m) = entries_of m
entries_read (Err fault) = []

-- a line is refused by the inbound's cause, or else since the lane is closed
abbrev pub IntakeRefuses : {X : Type 0} → InboundValue → Result MessageValue LineError → Result X IntakeError → Type 0
IntakeRefuses i read (Ok x) = line_fault i read ≡ None
IntakeRefuses i read (Err (Inbound fault)) = InboundRefuses {X = Unit {0}} i read (Err fault)
IntakeRefuses i read (Err LaneClosed) = line_fault i read ≡ None

-- the inbound; the inlet of its lane; whether End was put, and whether by `finish`
pub record IntakeValue (A : Type 0) : Type 0 where
  pub inbound : InboundValue
  pub inlet : InletValue A
  pub ended : Bool
  pub finished : Bool

module _ {A : Type 0} where
  -- entries as they are put: in order, with End after a closing entry
  abbrev pub sent : List EntryValue → List (Item A)
  sent es = items_of es ++ end_if (is_closed es)

  -- of what was delivered: what went onto the lane, in order, and what is still to be sent, which is nothing unless the
  -- lane was found closed
  pub record Sends (delivered : List EntryValue) (i : IntakeValue A) : Type 0 where
    pub gone : List EntryValue
    pub unsent : List EntryValue
    pub whole : delivered ≡ gone ++ unsent
    pub put : i.inlet.put ≡ items_of gone ++ end_if i.ended
    pub all_gone : i.inlet.dead ≡ false → unsent ≡ []
    pub ended : i.inlet.dead ≡ false → i.finished ≡ false → i.ended ≡ is_closed gone

  -- the invariant of every intake
  pub record IsIntake (i : IntakeValue A) : Type 0 where
    pub delivered : List EntryValue
    pub of_buffer : HasPut delivered i.inbound.buffer
    pub sends : Sends delivered i

  -- where es is the origin's log: these entries of it reached the intake, and the longest prefix of es among them was
  -- delivered
  pub record Receives (es reached : List EntryValue) (i : IntakeValue A) : Type 0 where
    pub delivered : List EntryValue
    pub follows : Follows es reached delivered i.inbound.buffer
    pub longest : IsLongest reached es delivered
    pub sends : Sends delivered i

  -- more of the log reached it, all by these entries that came
  abbrev pub ReceivesMore : List EntryValue → List EntryValue → List EntryValue → IntakeValue A → Type 0
  ReceivesMore es reached came new =
      (more : List EntryValue) × All (Contains came) more × Receives es (reached ++ more) new

  -- ---- a line

  -- the message of a line was taken in by this arrival
  pub record Brings (old : IntakeValue A) (read : Result MessageValue LineError) (arrival : Arrival A)
      (new : IntakeValue A) : Type 0 where
    pub message : MessageValue
    pub read_as : read ≡ Ok message
    pub arrives : Arrives old.inbound message arrival new.inbound
    pub lane : new.inlet.lane ≡ old.inlet.lane

  -- all entries that became ready were put, in order, and End after a closing entry
  abbrev pub TakesIn : IntakeValue A → Result MessageValue LineError → Arrived → IntakeValue A → Type 0
  TakesIn old read arrived new =
      (arrival : Arrival A) × Brings old read arrival new × (arrived ≡ arrived_of arrival)
      × (new.inlet.put ≡ old.inlet.put ++ sent (ready_of arrival)) × (new.inlet.dead ≡ false)

  -- the lane is closed: only a prefix of these was put
  abbrev pub FindsClosed : IntakeValue A → Result MessageValue LineError → IntakeValue A → Type 0
  FindsClosed old read new =
      (arrival : Arrival A) × Brings old read arrival new × (front : List (Item A)) × (rest : List (Item A))
      × (front ++ rest ≡ sent (ready_of arrival)) × (new.inlet.put ≡ old.inlet.put ++ front) × (new.inlet.dead ≡ true)

  abbrev pub LineLeaves : IntakeValue A → Result MessageValue LineError → Result Arrived IntakeError
      → IntakeValue A → Type 0
  LineLeaves old read (Ok arrived) new = TakesIn old read arrived new
  LineLeaves old read (Err LaneClosed) new = FindsClosed old read new
  LineLeaves old read (Err (Inbound fault)) new = new ≡ old

  -- ---- putting

  -- these entries continue the chain of those that were put, and End was put if that chain is closed
  abbrev pub CanPut : Bool → List (Item A) → List EntryValue → Type 0
  CanPut ended put more = (o : ℕ) × (es : List EntryValue) × IsChain o (es ++ more) × (put ≡ sent es)
      × (ended ≡ is_closed es)

  -- they were put, and End after a closing entry
  abbrev pub PutsAll : List (Item A) → Bool → List EntryValue → Bool → InletValue A → Type 0
  PutsAll put was_ended more ended new = (new.put ≡ put ++ sent more) × (ended ≡ closed_from was_ended more)
      × (new.dead ≡ false)

  -- only a prefix of these was put, and no End
  abbrev pub PutsFront : List (Item A) → List EntryValue → Bool → InletValue A → Type 0
  PutsFront put more ended new =
      (front : List (Item A)) × (rest : List (Item A)) × (front ++ rest ≡ sent more) × (new.put ≡ put ++ front)
      × (new.dead ≡ true) × (ended ≡ false) × IsOpen new.put

  -- what was put once it ends in End, whether End was put before or not
  abbrev pub with_end : Bool → List (Item A) → List (Item A)
  with_end true put = put
  with_end false put = put ++ End ∷ []
