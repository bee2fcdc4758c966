-- Events between two sites: lines that are sent, lines that arrive, and entries that are taken.
use Rattle.std.specs.Prelude.{◌≡◌, ◌≢◌, ℕ, ◌+◌, ◌⊎◌, Bool, true, false, List, [], ◌∷◌, ◌++◌, length, map, max, Option}
use Rattle.std.specs.Prelude.{Some, None, Result, Ok, Err, MatchOption}
use Rattle.std.specs.List.{slice_get}
use Rattle.std.specs.Option.{option_map}
use Rattle.rights_types.specs.Entries.{EntryValue, own}
use Rattle.rights_types.specs.Chains.{is_closed, IsLongest}
use Rattle.rights_types.specs.Messages.{QueryValue, AskValue, DenyValue, MessageValue}
use Rattle.rights_types.specs.Messages.MessageValue.{AnEntry, AQuery, AnAnswer, ABeat, AnAsk, ADenial, AHello}
use Rattle.rights_protocol.specs.Retiring.{numbers_in}
use Rattle.entry_codec.specs.declared.fault.LineError.{LineError}
use Rattle.entry_codec.specs.Faults.{fault_number}
use Rattle.entry_codec.specs.Reading.{reading}
use Rattle.entry_codec.specs.Spelling.{Spells}
use Rattle.origin_log.specs.Answering.{answer_to_query}
use Rattle.origin_log.specs.Faults.{query_fault}
use Rattle.sub_buffer.specs.Arrivals.{Arrives}
use Rattle.sub_buffer.specs.Follows.{SettledVerdict, put_after, reached_after}
use Rattle.sub_buffer.specs.Table.{after_beat}
use Rattle.sub_buffer.specs.declared.verdict.Verdict.{Verdict as BufferVerdict}
use Rattle.sub_buffer.specs.declared.verdict.Verdict.TheVariants.{Ready as IsReady, Held as IsHeld, Repeat as IsRepeat}
use Rattle.sub_buffer.specs.declared.verdict.Verdict.TheVariants.{AfterClose as IsAfterClose, Full as IsFull}
use Rattle.transfer_manager.specs.Managers.{outstanding_ask, ended}
use Rattle.transfer_manager.specs.declared.answer.AskAnswer.{AskAnswer}
use Rattle.transfer_manager.specs.declared.answer.AskAnswer.TheVariants.{Grant, Deny, RepeatedDeny, Repeated, OldAsk}
use Rattle.site_core.specs.Ledgers.{owed_by, number_of_taking}
use Rattle.site_core.specs.Desks.{DeskValue}
use Rattle.site_core.specs.Calls.{next_place, after_publish, beat_of, answer_of, denial, DeskAnswers, DeskApplies}
use Rattle.inbound.specs.Inbounds.{InboundValue, QueryOf}
use Rattle.world_core.specs.Values.{LinkValue, PacketValue, WorldValue}
use Rattle.world_core.specs.Values.BodyValue.{EntryAt, Text}
use Rattle.world_core.specs.Worlds.{desk, with_desk, log, link, with_link, put, applied, with_packet, packet_text}
use Rattle.world_core.specs.declared.reply.EntryVerdict.{EntryVerdict}
use Rattle.world_core.specs.declared.reply.EntryVerdict.TheVariants.{Ready, Held, Repeat, AfterClose, Full}
use Rattle.world_core.specs.declared.reply.Reply.{Reply}
use Rattle.world_core.specs.declared.reply.Reply.TheVariants.{Packet, Verdicts, HeardBeat, Granted, Denied}
use Rattle.world_core.specs.declared.reply.Reply.TheVariants.{GrantedBefore, Old, Noted, Refused, Taken, TakenBack}
use Rattle.world_core.specs.declared.reply.Reply.TheVariants.{Nothing}
use Rattle.world_core.specs.declared.fault.WorldError.{WorldError}
use Rattle.world_core.specs.declared.fault.WorldError.TheVariants.{Forged, OutOfMemory}

-- ---- lines that are sent

-- a packet from s to p with the line of this message was added, and it has this number
pub record Sends (old : WorldValue) (s p : ℕ) (m : MessageValue) (number : ℕ) (new : WorldValue) : Type 0 where
  pub text : List ℕ
  pub spelled : Spells m text
  pub last : number ≡ length old.packets + 1
  pub left : new ≡ with_packet old (record { from = s; to = p; body = Text text })

-- a packet with this message, or `nothing` if there is no message
abbrev pub SendsIf : {A : Type 0} → WorldValue → ℕ → ℕ → Option MessageValue → Result (Reply A) WorldError → WorldValue
    → Type 0
SendsIf old s p None (Ok Nothing) new = new ≡ old
SendsIf old s p (Some m) (Ok (Packet number)) new = Sends old s p m number new
SendsIf old s p m (Err OutOfMemory) new = new ≡ old
SendsIf old s p m outcome new = ⊥

abbrev pub AskHappens : {A : Type 0} → WorldValue → ℕ → ℕ → Result (Reply A) WorldError → WorldValue → Type 0
AskHappens old s p outcome new =
    SendsIf old s p (option_map (λ ask. AnAsk ask) (outstanding_ask (desk old s).manager p)) outcome new

abbrev pub BeatHappens : {A : Type 0} → WorldValue → ℕ → ℕ → Result (Reply A) WorldError → WorldValue → Type 0
BeatHappens old s p outcome new = SendsIf old s p (Some (beat_of (desk old s).ledger.log)) outcome new

-- a packet with the entry at this index, which was published to p
pub record Publishes (old : WorldValue) (s p place number : ℕ) (new : WorldValue) : Type 0 where
  pub next : next_place (desk old s).ledger.log p ≡ Some place
  pub last : number ≡ length old.packets + 1
  pub left : new ≡ with_packet (with_desk old s (after_publish (desk old s) p))
      (record { from = s; to = p; body = EntryAt place })

abbrev pub PublishHappens : {A : Type 0} → WorldValue → ℕ → ℕ → Result (Reply A) WorldError → WorldValue → Type 0
PublishHappens old s p (Ok Nothing) new = (next_place (desk old s).ledger.log p ≡ None) × (new ≡ old)
PublishHappens old s p (Ok (Packet number)) new = (place : ℕ) × Publishes old s p place number new
PublishHappens old s p (Err OutOfMemory) new = new ≡ old
PublishHappens old s p outcome new = ⊥

-- this query was made for the gap that s has in the log of o, and the gap counts as asked for
pub record Asked (old : WorldValue) (s o : ℕ) (again : Bool) (query : Option QueryValue) (new : WorldValue)
    : Type 0 where
  pub before : LinkValue
  pub there : link old s o ≡ Some before
  pub after : InboundValue
  pub asks : QueryOf before.inbound again query after
  pub left : new ≡ with_link old s o (record before { inbound = after })

-- if memory runs out, the gap may count as asked for
abbrev pub QueryHappens : {A : Type 0} → WorldValue → ℕ → ℕ → Bool → Result (Reply A) WorldError → WorldValue → Type 0
QueryHappens old s o again (Err OutOfMemory) new =
    (new ≡ old) ⊎ ((query : Option QueryValue) × Asked old s o again query new)
QueryHappens old s o again outcome new =
    (query : Option QueryValue) × (asked : WorldValue) × Asked old s o again query asked
    × SendsIf asked s o (option_map (λ q. AQuery q) query) outcome new

-- ---- entries that arrive

-- a buffer's verdict, as a reply has it
abbrev pub reported : {A : Type 0} → BufferVerdict A → EntryVerdict
reported (IsReady e) = Ready (own e)
reported IsHeld = Held
reported IsRepeat = Repeat
reported IsAfterClose = AfterClose
reported IsFull = Full

-- the verdict on an entry, and Ready for each entry that it freed
abbrev pub reported_all : {A : Type 0} → BufferVerdict A → List EntryValue → List EntryVerdict
reported_all v freed = reported v ∷ map (λ (e : EntryValue). Ready (own e)) freed

-- an entry e of the log es arrives at a link: the verdict v on it, and the held entries that it freed
pub record LinkTakes {A : Type 0} (es : List EntryValue) (old : LinkValue) (e : EntryValue) (v : BufferVerdict A)
    (freed : List EntryValue) (new : LinkValue) : Type 0 where
  pub verdict : SettledVerdict old.reached old.put e v
  pub reached : new.reached ≡ reached_after old.reached e v
  pub put : new.put ≡ put_after old.put v ++ freed
  pub longest : IsLongest new.reached es new.put
  pub told : new.inbound.buffer.told ≡ max old.inbound.buffer.told (own e)
  pub buffer : Arrives old.inbound.buffer e v freed new.inbound.buffer
  pub rest : new
      ≡ record old {
        inbound = record old.inbound { buffer = new.inbound.buffer };
        reached = new.reached;
        put = new.put;
      }

-- entries of the log es, one after another
abbrev pub LinkTakesAll : Type 0 → List EntryValue → LinkValue → List EntryValue → List EntryVerdict → LinkValue
    → Type 0
LinkTakesAll A es old [] verdicts new = (verdicts ≡ []) × (new ≡ old)
LinkTakesAll A es old (e ∷ rest) verdicts new =
    (v : BufferVerdict A) × (freed : List EntryValue) × (mid : LinkValue) × (more : List EntryVerdict)
    × LinkTakes es old e v freed mid × LinkTakesAll A es mid rest more new × (verdicts ≡ reported_all v freed ++ more)

-- entries of the log of o arrive at s
pub record EntriesArrive (A : Type 0) (old : WorldValue) (s o : ℕ) (entries : List EntryValue)
    (verdicts : List EntryVerdict) (new : WorldValue) : Type 0 where
  pub before : LinkValue
  pub there : link old s o ≡ Some before
  pub after : LinkValue
  pub takes : LinkTakesAll A (log old o) before entries verdicts after
  pub left : new ≡ with_link old s o after

abbrev pub EntriesCome : {A : Type 0} → WorldValue → ℕ → ℕ → List EntryValue → Result (Reply A) WorldError → WorldValue
    → Type 0
EntriesCome {A} old s o entries (Ok (Verdicts verdicts)) new = EntriesArrive A old s o entries verdicts new
EntriesCome old s o entries (Err OutOfMemory) new = new ≡ old
EntriesCome old s o entries outcome new = ⊥

-- ---- other messages that arrive

abbrev pub heard : LinkValue → ℕ → LinkValue
heard l number = record l { inbound = record l.inbound { buffer = after_beat l.inbound.buffer number } }

-- a beat allocates nothing
abbrev pub BeatComes : {A : Type 0} → WorldValue → ℕ → ℕ → ℕ → Result (Reply A) WorldError → WorldValue → Type 0
BeatComes old s o number (Ok HeardBeat) new =
    (before : LinkValue) × (link old s o ≡ Some before) × (new ≡ with_link old s o (heard before number))
BeatComes old s o number outcome new = ⊥

-- the log's reader answers a query, or refuses it and nothing happens
abbrev pub QueryComes : {A : Type 0} → WorldValue → ℕ → QueryValue → Result (Reply A) WorldError → WorldValue → Type 0
QueryComes old s q outcome new =
    let log = (desk old s).ledger.log in
    MatchOption (query_fault log q) (SendsIf old s q.asker (Some (AnAnswer (answer_to_query q log))) outcome new)
    (λ fault. (outcome ≡ Ok Nothing) × (new ≡ old))

-- the desk of s grants the ask by an entry of this number
abbrev pub Grants : WorldValue → ℕ → AskValue → AskAnswer → ℕ → WorldValue → Type 0
Grants old s ask answer number new =
    (d : DeskValue) × DeskAnswers (desk old s) ask answer (Some number) d × (new ≡ with_desk old s d)

-- the desk of s denies the ask, and a packet of this number has the denial
abbrev pub Denies : WorldValue → ℕ → AskValue → AskAnswer → ℕ → WorldValue → Type 0
Denies old s ask answer number new =
    (d : DeskValue) × DeskAnswers (desk old s) ask answer None d
    × Sends (with_desk old s d) s ask.asker (ADenial (denial ask)) number new

abbrev pub AskComesBy : {A : Type 0} → AskAnswer → WorldValue → ℕ → AskValue → Result (Reply A) WorldError → WorldValue
    → Type 0
AskComesBy (Grant n) old s ask (Ok (Granted number)) new = Grants old s ask (Grant n) number new
AskComesBy Deny old s ask (Ok (Denied number)) new = Denies old s ask Deny number new
AskComesBy RepeatedDeny old s ask (Ok (Denied number)) new = Denies old s ask RepeatedDeny number new
AskComesBy Repeated old s ask (Ok GrantedBefore) new = new ≡ old
AskComesBy OldAsk old s ask (Ok Old) new = new ≡ old
AskComesBy answer old s ask (Err OutOfMemory) new = new ≡ old
AskComesBy answer old s ask outcome new = ⊥

abbrev pub AskComes : {A : Type 0} → WorldValue → ℕ → AskValue → Result (Reply A) WorldError → WorldValue → Type 0
AskComes old s ask outcome new = AskComesBy (answer_of (desk old s) ask) old s ask outcome new

-- the ask that is denied ends; a denial allocates nothing
abbrev pub DenialComes : {A : Type 0} → WorldValue → ℕ → DenyValue → Result (Reply A) WorldError → WorldValue → Type 0
DenialComes old s d (Ok Noted) new =
    new ≡ with_desk old s (record (desk old s) { manager = ended (desk old s).manager d.denier d.ask })
DenialComes old s d outcome new = ⊥

-- a message of o arrives at s; no site sends a hello in a world
abbrev pub MessageComes : {A : Type 0} → WorldValue → ℕ → ℕ → MessageValue → Result (Reply A) WorldError → WorldValue
    → Type 0
MessageComes old s o (AnEntry e) outcome new = EntriesCome old s o (e ∷ []) outcome new
MessageComes old s o (AnAnswer a) outcome new = EntriesCome old s o a.entries outcome new
MessageComes old s o (ABeat b) outcome new = BeatComes old s o b.number outcome new
MessageComes old s o (AQuery q) outcome new = QueryComes old s q outcome new
MessageComes old s o (AnAsk a) outcome new = AskComes old s a outcome new
MessageComes old s o (ADenial d) outcome new = DenialComes old s d outcome new
MessageComes old s o (AHello site) outcome new = ⊥

-- a packet arrives: the message that its line spells
abbrev pub PacketComes : {A : Type 0} → WorldValue → ℕ → Option PacketValue → Result (Reply A) WorldError → WorldValue
    → Type 0
PacketComes old s None outcome new = ⊥
PacketComes old s (Some p) outcome new =
    (m : MessageValue) × Spells m (packet_text old p) × MessageComes old s p.from m outcome new

-- ---- noise

-- bytes that no site sent: refused for the first fault of a line, or as forged if they read as a message
abbrev pub NoiseReads : {A : Type 0} → Result MessageValue LineError → Result (Reply A) WorldError → Type 0
NoiseReads (Ok m) outcome = outcome ≡ Err Forged
NoiseReads (Err fault) outcome = outcome ≡ Ok (Refused (fault_number fault))

abbrev pub NoiseHappens : {A : Type 0} → WorldValue → List ℕ → Result (Reply A) WorldError → WorldValue → Type 0
NoiseHappens old bytes outcome new = NoiseReads (reading bytes) outcome × (new ≡ old)

-- ---- entries that are taken

-- one more entry was applied
abbrev pub with_applied : LinkValue → EntryValue → LinkValue
with_applied l e = record l { applied = l.applied ++ e ∷ [] }

-- s, not closed, applies the next delivered entry of o, with this number; what it reclaims by that is an entry of its
-- own, whose number is `back`
pub record TakesNext (old : WorldValue) (s o number : ℕ) (back : Option ℕ) (new : WorldValue) : Type 0 where
  pub before : LinkValue
  pub there : link old s o ≡ Some before
  pub unclosed : is_closed (log old s) ≡ false
  pub next : EntryValue
  pub is_next : slice_get before.put (length before.applied) ≡ Some next
  pub number_is : number ≡ own next
  pub after : DeskValue
  pub applies : DeskApplies (desk old s) o next after
  pub back_is : back ≡ number_of_taking (owed_by (desk old s).ledger o next) after.ledger.log
  pub left : new ≡ with_desk (with_link old s o (with_applied before next)) s after

-- only taking a closing entry with a frontier allocates, at a site that has not closed
abbrev pub TakesClosing : WorldValue → ℕ → ℕ → Type 0
TakesClosing w s o =
    (is_closed (log w s) ≡ false) × (e : EntryValue) × (slice_get (put w s o) (length (applied w s o)) ≡ Some e)
    × (numbers_in e.moves ≢ None)

abbrev pub TakeHappens : {A : Type 0} → WorldValue → ℕ → ℕ → Result (Reply A) WorldError → WorldValue → Type 0
TakeHappens old s o (Ok (Taken number)) new = TakesNext old s o number None new
TakeHappens old s o (Ok (TakenBack number back)) new = TakesNext old s o number (Some back) new
TakeHappens old s o (Ok Nothing) new = ((applied old s o ≡ put old s o) ⊎ (is_closed (log old s) ≡ true)) × (new ≡ old)
TakeHappens old s o (Err OutOfMemory) new = TakesClosing old s o × (new ≡ old)
TakeHappens old s o outcome new = ⊥
