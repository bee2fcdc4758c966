-- The origin and the site of an intake's lines do not change; and which messages result from these lines.
use Rattle.std.proofs.Common.{◌≡◌, ℕ, eqb, Bool, true, false, cond, List, [], ◌∷◌, Option, Some, None}
use Rattle.std.proofs.Common.{Result, Ok, Err, IfSome, refl, sym, ap, subst, ◌∙◌}
use Rattle.std.proofs.lemmas.Bool.{eqb-true}
use Rattle.rights_types.specs.Entries.{EntryValue}
use Rattle.rights_types.specs.Messages.{MessageValue, QueryValue}
use Rattle.rights_types.specs.Messages.MessageValue.{AnEntry, AQuery, AnAnswer, ABeat, AnAsk, ADenial, AHello}
use Rattle.entry_codec.specs.declared.fault.LineError.{LineError}
use Rattle.sub_buffer.specs.Buffers.{BufferValue, SamePair, told_of}
use Rattle.sub_buffer.specs.Arrivals.{ArriveAll}
use Rattle.sub_buffer.specs.Table.{after_beat}
use Rattle.sub_buffer.specs.Gaps.{asked_for}
use Rattle.sub_buffer.specs.declared.verdict.Verdict.{Verdict}
use Rattle.inbound.specs.Inbounds.{InboundValue, sender, addressee, is_for, message_fault}
use Rattle.inbound.specs.Inbounds.{line_fault, BringsEntries, Arrives, QueryOf}
use Rattle.inbound.specs.declared.inbound.Arrival.{Arrival}
use Rattle.inbound.specs.declared.inbound.Arrival.TheVariants.{Entries, Beat, Query as ComesQuery, Ask as ComesAsk}
use Rattle.inbound.specs.declared.inbound.Arrival.TheVariants.{Deny as ComesDenial, Hello}
use Rattle.link_intake.specs.Intakes.{IntakeValue, LineLeaves, TakesIn, arrived_of}
use Rattle.link_intake.specs.declared.intake.Arrived.{Arrived}
use Rattle.link_intake.specs.declared.intake.IntakeError.{IntakeError}
use Rattle.link_intake.specs.declared.intake.IntakeError.TheVariants.{Inbound, LaneClosed}
use Rattle.rights_types.specs.declared.fault.OutOfMemory.{OutOfMemory as Want}
use Rattle.peer_links.specs.Ports.{Heard, message_of, IsBetween, AcceptsPeer}
use Rattle.peer_links.specs.Takes.{message_in, AsksGap}
use Rattle.link_intake.specs.declared.desk_message.DeskMessage.{DeskMessage}
use Rattle.link_intake.specs.declared.desk_message.DeskMessage.TheVariants.{Query, Ask, Deny}

-- ---- the pair does not change

pub same_pair : (b : BufferValue) → SamePair b b
same_pair b = record { me = refl; origin = refl }

pub pairs_both : (a b c : BufferValue) → SamePair a b → SamePair b c → SamePair a c
pairs_both a b c h k = record { me = k.me ∙ h.me; origin = k.origin ∙ h.origin }

all_arrive : {A : Type 0} (old : BufferValue) (before : List (Verdict A)) (es : List EntryValue) (new : BufferValue)
    (after : List (Verdict A))
    → ArriveAll old before es new after → SamePair old new
all_arrive old before [] new after h = subst (SamePair old) (sym h.0) (same_pair old)
all_arrive old before (e ∷ es) new after h =
    pairs_both old h.0 new h.5.pair (all_arrive h.0 h.1 es new after h.6)

entries_bring : {A : Type 0} (old : InboundValue) (es : List EntryValue) (arrival : Arrival A) (new : InboundValue)
    → BringsEntries old es arrival new
    → SamePair old.buffer new.buffer
entries_bring old es (Entries vs) new h = all_arrive old.buffer [] es new.buffer vs h.arrive
entries_bring old es (Beat b) new h = absurd h
entries_bring old es (ComesQuery q) new h = absurd h
entries_bring old es (ComesAsk a) new h = absurd h
entries_bring old es (ComesDenial d) new h = absurd h
entries_bring old es Hello new h = absurd h

same_buffer : (old new : InboundValue) → new ≡ old → SamePair old.buffer new.buffer
same_buffer old new e = subst (λ (i : InboundValue). SamePair old.buffer i.buffer) (sym e) (same_pair old.buffer)

beat_pair : (b : BufferValue) (n : ℕ) → SamePair b (after_beat b n)
beat_pair b n = elim b.closed as (λ c. SamePair b (cond c b (told_of b n))) [
  | true ↦ same_pair b
  | false ↦ record { me = refl; origin = refl }
]

comes : {A : Type 0} (old : InboundValue) (m : MessageValue) (arrival : Arrival A) (new : InboundValue)
    → Arrives old m arrival new → SamePair old.buffer new.buffer
comes old (AnEntry e) arrival new h = entries_bring old (e ∷ []) arrival new h
comes old (AnAnswer a) arrival new h = entries_bring old a.entries arrival new h
comes old (ABeat b) arrival new h
    = subst (λ (i : InboundValue). SamePair old.buffer i.buffer) (sym h.1) (beat_pair old.buffer b.number)
comes old (AQuery q) arrival new h = same_buffer old new h.1
comes old (AnAsk a) arrival new h = same_buffer old new h.1
comes old (ADenial d) arrival new h = same_buffer old new h.1
comes old (AHello s) arrival new h = same_buffer old new h.1

module _ {A : Type 0} (old new : IntakeValue A) where
  -- a line does not change it
  pub line_pair : (read : Result MessageValue LineError) (came : Result Arrived IntakeError)
      → LineLeaves old read came new → SamePair old.inbound.buffer new.inbound.buffer
  line_pair read (Ok arrived) h = comes old.inbound h.1.message h.0 new.inbound h.1.arrives
  line_pair read (Err LaneClosed) h = comes old.inbound h.1.message h.0 new.inbound h.1.arrives
  line_pair read (Err (Inbound fault)) h
      = subst (λ (i : IntakeValue A). SamePair old.inbound.buffer i.inbound.buffer) (sym h)
      (same_pair old.inbound.buffer)

asked_pair : (b : BufferValue) (q : Option QueryValue) → SamePair b (asked_for b q)
asked_pair b None = same_pair b
asked_pair b (Some q) = record { me = refl; origin = refl }

-- neither does a query
pub query_pair : (old new : InboundValue) (again : Bool) (q : Option QueryValue) → QueryOf old again q new
    → SamePair old.buffer new.buffer
query_pair old new again q h
    = subst (λ (i : InboundValue). SamePair old.buffer i.buffer) (sym h.left) (asked_pair old.buffer q)

pub gap_pair : {A : Type 0} (old new : IntakeValue A) (again : Bool) (asked : Result (Unit {0}) Want)
    (heard : List Heard) → AsksGap old again asked heard new
    → SamePair old.inbound.buffer new.inbound.buffer
gap_pair old new again asked heard h = query_pair old.inbound new.inbound again h.query h.asks

pub accepts_still : (accepts : DeskMessage → Type 0) (old new : BufferValue) → SamePair old new
    → AcceptsPeer accepts old → AcceptsPeer accepts new
accepts_still accepts old new pair h
    = λ m is. h m (record { from = is.from ∙ pair.origin; to = is.to ∙ ap Some pair.me })

-- ---- each message that arrives is from the origin, and for this site

module _ (i : InboundValue) (m : DeskMessage) where
  -- its sender
  between : (from to foreign : Bool) → eqb (sender (message_of m)) i.buffer.origin ≡ from
      → is_for i.buffer.me (message_of m) ≡ to
      → message_fault i (message_of m) ≡ None → (from ≡ true) × (to ≡ true)
  between true true foreign e f h = (refl, refl)
  between true false foreign e f h = let no = rw (e, f) at h in absurd cc
  between false to foreign e f h = let no = rw e at h in absurd cc

is_addressed : (me : ℕ) (m : DeskMessage) → is_for me (message_of m) ≡ true → addressee (message_of m) ≡ Some me
is_addressed me (Query q) e = ap Some (eqb-true q.origin me e)
is_addressed me (Ask a) e = ap Some (eqb-true a.asked me e)
is_addressed me (Deny d) e = ap Some (eqb-true d.asker me e)

faultless : (i : InboundValue) (m : DeskMessage) → message_fault i (message_of m) ≡ None
    → IsBetween i.buffer.origin i.buffer.me m
faultless i m h =
    let is = between i m _ _ false refl refl h in
    record { from = eqb-true (sender (message_of m)) i.buffer.origin is.0; to = is_addressed i.buffer.me m is.1 }

-- entries give no message for the desk
no_message : {A : Type 0} (P : DeskMessage → Type 0) (old : InboundValue) (es : List EntryValue) (arrival : Arrival A)
    (new : InboundValue) → BringsEntries old es arrival new
    → IfSome (message_in (arrived_of arrival)) P
no_message P old es (Entries vs) new h = tt
no_message P old es (Beat b) new h = absurd h
no_message P old es (ComesQuery q) new h = absurd h
no_message P old es (ComesAsk a) new h = absurd h
no_message P old es (ComesDenial d) new h = absurd h
no_message P old es Hello new h = absurd h

says : {A : Type 0} (P : DeskMessage → Type 0) (old : InboundValue) (m : MessageValue) (arrival : Arrival A)
    (new : InboundValue) → Arrives old m arrival new
    → message_fault old m ≡ None → AcceptsPeer P old.buffer → IfSome (message_in (arrived_of arrival)) P
says P old (AnEntry e) arrival new h good all = no_message P old (e ∷ []) arrival new h
says P old (AnAnswer a) arrival new h good all = no_message P old a.entries arrival new h
says {A} P old (ABeat b) arrival new h good all
    = subst (λ (x : Arrival A). IfSome (message_in (arrived_of x)) P) (sym h.0) tt
says {A} P old (AQuery q) arrival new h good all
    = subst (λ (x : Arrival A). IfSome (message_in (arrived_of x)) P) (sym h.0)
    (all (Query q) (faultless old (Query q) good))
says {A} P old (AnAsk a) arrival new h good all
    = subst (λ (x : Arrival A). IfSome (message_in (arrived_of x)) P) (sym h.0)
    (all (Ask a) (faultless old (Ask a) good))
says {A} P old (ADenial d) arrival new h good all
    = subst (λ (x : Arrival A). IfSome (message_in (arrived_of x)) P) (sym h.0)
    (all (Deny d) (faultless old (Deny d) good))
says {A} P old (AHello s) arrival new h good all
    = subst (λ (x : Arrival A). IfSome (message_in (arrived_of x)) P) (sym h.0) tt

-- what the desk receives was accepted
pub is_accepted : {A : Type 0}
    (P : DeskMessage → Type 0) (old new : IntakeValue A) (read : Result MessageValue LineError) (arrived : Arrived)
    → line_fault old.inbound read ≡ None → TakesIn old read arrived new → AcceptsPeer P old.inbound.buffer
    → IfSome (message_in arrived) P
is_accepted P old new read arrived good h all =
    let brings = h.1 in
    let fault = subst (λ (r : Result MessageValue LineError). line_fault old.inbound r ≡ None) brings.read_as good in
    subst (λ (x : Arrived). IfSome (message_in x) P) (sym h.2)
    (says P old.inbound brings.message h.0 new.inbound brings.arrives fault all)
