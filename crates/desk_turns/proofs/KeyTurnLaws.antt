-- Each turn at a desk, as one of those of the laws on keys.
use Rattle.std.proofs.Common.{◌≡◌, ◌∙◌, ℕ, zero, suc, Bool, true, false, List, [], ◌∷◌, ◌++◌, map, refl, sym, ap}
use Rattle.std.proofs.Common.{Option, Some, None, Result, Ok, Err, inl, inr}
use Rattle.std.specs.Prelude.{nat_lt}
use Rattle.std.proofs.lemmas.List.{append-nil, append_assoc}
use Rattle.rights_types.specs.Entries.{EntryValue}
use Rattle.rights_types.specs.Messages.{AskValue}
use Rattle.rights_types.specs.declared.moves.Move.{Move}
use Rattle.rights_types.specs.declared.moves.Move.TheVariants as move
use Rattle.rights_protocol.specs.Crashes.{Record, lists_after, lists_from, lists_of, no_lists}
use Rattle.rights_protocol.specs.Crashes.Record.{Wrote as WroteRecord, Applied as AppliedRecord, Asked as AskedRecord}
use Rattle.rights_protocol.specs.Retiring.{taking_back, one_taking, entry_at_end}
use Rattle.rights_protocol.specs.Schedules.{SiteLists}
use Rattle.origin_log.specs.Logs.{LogValue, with_entry, next_entry}
use Rattle.request_queue.specs.declared.request.Request.{Request}
use Rattle.site_core.specs.declared.desk.requests.Spending.TheVariants.{Spent, Queued}
use Rattle.site_core.specs.declared.fault.DeskError.{DeskError}
use Rattle.site_core.specs.declared.fault.ReplayError.{ReplayError}
use Rattle.site_core.specs.Desks.{DeskValue}
use Rattle.site_core.specs.Ledgers.{closing_by, owed_by}
use Rattle.command_keys.specs.Keys.{outcome_of}
use Rattle.command_keys.specs.Books.{KeyBookValue}
use Rattle.command_keys.specs.declared.outcome.Outcome.{Outcome as Ending}
use Rattle.command_keys.specs.declared.outcome.Outcome.TheVariants.{Wrote, Waits, Expired}
use Rattle.apply_lanes.specs.Names.{DeskId}
use Rattle.apply_lanes.specs.Kepts.{KeptValue, IsKept, SeatValue}
use Rattle.apply_lanes.specs.Keeping.{with_room}
use Rattle.apply_lanes.specs.Appliers.{ApplierValue, is_late}
use Rattle.apply_lanes.specs.Batches.{LeavesLock, HandlesAll, HandlesNext}
use Rattle.apply_lanes.specs.declared.applier.StepError.{StepError}
use Rattle.site_words.specs.declared.commands.DeskCommand.{DeskCommand}
use Rattle.site_words.specs.declared.commands.DeskCommand.TheVariants.{Issue, Give, Spend, Take, Close}
use Rattle.site_words.specs.declared.commands.DeskCommand.TheVariants.{Outcome as AnOutcome, Cancel as ACancel}
use Rattle.site_node.specs.Acting.{Acts}
use Rattle.site_node.specs.Keyed.{ActsBy, ActsFirst, ActsIf, FreesBy, FreesIf, Notes, noted, ticket_of, is_repeat}
use Rattle.site_node.specs.Ticking.{ServesEach, TicksBeside}
use Rattle.site_node.specs.declared.reply.Reply.{Reply}
use Rattle.site_node.specs.declared.reply.Reply.TheVariants.{Number, Spending, Outcome, Refused, BadDeadline}
use Rattle.site_node.specs.declared.reply.Reply.TheVariants.{KeyRefused, KeyReused}
use Rattle.site_node.specs.declared.tick.Ticked.{Ticked}
use Rattle.desk_turns.specs.Applying.{AppliesReady, AppliesHand}
use Rattle.desk_turns.specs.Journaling.{ReplaysOwn, ReplaysAsk}
use Rattle.desk_turns.specs.KeyTurns.{IsKeyTurn, AllWorkIsKeyTurn, ApplyIsKeyTurn}
use Rattle.site_node.specs.Remembering.KeyTurn.{Aside}

abbrev log_of : KeptValue → List EntryValue
log_of k = k.desk.ledger.log.entries

-- keys, and what the journal was handed
abbrev Both : Type 0
Both = KeyBookValue × List Record

abbrev both : KeptValue → Both
both k = (k.keys, k.handed)

-- these are as before, and the log only grew
record Quiet (old new : KeptValue) : Type 0 where
  same : both new ≡ both old
  more : List EntryValue
  log : log_of new ≡ log_of old ++ more

kept_quiet : (old new : KeptValue) → both new ≡ both old → log_of new ≡ log_of old → Quiet old new
kept_quiet old new same log = record { same = same; more = []; log = log ∙ sym (append-nil (log_of old)) }

same_quiet : (old new : KeptValue) → new ≡ old → Quiet old new
same_quiet old new h = kept_quiet old new (ap both h) (ap log_of h)

wrote_quiet : (old new : KeptValue) (ms : List Move) → both new ≡ both old
    → new.desk.ledger.log ≡ with_entry old.desk.ledger.log ms → Quiet old new
wrote_quiet old new ms same log = record {
  same = same;
  more = next_entry old.desk.ledger.log ms ∷ [];
  log = ap (λ (l : LogValue). l.entries) log;
}

then_quiet : (old mid new : KeptValue) → Quiet old mid → Quiet mid new → Quiet old new
then_quiet old mid new s t = record {
  same = t.same ∙ s.same;
  more = s.more ++ t.more;
  log = t.log ∙ ap (λ es. es ++ t.more) s.log ∙ append_assoc (log_of old) s.more t.more;
}

aside : (old new : KeptValue) → Quiet old new → IsKeyTurn old Aside new
aside old new q = record {
  has = record { keys = ap (λ (b : Both). b.0) q.same; more = q.more; log = q.log };
  handed = ap (λ (b : Both). b.1) q.same;
}

-- ---- a command

acts_quiet : (old : KeptValue) (was : SeatValue) (command : DeskCommand) (reply : Reply) (new : KeptValue) (now : SeatValue)
    → Acts old was command reply new now → Quiet old new
acts_quiet old was (Issue amount) (Number n) new now h =
    wrote_quiet old new (move.Issue amount ∷ []) (ap (λ (k : KeptValue). (k.keys, k.handed)) h.1.counter) h.1.entry.entry.log
acts_quiet old was (Issue amount) (Refused cause) new now h = same_quiet old new h.same_desk
acts_quiet old was (Issue amount) (Spending spending) new now h = absurd h
acts_quiet old was (Issue amount) (Outcome status) new now h = absurd h
acts_quiet old was (Issue amount) BadDeadline new now h = absurd h
acts_quiet old was (Issue amount) KeyRefused new now h = absurd h
acts_quiet old was (Issue amount) KeyReused new now h = absurd h
acts_quiet old was (Give peer amount) (Number n) new now h =
    wrote_quiet old new (move.Give peer amount ∷ []) (ap (λ (k : KeptValue). (k.keys, k.handed)) h.1.rest) h.1.entry.entry.log
acts_quiet old was (Give peer amount) (Refused cause) new now h = same_quiet old new h.same_desk
acts_quiet old was (Give peer amount) (Spending spending) new now h = absurd h
acts_quiet old was (Give peer amount) (Outcome status) new now h = absurd h
acts_quiet old was (Give peer amount) BadDeadline new now h = absurd h
acts_quiet old was (Give peer amount) KeyRefused new now h = absurd h
acts_quiet old was (Give peer amount) KeyReused new now h = absurd h
acts_quiet old was (Spend amount deadline latest) (Spending (Spent n)) new now h =
    wrote_quiet old new (move.Spend amount ∷ []) (ap (λ (k : KeptValue). (k.keys, k.handed)) h.2.counter) h.2.desk.1.entry.log
acts_quiet old was (Spend amount deadline latest) (Spending (Queued ticket)) new now h =
    kept_quiet old new (ap (λ (k : KeptValue). (k.keys, k.handed)) h.2.counter)
    (ap (λ (d : DeskValue). d.ledger.log.entries) h.2.desk.2)
acts_quiet old was (Spend amount deadline latest) (Refused cause) new now h = same_quiet old new h.same_desk
acts_quiet old was (Spend amount deadline latest) BadDeadline new now h = same_quiet old new h.same_desk
acts_quiet old was (Spend amount deadline latest) (Number n) new now h = absurd h
acts_quiet old was (Spend amount deadline latest) (Outcome status) new now h = absurd h
acts_quiet old was (Spend amount deadline latest) KeyRefused new now h = absurd h
acts_quiet old was (Spend amount deadline latest) KeyReused new now h = absurd h
acts_quiet old was (Take amount) (Spending (Spent n)) new now h =
    wrote_quiet old new (move.Spend amount ∷ []) (ap (λ (k : KeptValue). (k.keys, k.handed)) h.1.counter) h.1.entry.entry.log
acts_quiet old was (Take amount) (Spending (Queued ticket)) new now h = absurd h
acts_quiet old was (Take amount) (Refused cause) new now h = same_quiet old new h.same_desk
acts_quiet old was (Take amount) (Number n) new now h = absurd h
acts_quiet old was (Take amount) (Outcome status) new now h = absurd h
acts_quiet old was (Take amount) BadDeadline new now h = absurd h
acts_quiet old was (Take amount) KeyRefused new now h = absurd h
acts_quiet old was (Take amount) KeyReused new now h = absurd h
acts_quiet old was (AnOutcome ticket) (Outcome status) new now h =
    kept_quiet old new (ap (λ (k : KeptValue). (k.keys, k.handed)) h.rest) (ap log_of h.rest)
acts_quiet old was (AnOutcome ticket) (Number n) new now h = absurd h
acts_quiet old was (AnOutcome ticket) (Spending spending) new now h = absurd h
acts_quiet old was (AnOutcome ticket) (Refused cause) new now h = absurd h
acts_quiet old was (AnOutcome ticket) BadDeadline new now h = absurd h
acts_quiet old was (AnOutcome ticket) KeyRefused new now h = absurd h
acts_quiet old was (AnOutcome ticket) KeyReused new now h = absurd h
acts_quiet old was (ACancel ticket) (Outcome status) new now h =
    kept_quiet old new (ap (λ (k : KeptValue). (k.keys, k.handed)) h.rest) (ap log_of h.rest)
acts_quiet old was (ACancel ticket) (Number n) new now h = absurd h
acts_quiet old was (ACancel ticket) (Spending spending) new now h = absurd h
acts_quiet old was (ACancel ticket) (Refused cause) new now h = absurd h
acts_quiet old was (ACancel ticket) BadDeadline new now h = absurd h
acts_quiet old was (ACancel ticket) KeyRefused new now h = absurd h
acts_quiet old was (ACancel ticket) KeyReused new now h = absurd h
acts_quiet old was (Close heir) (Number n) new now h =
    wrote_quiet old new (closing_by old.desk.ledger.book heir) (ap (λ (k : KeptValue). (k.keys, k.handed)) h.1.rest)
    h.1.entry.entry.log
acts_quiet old was (Close heir) (Refused cause) new now h = same_quiet old new h.same_desk
acts_quiet old was (Close heir) (Spending spending) new now h = absurd h
acts_quiet old was (Close heir) (Outcome status) new now h = absurd h
acts_quiet old was (Close heir) BadDeadline new now h = absurd h
acts_quiet old was (Close heir) KeyRefused new now h = absurd h
acts_quiet old was (Close heir) KeyReused new now h = absurd h

-- ---- a command under a key

abbrev handed_of : KeptValue → List Record
handed_of k = k.handed

acts_handed : (old : KeptValue) (was : SeatValue) (command : DeskCommand) (reply : Reply) (new : KeptValue) (now : SeatValue)
    → Acts old was command reply new now → new.handed ≡ old.handed
acts_handed old was command reply new now h =
    ap (λ (b : Both). b.1) (acts_quiet old was command reply new now h).same

frees_handed : (n : ℕ) (old : KeptValue) (was : SeatValue) (new : KeptValue) (now : SeatValue) → FreesBy n old was new now
    → new.handed ≡ old.handed
frees_handed zero old was new now h = ap handed_of h.0
frees_handed (suc n) old was new now h = ap handed_of h.1.rest

frees_if_handed : (b : Bool) (outcome : Ending) (old : KeptValue) (was : SeatValue) (new : KeptValue) (now : SeatValue)
    → FreesIf b outcome old was new now → new.handed ≡ old.handed
frees_if_handed true outcome old was new now h = frees_handed (ticket_of outcome) old was new now h
frees_if_handed false outcome old was new now h = ap handed_of h.0

notes_handed : (o : Option Ending) (done : KeptValue) (key : List ℕ) (new : KeptValue) → Notes o done key new
    → new.handed ≡ done.handed
notes_handed (Some (Wrote entry)) done key new h = ap handed_of h
notes_handed (Some (Waits ticket amount)) done key new h = ap handed_of h
notes_handed (Some (Expired ended)) done key new h = ap handed_of h
notes_handed None done key new h = ap handed_of h

first_handed : (old : KeptValue) (was : SeatValue) (key : List ℕ) (command : DeskCommand) (reply : Reply) (new : KeptValue)
    (now : SeatValue) → ActsFirst old was key command reply new now → new.handed ≡ old.handed
first_handed old was key command reply new now (inl h) =
    notes_handed (noted command reply) h.done key new h.notes
    ∙ acts_handed (with_room old h.book) was command reply h.done now h.acts
first_handed old was key command reply new now (inr h) = ap handed_of h.same_desk

by_handed : (o : Option Ending) (old : KeptValue) (was : SeatValue) (key : List ℕ) (command : DeskCommand) (reply : Reply)
    (new : KeptValue) (now : SeatValue) → ActsBy o old was key command reply new now → new.handed ≡ old.handed
by_handed (Some outcome) old was key command reply new now h =
    frees_if_handed (is_repeat outcome command) outcome old was new now h.1
by_handed None old was key command reply new now h = first_handed old was key command reply new now h

keyed_handed : (b : Bool) (old : KeptValue) (was : SeatValue) (key : List ℕ) (command : DeskCommand) (reply : Reply)
    (new : KeptValue) (now : SeatValue) → ActsIf b old was key command reply new now → new.handed ≡ old.handed
keyed_handed false old was key command reply new now h = ap handed_of h.1
keyed_handed true old was key command reply new now h =
    by_handed (outcome_of h.0.keys.keys key) h.0 was key command reply new now h.2 ∙ ap handed_of h.1.rest

-- ---- a tick

each_handed : (old : KeptValue) (was : SeatValue) (served : List Request) (new : KeptValue) (now : SeatValue)
    → ServesEach old was served new now → new.handed ≡ old.handed
each_handed old was [] new now h = ap handed_of h.0
each_handed old was (request ∷ others) new now h =
    each_handed h.0 h.1 others new now h.3 ∙ ap handed_of h.2.counter

ticks_handed : (silent : ℕ → Bool) (old : KeptValue) (was : SeatValue) (time : ℕ) (served : List Request)
    (ticked : Result Ticked DeskError) (new : KeptValue) (now : SeatValue)
    → TicksBeside silent old was time served ticked new now → new.handed ≡ old.handed
ticks_handed silent old was time served (Ok ticked) new now h =
    ap handed_of h.plans.rest ∙ each_handed h.in_time was served h.left now h.serves.each ∙ ap handed_of h.expires.rest
ticks_handed silent old was time served (Err fault) new now (inl h) = ap handed_of h.same_desk
ticks_handed silent old was time served (Err fault) new now (inr h) =
    each_handed h.in_time was served new now h.fails.each ∙ ap handed_of h.expires.rest

-- ---- the log of records

grown_from : (s : ℕ) (lists : SiteLists) (rs : List Record)
    → (more : List EntryValue) × ((lists_from s lists rs).log ≡ lists.log ++ more)
grown_from s lists [] = ([], sym (append-nil lists.log))
grown_from s lists (WroteRecord e ∷ rs) =
    let rest = grown_from s (lists_after s lists (WroteRecord e)) rs in
    (e ∷ rest.0, rest.1 ∙ append_assoc lists.log (e ∷ []) rest.0)
grown_from s lists (AppliedRecord e ∷ rs) =
    let rest = grown_from s (lists_after s lists (AppliedRecord e)) rs in
    let back = taking_back s e.origin lists.log e in
    (back ++ rest.0, rest.1 ∙ append_assoc lists.log back rest.0)
grown_from s lists (AskedRecord a ∷ rs) = grown_from s lists rs

from_more : (s : ℕ) (lists : SiteLists) (rs more : List Record)
    → lists_from s lists (rs ++ more) ≡ lists_from s (lists_from s lists rs) more
from_more s lists [] more = refl
from_more s lists (r ∷ rs) more = from_more s (lists_after s lists r) rs more

-- more records, and the log that they stand for
pub log_grows : (id : DeskId) (old new : KeptValue) (rs : List Record) → IsKept id old → IsKept id new
    → new.records ≡ old.records ++ rs → (more : List EntryValue) × (log_of new ≡ log_of old ++ more)
log_grows id old new rs before after same =
    let s = id.site in
    let rest = grown_from s (lists_of s old.records) rs in (
      rest.0,
      after.protocol.log ∙ ap (λ xs. (lists_of s xs).log) same
          ∙ ap (λ (l : SiteLists). l.log) (from_more s no_lists old.records rs) ∙ rest.1
          ∙ ap (λ es. es ++ rest.0) (sym before.protocol.log),
    )

-- ---- a start

own_quiet : (id : DeskId) (e : EntryValue) (old : KeptValue) (was : SeatValue) (told : Result (Unit {0}) ReplayError)
    (new : KeptValue) (now : SeatValue) → IsKept id old → IsKept id new → ReplaysOwn e was old told now new → Quiet old new
own_quiet id e old was (Ok done) new now before after h =
    let grown = log_grows id old new (WroteRecord e ∷ []) before after (ap (λ (k : KeptValue). k.records) h.2) in
    record { same = ap both h.2; more = grown.0; log = grown.1 }
own_quiet id e old was (Err fault) new now before after h = same_quiet old new h.1

ask_quiet : (id : DeskId) (a : AskValue) (old : KeptValue) (told : Result (Unit {0}) ReplayError) (new : KeptValue)
    → IsKept id old → IsKept id new → ReplaysAsk a old told new → Quiet old new
ask_quiet id a old (Ok done) new before after h =
    let grown = log_grows id old new (AskedRecord a ∷ []) before after (ap (λ (k : KeptValue). k.records) h.1) in
    record { same = ap both h.1; more = grown.0; log = grown.1 }
ask_quiet id a old (Err fault) new before after h = same_quiet old new h.1

-- ---- all of these

pub all_work : AllWorkIsKeyTurn
all_work id old new before after = record {
  act = λ command was reply now h. aside old new (acts_quiet old was command reply new now h);
  act_keyed = λ key command was reply now h. record {
    has = record { was = was; now = now; acts = h };
    handed = keyed_handed (nat_lt 0 old.keys.keys.cap) old was key command reply new now h;
  };
  tick = λ silent time was ticked now h. record {
    has = record {
      was = was;
      now = now;
      silent = silent;
      time = time;
      served = h.served;
      ticked = ticked;
      ticks = h.ticks;
    };
    handed = ticks_handed silent old was time h.served ticked new now h.ticks;
  };
  hand_over = λ handed h. record { has = record { handed = h.0; rest = h.2 }; handed = ap handed_of h.2 };
  no_journal = λ h. aside old new (same_quiet old new h.0);
  lost = λ lost h. aside old new (same_quiet old new h);
  replay_own = λ e was told now h. aside old new (own_quiet id e old was told new now before after h);
  replay_ask = λ a told h. aside old new (ask_quiet id a old told new before after h);
  skip_tickets = λ last h. aside old new (kept_quiet old new (ap both h) (ap log_of h));
  skip_unpublished = λ peer h. aside old new (kept_quiet old new (ap both h) (ap log_of h));
}

-- ---- appliers

lock_quiet : (id : DeskId) (late : Bool) (old : KeptValue) (o : ℕ) (e : EntryValue) (new : KeptValue)
    → LeavesLock id late old o e new → Quiet old new
lock_quiet id true old o e new h = same_quiet old new h
lock_quiet id false old o e new h = record {
  same = ap both h.1;
  more = map (entry_at_end old.desk.ledger.log.site (log_of old)) (one_taking o (owed_by old.desk.ledger o e));
  log = ap (λ (l : LogValue). l.entries) h.0.log;
}

module _ {G A : Type 0} (id : DeskId) where
  next_quiet : (was : ApplierValue G A) (old : KeptValue) (now : ApplierValue G A) (new : KeptValue)
      → HandlesNext id was old now new → Quiet old new
  next_quiet was old now new h =
      lock_quiet id (is_late h.taken old.desk) old h.taken.origin h.fills.1 new h.handles.lock

  all_quiet : (n : ℕ) (was : ApplierValue G A) (old : KeptValue) (now : ApplierValue G A) (new : KeptValue)
      → HandlesAll id was old n now new → Quiet old new
  all_quiet zero was old now new h = same_quiet old new h.1
  all_quiet (suc n) was old now new h =
      then_quiet old h.1 new (all_quiet n was old h.0 h.1 h.2) (next_quiet h.0 h.1 now new h.3)

  ready_quiet : (was : ApplierValue G A) (old : KeptValue) (result : Result (ℕ × Bool) StepError) (now : ApplierValue G A)
      (new : KeptValue) → AppliesReady id was old result now new → Quiet old new
  ready_quiet was old (Ok (n, true)) now new h = all_quiet n was old now new h.ok.0
  ready_quiet was old (Ok (n, false)) now new h = all_quiet n was old h.ok.0 new h.ok.1
  ready_quiet was old (Err fault) now new h = all_quiet h.err.0 was old h.err.2 new h.err.3

  hand_quiet : (e : EntryValue) (was : ApplierValue G A) (old : KeptValue) (told : Result (Unit {0}) StepError)
      (now : ApplierValue G A) (new : KeptValue) → AppliesHand id e was old told now new → Quiet old new
  hand_quiet e was old (Ok done) now new h = lock_quiet id false old e.origin e new (h.2.moves, h.2.counted)
  hand_quiet e was old (Err fault) now new h = same_quiet old new h.1

  pub applying : (old new : KeptValue) → ApplyIsKeyTurn G A id old new
  applying old new = record {
    batch = λ was result now h. aside old new (ready_quiet was old result now new h);
    again = λ e was told now h. aside old new (hand_quiet e was old told now new h);
  }
