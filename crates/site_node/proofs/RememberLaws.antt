-- What is written under keys, and what of it is remembered.
use Rattle.std.proofs.Common.{◌≡◌, ◌∙◌, ℕ, zero, suc, Bool, true, false, cond, List, [], ◌∷◌, ◌++◌, length, map}
use Rattle.std.proofs.Common.{drop, reverse, Option, Some, None, Result, Ok, Err, inl, inr, refl, sym, ap, subst, arith}
use Rattle.std.specs.Prelude.{◌||◌, nat_lt, MatchOption}
use Rattle.std.specs.List.{All, Contains, list_any}
use Rattle.std.proofs.Math.Seq.{drop-append_seam}
use Rattle.std.proofs.lemmas.List.{append-nil, append_assoc, map-append, reverse-append}
use Rattle.std.proofs.lemmas.List.Elements.{All-nil, All-cons, All-append, All-weaker, Contains-append_left, Contains-append_right}
use Rattle.rights_types.specs.Entries.{EntryValue, own}
use Rattle.rights_types.specs.Chains.{end}
use Rattle.rights_types.specs.Moves.{is_close}
use Rattle.rights_types.specs.declared.moves.Move.{Move}
use Rattle.rights_types.specs.declared.moves.Move.TheVariants as move
use Rattle.rights_types.proofs.Chains.{end-push}
use Rattle.rights_protocol.specs.Writing.{heritage}
use Rattle.rights_book.specs.Books.{BookValue, held_by}
use Rattle.origin_log.specs.Logs.{LogValue, with_entry, next_entry}
use Rattle.request_queue.specs.declared.request.Request.{Request}
use Rattle.request_queue.specs.Queues.{front_of}
use Rattle.site_core.specs.declared.desk.requests.Spending.TheVariants.{Spent, Queued}
use Rattle.site_core.specs.declared.fault.DeskError.{DeskError}
use Rattle.site_core.specs.Desks.{DeskValue}
use Rattle.site_core.specs.Ledgers.{LedgerValue, closing_by, frontier_of}
use Rattle.command_keys.specs.Keys.{KeysValue, outcome_of, key_of, ExpireGone, IsOnce}
use Rattle.command_keys.specs.Books.{KeyBookValue, ServesOne, with_record, record_if}
use Rattle.command_keys.specs.Last.{last_of}
use Rattle.command_keys.specs.declared.outcome.Effect.{Effect}
use Rattle.command_keys.specs.declared.outcome.Effect.TheVariants as effect
use Rattle.command_keys.specs.declared.outcome.Written.{Written}
use Rattle.command_keys.specs.declared.outcome.Outcome.{Outcome as Ending}
use Rattle.command_keys.specs.declared.outcome.Outcome.TheVariants.{Wrote, Waits, Expired}
use Rattle.command_keys.proofs.CallLaws.{Has, told, one as called}
use Rattle.command_keys.proofs.Gone.{served_at}
use Rattle.site_records.specs.KeyRecords.{effect_of as effect_of_moves, effect_of_only}
use Rattle.apply_lanes.specs.Kepts.{KeptValue, SeatValue}
use Rattle.apply_lanes.specs.Keeping.{with_room}
use Rattle.site_words.specs.declared.commands.DeskCommand.{DeskCommand}
use Rattle.site_words.specs.declared.commands.DeskCommand.TheVariants.{Issue, Give, Spend, Take, Close}
use Rattle.site_words.specs.declared.commands.DeskCommand.TheVariants.{Outcome as AnOutcome, Cancel as ACancel}
use Rattle.site_node.specs.Acting.{Acts}
use Rattle.site_node.specs.Ticking.{ServesNext, ServesEach, TicksBeside}
use Rattle.site_node.specs.declared.reply.Reply.{Reply}
use Rattle.site_node.specs.declared.reply.Reply.TheVariants.{Number, Spending, Outcome, Refused, BadDeadline}
use Rattle.site_node.specs.declared.reply.Reply.TheVariants.{KeyRefused, KeyReused}
use Rattle.site_node.specs.declared.tick.Ticked.{Ticked}
use Rattle.site_node.specs.Keyed.{ActsBy, ActsFirst, ActsIf, FreesBy, FreesIf, Notes, SettlesKeys}
use Rattle.site_node.specs.Keyed.{effect_of, noted, reply_as, ticket_of, is_repeat}
use Rattle.site_node.specs.Remembering.{KeyTurn, ActsUnder, HasKeyTurn, HasKeyTurns, wrote, under, serve_writes, tick_writes}
use Rattle.site_node.specs.Remembering.{recorded, handed_in, keys_handed, WritesAreRecorded}
use Rattle.site_node.specs.Remembering.{Remembers, turn_writes, writes_in, deed, LastWrites, IsToldFirst}
use Rattle.site_node.specs.Remembering.KeyTurn.{UnderKey, ByTick, HandsOver, Aside}
use Rattle.site_node.proofs.KeyedLaws.{acts_keep_keys, still_free}

abbrev pub Deeds : Type 0
Deeds = List (List ℕ × (ℕ × Option Effect))

abbrev pub Writes : Type 0
Writes = List (List ℕ × EntryValue)

abbrev pub told_of : Written → ℕ × Option Effect
told_of w = (w.number, Some w.effect)

abbrev pub log_of : KeptValue → List EntryValue
log_of k = k.desk.ledger.log.entries

-- ---- what a command writes

-- one entry, with this number and effect
record WroteOne (old new : KeptValue) (w : Written) : Type 0 where
  e : EntryValue
  log : log_of new ≡ log_of old ++ e ∷ []
  number : own e ≡ w.number
  effect : effect_of_moves e.moves ≡ Some w.effect

one_entry : (old new : KeptValue) (ms : List Move) (w : Written) → new.desk.ledger.log ≡ with_entry old.desk.ledger.log ms
    → w.number ≡ end (log_of new) → effect_of_moves ms ≡ Some w.effect → WroteOne old new w
one_entry old new ms w log number effect =
    let e : EntryValue = next_entry old.desk.ledger.log ms in
    let grown : log_of new ≡ log_of old ++ e ∷ [] = ap (λ (l : LogValue). l.entries) log in
    record {
      e = e;
      log = grown;
      number = sym (number ∙ ap end grown ∙ end-push (log_of old) e);
      effect = effect;
    }

ends_closed : (ms : List Move) (f : List ℕ) → list_any is_close (ms ++ move.CloseAt f ∷ []) ≡ true
ends_closed [] f = refl
ends_closed (m ∷ ms) f = either_true (is_close m) (list_any is_close (ms ++ move.CloseAt f ∷ [])) (ends_closed ms f)
  where
    either_true : (a b : Bool) → b ≡ true → (a || b) ≡ true
    either_true true b h = refl
    either_true false b h = h

closes : (b : BookValue) (heir : Option ℕ) → effect_of_moves (closing_by b heir) ≡ Some effect.Close
closes b None = refl
closes b (Some heir) =
    let ms : List Move = closing_by b (Some heir) in
    ap (λ (c : Bool). cond c (Some effect.Close) (effect_of_only ms))
    (ends_closed (heritage heir (held_by b)) (frontier_of b))

-- .. if it is noted as one that wrote it, and else nothing
abbrev Leaves : KeptValue → DeskCommand → Reply → KeptValue → Option Ending → Type 0
Leaves old command reply new (Some (Wrote w)) =
    WroteOne old new w × (effect_of command ≡ Some w.effect) × (reply ≡ reply_as command w.number)
Leaves old command reply new (Some (Waits ticket amount)) = log_of new ≡ log_of old
Leaves old command reply new (Some (Expired ended)) = log_of new ≡ log_of old
Leaves old command reply new None = log_of new ≡ log_of old

same_log : (old new : KeptValue) → new ≡ old → log_of new ≡ log_of old
same_log old new h = ap log_of h

leaves : (old : KeptValue) (was : SeatValue) (command : DeskCommand) (reply : Reply) (new : KeptValue) (now : SeatValue)
    → Acts old was command reply new now → Leaves old command reply new (noted command reply)
leaves old was (Issue amount) (Number n) new now h = (
  one_entry old new (move.Issue amount ∷ []) (record { number = n; effect = effect.Issue amount; ticket = 0 })
      h.1.entry.entry.log h.1.at_end refl,
  refl,
  refl,
)
leaves old was (Issue amount) (Refused cause) new now h = same_log old new h.same_desk
leaves old was (Issue amount) (Spending spending) new now h = absurd h
leaves old was (Issue amount) (Outcome status) new now h = absurd h
leaves old was (Issue amount) BadDeadline new now h = absurd h
leaves old was (Issue amount) KeyRefused new now h = absurd h
leaves old was (Issue amount) KeyReused new now h = absurd h
leaves old was (Give peer amount) (Number n) new now h = (
  one_entry old new (move.Give peer amount ∷ []) (record { number = n; effect = effect.Give peer amount; ticket = 0 })
      h.1.entry.entry.log h.1.at_end refl,
  refl,
  refl,
)
leaves old was (Give peer amount) (Refused cause) new now h = same_log old new h.same_desk
leaves old was (Give peer amount) (Spending spending) new now h = absurd h
leaves old was (Give peer amount) (Outcome status) new now h = absurd h
leaves old was (Give peer amount) BadDeadline new now h = absurd h
leaves old was (Give peer amount) KeyRefused new now h = absurd h
leaves old was (Give peer amount) KeyReused new now h = absurd h
leaves old was (Spend amount deadline latest) (Spending (Spent n)) new now h = (
  one_entry old new (move.Spend amount ∷ []) (record { number = n; effect = effect.Spend amount; ticket = 0 })
      h.2.desk.1.entry.log h.2.desk.2 refl,
  refl,
  refl,
)
leaves old was (Spend amount deadline latest) (Spending (Queued ticket)) new now h =
    ap (λ (d : DeskValue). d.ledger.log.entries) h.2.desk.2
leaves old was (Spend amount deadline latest) (Refused cause) new now h = same_log old new h.same_desk
leaves old was (Spend amount deadline latest) BadDeadline new now h = same_log old new h.same_desk
leaves old was (Spend amount deadline latest) (Number n) new now h = absurd h
leaves old was (Spend amount deadline latest) (Outcome status) new now h = absurd h
leaves old was (Spend amount deadline latest) KeyRefused new now h = absurd h
leaves old was (Spend amount deadline latest) KeyReused new now h = absurd h
leaves old was (Take amount) (Spending (Spent n)) new now h = (
  one_entry old new (move.Spend amount ∷ []) (record { number = n; effect = effect.Spend amount; ticket = 0 })
      h.1.entry.entry.log h.1.at_end refl,
  refl,
  refl,
)
leaves old was (Take amount) (Spending (Queued ticket)) new now h = absurd h
leaves old was (Take amount) (Refused cause) new now h = same_log old new h.same_desk
leaves old was (Take amount) (Number n) new now h = absurd h
leaves old was (Take amount) (Outcome status) new now h = absurd h
leaves old was (Take amount) BadDeadline new now h = absurd h
leaves old was (Take amount) KeyRefused new now h = absurd h
leaves old was (Take amount) KeyReused new now h = absurd h
leaves old was (AnOutcome ticket) (Outcome status) new now h = ap log_of h.rest
leaves old was (AnOutcome ticket) (Number n) new now h = absurd h
leaves old was (AnOutcome ticket) (Spending spending) new now h = absurd h
leaves old was (AnOutcome ticket) (Refused cause) new now h = absurd h
leaves old was (AnOutcome ticket) BadDeadline new now h = absurd h
leaves old was (AnOutcome ticket) KeyRefused new now h = absurd h
leaves old was (AnOutcome ticket) KeyReused new now h = absurd h
leaves old was (ACancel ticket) (Outcome status) new now h = ap log_of h.rest
leaves old was (ACancel ticket) (Number n) new now h = absurd h
leaves old was (ACancel ticket) (Spending spending) new now h = absurd h
leaves old was (ACancel ticket) (Refused cause) new now h = absurd h
leaves old was (ACancel ticket) BadDeadline new now h = absurd h
leaves old was (ACancel ticket) KeyRefused new now h = absurd h
leaves old was (ACancel ticket) KeyReused new now h = absurd h
leaves old was (Close heir) (Number n) new now h = (
  one_entry old new (closing_by old.desk.ledger.book heir) (record { number = n; effect = effect.Close; ticket = 0 })
      h.1.entry.entry.log h.1.at_end (closes old.desk.ledger.book heir),
  refl,
  refl,
)
leaves old was (Close heir) (Refused cause) new now h = same_log old new h.same_desk
leaves old was (Close heir) (Spending spending) new now h = absurd h
leaves old was (Close heir) (Outcome status) new now h = absurd h
leaves old was (Close heir) BadDeadline new now h = absurd h
leaves old was (Close heir) KeyRefused new now h = absurd h
leaves old was (Close heir) KeyReused new now h = absurd h

-- ---- the keys after a command under one

abbrev pub Knows : ℕ → Deeds → KeptValue → Type 0
Knows cap all k = Has told_of cap all k.keys.keys

-- keys in which only the room for more changed
keeps_keys : (cap : ℕ) (all : Deeds) (old new : KeysValue) → Has told_of cap all old → new ≡ record old { room = new.room }
    → Has told_of cap all new
keeps_keys cap all old new is becomes =
    called told_of cap all old [] new is (inr (inr (inr (inr (inr (record { adds = refl; becomes = becomes }))))))

expired : (requests : List Request) (cap : ℕ) (all : Deeds) (count : ℕ) (old new : KeysValue)
    → ExpireGone requests count old new → Has told_of cap all old → Has told_of cap all new
expired requests cap all zero old new h is = subst (Has told_of cap all) (sym h) is
expired requests cap all (suc n) old new h is =
    let mid : KeysValue = h.0 in
    called told_of cap all mid [] new (expired requests cap all n old mid h.1 is)
    (inr (inr (inr (inr (inl (record { place = h.2.place; expires = h.2.expires; adds = refl }))))))

settled : (cap : ℕ) (all : Deeds) (old ready : KeptValue) → SettlesKeys old ready → Knows cap all old → Knows cap all ready
settled cap all old ready h is =
    expired old.desk.queue.waiting cap all h.keys.count old.keys.keys ready.keys.keys h.keys.expire is

-- a repeat changes no key and no entry
pub record Untouched (old new : KeptValue) : Type 0 where
  pub keys : new.keys ≡ old.keys
  pub ledger : new.desk.ledger ≡ old.desk.ledger

untouched : (old new : KeptValue) → new ≡ old → Untouched old new
untouched old new h = record { keys = ap (λ (k : KeptValue). k.keys) h; ledger = ap (λ (k : KeptValue). k.desk.ledger) h }

frees_by : (n : ℕ) (old : KeptValue) (was : SeatValue) (new : KeptValue) (now : SeatValue) → FreesBy n old was new now
    → Untouched old new
frees_by zero old was new now h = untouched old new h.0
frees_by (suc n) old was new now h = record {
  keys = ap (λ (k : KeptValue). k.keys) h.1.rest;
  ledger = ap (λ (k : KeptValue). k.desk.ledger) h.1.rest;
}

pub frees_if : (b : Bool) (outcome : Ending) (old : KeptValue) (was : SeatValue) (new : KeptValue) (now : SeatValue)
    → FreesIf b outcome old was new now → Untouched old new
frees_if true outcome old was new now h = frees_by (ticket_of outcome) old was new now h
frees_if false outcome old was new now h = untouched old new h.0

-- what was handed over, and what is to be, are the records of before and those of these writes
abbrev pub Recorded : List (List ℕ × ℕ) → Writes → KeptValue → KeptValue → Type 0
Recorded handed writes old new = old.keys.is_recorded ≡ true
    → (new.keys.is_recorded ≡ true)
    × (handed ++ new.keys.unrecorded ≡ old.keys.unrecorded ++ reverse (map recorded writes))

same_records : (old new : KeptValue) → new.keys.is_recorded ≡ old.keys.is_recorded
    → new.keys.unrecorded ≡ old.keys.unrecorded → Recorded [] [] old new
same_records old new kept same journal = (kept ∙ journal, same ∙ sym (append-nil old.keys.unrecorded))

book_records : (old new : KeptValue) → new.keys ≡ old.keys → Recorded [] [] old new
book_records old new same =
    same_records old new (ap (λ (b : KeyBookValue). b.is_recorded) same) (ap (λ (b : KeyBookValue). b.unrecorded) same)

-- one more was written under a key
one_record : (old new : KeptValue) (key : List ℕ) (number : ℕ) (e : EntryValue) → own e ≡ number
    → new.keys.is_recorded ≡ old.keys.is_recorded → new.keys.unrecorded ≡ with_record old.keys key number
    → Recorded [] (under (Some key) (e ∷ [])) old new
one_record old new key number e same kept more journal = (
  kept ∙ journal,
  more ∙ ap (λ b. record_if b old.keys.unrecorded key number) journal
      ∙ ap (λ n. old.keys.unrecorded ++ (key, n) ∷ []) (sym same),
)

-- what a turn under a key made of log and keys
pub record Turned (cap : ℕ) (all : Deeds) (key : List ℕ) (command : DeskCommand) (reply : Reply) (old new : KeptValue) : Type 0 where
  pub entries : List EntryValue
  pub log : log_of new ≡ log_of old ++ entries
  pub knows : Knows cap (map deed (under (Some key) entries) ++ all) new
  pub among : All (λ w. Contains entries w.1) (under (Some key) entries)
  pub replies : All (λ w. IsToldFirst command reply w.1) (under (Some key) entries)
  pub records : Recorded [] (under (Some key) entries) old new

under_all : (o : Option (List ℕ)) (e : EntryValue) → All (λ w. Contains (e ∷ []) w.1) (under o (e ∷ []))
under_all None e = All-nil (λ (w : List ℕ × EntryValue). Contains (e ∷ []) w.1)
under_all (Some key) e = All-cons (λ w. Contains (e ∷ []) w.1) (key, e) [] (0, omega arith, refl)
    (All-nil (λ (w : List ℕ × EntryValue). Contains (e ∷ []) w.1))

-- nothing was written
nothing : (cap : ℕ) (all : Deeds) (key : List ℕ) (command : DeskCommand) (reply : Reply) (old new : KeptValue)
    → log_of new ≡ log_of old → Recorded [] [] old new → Knows cap all new → Turned cap all key command reply old new
nothing cap all key command reply old new log records knows = record {
  entries = [];
  log = log ∙ sym (append-nil (log_of old));
  knows = knows;
  records = records;
  among = All-nil (λ (w : List ℕ × EntryValue). Contains [] w.1);
  replies = All-nil (λ (w : List ℕ × EntryValue). IsToldFirst command reply w.1);
}

module _ (cap : ℕ) (all : Deeds) (key : List ℕ) (command : DeskCommand) (reply : Reply) (old done new : KeptValue)
    (book : done.keys ≡ old.keys) (is : Knows cap all done) (free : outcome_of done.keys.keys key ≡ None) where
  wrote_first : (w : Written) → WroteOne old done w → effect_of command ≡ Some w.effect → reply ≡ reply_as command w.number
      → Notes (Some (Wrote w)) done key new → Turned cap all key command reply old new
  wrote_first w one effect replied notes =
      let same : (w.number, Some w.effect) ≡ (own one.e, effect_of_moves one.e.moves)
      = λ i. (sym one.number i, sym one.effect i) in
      record {
        entries = one.e ∷ [];
        log = ap log_of notes ∙ one.log;
        knows = subst (λ (d : ℕ × Option Effect). Knows cap ((key, d) ∷ all) new) same
            (called told_of cap all done.keys.keys ((key, w) ∷ []) new.keys.keys is (inl (record {
              key = key;
              entry = w;
              free = free;
              adds = refl;
              becomes = ap (λ (k : KeptValue). k.keys.keys) notes;
            })));
        among = under_all (Some key) one.e;
        records = one_record old new key w.number one.e one.number
            (ap (λ (k : KeptValue). k.keys.is_recorded) notes ∙ ap (λ (b : KeyBookValue). b.is_recorded) book)
            (ap (λ (k : KeptValue). k.keys.unrecorded) notes ∙ ap (λ (b : KeyBookValue). with_record b key w.number) book);
        replies = All-cons (λ v. IsToldFirst command reply v.1) (key, one.e) [] (record {
          effect = effect ∙ sym one.effect;
          reply_is = replied ∙ ap (reply_as command) (sym one.number);
        }) (All-nil (λ (v : List ℕ × EntryValue). IsToldFirst command reply v.1));
      }

  left_records : new.keys.is_recorded ≡ done.keys.is_recorded → new.keys.unrecorded ≡ done.keys.unrecorded
      → Recorded [] [] old new
  left_records kept same =
      same_records old new (kept ∙ ap (λ (b : KeyBookValue). b.is_recorded) book)
      (same ∙ ap (λ (b : KeyBookValue). b.unrecorded) book)

  first_by : (o : Option Ending) → Leaves old command reply done o → Notes o done key new
      → Turned cap all key command reply old new
  first_by (Some (Wrote w)) left notes = wrote_first w left.0 left.1 left.2 notes
  first_by (Some (Waits ticket amount)) left notes =
      nothing cap all key command reply old new (ap log_of notes ∙ left)
      (left_records (ap (λ (k : KeptValue). k.keys.is_recorded) notes) (ap (λ (k : KeptValue). k.keys.unrecorded) notes))
      (called told_of cap all done.keys.keys [] new.keys.keys is (inr (inr (inl (record {
        spend = record { key = key; ticket = ticket; amount = amount };
        free = free;
        adds = refl;
        becomes = ap (λ (k : KeptValue). k.keys.keys) notes;
      })))))
  first_by (Some (Expired ended)) left notes =
      nothing cap all key command reply old new (ap log_of notes ∙ left)
      (left_records (ap (λ (k : KeptValue). k.keys.is_recorded) notes) (ap (λ (k : KeptValue). k.keys.unrecorded) notes))
      (subst (Knows cap all) (sym notes) is)
  first_by None left notes =
      nothing cap all key command reply old new (ap log_of notes ∙ left)
      (left_records (ap (λ (k : KeptValue). k.keys.is_recorded) notes) (ap (λ (k : KeptValue). k.keys.unrecorded) notes))
      (subst (Knows cap all) (sym notes) is)

-- after other changes of the keys, which recorded none
from_records : (handed : List (List ℕ × ℕ)) (writes : Writes) (old ready new : KeptValue)
    → ready.keys.is_recorded ≡ old.keys.is_recorded → ready.keys.unrecorded ≡ old.keys.unrecorded
    → Recorded handed writes ready new → Recorded handed writes old new
from_records handed writes old ready new kept same records journal =
    let r = records (kept ∙ journal) in (r.0, r.1 ∙ ap (λ xs. xs ++ reverse (map recorded writes)) same)

-- .. or before them
to_records : (handed : List (List ℕ × ℕ)) (writes : Writes) (old mid new : KeptValue) → new.keys ≡ mid.keys
    → Recorded handed writes old mid → Recorded handed writes old new
to_records handed writes old mid new same records journal =
    let r = records journal in (
      ap (λ (b : KeyBookValue). b.is_recorded) same ∙ r.0,
      ap (λ (b : KeyBookValue). handed ++ b.unrecorded) same ∙ r.1,
    )

from_ready : (cap : ℕ) (all : Deeds) (key : List ℕ) (command : DeskCommand) (reply : Reply) (old ready new : KeptValue)
    → ready.desk ≡ old.desk → ready.keys.is_recorded ≡ old.keys.is_recorded
    → ready.keys.unrecorded ≡ old.keys.unrecorded → Turned cap all key command reply ready new
    → Turned cap all key command reply old new
from_ready cap all key command reply old ready new same kept unrecorded t = record {
  entries = t.entries;
  log = t.log ∙ ap (λ (d : DeskValue). d.ledger.log.entries ++ t.entries) same;
  knows = t.knows;
  among = t.among;
  records = from_records [] (under (Some key) t.entries) old ready new kept unrecorded t.records;
  replies = t.replies;
}

acts_first : (cap : ℕ) (all : Deeds) (key : List ℕ) (command : DeskCommand) (reply : Reply) (old new : KeptValue)
    (was now : SeatValue) → Knows cap all old → outcome_of old.keys.keys key ≡ None
    → ActsFirst old was key command reply new now → Turned cap all key command reply old new
acts_first cap all key command reply old new was now is free (inl h) =
    let ready : KeptValue = with_room old h.book in
    let keys : h.done.keys ≡ ready.keys = acts_keep_keys ready was command reply h.done now h.acts in
    let grown : Knows cap all ready = keeps_keys cap all old.keys.keys ready.keys.keys is refl in
    from_ready cap all key command reply old ready new refl refl refl
    (first_by cap all key command reply ready h.done new keys
    (subst (λ (b : KeyBookValue). Has told_of cap all b.keys) (sym keys) grown)
    (still_free old h.book was key command reply h.done now h.acts free)
    (noted command reply) (leaves ready was command reply h.done now h.acts) h.notes)
acts_first cap all key command reply old new was now is free (inr h) =
    nothing cap all key command reply old new (ap log_of h.same_desk)
    (same_records old new (ap (λ (k : KeptValue). k.keys.is_recorded) h.same_desk)
    (ap (λ (k : KeptValue). k.keys.unrecorded) h.same_desk))
    (keeps_keys cap all old.keys.keys new.keys.keys is (ap (λ (k : KeptValue). k.keys.keys) h.same_desk))

acts_by : (cap : ℕ) (all : Deeds) (key : List ℕ) (command : DeskCommand) (reply : Reply) (old new : KeptValue)
    (was now : SeatValue) (o : Option Ending) → Knows cap all old → outcome_of old.keys.keys key ≡ o
    → ActsBy o old was key command reply new now → Turned cap all key command reply old new
acts_by cap all key command reply old new was now None is free h =
    acts_first cap all key command reply old new was now is free h
acts_by cap all key command reply old new was now (Some outcome) is free h =
    let u = frees_if (is_repeat outcome command) outcome old was new now h.1 in
    nothing cap all key command reply old new (ap (λ (l : LedgerValue). l.log.entries) u.ledger)
    (book_records old new u.keys)
    (subst (λ (b : KeyBookValue). Has told_of cap all b.keys) (sym u.keys) is)

acts_if : (cap : ℕ) (all : Deeds) (key : List ℕ) (command : DeskCommand) (reply : Reply) (old new : KeptValue)
    (was now : SeatValue) (takes : Bool) → Knows cap all old → ActsIf takes old was key command reply new now
    → Turned cap all key command reply old new
acts_if cap all key command reply old new was now false is h =
    nothing cap all key command reply old new (ap log_of h.1) (book_records old new (ap (λ (k : KeptValue). k.keys) h.1))
    (subst (Knows cap all) (sym h.1) is)
acts_if cap all key command reply old new was now true is h =
    let ready : KeptValue = h.0 in
    from_ready cap all key command reply old ready new (ap (λ (k : KeptValue). k.desk) h.1.rest)
    (ap (λ (k : KeptValue). k.keys.is_recorded) h.1.rest) (ap (λ (k : KeptValue). k.keys.unrecorded) h.1.rest)
    (acts_by cap all key command reply ready new was now (outcome_of ready.keys.keys key)
    (settled cap all old ready h.1 is) refl h.2)

pub turned : (cap : ℕ) (all : Deeds) (key : List ℕ) (command : DeskCommand) (reply : Reply) (old new : KeptValue)
    → Knows cap all old → ActsUnder old key command reply new → Turned cap all key command reply old new
turned cap all key command reply old new is h =
    acts_if cap all key command reply old new h.was h.now (nat_lt 0 old.keys.keys.cap) is h.acts

-- ---- what was written

pub wrote_is : (old new : KeptValue) (es : List EntryValue) → log_of new ≡ log_of old ++ es → wrote old new ≡ es
wrote_is old new es log =
    ap (drop (length (log_of old))) log ∙ drop-append_seam (log_of old) es

-- ---- a turn

-- what a turn made of log and keys
record Stepped (cap : ℕ) (all : Deeds) (handed : List (List ℕ × ℕ)) (writes : Writes) (old new : KeptValue) : Type 0 where
  more : List EntryValue
  log : log_of new ≡ log_of old ++ more
  knows : Knows cap (map deed writes ++ all) new
  among : All (λ w. Contains more w.1) writes
  records : Recorded handed writes old new

-- two turns, one after the other
then_recorded : (h1 h2 : List (List ℕ × ℕ)) (first later : Writes) (old mid new : KeptValue) → Recorded h1 first old mid
    → Recorded h2 later mid new → Recorded (h1 ++ h2) (later ++ first) old new
then_recorded h1 h2 first later old mid new s t journal =
    let one = s journal in
    let two = t one.0 in
    let before = reverse (map recorded first) in
    let after = reverse (map recorded later) in (
      two.0,
      append_assoc h1 h2 new.keys.unrecorded ∙ ap (λ xs. h1 ++ xs) two.1
          ∙ sym (append_assoc h1 mid.keys.unrecorded after) ∙ ap (λ xs. xs ++ after) one.1
          ∙ append_assoc old.keys.unrecorded before after
          ∙ ap (λ xs. old.keys.unrecorded ++ xs)
          (sym (ap reverse (map-append recorded later first) ∙ reverse-append (map recorded later) (map recorded first))),
    )

then_stepped : (cap : ℕ) (all : Deeds) (h1 h2 : List (List ℕ × ℕ)) (first later : Writes) (old mid new : KeptValue)
    → Stepped cap all h1 first old mid → Stepped cap (map deed first ++ all) h2 later mid new
    → Stepped cap all (h1 ++ h2) (later ++ first) old new
then_stepped cap all h1 h2 first later old mid new s t =
    let more : List EntryValue = s.more ++ t.more in
    record {
      more = more;
      log = t.log ∙ ap (λ es. es ++ t.more) s.log ∙ append_assoc (log_of old) s.more t.more;
      knows = subst (λ ds. Knows cap ds new)
          (sym (ap (λ ds. ds ++ all) (map-append deed later first)
          ∙ append_assoc (map deed later) (map deed first) all)) t.knows;
      among = All-append (λ w. Contains more w.1) later first
          (All-weaker (λ w. Contains t.more w.1) (λ w. Contains more w.1)
          (λ w h. Contains-append_right s.more t.more w.1 h) later t.among)
          (All-weaker (λ w. Contains s.more w.1) (λ w. Contains more w.1)
          (λ w h. Contains-append_left s.more t.more w.1 h) first s.among);
      records = then_recorded h1 h2 first later old mid new s.records t.records;
    }

none_stepped : (cap : ℕ) (all : Deeds) (handed : List (List ℕ × ℕ)) (old new : KeptValue) (more : List EntryValue)
    → log_of new ≡ log_of old ++ more → Recorded handed [] old new → Knows cap all new
    → Stepped cap all handed [] old new
none_stepped cap all handed old new more log records knows = record {
  more = more;
  log = log;
  knows = knows;
  among = All-nil (λ (w : List ℕ × EntryValue). Contains more w.1);
  records = records;
}

-- nothing changed
same_stepped : (cap : ℕ) (all : Deeds) (old new : KeptValue) → new ≡ old → Knows cap all old → Stepped cap all [] [] old new
same_stepped cap all old new same is =
    none_stepped cap all [] old new [] (ap log_of same ∙ sym (append-nil (log_of old)))
    (book_records old new (ap (λ (k : KeptValue). k.keys) same)) (subst (Knows cap all) (sym same) is)

-- ---- a tick

in_front : Option (ℕ × ℕ × ℕ) → ℕ
in_front (Some front) = front.1
in_front None = 0

module _ (cap : ℕ) (all : Deeds) (old new : KeptValue) (request : Request) (number : ℕ) (one : WroteOne old new
    (record { number = number; effect = effect.Spend request.amount; ticket = 0 })) (is : Knows cap all old) where
  served_by : (o : Option (List ℕ)) → key_of request.ticket old.keys.keys.waiting ≡ o
      → MatchOption o (new.keys ≡ old.keys) (λ key. ServesOne old.keys request.ticket number request.amount key new.keys)
      → Stepped cap all [] (under o (one.e ∷ [])) old new
  served_by None has serves = record {
    more = one.e ∷ [];
    log = one.log;
    knows = subst (λ (b : KeyBookValue). Has told_of cap all b.keys) (sym serves) is;
    among = under_all None one.e;
    records = book_records old new serves;
  }
  served_by (Some key) has serves =
      let s = served_at old.keys.keys new.keys.keys request.ticket number request.amount key has serves.keys in
      let same : (s.serves.spend.key, (number, Some (effect.Spend request.amount)))
      ≡ (key, (own one.e, effect_of_moves one.e.moves))
      = λ i. (s.same i, (sym one.number i, sym one.effect i)) in
      record {
        more = one.e ∷ [];
        log = one.log;
        knows = subst (λ (d : List ℕ × (ℕ × Option Effect)). Knows cap (d ∷ all) new) same
            (called told_of cap all old.keys.keys
            ((s.serves.spend.key, record { number = number; effect = effect.Spend request.amount; ticket = s.serves.spend.ticket }) ∷ [])
            new.keys.keys is (inr (inr (inr (inl (record {
              place = s.place;
              number = number;
              amount = request.amount;
              serves = s.serves;
              adds = refl;
            }))))));
        among = under_all (Some key) one.e;
        records = one_record old new key number one.e one.number serves.is_recorded serves.unrecorded;
      }

served_next : (cap : ℕ) (all : Deeds) (old new : KeptValue) (was now : SeatValue) (request : Request) → Knows cap all old
    → ServesNext old was request new now
    → Stepped cap all [] (under (key_of request.ticket old.keys.keys.waiting) (wrote old new)) old new
unfolding in_front
served_next cap all old new was now request is s =
    let amount : s.desk.amount ≡ request.amount
    = ap in_front (sym s.desk.front ∙ ap front_of s.first) in
    let one = one_entry old new (move.Spend s.desk.amount ∷ [])
    (record { number = s.number; effect = effect.Spend request.amount; ticket = 0 })
    s.desk.entry.log s.desk.at_end (ap (λ (n : ℕ). Some (effect.Spend n)) amount) in
    let o : Option (List ℕ) = key_of request.ticket old.keys.keys.waiting in
    subst (λ es. Stepped cap all [] (under o es) old new) (sym (wrote_is old new (one.e ∷ []) one.log))
    (served_by cap all old new request s.number one is o refl s.key)

served_each : (cap : ℕ) (all : Deeds) (old : KeptValue) (was : SeatValue) (served : List Request) (new : KeptValue)
    (now : SeatValue) → Knows cap all old → (h : ServesEach old was served new now)
    → Stepped cap all [] (serve_writes old was served new now h) old new
served_each cap all old was [] new now is h =
    same_stepped cap all old new h.0 is
served_each cap all old was (request ∷ others) new now is h =
    let first = served_next cap all old h.0 was h.1 request is h.2 in
    let writes : Writes = under (key_of request.ticket old.keys.keys.waiting) (wrote old h.0) in
    then_stepped cap all [] [] writes (serve_writes h.0 h.1 others new now h.3) old h.0 new first
    (served_each cap (map deed writes ++ all) h.0 h.1 others new now first.knows h.3)

-- the desk alone changed before, and its log did not
from_desk : (cap : ℕ) (all : Deeds) (writes : Writes) (old mid new : KeptValue) → mid.desk.ledger ≡ old.desk.ledger
    → mid.keys ≡ old.keys → Stepped cap all [] writes mid new → Stepped cap all [] writes old new
from_desk cap all writes old mid new same keys s = record {
  more = s.more;
  log = s.log ∙ ap (λ (l : LedgerValue). l.log.entries ++ s.more) same;
  knows = s.knows;
  among = s.among;
  records = from_records [] writes old mid new (ap (λ (b : KeyBookValue). b.is_recorded) keys)
      (ap (λ (b : KeyBookValue). b.unrecorded) keys) s.records;
}

-- .. or afterwards
to_desk : (cap : ℕ) (all : Deeds) (writes : Writes) (old mid new : KeptValue) → log_of new ≡ log_of mid
    → new.keys ≡ mid.keys → Stepped cap all [] writes old mid → Stepped cap all [] writes old new
to_desk cap all writes old mid new log keys s = record {
  more = s.more;
  log = log ∙ s.log;
  knows = subst (λ (b : KeyBookValue). Has told_of cap (map deed writes ++ all) b.keys) (sym keys) s.knows;
  among = s.among;
  records = to_records [] writes old mid new keys s.records;
}

same_book : (cap : ℕ) (all : Deeds) (old new : KeptValue) → new.keys ≡ old.keys → Knows cap all old → Knows cap all new
same_book cap all old new keys is = subst (λ (b : KeyBookValue). Has told_of cap all b.keys) (sym keys) is

ticked_by : (cap : ℕ) (all : Deeds) (silent : ℕ → Bool) (old : KeptValue) (was : SeatValue) (time : ℕ)
    (served : List Request) (ticked : Result Ticked DeskError) (new : KeptValue) (now : SeatValue) → Knows cap all old
    → (h : TicksBeside silent old was time served ticked new now)
    → Stepped cap all [] (tick_writes silent old was time served ticked new now h) old new
ticked_by cap all silent old was time served (Ok ticked) new now is h =
    let writes : Writes = serve_writes h.in_time was served h.left now h.serves.each in
    let keys : h.in_time.keys ≡ old.keys = ap (λ (k : KeptValue). k.keys) h.expires.rest in
    to_desk cap all writes old h.left new (ap (λ (d : DeskValue). d.ledger.log.entries) h.plans.desk.rest)
    (ap (λ (k : KeptValue). k.keys) h.plans.rest)
    (from_desk cap all writes old h.in_time h.left (ap (λ (d : DeskValue). d.ledger) h.expires.desk.rest) keys
    (served_each cap all h.in_time was served h.left now (same_book cap all old h.in_time keys is) h.serves.each))
ticked_by cap all silent old was time served (Err fault) new now is (inl h) =
    same_stepped cap all old new h.same_desk is
ticked_by cap all silent old was time served (Err fault) new now is (inr h) =
    let writes : Writes = serve_writes h.in_time was served new now h.fails.each in
    let keys : h.in_time.keys ≡ old.keys = ap (λ (k : KeptValue). k.keys) h.expires.rest in
    from_desk cap all writes old h.in_time new (ap (λ (d : DeskValue). d.ledger) h.expires.desk.rest) keys
    (served_each cap all h.in_time was served new now (same_book cap all old h.in_time keys is) h.fails.each)

-- ---- all turns

stepped : (cap : ℕ) (all : Deeds) (old : KeptValue) (turn : KeyTurn) (new : KeptValue) → Knows cap all old
    → (h : HasKeyTurn old turn new) → Stepped cap all (handed_in old turn) (turn_writes old turn new h) old new
stepped cap all old (UnderKey key command reply) new is h =
    let t = turned cap all key command reply old new is h in
    subst (λ es. Stepped cap all [] (under (Some key) es) old new) (sym (wrote_is old new t.entries t.log)) (record {
      more = t.entries;
      log = t.log;
      knows = t.knows;
      among = t.among;
      records = t.records;
    })
stepped cap all old ByTick new is h =
    ticked_by cap all h.silent old h.was h.time h.served h.ticked new h.now is h.ticks
stepped cap all old (HandsOver lines) new is h =
    none_stepped cap all old.keys.unrecorded old new [] (ap log_of h.rest ∙ sym (append-nil (log_of old)))
    (λ journal. (
      ap (λ (k : KeptValue). k.keys.is_recorded) h.rest ∙ journal,
      ap (λ (k : KeptValue). old.keys.unrecorded ++ k.keys.unrecorded) h.rest,
    ))
    (subst (Has told_of cap all) (sym (ap (λ (k : KeptValue). k.keys.keys) h.rest)) is)
stepped cap all old Aside new is h =
    none_stepped cap all [] old new h.more h.log (book_records old new h.keys) (same_book cap all old new h.keys is)

all_stepped : (cap : ℕ) (all : Deeds) (old : KeptValue) (turns : List KeyTurn) (new : KeptValue) → Knows cap all old
    → (h : HasKeyTurns old turns new)
    → Stepped cap all (keys_handed old turns new h) (writes_in old turns new h) old new
all_stepped cap all old [] new is h =
    same_stepped cap all old new h is
all_stepped cap all old (turn ∷ turns) new is h =
    let first = stepped cap all old turn h.0 is h.1 in
    let writes : Writes = turn_writes old turn h.0 h.1 in
    then_stepped cap all (handed_in old turn) (keys_handed h.0 turns new h.2) writes (writes_in h.0 turns new h.2) old h.0 new first
    (all_stepped cap (map deed writes ++ all) h.0 turns new first.knows h.2)

none_of : {V : Type 0} (cap : ℕ) → [] ≡ last_of {V = V} cap []
none_of zero = refl
none_of (suc n) = refl

pub last_writes : LastWrites
last_writes = record {
  at_first = λ k room h. record {
    last = ap (λ (keys : KeysValue). map (told told_of) keys.written) h ∙ none_of k.keys.keys.cap;
    once = subst IsOnce (sym h) (λ key. omega arith);
    own_entries = All-nil (λ (w : List ℕ × EntryValue). Contains (log_of k) w.1);
  };
  later = λ writes old turns new h is.
      (let cap : ℕ = old.keys.keys.cap in
      let s = all_stepped cap (map deed writes) old turns new
      (record { cap_is = refl; last = is.last; once = is.once }) h in
      let later : Writes = writes_in old turns new h in
      record {
        last = s.knows.last ∙ (λ i. last_of (sym s.knows.cap_is i) (sym (map-append deed later writes) i));
        once = s.knows.once;
        own_entries = subst (λ es. All (λ w. Contains es w.1) (later ++ writes)) (sym s.log)
            (All-append (λ w. Contains (log_of old ++ s.more) w.1) later writes
            (All-weaker (λ w. Contains s.more w.1) (λ w. Contains (log_of old ++ s.more) w.1)
            (λ w h. Contains-append_right (log_of old) s.more w.1 h) later s.among)
            (All-weaker (λ w. Contains (log_of old) w.1) (λ w. Contains (log_of old ++ s.more) w.1)
            (λ w h. Contains-append_left (log_of old) s.more w.1 h) writes is.own_entries));
      });
}

pub writes_are_recorded : WritesAreRecorded
writes_are_recorded writes old turns new h is journal =
    ((all_stepped old.keys.keys.cap (map deed writes) old turns new
    (record { cap_is = refl; last = is.last; once = is.once }) h).records journal).1

-- .. in one turn
pub turn_recorded : (writes : Writes) (old : KeptValue) (turn : KeyTurn) (new : KeptValue) → Remembers writes old
    → (h : HasKeyTurn old turn new) → Recorded (handed_in old turn) (turn_writes old turn new h) old new
turn_recorded writes old turn new is h =
    (stepped old.keys.keys.cap (map deed writes) old turn new
    (record { cap_is = refl; last = is.last; once = is.once }) h).records
