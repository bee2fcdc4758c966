-- The keys of a site over turns, appends, crashes and starts, by the lines of its journal.
use Rattle.std.proofs.Common.{◌≡◌, ◌∙◌, ◌⊎◌, inl, inr, ℕ, zero, suc, ◌+◌, ◌<◌, ◌≤◌, min, Bool, true, false, List, [], ◌∷◌, ◌++◌}
use Rattle.std.proofs.Common.{eqb, drop, map, reverse, Some, None, Result, Ok, Err, refl, sym, ap, subst, arith}
use Rattle.std.specs.Prelude.{◌^◌, ◌-◌, nat_lt, decimal, MatchOption}
use Rattle.std.specs.List.{All, Contains}
use Rattle.std.proofs.lemmas.List.{append-nil, append_assoc, map-append, reverse-append, reverse-reverse}
use Rattle.std.proofs.lemmas.List.Elements.{All-nil, All-cons, All-head, All-tail, All-append}
use Rattle.std.proofs.lemmas.List.Splits.{slice_split_none}
use Rattle.rights_types.specs.Entries.{EntryValue, own}
use Rattle.rights_types.specs.Chains.{IsChain}
use Rattle.rights_types.proofs.Chains.{is_entry}
use Rattle.rights_protocol.specs.Crashes.{lists_of, no_lists}
use Rattle.rights_protocol.specs.Schedules.{SiteLists}
use Rattle.request_queue.specs.declared.request.Request.{Request}
use Rattle.request_queue.specs.declared.queue.TheConstants.{LAST_TICKET}
use Rattle.entry_codec.specs.Moves.{first_number, only_number}
use Rattle.entry_codec.proofs.Bytes.{decimal_lacks}
use Rattle.entry_codec.proofs.Numbers.{number_some}
use Rattle.line_streams.specs.Words.{words_of}
use Rattle.command_keys.specs.Key.{IsKey}
use Rattle.command_keys.specs.Keys.{key_of}
use Rattle.command_keys.specs.Books.{KeyBookValue, ServesOne}
use Rattle.command_keys.specs.declared.outcome.Waiting.{Waiting}
use Rattle.site_core.specs.declared.fault.DeskError.{DeskError}
use Rattle.site_journal.specs.Format.{Takes, records_of}
use Rattle.site_journal.proofs.Framed.{stands_once}
use Rattle.site_records.specs.Openings.{OpeningValue, opening_text, tickets_in, tickets_text}
use Rattle.site_records.specs.KeyRecords.{key_record_in, keys_in, just as just_key}
use Rattle.site_records.specs.Restores.{message_in, steps_in}
use Rattle.apply_lanes.specs.Names.{DeskId}
use Rattle.apply_lanes.specs.Kepts.{KeptValue, IsKept, SeatValue}
use Rattle.apply_lanes.specs.Keeping.{IsJournaled}
use Rattle.apply_lanes.proofs.StepLaws.{protocol_of}
use Rattle.site_node.specs.Keyed.{ActsIf}
use Rattle.site_node.specs.Ticking.{ServesEach, TicksBeside}
use Rattle.site_node.specs.declared.tick.Ticked.{Ticked}
use Rattle.site_node.specs.Remembering.{KeyTurn, HasKeyTurn, wrote, under, serve_writes, tick_writes, turn_writes, handed_in}
use Rattle.site_node.specs.Remembering.{recorded, Remembers}
use Rattle.site_node.specs.Remembering.KeyTurn.{UnderKey, ByTick, HandsOver, Aside}
use Rattle.site_node.proofs.RememberLaws.{last_writes, turn_recorded, wrote_is}
use Rattle.desk_turns.specs.KeyTurns.{handed_after}
use Rattle.desk_turns.specs.JournalLines.{behind, log_said, SaysWrites, IsKeyRecord}
use Rattle.desk_turns.proofs.RecordTexts.{steps_in-append, keys_in-append, step_of, All-right}
use Rattle.site_server.specs.Starting.{ReplayingValue, StartTakes, first_lines}
use Rattle.site_server.specs.declared.site.replaying.TheConstants.{TICKETS}
use Rattle.site_server.specs.KeysOnDisk.{Stage, SiteOnDisk, DiskEvent, TakesTurnAt, TellsNext, Restarts, AllOnDisk, IsEmptyFile, KeysAreOnDisk}
use Rattle.site_server.specs.KeysOnDisk.{OnDisk, IsMore, ToldIsNotLost, batches, batch_of, with_batch, writes_by}
use Rattle.site_server.specs.KeysOnDisk.DiskEvent.{Turned, Told, Restarted}
use Rattle.site_server.proofs.AskLaws.{no_asks, no_asks-append, lists_no_asks, handed_says}
use Rattle.site_server.proofs.AloneLaws.{Lines, tickets_no_key, taken_after}
use Rattle.site_server.proofs.KeyTypeLaws.{Writes, WaitsTyped, WritesTyped, TypedTurn, turn_typed, All-reverse}
use Rattle.site_server.proofs.StartKeyLaws.{log_of, starts_remember_journal, started_handed, started_waiting}

-- ---- a site that takes no keys

record TakesNone (b : KeyBookValue) : Type 0 where
  cap : b.keys.cap ≡ 0
  waiting : b.keys.waiting ≡ []
  none : b.unrecorded ≡ []

-- a journal is kept, or no keys are taken
abbrev Keeps : KeyBookValue → Type 0
Keeps b = (b.is_recorded ≡ true) ⊎ TakesNone b

-- what a turn leaves that writes nothing under keys
record WroteNone (new : KeptValue) (writes : Writes) : Type 0 where
  keys : TakesNone new.keys
  none : writes ≡ []

none_after : (old new : KeptValue) → TakesNone old.keys → new.keys ≡ old.keys → TakesNone new.keys
none_after old new is same = subst TakesNone (sym same) is

none_serves : (old : KeptValue) (was : SeatValue) (served : List Request) (new : KeptValue) (now : SeatValue)
    → TakesNone old.keys → (h : ServesEach old was served new now) → WroteNone new (serve_writes old was served new now h)
none_serves old was [] new now is h =
    record { keys = none_after old new is (ap (λ (k : KeptValue). k.keys) h.0); none = refl }
none_serves old was (request ∷ others) new now is h =
    let key : key_of request.ticket old.keys.keys.waiting ≡ None = ap (key_of request.ticket) is.waiting in
    let same : h.0.keys ≡ old.keys = subst (λ o. MatchOption o (h.0.keys ≡ old.keys)
    (λ k. ServesOne old.keys request.ticket h.2.number request.amount k h.0.keys)) key h.2.key in
    let rest = none_serves h.0 h.1 others new now (none_after old h.0 is same) h.3 in
    record { keys = rest.keys; none = (λ i. rest.none i ++ under (key i) (wrote old h.0)) }

none_ticks : (silent : ℕ → Bool) (old : KeptValue) (was : SeatValue) (time : ℕ) (served : List Request)
    (ticked : Result Ticked DeskError) (new : KeptValue) (now : SeatValue) → TakesNone old.keys
    → (h : TicksBeside silent old was time served ticked new now)
    → WroteNone new (tick_writes silent old was time served ticked new now h)
none_ticks silent old was time served (Ok ticked) new now is h =
    let begun = none_after old h.in_time is (ap (λ (k : KeptValue). k.keys) h.expires.rest) in
    let done = none_serves h.in_time was served h.left now begun h.serves.each in
    record { keys = none_after h.left new done.keys (ap (λ (k : KeptValue). k.keys) h.plans.rest); none = done.none }
none_ticks silent old was time served (Err fault) new now is (inl h) =
    record { keys = none_after old new is (ap (λ (k : KeptValue). k.keys) h.same_desk); none = refl }
none_ticks silent old was time served (Err fault) new now is (inr h) =
    none_serves h.in_time was served new now (none_after old h.in_time is (ap (λ (k : KeptValue). k.keys) h.expires.rest))
    h.fails.each

none_turn : (old : KeptValue) (turn : KeyTurn) (new : KeptValue) → TakesNone old.keys → (h : HasKeyTurn old turn new)
    → WroteNone new (turn_writes old turn new h)
none_turn old (UnderKey key command reply) new is h =
    let refused = subst (λ c. ActsIf (nat_lt 0 c) old h.was key command reply new h.now) is.cap h.acts in
    record {
      keys = none_after old new is (ap (λ (k : KeptValue). k.keys) refused.1);
      none = ap (under (Some key)) (wrote_is old new [] (ap log_of refused.1 ∙ sym (append-nil (log_of old))));
    }
none_turn old ByTick new is h = none_ticks h.silent old h.was h.time h.served h.ticked new h.now is h.ticks
none_turn old (HandsOver lines) new is h = record {
  keys = record {
    cap = ap (λ (k : KeptValue). k.keys.keys.cap) h.rest ∙ is.cap;
    waiting = ap (λ (k : KeptValue). k.keys.keys.waiting) h.rest ∙ is.waiting;
    none = ap (λ (k : KeptValue). k.keys.unrecorded) h.rest;
  };
  none = refl;
}
none_turn old Aside new is h = record { keys = none_after old new is h.keys; none = refl }

none_handed : (old : KeptValue) (turn : KeyTurn) → old.keys.unrecorded ≡ [] → handed_in old turn ≡ []
none_handed old (UnderKey key command reply) none = refl
none_handed old ByTick none = refl
none_handed old (HandsOver lines) none = none
none_handed old Aside none = refl

-- ---- the keys of a turn

record TurnKeys (old new : KeptValue) (handed : List (List ℕ × ℕ)) (writes : Writes) : Type 0 where
  keeps : Keeps new.keys
  same : handed ++ new.keys.unrecorded ≡ old.keys.unrecorded ++ reverse (map recorded writes)

turn_keys : (before : Writes) (old : KeptValue) (turn : KeyTurn) (new : KeptValue) → Remembers before old → Keeps old.keys
    → (h : HasKeyTurn old turn new) → TurnKeys old new (handed_in old turn) (turn_writes old turn new h)
turn_keys before old turn new is (inl journal) h =
    let r = turn_recorded before old turn new is h journal in
    record { keeps = inl r.0; same = r.1 }
turn_keys before old turn new is (inr none) h =
    let w = none_turn old turn new none h in
    record {
      keeps = inr w.keys;
      same = (λ i. none_handed old turn none.none i ++ w.keys.none i)
          ∙ sym (λ i. none.none i ++ reverse (map recorded (w.none i)));
    }

-- ---- the keys that wait are those of entries

key_records : (o : ℕ) (log : List EntryValue) (ws : Writes) → IsChain o log → All (λ w. Contains log w.1) ws → WritesTyped ws
    → All IsKeyRecord (map recorded ws)
key_records o log [] chain there typed = All-nil IsKeyRecord
key_records o log (w ∷ ws) chain there typed =
    let is = (is_entry o false 0 log w.1 chain (All-head (λ (v : List ℕ × EntryValue). Contains log v.1) w ws there)).0 in
    All-cons IsKeyRecord (recorded w) (map recorded ws) (record {
      key = All-head (λ (v : List ℕ × EntryValue). IsKey v.0) w ws typed;
      some = omega (arith, is.some);
      within = is.number;
    })
    (key_records o log ws chain (All-tail (λ (v : List ℕ × EntryValue). Contains log v.1) w ws there)
    (All-tail (λ (v : List ℕ × EntryValue). IsKey v.0) w ws typed))

waiting_keys : (un said all : List (List ℕ × ℕ)) → reverse un ++ said ≡ all → All IsKeyRecord all → All IsKeyRecord un
waiting_keys un said all same have =
    All-right IsKeyRecord (reverse said) un
    (subst (All IsKeyRecord)
    (ap reverse (sym same) ∙ reverse-append (reverse un) said ∙ ap (λ ks. reverse said ++ ks) (reverse-reverse un))
    (All-reverse IsKeyRecord all have))

-- ---- the lines of a turn

abbrev lines_of : KeyTurn → Lines
lines_of (UnderKey key command reply) = []
lines_of ByTick = []
lines_of (HandsOver lines) = lines
lines_of Aside = []

-- the lines that the journal has or was handed
abbrev lines_in : Stage → List Stage → Lines
lines_in told handed = told.lines ++ records_of (batches handed)

lines_more : (told : Stage) (handed : List Stage) (batch : Stage)
    → lines_in told (handed ++ batch ∷ []) ≡ lines_in told handed ++ batch.lines
lines_more told [] batch =
    ap (λ ls. told.lines ++ ls) (append-nil batch.lines) ∙ ap (λ ls. ls ++ batch.lines) (sym (append-nil told.lines))
lines_more told (b ∷ handed) batch =
    sym (append_assoc told.lines b.lines (records_of (batches (handed ++ batch ∷ []))))
    ∙ lines_more (with_batch told b) handed batch
    ∙ ap (λ ls. ls ++ batch.lines) (append_assoc told.lines b.lines (records_of (batches handed)))

lines_after : (told : Stage) (handed : List Stage) (turn : KeyTurn) (writes : Writes)
    → lines_in told (handed ++ batch_of turn writes) ≡ lines_in told handed ++ lines_of turn
lines_after told handed (UnderKey key command reply) writes =
    ap (lines_in told) (append-nil handed) ∙ sym (append-nil (lines_in told handed))
lines_after told handed ByTick writes =
    ap (lines_in told) (append-nil handed) ∙ sym (append-nil (lines_in told handed))
lines_after told handed (HandsOver lines) writes = lines_more told handed (record { lines = lines; writes = writes })
lines_after told handed Aside writes =
    ap (lines_in told) (append-nil handed) ∙ sym (append-nil (lines_in told handed))

record TurnLines (s : ℕ) (old : KeptValue) (turn : KeyTurn) : Type 0 where
  keys : keys_in (lines_of turn) ≡ reverse (handed_in old turn)
  steps : no_asks old.handed ++ no_asks (steps_in s (lines_of turn)) ≡ no_asks (handed_after turn old)

turn_lines : (id : DeskId) (old : KeptValue) (turn : KeyTurn) (new : KeptValue) → IsKept id old
    → All IsKeyRecord old.keys.unrecorded → HasKeyTurn old turn new → TurnLines id.site old turn
turn_lines id old (UnderKey key command reply) new valid keys h =
    record { keys = refl; steps = append-nil (no_asks old.handed) }
turn_lines id old ByTick new valid keys h = record { keys = refl; steps = append-nil (no_asks old.handed) }
turn_lines id old (HandsOver lines) new valid keys h =
    let r = handed_says id old lines valid keys h.handed in
    record {
      keys = r.said;
      steps = ap (λ rs. no_asks old.handed ++ rs) r.steps
          ∙ sym (no_asks-append old.handed h.handed.records.rest) ∙ ap no_asks h.handed.records.whole;
    }
turn_lines id old Aside new valid keys h = record { keys = refl; steps = append-nil (no_asks old.handed) }

-- ---- after any of these

abbrev head_or : Lines → List Lines → Lines
head_or other [] = other
head_or other (one ∷ lines) = one

behind_more : (lines more rest : Lines) (first : List ℕ) → lines ≡ first ∷ rest
    → behind (lines ++ more) ≡ behind lines ++ more
behind_more lines more rest first is = ap (λ ls. behind (ls ++ more)) is ∙ sym (ap (λ ls. behind ls ++ more) is)

abbrev StageSays : DeskId → Stage → Type 0
StageSays id st = SaysWrites id.site st.lines st.writes

-- whatever first of the batches are there, the lines say what was written by then
abbrev AllSay : DeskId → Stage → List Stage → Type 0
AllSay id told [] = StageSays id told
AllSay id told (b ∷ handed) = StageSays id told × AllSay id (with_batch told b) handed

first_says : (id : DeskId) (told : Stage) (handed : List Stage) → AllSay id told handed → StageSays id told
first_says id told [] says = says
first_says id told (b ∷ handed) says = says.0

all_say_more : (id : DeskId) (told : Stage) (handed : List Stage) (batch : Stage) → AllSay id told handed
    → SaysWrites id.site (lines_in told (handed ++ batch ∷ [])) batch.writes → AllSay id told (handed ++ batch ∷ [])
all_say_more id told [] batch says last =
    (says, subst (λ ls. SaysWrites id.site (told.lines ++ ls) batch.writes) (append-nil batch.lines) last)
all_say_more id told (b ∷ handed) batch says last = (
  says.0,
  all_say_more id (with_batch told b) handed batch says.1
      (subst (λ ls. SaysWrites id.site ls batch.writes)
      (sym (append_assoc told.lines b.lines (records_of (batches (handed ++ batch ∷ []))))) last),
)

front_says : (id : DeskId) (told : Stage) (handed : List Stage) (first later : List Lines) → AllSay id told handed
    → first ++ later ≡ batches handed
    → SaysWrites id.site (told.lines ++ records_of first) (writes_by told.writes first handed)
front_says id told handed [] later says same =
    subst (λ ls. SaysWrites id.site ls told.writes) (sym (append-nil told.lines)) (first_says id told handed says)
front_says id told [] (one ∷ first) later says same = absurd cc
front_says id told (b ∷ handed) (one ∷ first) later says same =
    let rest = front_says id (with_batch told b) handed first later says.1 (ap (drop 1) same) in
    let head : one ≡ b.lines = ap (head_or []) same in
    subst (λ ls. SaysWrites id.site ls (writes_by b.writes first handed))
    (append_assoc told.lines b.lines (records_of first) ∙ ap (λ ls. told.lines ++ (ls ++ records_of first)) (sym head)) rest

-- ---- what was written by then

more_same : (ws : Writes) → IsMore ws ws
more_same ws = ([], refl)

more_more : (old mid new : Writes) → IsMore old mid → IsMore mid new → IsMore old new
more_more old mid new a b = (b.0 ++ a.0, b.1 ∙ ap (λ ws. b.0 ++ ws) a.1 ∙ sym (append_assoc b.0 a.0 old))

-- from batch to batch more was written
abbrev Grows : Writes → List Stage → Writes → Type 0
Grows told [] now = IsMore told now
Grows told (b ∷ handed) now = IsMore told b.writes × Grows b.writes handed now

grows_now : (told : Writes) (handed : List Stage) (mid now : Writes) → Grows told handed mid → IsMore mid now
    → Grows told handed now
grows_now told [] mid now h more = more_more told mid now h more
grows_now told (b ∷ handed) mid now h more = (h.0, grows_now b.writes handed mid now h.1 more)

grows_batch : (told : Writes) (handed : List Stage) (mid : Writes) (batch : Stage) → Grows told handed mid
    → IsMore mid batch.writes → Grows told (handed ++ batch ∷ []) batch.writes
grows_batch told [] mid batch h more = (more_more told mid batch.writes h more, more_same batch.writes)
grows_batch told (b ∷ handed) mid batch h more = (h.0, grows_batch b.writes handed mid batch h.1 more)

grows_whole : (told : Writes) (handed : List Stage) (now : Writes) → Grows told handed now → IsMore told now
grows_whole told [] now h = h
grows_whole told (b ∷ handed) now h = more_more told b.writes now h.0 (grows_whole b.writes handed now h.1)

grows_first : (told : Writes) (first : List Lines) (handed : List Stage) (now : Writes) → Grows told handed now
    → IsMore told (writes_by told first handed)
grows_first told [] handed now h = more_same told
grows_first told (one ∷ first) [] now h = more_same told
grows_first told (one ∷ first) (b ∷ handed) now h =
    more_more told b.writes (writes_by b.writes first handed) h.0 (grows_first b.writes first handed now h.1)

grows_rest : (told : Writes) (first : List Lines) (handed : List Stage) (now : Writes) → Grows told handed now
    → IsMore (writes_by told first handed) now
grows_rest told [] handed now h = grows_whole told handed now h
grows_rest told (one ∷ first) [] now h = h
grows_rest told (one ∷ first) (b ∷ handed) now h = grows_rest b.writes first handed now h.1

more_typed : (old new : Writes) → IsMore old new → WritesTyped new → WritesTyped old
more_typed old new more typed =
    All-right (λ (w : List ℕ × EntryValue). IsKey w.0) more.0 old (subst WritesTyped more.1 typed)

record Sound (id : DeskId) (site : SiteOnDisk) : Type 0 where
  remembers : Remembers site.writes site.kept
  valid : IsKept id site.kept
  keeps : Keeps site.kept.keys
  said : reverse site.kept.keys.unrecorded ++ keys_in (behind (lines_in site.told site.handed)) ≡ map recorded site.writes
  handed : no_asks (steps_in id.site (behind (lines_in site.told site.handed))) ≡ no_asks site.kept.handed
  first : List ℕ
  rest : Lines
  some : lines_in site.told site.handed ≡ first ∷ rest
  stages : AllSay id site.told site.handed
  grows : Grows site.told.writes site.handed site.writes
  waits : WaitsTyped site.kept
  typed : WritesTyped site.writes

module _ (id : DeskId) (old : SiteOnDisk) (turn : KeyTurn) (new : SiteOnDisk) (is : Sound id old)
    (t : TakesTurnAt id old turn new) where
  abbrev has : HasKeyTurn old.kept turn new.kept
  has = t.turned.has

  abbrev more : Writes
  more = turn_writes old.kept turn new.kept t.turned.has

  abbrev old_lines : Lines
  old_lines = lines_in old.told old.handed

  abbrev new_lines : Lines
  new_lines = lines_in new.told new.handed

  remembers : Remembers new.writes new.kept
  remembers = subst (λ ws. Remembers ws new.kept) (sym t.writes)
      (last_writes.later old.writes old.kept (turn ∷ []) new.kept (new.kept, t.turned.has, refl) is.remembers)

  keys_now : TurnKeys old.kept new.kept (handed_in old.kept turn) more
  keys_now = turn_keys old.writes old.kept turn new.kept is.remembers is.keeps t.turned.has

  lines_now : TurnLines id.site old.kept turn
  lines_now =
      turn_lines id old.kept turn new.kept is.valid
      (waiting_keys old.kept.keys.unrecorded (keys_in (behind old_lines)) (map recorded old.writes) is.said
      (key_records id.site (log_of old.kept) old.writes (protocol_of id old.kept is.valid).chain is.remembers.own_entries
      is.typed)) t.turned.has

  lines_are : new_lines ≡ old_lines ++ lines_of turn
  lines_are = (λ i. lines_in (t.told i) (t.handed i)) ∙ lines_after old.told old.handed turn new.writes

  behind_now : behind new_lines ≡ behind old_lines ++ lines_of turn
  behind_now = ap behind lines_are ∙ behind_more old_lines (lines_of turn) is.rest is.first is.some

  said_now : reverse new.kept.keys.unrecorded ++ keys_in (behind new_lines) ≡ map recorded new.writes
  said_now =
      let un = old.kept.keys.unrecorded in
      let now = new.kept.keys.unrecorded in
      let handed = handed_in old.kept turn in
      let said = keys_in (behind old_lines) in
      let words = map recorded more in
      ap (λ ls. reverse now ++ keys_in ls) behind_now
      ∙ ap (λ ks. reverse now ++ ks) (keys_in-append (behind old_lines) (lines_of turn) ∙ ap (λ ks. ks ++ said) lines_now.keys)
      ∙ sym (append_assoc (reverse now) (reverse handed) said)
      ∙ ap (λ ks. ks ++ said) (sym (reverse-append handed now) ∙ ap reverse keys_now.same
      ∙ reverse-append un (reverse words) ∙ ap (λ ks. ks ++ reverse un) (reverse-reverse words))
      ∙ append_assoc words (reverse un) said ∙ ap (λ ks. words ++ ks) is.said
      ∙ sym (map-append recorded more old.writes) ∙ ap (map recorded) (sym t.writes)

  handed_now : no_asks (steps_in id.site (behind new_lines)) ≡ no_asks new.kept.handed
  handed_now =
      ap (λ ls. no_asks (steps_in id.site ls)) behind_now
      ∙ ap no_asks (steps_in-append id.site (behind old_lines) (lines_of turn))
      ∙ no_asks-append (steps_in id.site (behind old_lines)) (steps_in id.site (lines_of turn))
      ∙ ap (λ rs. rs ++ no_asks (steps_in id.site (lines_of turn))) is.handed ∙ lines_now.steps
      ∙ ap no_asks (sym t.turned.handed)

  -- the journal says what was written, once it was handed everything
  stage_says : new.kept.keys.unrecorded ≡ [] → new.kept.handed ≡ new.kept.records
      → SaysWrites id.site new_lines new.writes
  stage_says none whole = record {
    keys = ap (λ un. reverse un ++ keys_in (behind new_lines)) (sym none) ∙ said_now;
    entries = subst (λ es. All (λ w. Contains es w.1) new.writes)
        (t.valid.protocol.log
        ∙ ap (λ (l : SiteLists). l.log) (sym (lists_no_asks id.site no_lists new.kept.records))
        ∙ ap (λ rs. (lists_of id.site rs).log) (sym (handed_now ∙ ap no_asks whole))
        ∙ ap (λ (l : SiteLists). l.log) (lists_no_asks id.site no_lists (steps_in id.site (behind new_lines))))
        remembers.own_entries;
  }

  old_say : AllSay id new.told old.handed
  old_say = subst (λ st. AllSay id st old.handed) (sym t.told) is.stages

  none_more : AllSay id new.told (old.handed ++ [])
  none_more = subst (AllSay id new.told) (sym (append-nil old.handed)) old_say

  stages_now : (one : KeyTurn) → HasKeyTurn old.kept one new.kept → new.handed ≡ old.handed ++ batch_of one new.writes
      → AllSay id new.told (old.handed ++ batch_of one new.writes)
  stages_now (UnderKey key command reply) h same = none_more
  stages_now ByTick h same = none_more
  stages_now Aside h same = none_more
  stages_now (HandsOver lines) h same =
      all_say_more id new.told old.handed (record { lines = lines; writes = new.writes }) old_say
      (subst (λ bs. SaysWrites id.site (lines_in new.told bs) new.writes) same
      (stage_says (ap (λ (k : KeptValue). k.keys.unrecorded) h.rest)
      (ap (λ (k : KeptValue). k.handed) h.rest ∙ sym (ap (λ (k : KeptValue). k.records) h.rest))))

  types_now : TypedTurn new.kept more
  types_now = turn_typed old.kept turn new.kept t.key is.waits t.turned.has

  now_more : IsMore old.writes new.writes
  now_more = (more, t.writes)

  grows_same : Grows old.told.writes (old.handed ++ []) new.writes
  grows_same =
      subst (λ bs. Grows old.told.writes bs new.writes) (sym (append-nil old.handed))
      (grows_now old.told.writes old.handed old.writes new.writes is.grows now_more)

  grows_turn : (one : KeyTurn) → Grows old.told.writes (old.handed ++ batch_of one new.writes) new.writes
  grows_turn (UnderKey key command reply) = grows_same
  grows_turn ByTick = grows_same
  grows_turn Aside = grows_same
  grows_turn (HandsOver lines) =
      grows_batch old.told.writes old.handed old.writes (record { lines = lines; writes = new.writes }) is.grows now_more

  took_turn : Sound id new
  took_turn = record {
    remembers = remembers;
    valid = t.valid;
    keeps = keys_now.keeps;
    said = said_now;
    handed = handed_now;
    first = is.first;
    rest = is.rest ++ lines_of turn;
    some = lines_are ∙ ap (λ ls. ls ++ lines_of turn) is.some;
    stages = subst (AllSay id new.told) (sym t.handed) (stages_now turn t.turned.has t.handed);
    grows = subst (λ (x : Stage × List Stage). Grows x.0.writes x.1 new.writes)
        (λ i. (sym t.told i, sym t.handed i)) (grows_turn turn);
    waits = types_now.waits;
    typed = subst WritesTyped (sym t.writes)
        (All-append (λ (w : List ℕ × EntryValue). IsKey w.0) more old.writes types_now.writes_are is.typed);
  }

-- ---- the first lines of a process

tickets_read : (n : ℕ) → n < 2 ^ 64 → 1 ≤ n → n ≤ LAST_TICKET → tickets_in (words_of (tickets_text n)) ≡ Some n
unfolding only_number first_number
tickets_read n fits low high =
    ap (λ (ws : List (List ℕ)). tickets_in ((84 ∷ []) ∷ ws))
    (slice_split_none (λ b. eqb b 32) (decimal n) (decimal_lacks 32 n (inl (omega arith)) fits))
    ∙ rw (number_some 1 LAST_TICKET n fits low high) refl

abbrev last_ticket : ℕ → ℕ
last_ticket tickets = min (min (tickets + TICKETS) (2 ^ 64 - 1)) LAST_TICKET

-- a line of tickets says no step and no key
record SaysNothing (line : List ℕ) : Type 0 where
  steps : (s : ℕ) → steps_in s (line ∷ []) ≡ []
  keys : keys_in (line ∷ []) ≡ []

tickets_say_nothing : (tickets : ℕ) → SaysNothing (tickets_text (last_ticket tickets))
tickets_say_nothing tickets =
    let n : ℕ = last_ticket tickets in
    let text : List ℕ = tickets_text n in
    let read = tickets_read n (omega arith) (omega arith) (omega arith) in
    record {
      steps = (λ s. ap (λ rs. rs ++ [])
          (step_of s text (Some n) (key_record_in (words_of text)) (message_in text) read refl refl));
      keys = ap just_key (tickets_no_key (words_of text) n read);
    }

all_taken : (id : DeskId) (old : ReplayingValue) (lines : Lines) (new : ReplayingValue) → 1 ≤ old.taken
    → Takes (StartTakes id) old lines new → 1 ≤ new.taken
all_taken id old [] new some h = subst (λ (r : ReplayingValue). 1 ≤ r.taken) (sym h) some
all_taken id old (line ∷ lines) new some h = all_taken id h.0 lines new (taken_after id old line h.0 h.1) h.2

-- the lines of before, and tickets; but for the opening, which a new journal has before those
record FirstLines (own : OpeningValue) (lines : Lines) (taken tickets : ℕ) : Type 0 where
  first : List ℕ
  rest : Lines
  some : lines ++ first_lines own taken tickets ≡ first ∷ rest
  more : behind (lines ++ first_lines own taken tickets) ≡ behind lines ++ tickets_text (last_ticket tickets) ∷ []

lines_of_none : (own : OpeningValue) (taken tickets : ℕ) → taken ≡ 0 → FirstLines own [] taken tickets
lines_of_none own zero tickets none = record {
  first = opening_text own;
  rest = tickets_text (last_ticket tickets) ∷ [];
  some = refl;
  more = refl;
}
lines_of_none own (suc n) tickets none = absurd (omega (arith, none))

lines_of_some : (own : OpeningValue) (line : List ℕ) (lines : Lines) (taken tickets : ℕ) → 1 ≤ taken
    → FirstLines own (line ∷ lines) taken tickets
lines_of_some own line lines zero tickets some = absurd (omega arith)
lines_of_some own line lines (suc n) tickets some = record {
  first = line;
  rest = lines ++ tickets_text (last_ticket tickets) ∷ [];
  some = refl;
  more = refl;
}

first_lines_are : (id : DeskId) (own : OpeningValue) (lines : Lines) (begun done : ReplayingValue) → begun.taken ≡ 0
    → Takes (StartTakes id) begun lines done → FirstLines own lines done.taken done.tickets
first_lines_are id own [] begun done none h =
    lines_of_none own done.taken done.tickets (ap (λ (r : ReplayingValue). r.taken) h ∙ none)
first_lines_are id own (line ∷ lines) begun done none h =
    lines_of_some own line lines done.taken done.tickets
    (all_taken id h.0 lines done (taken_after id begun line h.0 h.1) h.2)

-- ---- a restart

book_keeps : (old new : KeyBookValue) → IsJournaled old new → Keeps new × (new.unrecorded ≡ [])
book_keeps old new (inl k) = (inl k.recorded, k.none)
book_keeps old new (inr k) =
    let same = k.1 ∙ k.0 in (
      inr (record {
        cap = ap (λ (b : KeyBookValue). b.keys.cap) same;
        waiting = ap (λ (b : KeyBookValue). b.keys.waiting) same;
        none = ap (λ (b : KeyBookValue). b.unrecorded) same;
      }),
      ap (λ (b : KeyBookValue). b.unrecorded) same,
    )

restarted : (id : DeskId) (old new : SiteOnDisk) (past : Writes) → AllSay id old.told old.handed
    → Grows old.told.writes old.handed past → WritesTyped past → Restarts id old new → Sound id new
restarted id old new past stages grows typed r =
    let s : ℕ = id.site in
    let left : Writes = writes_by old.told.writes r.leaves.first old.handed in
    let had : Lines = old.told.lines ++ records_of r.leaves.first in
    let same : had ≡ r.read = stands_once r.file had r.read r.leaves.stands r.there in
    let says : SaysWrites s r.read left = subst (λ ls. SaysWrites s ls left) same
    (front_says id old.told old.handed r.leaves.first r.leaves.later stages r.leaves.whole) in
    let begun = first_lines_are id r.own r.read r.starts.all.begun r.done r.starts.all.none.0 r.starts.all.took in
    let more : Lines = first_lines r.own r.done.taken r.done.tickets in
    let ticket : List ℕ = tickets_text (last_ticket r.done.tickets) in
    let nothing = tickets_say_nothing r.done.tickets in
    let lines : lines_in new.told new.handed ≡ r.read ++ more
    = (λ i. lines_in (r.told i) (r.handed i)) ∙ ap (λ ls. r.read ++ ls) (append-nil more) in
    let back : behind (r.read ++ more) ≡ behind r.read ++ ticket ∷ [] = begun.more in
    let steps : steps_in s (behind (r.read ++ more)) ≡ steps_in s (behind r.read)
    = ap (steps_in s) back ∙ steps_in-append s (behind r.read) (ticket ∷ [])
    ∙ ap (λ rs. steps_in s (behind r.read) ++ rs) (nothing.steps s) ∙ append-nil (steps_in s (behind r.read)) in
    let keys : keys_in (behind (r.read ++ more)) ≡ map recorded left
    = ap keys_in back ∙ keys_in-append (behind r.read) (ticket ∷ [])
    ∙ ap (λ ks. ks ++ keys_in (behind r.read)) nothing.keys ∙ says.keys in
    let now_says : SaysWrites s (r.read ++ more) left = record {
      keys = keys;
      entries = subst (λ rs. All (λ w. Contains (lists_of s rs).log w.1) left) (sym steps) says.entries;
    } in
    let book = book_keeps r.starts.last.keys new.kept.keys r.starts.keeps.keys in
    record {
      remembers = subst (λ ws. Remembers ws new.kept) (sym r.writes)
          (starts_remember_journal id r.own r.read r.done new.kept left r.starts says);
      valid = r.starts.after;
      keeps = book.0;
      said = (λ i. reverse (book.1 i) ++ keys_in (behind (lines i))) ∙ keys ∙ ap (map recorded) (sym r.writes);
      handed = ap (λ ls. no_asks (steps_in s (behind ls))) lines
          ∙ ap no_asks (steps ∙ sym (started_handed id r.own r.read r.done new.kept r.starts));
      first = begun.first;
      rest = begun.rest;
      some = lines ∙ begun.some;
      stages = subst (λ (x : Stage × List Stage). AllSay id x.0 x.1) (λ i. (sym r.told i, sym r.handed i)) (
        subst (SaysWrites s r.read) (sym r.writes) says,
        subst (SaysWrites s (r.read ++ more)) (sym r.writes) now_says,
      );
      grows = subst (λ (x : Stage × List Stage). Grows x.0.writes x.1 new.writes) (λ i. (sym r.told i, sym r.handed i))
          (more_same new.writes, more_same new.writes);
      waits = subst (All (λ (w : Waiting). IsKey w.key)) (sym (started_waiting id r.own r.read r.done new.kept r.starts))
          (All-nil (λ (w : Waiting). IsKey w.key));
      typed = subst WritesTyped (sym r.writes)
          (more_typed left past (grows_rest old.told.writes r.leaves.first old.handed past grows) typed);
    }

batch_more : (id : DeskId) (old new : SiteOnDisk) → Sound id old → (t : TellsNext old new)
    → IsMore old.told.writes t.batch.writes × Grows t.batch.writes t.others old.writes
batch_more id old new is t = subst (λ bs. Grows old.told.writes bs old.writes) t.next is.grows

told : (id : DeskId) (old new : SiteOnDisk) → Sound id old → TellsNext old new → Sound id new
told id old new is t =
    let same : lines_in (with_batch old.told t.batch) t.others ≡ lines_in old.told old.handed
    = append_assoc old.told.lines t.batch.lines (records_of (batches t.others))
    ∙ ap (lines_in old.told) (sym t.next) in
    let say : AllSay id old.told (t.batch ∷ t.others) = subst (AllSay id old.told) t.next is.stages in
    subst (Sound id) (sym t.rest) (record {
      remembers = is.remembers;
      valid = is.valid;
      keeps = is.keeps;
      said = ap (λ ls. reverse old.kept.keys.unrecorded ++ keys_in (behind ls)) same ∙ is.said;
      handed = ap (λ ls. no_asks (steps_in id.site (behind ls))) same ∙ is.handed;
      first = is.first;
      rest = is.rest;
      some = same ∙ is.some;
      stages = say.1;
      grows = (batch_more id old new is t).1;
      waits = is.waits;
      typed = is.typed;
    })

one_sound : (id : DeskId) (old : SiteOnDisk) (event : DiskEvent) (new : SiteOnDisk) → Sound id old
    → OnDisk id old event new → Sound id new
one_sound id old (Turned turn) new is h = took_turn id old turn new is h
one_sound id old Told new is h = told id old new is h
one_sound id old Restarted new is h = restarted id old new old.writes is.stages is.grows is.typed h

all_sound : (id : DeskId) (old : SiteOnDisk) (events : List DiskEvent) (new : SiteOnDisk) → Sound id old
    → AllOnDisk id old events new → Sound id new
all_sound id old [] new is h = subst (Sound id) (sym h) is
all_sound id old (event ∷ events) new is h = all_sound id h.0 events new (one_sound id old event h.0 is h.1) h.2

-- what is told stays told
one_more : (id : DeskId) (old : SiteOnDisk) (event : DiskEvent) (new : SiteOnDisk) → Sound id old
    → OnDisk id old event new → IsMore old.told.writes new.told.writes
one_more id old (Turned turn) new is h = ([], ap (λ (st : Stage). st.writes) h.told)
one_more id old Told new is h =
    subst (IsMore old.told.writes) (sym (ap (λ (x : SiteOnDisk). x.told.writes) h.rest)) (batch_more id old new is h).0
one_more id old Restarted new is h =
    subst (IsMore old.told.writes) (sym (ap (λ (st : Stage). st.writes) h.told ∙ h.writes))
    (grows_first old.told.writes h.leaves.first old.handed old.writes is.grows)

all_more : (id : DeskId) (old : SiteOnDisk) (events : List DiskEvent) (new : SiteOnDisk) → Sound id old
    → AllOnDisk id old events new → IsMore old.told.writes new.told.writes
all_more id old [] new is h = subst (λ (x : SiteOnDisk). IsMore old.told.writes x.told.writes) (sym h) (more_same old.told.writes)
all_more id old (event ∷ events) new is h =
    more_more old.told.writes h.0.told.writes new.told.writes (one_more id old event h.0 is h.1)
    (all_more id h.0 events new (one_sound id old event h.0 is h.1) h.2)

empty_says : (id : DeskId) → StageSays id (record { lines = []; writes = [] })
empty_says id = record { keys = refl; entries = All-nil (λ (w : List ℕ × EntryValue). Contains (log_said id.site []) w.1) }

begun : (id : DeskId) (empty start : SiteOnDisk) → IsEmptyFile empty → Restarts id empty start → Sound id start
begun id empty start none begins =
    restarted id empty start []
    (subst (λ (x : Stage × List Stage). AllSay id x.0 x.1) (λ i. (sym none.told i, sym none.handed i)) (empty_says id))
    (subst (λ (x : Stage × List Stage). Grows x.0.writes x.1 []) (λ i. (sym none.told i, sym none.handed i)) (more_same []))
    (All-nil (λ (w : List ℕ × EntryValue). IsKey w.0)) begins

pub keys_are_on_disk : KeysAreOnDisk
keys_are_on_disk id empty start events now none begins h =
    (all_sound id start events now (begun id empty start none begins) h).remembers

pub told_is_not_lost : ToldIsNotLost
told_is_not_lost id empty start old before later now none begins first h =
    let is : Sound id old = all_sound id start before old (begun id empty start none begins) first in
    let end : Sound id now = all_sound id old later now is h in
    more_more old.told.writes now.told.writes now.writes (all_more id old later now is h)
    (grows_whole now.told.writes now.handed now.writes end.grows)
