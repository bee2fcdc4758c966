-- What waits under keys, and what is written under them, are keys, if the keys of commands are.
use Rattle.std.proofs.Common.{◌≡◌, ℕ, zero, suc, Bool, true, false, List, [], ◌∷◌, map, drop, reverse}
use Rattle.std.proofs.Common.{Option, Some, None, Result, Ok, Err, inl, inr, refl, sym, ap, subst}
use Rattle.std.specs.Prelude.{MatchOption, nat_lt, take, remove, find, option_map, ◌==◌, if◌then◌else◌}
use Rattle.std.specs.List.{All}
use Rattle.std.proofs.lemmas.List.{reverse-append}
use Rattle.std.proofs.lemmas.List.Elements.{All-nil, All-head, All-tail, All-push, All-append, All-map, All-take, All-drop}
use Rattle.rights_types.specs.Entries.{EntryValue}
use Rattle.request_queue.specs.declared.request.Request.{Request}
use Rattle.command_keys.specs.Key.{IsKey}
use Rattle.command_keys.specs.Keys.{KeysValue, ExpireGone, ServesAt, key_of, outcome_of, place_of}
use Rattle.command_keys.specs.Books.{KeyBookValue, ServesOne}
use Rattle.command_keys.specs.declared.outcome.Waiting.{Waiting}
use Rattle.command_keys.specs.declared.outcome.Outcome.{Outcome as Ending}
use Rattle.command_keys.specs.declared.outcome.Outcome.TheVariants.{Wrote, Waits, Expired}
use Rattle.site_core.specs.declared.fault.DeskError.{DeskError}
use Rattle.apply_lanes.specs.Kepts.{KeptValue, SeatValue}
use Rattle.apply_lanes.specs.Keeping.{with_room}
use Rattle.site_words.specs.declared.commands.DeskCommand.{DeskCommand}
use Rattle.site_node.specs.declared.reply.Reply.{Reply}
use Rattle.site_node.specs.declared.tick.Ticked.{Ticked}
use Rattle.site_node.specs.Keyed.{ActsBy, ActsFirst, ActsIf, Notes, noted, is_repeat}
use Rattle.site_node.specs.Ticking.{ServesEach, TicksBeside}
use Rattle.site_node.specs.Remembering.{KeyTurn, HasKeyTurn, wrote, under, serve_writes, tick_writes, turn_writes}
use Rattle.site_node.specs.Remembering.KeyTurn.{UnderKey, ByTick, HandsOver, Aside}
use Rattle.site_node.proofs.KeyedLaws.{acts_keep_keys}
use Rattle.site_node.proofs.RememberLaws.{frees_if}
use Rattle.site_server.specs.KeysOnDisk.{HasKeyType}

abbrev pub Writes : Type 0
Writes = List (List ℕ × EntryValue)

abbrev pub IsWaitingKey : Waiting → Type 0
IsWaitingKey w = IsKey w.key

-- the spends that wait under keys do so under keys
abbrev pub WaitsTyped : KeptValue → Type 0
WaitsTyped k = All IsWaitingKey k.keys.keys.waiting

-- what was written under keys was
abbrev pub WritesTyped : Writes → Type 0
WritesTyped ws = All (λ w. IsKey w.0) ws

waits_same : (old new : KeptValue) → WaitsTyped old → new.keys.keys.waiting ≡ old.keys.keys.waiting → WaitsTyped new
waits_same old new is same = subst (All IsWaitingKey) (sym same) is

All-remove : {X : Type 0} (P : X → Type 0) (xs : List X) (n : ℕ) → All P xs → All P (remove xs n)
All-remove P xs n h = All-append P (take n xs) (drop (suc n) xs) (All-take P n xs h) (All-drop P (suc n) xs h)

pub All-reverse : {X : Type 0} (P : X → Type 0) (xs : List X) → All P xs → All P (reverse xs)
All-reverse P [] h = All-nil P
All-reverse P (x ∷ xs) h =
    subst (All P) (sym (reverse-append (x ∷ []) xs))
    (All-push P (reverse xs) x (All-reverse P xs (All-tail P x xs h)) (All-head P x xs h))

-- ---- a command under a key

gone : (requests : List Request) (n : ℕ) (old new : KeysValue) → ExpireGone requests n old new → All IsWaitingKey old.waiting
    → All IsWaitingKey new.waiting
gone requests zero old new h is = subst (λ (k : KeysValue). All IsWaitingKey k.waiting) (sym h) is
gone requests (suc n) old new h is =
    let place : ℕ = h.2.place in
    subst (All IsWaitingKey) (sym h.2.expires.others)
    (All-remove IsWaitingKey h.0.waiting place (gone requests n old h.0 h.1 is))

noted_waits : (o : Option Ending) (done : KeptValue) (key : List ℕ) (new : KeptValue) → IsKey key → Notes o done key new
    → WaitsTyped done → WaitsTyped new
noted_waits (Some (Wrote entry)) done key new typed h is = waits_same done new is (ap (λ (k : KeptValue). k.keys.keys.waiting) h)
noted_waits (Some (Waits ticket amount)) done key new typed h is =
    subst (All IsWaitingKey) (sym (ap (λ (k : KeptValue). k.keys.keys.waiting) h))
    (All-push IsWaitingKey done.keys.keys.waiting (record { key = key; ticket = ticket; amount = amount }) is typed)
noted_waits (Some (Expired ended)) done key new typed h is = waits_same done new is (ap (λ (k : KeptValue). k.keys.keys.waiting) h)
noted_waits None done key new typed h is = waits_same done new is (ap (λ (k : KeptValue). k.keys.keys.waiting) h)

first_waits : (old : KeptValue) (was : SeatValue) (key : List ℕ) (command : DeskCommand) (reply : Reply) (new : KeptValue)
    (now : SeatValue) → IsKey key → ActsFirst old was key command reply new now → WaitsTyped old → WaitsTyped new
first_waits old was key command reply new now typed (inl h) is =
    noted_waits (noted command reply) h.done key new typed h.notes
    (waits_same old h.done is (ap (λ (b : KeyBookValue). b.keys.waiting)
    (acts_keep_keys (with_room old h.book) was command reply h.done now h.acts)))
first_waits old was key command reply new now typed (inr h) is =
    waits_same old new is (ap (λ (k : KeptValue). k.keys.keys.waiting) h.same_desk)

by_waits : (o : Option Ending) (old : KeptValue) (was : SeatValue) (key : List ℕ) (command : DeskCommand) (reply : Reply)
    (new : KeptValue) (now : SeatValue) → IsKey key → ActsBy o old was key command reply new now → WaitsTyped old
    → WaitsTyped new
by_waits (Some outcome) old was key command reply new now typed h is =
    waits_same old new is (ap (λ (b : KeyBookValue). b.keys.waiting)
    (frees_if (is_repeat outcome command) outcome old was new now h.1).keys)
by_waits None old was key command reply new now typed h is = first_waits old was key command reply new now typed h is

keyed_waits : (b : Bool) (old : KeptValue) (was : SeatValue) (key : List ℕ) (command : DeskCommand) (reply : Reply)
    (new : KeptValue) (now : SeatValue) → IsKey key → ActsIf b old was key command reply new now → WaitsTyped old
    → WaitsTyped new
keyed_waits false old was key command reply new now typed h is =
    waits_same old new is (ap (λ (k : KeptValue). k.keys.keys.waiting) h.1)
keyed_waits true old was key command reply new now typed h is =
    by_waits (outcome_of h.0.keys.keys key) h.0 was key command reply new now typed h.2
    (gone old.desk.queue.waiting h.1.keys.count old.keys.keys h.0.keys.keys h.1.keys.expire is)

under_typed : (key : List ℕ) (es : List EntryValue) → IsKey key → WritesTyped (under (Some key) es)
under_typed key es typed =
    All-reverse (λ (w : List ℕ × EntryValue). IsKey w.0) (map (λ e. (key, e)) es)
    (All-map (λ (w : List ℕ × EntryValue). IsKey w.0) (λ e. (key, e)) es (λ k d within. typed))

-- ---- a tick

abbrev IsKeyIf : Option (List ℕ) → Type 0
IsKeyIf None = Unit {0}
IsKeyIf (Some key) = IsKey key

found_key : (b : Bool) (w : Waiting) (o : Option Waiting) → IsKey w.key → IsKeyIf (option_map (λ (v : Waiting). v.key) o)
    → IsKeyIf (option_map (λ (v : Waiting). v.key) (if b then Some w else o))
found_key true w o typed rest = typed
found_key false w o typed rest = rest

key_typed : (ticket : ℕ) (waiting : List Waiting) → All IsWaitingKey waiting → IsKeyIf (key_of ticket waiting)
key_typed ticket [] is = tt
key_typed ticket (w ∷ waiting) is =
    found_key (w.ticket == ticket) w (find (λ (v : Waiting). v.ticket == ticket) waiting) (All-head IsWaitingKey w waiting is)
    (key_typed ticket waiting (All-tail IsWaitingKey w waiting is))

if_typed : (o : Option (List ℕ)) (es : List EntryValue) → IsKeyIf o → WritesTyped (under o es)
if_typed None es typed = All-nil (λ (w : List ℕ × EntryValue). IsKey w.0)
if_typed (Some key) es typed = under_typed key es typed

served_at : (o : Option ℕ) (old new : KeysValue) (number amount : ℕ)
    → MatchOption o (new ≡ old) (λ place. ServesAt old place number amount new) → All IsWaitingKey old.waiting
    → All IsWaitingKey new.waiting
served_at None old new number amount h is = subst (λ (k : KeysValue). All IsWaitingKey k.waiting) (sym h) is
served_at (Some place) old new number amount h is =
    subst (All IsWaitingKey) (sym h.others) (All-remove IsWaitingKey old.waiting place is)

served_key : (o : Option (List ℕ)) (old new : KeptValue) (ticket number amount : ℕ)
    → MatchOption o (new.keys ≡ old.keys) (λ key. ServesOne old.keys ticket number amount key new.keys) → WaitsTyped old
    → WaitsTyped new
served_key None old new ticket number amount h is = waits_same old new is (ap (λ (b : KeyBookValue). b.keys.waiting) h)
served_key (Some key) old new ticket number amount h is =
    served_at (place_of ticket old.keys.keys.waiting) old.keys.keys new.keys.keys number amount h.keys is

-- what a turn leaves
pub record TypedTurn (new : KeptValue) (writes : Writes) : Type 0 where
  pub waits : WaitsTyped new
  pub writes_are : WritesTyped writes

none_typed : (new : KeptValue) → WaitsTyped new → TypedTurn new []
none_typed new is = record { waits = is; writes_are = All-nil (λ (w : List ℕ × EntryValue). IsKey w.0) }

serves_typed : (old : KeptValue) (was : SeatValue) (served : List Request) (new : KeptValue) (now : SeatValue) → WaitsTyped old
    → (h : ServesEach old was served new now) → TypedTurn new (serve_writes old was served new now h)
serves_typed old was [] new now is h = none_typed new (waits_same old new is (ap (λ (k : KeptValue). k.keys.keys.waiting) h.0))
serves_typed old was (request ∷ others) new now is h =
    let o : Option (List ℕ) = key_of request.ticket old.keys.keys.waiting in
    let mid : WaitsTyped h.0 = served_key o old h.0 request.ticket h.2.number request.amount h.2.key is in
    let rest = serves_typed h.0 h.1 others new now mid h.3 in
    record {
      waits = rest.waits;
      writes_are = All-append (λ (w : List ℕ × EntryValue). IsKey w.0) (serve_writes h.0 h.1 others new now h.3)
          (under o (wrote old h.0)) rest.writes_are
          (if_typed o (wrote old h.0) (key_typed request.ticket old.keys.keys.waiting is));
    }

ticks_typed : (silent : ℕ → Bool) (old : KeptValue) (was : SeatValue) (time : ℕ) (served : List Request)
    (ticked : Result Ticked DeskError) (new : KeptValue) (now : SeatValue) → WaitsTyped old
    → (h : TicksBeside silent old was time served ticked new now)
    → TypedTurn new (tick_writes silent old was time served ticked new now h)
ticks_typed silent old was time served (Ok ticked) new now is h =
    let begun = waits_same old h.in_time is (ap (λ (k : KeptValue). k.keys.keys.waiting) h.expires.rest) in
    let done = serves_typed h.in_time was served h.left now begun h.serves.each in
    record {
      waits = waits_same h.left new done.waits (ap (λ (k : KeptValue). k.keys.keys.waiting) h.plans.rest);
      writes_are = done.writes_are;
    }
ticks_typed silent old was time served (Err fault) new now is (inl h) =
    none_typed new (waits_same old new is (ap (λ (k : KeptValue). k.keys.keys.waiting) h.same_desk))
ticks_typed silent old was time served (Err fault) new now is (inr h) =
    serves_typed h.in_time was served new now
    (waits_same old h.in_time is (ap (λ (k : KeptValue). k.keys.keys.waiting) h.expires.rest)) h.fails.each

-- ---- any turn

pub turn_typed : (old : KeptValue) (turn : KeyTurn) (new : KeptValue) → HasKeyType turn → WaitsTyped old
    → (h : HasKeyTurn old turn new) → TypedTurn new (turn_writes old turn new h)
turn_typed old (UnderKey key command reply) new typed is h = record {
  waits = keyed_waits (nat_lt 0 old.keys.keys.cap) old h.was key command reply new h.now typed h.acts is;
  writes_are = under_typed key (wrote old new) typed;
}
turn_typed old ByTick new typed is h = ticks_typed h.silent old h.was h.time h.served h.ticked new h.now is h.ticks
turn_typed old (HandsOver lines) new typed is h =
    none_typed new (waits_same old new is (ap (λ (k : KeptValue). k.keys.keys.waiting) h.rest))
turn_typed old Aside new typed is h =
    none_typed new (waits_same old new is (ap (λ (b : KeyBookValue). b.keys.waiting) h.keys))
