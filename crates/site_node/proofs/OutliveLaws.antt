-- What is remembered of commands under keys, over turns, crashes and starts.
use Rattle.std.proofs.Common.{◌≡◌, ◌∙◌, ℕ, List, [], ◌∷◌, ◌++◌, map, reverse, true, refl, sym, ap, subst, append-nil}
use Rattle.std.specs.List.{All}
use Rattle.std.proofs.lemmas.List.{append_assoc, map-append, reverse-append, reverse-reverse}
use Rattle.std.proofs.lemmas.List.Elements.{All-nil, All-cons, All-contains}
use Rattle.rights_types.specs.Entries.{EntryValue}
use Rattle.apply_lanes.specs.Names.{DeskId}
use Rattle.apply_lanes.specs.Kepts.{KeptValue, IsKept}
use Rattle.site_node.specs.Remembering.{KeyTurn, HasKeyTurn, turn_writes, handed_in, recorded, Remembers}
use Rattle.site_node.specs.Remembering.KeyTurn.{UnderKey, ByTick, HandsOver, Aside}
use Rattle.site_node.specs.Outliving.{Moment, SiteWithKeys, KeyEvent, batches_after, TakesKeyTurn, CrashesWithKeys}
use Rattle.site_node.specs.Outliving.{KeysHappen, BeginsWithKeys, KeysOutliveCrashes}
use Rattle.site_node.specs.Outliving.KeyEvent.{Turned, Crashed}
use Rattle.site_node.proofs.RememberLaws.{last_writes, turn_recorded}
use Rattle.site_node.proofs.RestartLaws.{starts_remember}

abbrev records_of : List (List ℕ × EntryValue) → List (List ℕ × ℕ)
records_of writes = reverse (map recorded writes)

-- a batch that has the records of all that was written under keys until then
record IsWhole (id : DeskId) (m : Moment) : Type 0 where
  remembers : Remembers m.writes m.kept
  valid : IsKept id m.kept
  keys : m.keys ≡ records_of m.writes

record Sound (id : DeskId) (site : SiteWithKeys) : Type 0 where
  remembers : Remembers site.now.writes site.now.kept
  valid : IsKept id site.now.kept
  journal : site.now.kept.keys.is_recorded ≡ true
  keys : site.now.keys ++ site.now.kept.keys.unrecorded ≡ records_of site.now.writes
  batches : All (IsWhole id) site.batches

one_whole : (id : DeskId) (m : Moment) → Remembers m.writes m.kept → IsKept id m.kept → m.kept.keys.unrecorded ≡ []
    → m.keys ++ m.kept.keys.unrecorded ≡ records_of m.writes → IsWhole id m
one_whole id m remembers valid none keys = record {
  remembers = remembers;
  valid = valid;
  keys = sym (append-nil m.keys) ∙ ap (λ ks. m.keys ++ ks) (sym none) ∙ keys;
}

alone : (id : DeskId) (m : Moment) (batches : List Moment) → batches ≡ m ∷ [] → IsWhole id m → All (IsWhole id) batches
alone id m batches same whole =
    subst (All (IsWhole id)) (sym same) (All-cons (IsWhole id) m [] whole (All-nil (IsWhole id)))

begun : (id : DeskId) (site : SiteWithKeys) → BeginsWithKeys id site → Sound id site
begun id site b =
    let remembers : Remembers site.now.writes site.now.kept
    = subst (λ ws. Remembers ws site.now.kept) (sym b.writes) (last_writes.at_first site.now.kept b.room b.keys) in
    let keys : site.now.keys ++ site.now.kept.keys.unrecorded ≡ records_of site.now.writes
    = (λ i. b.handed i ++ b.none i) ∙ ap records_of (sym b.writes) in
    record {
      remembers = remembers;
      valid = b.valid;
      journal = b.journal;
      keys = keys;
      batches = alone id site.now site.batches b.batches (one_whole id site.now remembers b.valid b.none keys);
    }

-- ---- a turn

by_turn : (id : DeskId) (old : KeptValue) (turn : KeyTurn) (now : Moment) (batches : List Moment)
    → HasKeyTurn old turn now.kept → All (IsWhole id) batches → Remembers now.writes now.kept → IsKept id now.kept
    → now.keys ++ now.kept.keys.unrecorded ≡ records_of now.writes → All (IsWhole id) (batches_after turn batches now)
by_turn id old (UnderKey key command reply) now batches h whole remembers valid keys = whole
by_turn id old ByTick now batches h whole remembers valid keys = whole
by_turn id old Aside now batches h whole remembers valid keys = whole
by_turn id old (HandsOver lines) now batches h whole remembers valid keys =
    All-cons (IsWhole id) now batches
    (one_whole id now remembers valid (ap (λ (k : KeptValue). k.keys.unrecorded) h.rest) keys) whole

took_turn : (id : DeskId) (old : SiteWithKeys) (turn : KeyTurn) (new : SiteWithKeys) → Sound id old
    → TakesKeyTurn id old turn new → Sound id new
took_turn id old turn new is t =
    let writes : List (List ℕ × EntryValue) = turn_writes old.now.kept turn new.now.kept t.turned in
    let remembers : Remembers new.now.writes new.now.kept
    = subst (λ ws. Remembers ws new.now.kept) (sym t.writes)
    (last_writes.later old.now.writes old.now.kept (turn ∷ []) new.now.kept (new.now.kept, t.turned, refl) is.remembers) in
    let r = turn_recorded old.now.writes old.now.kept turn new.now.kept is.remembers t.turned is.journal in
    let un = old.now.kept.keys.unrecorded in
    let handed = handed_in old.now.kept turn in
    let keys : new.now.keys ++ new.now.kept.keys.unrecorded ≡ records_of new.now.writes
    = ap (λ ks. ks ++ new.now.kept.keys.unrecorded) t.keys
    ∙ append_assoc old.now.keys handed new.now.kept.keys.unrecorded
    ∙ ap (λ ks. old.now.keys ++ ks) r.1 ∙ sym (append_assoc old.now.keys un (records_of writes))
    ∙ ap (λ ks. ks ++ records_of writes) is.keys
    ∙ sym (ap reverse (map-append recorded writes old.now.writes)
    ∙ reverse-append (map recorded writes) (map recorded old.now.writes))
    ∙ ap records_of (sym t.writes) in
    record {
      remembers = remembers;
      valid = t.valid;
      journal = r.0;
      keys = keys;
      batches = subst (All (IsWhole id)) (sym t.batches)
          (by_turn id old.now.kept turn new.now old.batches t.turned is.batches remembers t.valid keys);
    }

-- ---- a crash

crashed : (id : DeskId) (old new : SiteWithKeys) → Sound id old → CrashesWithKeys id old new → Sound id new
crashed id old new is c =
    let left : IsWhole id c.left = All-contains (IsWhole id) old.batches c.left is.batches c.one in
    let said = c.said ∙ ap reverse left.keys ∙ reverse-reverse (map recorded c.left.writes) in
    let again : Remembers c.left.writes new.now.kept = starts_remember id c.left.writes c.left.kept new.now.kept left.remembers (record {
      before = left.valid;
      after = c.valid;
      records = c.records;
      lines = c.lines;
      said = said;
      keys = c.made;
    }) in
    let remembers : Remembers new.now.writes new.now.kept
    = subst (λ ws. Remembers ws new.now.kept) (sym c.writes) again in
    let keys : new.now.keys ++ new.now.kept.keys.unrecorded ≡ records_of new.now.writes
    = (λ i. c.keys i ++ c.none i) ∙ append-nil c.left.keys ∙ left.keys ∙ ap records_of (sym c.writes) in
    record {
      remembers = remembers;
      valid = c.valid;
      journal = c.journal;
      keys = keys;
      batches = alone id new.now new.batches c.batches (one_whole id new.now remembers c.valid c.none keys);
    }

all_happened : (id : DeskId) (old : SiteWithKeys) (events : List KeyEvent) (new : SiteWithKeys) → Sound id old
    → KeysHappen id old events new → Sound id new
all_happened id old [] new is h = subst (Sound id) (sym h) is
all_happened id old (Turned turn ∷ events) new is h =
    all_happened id h.0 events new (took_turn id old turn h.0 is h.1) h.2
all_happened id old (Crashed ∷ events) new is h = all_happened id h.0 events new (crashed id old h.0 is h.1) h.2

pub keys_outlive_crashes : KeysOutliveCrashes
keys_outlive_crashes id start events now b h = (all_happened id start events now (begun id start b) h).remembers
