-- The keys of a site that starts from a journal and has the desk alone.
use Rattle.std.proofs.Common.{◌≡◌, ◌∙◌, ℕ, Bool, true, false, List, [], ◌∷◌, ◌++◌, map, Option, Some, None, refl, sym, ap, subst}
use Rattle.std.proofs.Common.{inl, inr, arith}
use Rattle.std.proofs.lemmas.List.{append-nil}
use Rattle.std.specs.Prelude.{nat_lt}
use Rattle.std.specs.List.{All, Contains}
use Rattle.rights_types.specs.Entries.{EntryValue}
use Rattle.rights_protocol.specs.Crashes.{lists_of}
use Rattle.line_streams.specs.Words.{words_of}
use Rattle.command_keys.specs.Last.{last_of}
use Rattle.command_keys.specs.Keys.{KeysValue, no_keys, IsOnce}
use Rattle.command_keys.specs.Books.{KeyBookValue}
use Rattle.site_records.specs.KeyRecords.{key_record_in, keys_in, just as just_key, TakesKey, TakesKeyRecords}
use Rattle.site_records.specs.Restores.{steps_in}
use Rattle.apply_lanes.specs.Names.{DeskId}
use Rattle.apply_lanes.specs.Kepts.{KeptValue, IsKept, no_book}
use Rattle.apply_lanes.specs.Keeping.{ReplaysKey, ReplaysOne, IsJournaled}
use Rattle.site_node.specs.Remembering.{deed, seen, Remembers, StartsKeys}
use Rattle.site_node.proofs.RestartLaws.{starts_remember}
use Rattle.desk_turns.specs.JournalLines.{behind, log_said, SaysWrites}
use Rattle.desk_turns.proofs.KeyTurnLaws.{log_grows}
use Rattle.site_records.specs.Openings.{OpeningValue}
use Rattle.site_server.specs.Starting.{ReplayingValue}
use Rattle.site_server.specs.KeysOnDisk.{StartsFrom, StartsRememberJournal}
use Rattle.site_server.proofs.AloneLaws.{Lines, KeysBy, Chain, all_chained, chain_records}

abbrev pub log_of : KeptValue → List EntryValue
log_of k = k.desk.ledger.log.entries

-- ---- the lines of keys

abbrev keyed_by : Option (List ℕ × ℕ) → List ℕ → Lines → Lines
keyed_by None line rest = rest
keyed_by (Some e) line rest = line ∷ rest

-- those of these lines that say a key
abbrev keyed : Lines → Lines
keyed [] = []
keyed (line ∷ lines) = keyed_by (key_record_in (words_of line)) line (keyed lines)

keyed_one : (line : List ℕ) (lines : Lines) (o : Option (List ℕ × ℕ)) → key_record_in (words_of line) ≡ o
    → keys_in (keyed lines) ≡ keys_in lines → keys_in (keyed_by o line (keyed lines)) ≡ keys_in lines ++ just_key o
keyed_one line lines None is rest = rest ∙ sym (append-nil (keys_in lines))
keyed_one line lines (Some e) is rest = (λ i. rest i ++ just_key (is i))

keyed_says : (lines : Lines) → keys_in (keyed lines) ≡ keys_in lines
keyed_says [] = refl
keyed_says (line ∷ lines) = keyed_one line lines (key_record_in (words_of line)) refl (keyed_says lines)

-- ---- with keys

-- the keys are these, but for the memory for more
abbrev AreKeys : KeysValue → KeyBookValue → Type 0
AreKeys made b = b.keys ≡ record made { room = b.keys.room }

abbrev HasMade : KeysValue → KeyBookValue → Type 0
HasMade made b = (nat_lt 0 b.keys.cap ≡ true) × AreKeys made b

record Ended (log : List EntryValue) (made : KeysValue) (lines : Lines) (last : KeptValue) : Type 0 where
  end : KeysValue
  takes : TakesKeyRecords log made (keyed lines) end
  same : AreKeys end last.keys

module _ (id : DeskId) (last : KeptValue) (valid : IsKept id last) where
  taken_key : (k m : KeptValue) (lines : Lines) (line : List ℕ) (e : List ℕ × ℕ) (made : KeysValue) → IsKept id k
      → Chain id id.site k (line ∷ lines) last → key_record_in (words_of line) ≡ Some e → HasMade made k.keys
      → ReplaysOne k e.0 e.1 m → Ended (log_of last) m.keys.keys lines last → Ended (log_of last) made (line ∷ lines) last
  taken_key k m lines line e made before h is has one rest =
      let grown = log_grows id k last (steps_in id.site (line ∷ lines)) before valid
      (chain_records id id.site k (line ∷ lines) last h) in
      let t = subst (λ keys. TakesKey keys (log_of k) e.0 e.1 m.keys.keys) has.1 one.takes in
      record {
        end = rest.end;
        takes = subst (λ o. TakesKeyRecords (log_of last) made (keyed_by o line (keyed lines)) rest.end) (sym is) (
          m.keys.keys,
          record {
            entries = log_of k;
            later = grown.0;
            whole = sym grown.1;
            key = e.0;
            number = e.1;
            spelled = is;
            takes = record { effect = t.effect; entry = t.entry; becomes = t.becomes };
          },
          rest.takes,
        );
        same = rest.same;
      }

  one_line : (k m : KeptValue) (lines : Lines) (line : List ℕ) (made : KeysValue) → Chain id id.site k (line ∷ lines) last
      → HasMade made k.keys → (o : Option (List ℕ × ℕ)) → key_record_in (words_of line) ≡ o → KeysBy id o k m
      → ((next : KeysValue) → HasMade next m.keys → Ended (log_of last) next lines last)
      → Ended (log_of last) made (line ∷ lines) last
  one_line k m lines line made h has None is same rest =
      let r = rest made (subst (HasMade made) (sym same) has) in
      record {
        end = r.end;
        takes = subst (λ o. TakesKeyRecords (log_of last) made (keyed_by o line (keyed lines)) r.end) (sym is) r.takes;
        same = r.same;
      }
  one_line k m lines line made h has (Some e) is (before, replays) rest =
      let one : ReplaysOne k e.0 e.1 m = subst (λ b. ReplaysKey b k e.0 e.1 m) has.0 replays in
      let cap : nat_lt 0 m.keys.keys.cap ≡ true = ap (λ (x : KeysValue). nat_lt 0 x.cap) one.takes.becomes ∙ has.0 in
      taken_key k m lines line e made before h is has one (rest m.keys.keys (cap, refl))

  ends : (k : KeptValue) (lines : Lines) (made : KeysValue) → Chain id id.site k lines last → HasMade made k.keys
      → Ended (log_of last) made lines last
  ends k [] made h has = record {
    end = made;
    takes = refl;
    same = subst (λ (x : KeptValue). AreKeys made x.keys) (sym h) has.1;
  }
  ends k (line ∷ lines) made h has =
      one_line k h.0 lines line made h has (key_record_in (words_of line)) refl h.1.keys
      (λ next found. ends h.0 lines next h.2 found)

  -- ---- without keys

  none_by : (k m : KeptValue) (o : Option (List ℕ × ℕ)) → nat_lt 0 k.keys.keys.cap ≡ false → KeysBy id o k m
      → m.keys ≡ k.keys
  none_by k m None none same = same
  none_by k m (Some e) none (before, replays) =
      ap (λ (x : KeptValue). x.keys) (subst (λ b. ReplaysKey b k e.0 e.1 m) none replays)

  none_end : (k : KeptValue) (lines : Lines) → Chain id id.site k lines last → nat_lt 0 k.keys.keys.cap ≡ false
      → last.keys ≡ k.keys
  none_end k [] h none = ap (λ (x : KeptValue). x.keys) h
  none_end k (line ∷ lines) h none =
      let same = none_by k h.0 (key_record_in (words_of line)) none h.1.keys in
      none_end h.0 lines h.2 (ap (λ (b : KeyBookValue). nat_lt 0 b.keys.cap) same ∙ none) ∙ same

records_cap : (log : List EntryValue) (old : KeysValue) (texts : Lines) (new : KeysValue)
    → TakesKeyRecords log old texts new → new.cap ≡ old.cap
records_cap log old [] new h = ap (λ (k : KeysValue). k.cap) h
records_cap log old (text ∷ texts) new h =
    records_cap log h.0 texts new h.2 ∙ ap (λ (k : KeysValue). k.cap) h.1.takes.becomes

-- no spend waits under a key
records_waiting : (log : List EntryValue) (old : KeysValue) (texts : Lines) (new : KeysValue)
    → TakesKeyRecords log old texts new → old.waiting ≡ [] → new.waiting ≡ []
records_waiting log old [] new h none = ap (λ (k : KeysValue). k.waiting) h ∙ none
records_waiting log old (text ∷ texts) new h none =
    records_waiting log h.0 texts new h.2 (ap (λ (k : KeysValue). k.waiting) h.1.takes.becomes)

-- what holds of the lock's value does not depend on its keys
other_keys : (id : DeskId) (k : KeptValue) (b : KeyBookValue) → IsKept id k → IsKept id (record k { keys = b })
other_keys id k b is = record {
  site = is.site;
  same_me = is.same_me;
  same_sites = is.same_sites;
  few = is.few;
  matches_book = is.matches_book;
  has_shards = record {
    seats = is.has_shards.seats;
    clock = is.has_shards.clock;
    both = is.has_shards.both;
    places = is.has_shards.places;
    appliers = is.has_shards.appliers;
    both_more = is.has_shards.both_more;
    no_issued_back = is.has_shards.no_issued_back;
    no_spent_back = is.has_shards.no_spent_back;
    no_number_back = is.has_shards.no_number_back;
    no_received_back = is.has_shards.no_received_back;
  };
  protocol = is.protocol;
}

-- ---- a start

record StartEnd (first last : KeptValue) (lines : Lines) : Type 0 where
  end : KeysValue
  keys : StartsKeys (nat_lt 0 end.cap) (log_of last) (keyed lines) end
  same : AreKeys end last.keys
  none : end.waiting ≡ []

module _ (id : DeskId) (own : OpeningValue) (lines : Lines) (done : ReplayingValue) (new : KeptValue)
    (h : StartsFrom id own lines done new) where
  chain : Chain id id.site h.first (behind lines) h.last
  chain = all_chained id own lines done h.first h.last h.site h.all h.alone

  first_keys : AreKeys (no_keys h.first.keys.keys.cap) h.first.keys
  first_keys =
      h.unused.keys
      ∙ (λ i. record (no_keys h.first.keys.keys.cap) { room = sym (ap (λ (x : KeysValue). x.room) h.unused.keys) i })

  by_cap : (b : Bool) → nat_lt 0 h.first.keys.keys.cap ≡ b → StartEnd h.first h.last (behind lines)
  by_cap true is =
      let cap : ℕ = h.first.keys.keys.cap in
      let e = ends id h.last h.before h.first (behind lines) (no_keys cap) chain (is, first_keys) in
      let cap_is : e.end.cap ≡ cap = records_cap (log_of h.last) (no_keys cap) (keyed (behind lines)) e.end e.takes in
      record {
        end = e.end;
        keys = subst (λ b. StartsKeys b (log_of h.last) (keyed (behind lines)) e.end) (sym (ap (nat_lt 0) cap_is ∙ is))
            (subst (λ c. TakesKeyRecords (log_of h.last) (no_keys c) (keyed (behind lines)) e.end) (sym cap_is) e.takes);
        same = e.same;
        none = records_waiting (log_of h.last) (no_keys cap) (keyed (behind lines)) e.end e.takes refl;
      }
  by_cap false is =
      let end : KeysValue = h.first.keys.keys in
      record {
        end = end;
        keys = subst (λ b. StartsKeys b (log_of h.last) (keyed (behind lines)) end) (sym is) first_keys;
        same = subst (AreKeys end) (sym (none_end id h.last h.before h.first (behind lines) chain is)) refl;
        none = ap (λ (x : KeysValue). x.waiting) first_keys;
      }

  records_are : h.last.records ≡ steps_in id.site (behind lines)
  records_are =
      chain_records id id.site h.first (behind lines) h.last chain
      ∙ ap (λ rs. rs ++ steps_in id.site (behind lines)) h.unused.records

  log_is : log_of h.last ≡ log_said id.site lines
  log_is = h.before.protocol.log ∙ ap (λ rs. (lists_of id.site rs).log) records_are

  -- the journal has all records of the desk
  pub started_handed : new.handed ≡ steps_in id.site (behind lines)
  started_handed = ap (λ (k : KeptValue). k.handed) h.keeps.handed ∙ records_are

  keys_by : (old now : KeyBookValue) → IsJournaled old now → now.keys ≡ old.keys
  keys_by old now (inl k) = k.keys
  keys_by old now (inr k) = ap (λ (b : KeyBookValue). b.keys) k.1

  pub started_waiting : new.keys.keys.waiting ≡ []
  started_waiting =
      let e = by_cap (nat_lt 0 h.first.keys.keys.cap) refl in
      ap (λ (x : KeysValue). x.waiting) (keys_by h.last.keys new.keys h.keeps.keys ∙ e.same) ∙ e.none

  module _ (writes : List (List ℕ × EntryValue)) (says : SaysWrites id.site lines writes) where
    abbrev Last : KeysValue → Type 0
    Last k = (map seen k.written ≡ last_of k.cap (map deed writes)) × IsOnce k

    was_remembers : Remembers writes (record h.last { keys = no_book })
    was_remembers = record {
      last = refl;
      once = (λ key. omega arith);
      own_entries = subst (λ es. All (λ w. Contains es w.1) writes) (sym log_is) says.entries;
    }

    with_keys : (e : StartEnd h.first h.last (behind lines)) → Remembers writes new
    with_keys e =
        let book : KeyBookValue = record new.keys { keys = e.end } in
        let same_log : log_of new ≡ log_of h.last = ap log_of h.keeps.handed in
        let again : Remembers writes (record new { keys = book })
        = starts_remember id writes (record h.last { keys = no_book }) (record new { keys = book }) was_remembers (record {
          before = other_keys id h.last no_book h.before;
          after = other_keys id new book h.after;
          records = ap (λ (k : KeptValue). k.records) h.keeps.handed;
          lines = keyed (behind lines);
          said = keyed_says (behind lines) ∙ says.keys;
          keys = subst (λ es. StartsKeys (nat_lt 0 e.end.cap) es (keyed (behind lines)) e.end) (sym same_log) e.keys;
        }) in
        let same : new.keys.keys ≡ record e.end { room = h.last.keys.keys.room }
        = keys_by h.last.keys new.keys h.keeps.keys ∙ e.same in
        let both : Last new.keys.keys = subst Last (sym same) (again.last, again.once) in
        record { last = both.0; once = both.1; own_entries = again.own_entries }

    pub remembers_journal : Remembers writes new
    remembers_journal = with_keys (by_cap (nat_lt 0 h.first.keys.keys.cap) refl)

pub starts_remember_journal : StartsRememberJournal
starts_remember_journal id own lines done new writes h says = remembers_journal id own lines done new h writes says
