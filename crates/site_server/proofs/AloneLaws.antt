-- A start that has the desk alone: what its turns make of the value under the lock, line by line.
use Rattle.std.proofs.Common.{◌≡◌, ◌∙◌, inl, inr, ℕ, zero, suc, ◌+◌, ◌≤◌, Bool, true, false, List, [], ◌∷◌, ◌++◌, min}
use Rattle.std.proofs.Common.{Option, Some, None, Ok, refl, sym, ap, subst, arith}
use Rattle.std.specs.Prelude.{MatchOption, nat_lt, ◌^◌, ◌-◌, codes, if◌then◌else◌}
use Rattle.std.specs.Str.{bytes_eq}
use Rattle.std.specs.Cmp.Lexicographic.{bytes_decides}
use Rattle.std.proofs.lemmas.List.{append-nil, append_assoc, append_cancel_left}
use Rattle.rights_protocol.specs.Crashes.{Record}
use Rattle.rights_protocol.specs.Crashes.Record.{Wrote, Applied, Asked}
use Rattle.line_streams.specs.Words.{words_of}
use Rattle.entry_codec.specs.Moves.{only_number}
use Rattle.request_queue.specs.declared.queue.TheConstants.{LAST_TICKET}
use Rattle.site_core.specs.Replaying.{record_of}
use Rattle.site_journal.specs.Format.{Takes}
use Rattle.site_records.specs.KeyRecords.{key_record_in}
use Rattle.site_records.specs.Openings.{OpeningValue, tickets_in}
use Rattle.site_records.specs.Restores.{just, message_in, step_in, steps_in}
use Rattle.apply_lanes.specs.Names.{DeskId}
use Rattle.apply_lanes.specs.Kepts.{KeptValue, IsKept}
use Rattle.apply_lanes.specs.Keeping.{ReplaysKey}
use Rattle.desk_turns.specs.JournalLines.{behind}
use Rattle.desk_turns.proofs.RecordTexts.{step_of}
use Rattle.site_server.specs.Starting.{ReplayingValue, StepsInTurn, TakesStep, SkipsInTurn, TakesKeyInTurn, StartsBy, StartTakes, TakesAll}
use Rattle.site_server.specs.KeysOnDisk.{Leads, HasDeskAlone, TakeAlone}

abbrev pub Lines : Type 0
Lines = List (List ℕ)

-- ---- one line

-- what a line makes of the keys, by the key that it says
abbrev pub KeysBy : DeskId → Option (List ℕ × ℕ) → KeptValue → KeptValue → Type 0
KeysBy id None k l = l.keys ≡ k.keys
KeysBy id (Some e) k l = IsKept id k × ReplaysKey (nat_lt 0 k.keys.keys.cap) k e.0 e.1 l

pub record LineDone (id : DeskId) (s : ℕ) (k : KeptValue) (text : List ℕ) (l : KeptValue) : Type 0 where
  pub records : l.records ≡ k.records ++ step_in s text
  pub keys : KeysBy id (key_record_in (words_of text)) k l

line_done : (id : DeskId) (s : ℕ) (text : List ℕ) (k l : KeptValue) (rs : List Record) (o : Option (List ℕ × ℕ))
    → step_in s text ≡ rs → key_record_in (words_of text) ≡ o → l.records ≡ k.records ++ rs → KeysBy id o k l
    → LineDone id s k text l
line_done id s text k l rs o steps key records keys = record {
  records = records ∙ ap (λ xs. k.records ++ xs) (sym steps);
  keys = subst (λ x. KeysBy id x k l) (sym key) keys;
}

-- from the states that a turn says to those of the desk that it found
moved : (id : DeskId) (s : ℕ) (text : List ℕ) (k l a b : KeptValue) → (a ≡ k) × (l ≡ b) → LineDone id s a text b
    → LineDone id s k text l
moved id s text k l a b same h =
    subst (λ x. LineDone id s x text l) same.0 (subst (λ y. LineDone id s a text y) (sym same.1) h)

-- no turn was taken
not_taken : (xs ys more : List KeptValue) → ys ≡ xs ++ more → ys ≡ xs → more ≡ []
not_taken xs ys more grown same =
    append_cancel_left xs more [] (sym grown ∙ same ∙ sym (append-nil xs))

-- this one was
one_taken : (xs ys more : List KeptValue) (a b : KeptValue) → ys ≡ xs ++ more → ys ≡ xs ++ a ∷ b ∷ []
    → more ≡ a ∷ b ∷ []
one_taken xs ys more a b grown one = append_cancel_left xs more (a ∷ b ∷ []) (sym grown ∙ one)

module _ (k l : KeptValue) (old new : ReplayingValue) (h : HasDeskAlone k old new l) where
  found_by_turn : (a b : KeptValue) → new.turns ≡ old.turns ++ a ∷ b ∷ [] → new.seated.states ≡ old.seated.states
      → (a ≡ k) × (l ≡ b)
  found_by_turn a b one same =
      subst (λ states. Leads k states l)
      (λ i. one_taken old.turns new.turns h.by_turns a b h.turns one i
      ++ not_taken old.seated.states new.seated.states h.by_seat h.seat same i) h.leads

  found_by_seat : (a b : KeptValue) → new.turns ≡ old.turns → new.seated.states ≡ old.seated.states ++ a ∷ b ∷ []
      → (a ≡ k) × (l ≡ b)
  found_by_seat a b same one =
      subst (λ states. Leads k states l)
      (λ i. not_taken old.turns new.turns h.by_turns h.turns same i
      ++ one_taken old.seated.states new.seated.states h.by_seat a b h.seat one i) h.leads

  found_same : new.turns ≡ old.turns → new.seated.states ≡ old.seated.states → l ≡ k
  found_same turns seat =
      subst (λ states. Leads k states l)
      (λ i. not_taken old.turns new.turns h.by_turns h.turns turns i
      ++ not_taken old.seated.states new.seated.states h.by_seat h.seat seat i) h.leads

-- ---- a line behind the opening

-- tickets are no key
pub tickets_no_key : (words : Lines) (last : ℕ) → tickets_in words ≡ Some last → key_record_in words ≡ None
tickets_no_key [] last h = refl
tickets_no_key (letter ∷ words) last h = by_letter (bytes_eq letter (codes "T")) refl h
  where
    by_letter : (b : Bool) → bytes_eq letter (codes "T") ≡ b
        → (if b then only_number 1 LAST_TICKET words else None) ≡ Some last → key_record_in (letter ∷ words) ≡ None
    by_letter false is h = absurd cc
    by_letter true is h =
        subst (λ x. key_record_in (x ∷ words) ≡ None) (sym ((bytes_decides letter (codes "T")).0 is)) refl

key_records : (b : Bool) (k : KeptValue) (key : List ℕ) (number : ℕ) (l : KeptValue) → ReplaysKey b k key number l
    → l.records ≡ k.records ++ []
key_records true k key number l h = ap (λ (x : KeptValue). x.records) h.rest ∙ sym (append-nil k.records)
key_records false k key number l h = ap (λ (x : KeptValue). x.records) h ∙ sym (append-nil k.records)

module _ (id : DeskId) (s : ℕ) (k l : KeptValue) (old mid new : ReplayingValue) (text : List ℕ)
    (alone : HasDeskAlone k old new l) (turns : new.turns ≡ mid.turns) (seat : new.seated.states ≡ mid.seated.states)
    (own : old.own.site ≡ s) where
  skipped : SkipsInTurn id old text mid → LineDone id s k text l
  skipped w =
      let t = w.turn in
      moved id s text k l t.old t.new
      (found_by_turn k l old new alone t.old t.new (turns ∙ t.one)
      (seat ∙ ap (λ (r : ReplayingValue). r.seated.states) w.rest))
      (line_done id s text t.old t.new [] None
      (step_of s text (Some w.last) (key_record_in (words_of text)) (message_in text) w.spelled refl refl)
      (tickets_no_key (words_of text) w.last w.spelled)
      (ap (λ (x : KeptValue). x.records) t.does ∙ sym (append-nil t.old.records))
      (ap (λ (x : KeptValue). x.keys) t.does))

  keyed : TakesKeyInTurn id old text mid → LineDone id s k text l
  keyed w =
      let t = w.takes.turn in
      moved id s text k l t.old t.new
      (found_by_turn k l old new alone t.old t.new (turns ∙ t.one)
      (seat ∙ ap (λ (r : ReplayingValue). r.seated.states) w.takes.rest))
      (line_done id s text t.old t.new [] (Some (w.key, w.number))
      (step_of s text None (Some (w.key, w.number)) (message_in text) w.no_tickets w.spelled refl) w.spelled
      (key_records (nat_lt 0 t.old.keys.keys.cap) t.old w.key w.number t.new t.does) (t.before, t.does))

  in_turn : (r : Record) → step_in s text ≡ r ∷ [] → key_record_in (words_of text) ≡ None → StepsInTurn id r old mid
      → LineDone id s k text l
  in_turn (Wrote e) steps no_key h =
      let t = h.0 in
      moved id s text k l t.old t.new
      (found_by_seat k l old new alone t.old t.new (turns ∙ ap (λ (r : ReplayingValue). r.turns) h.1) (seat ∙ t.one))
      (line_done id s text t.old t.new (Wrote e ∷ []) None steps no_key
      (ap (λ (x : KeptValue). x.records) t.replays.2) (ap (λ (x : KeptValue). x.keys) t.replays.2))
  in_turn (Asked a) steps no_key h =
      let t = h.0 in
      moved id s text k l t.old t.new
      (found_by_turn k l old new alone t.old t.new (turns ∙ t.one)
      (seat ∙ ap (λ (r : ReplayingValue). r.seated.states) h.1))
      (line_done id s text t.old t.new (Asked a ∷ []) None steps no_key
      (ap (λ (x : KeptValue). x.records) t.does.1) (ap (λ (x : KeptValue). x.keys) t.does.1))
  in_turn (Applied e) steps no_key h =
      let t = h.0 in
      moved id s text k l t.old t.new
      (found_by_turn k l old new alone t.old t.new (turns ∙ t.one)
      (seat ∙ ap (λ (r : ReplayingValue). r.seated.states) h.1))
      (line_done id s text t.old t.new (Applied e ∷ []) None steps no_key
      (ap (λ (x : KeptValue). x.records) t.does.counted) (ap (λ (x : KeptValue). x.keys) t.does.counted))

  by_record : (w : TakesStep id old text mid) (o : Option Record) → record_of old.own.site w.message ≡ o
      → MatchOption o ⊥ (λ r. StepsInTurn id r old mid) → LineDone id s k text l
  by_record w None is none = absurd none
  by_record w (Some r) is h =
      in_turn r
      (step_of s text None None (Ok w.message) w.no_tickets w.no_key w.spelled
      ∙ ap just (ap (λ x. record_of x w.message) (sym own) ∙ is)) w.no_key h

  by_taken : (n : ℕ) → 1 ≤ n → StartsBy n id old text mid → LineDone id s k text l
  by_taken zero some h = absurd (omega arith)
  by_taken (suc n) some (inl w) = skipped w
  by_taken (suc n) some (inr (inl w)) = keyed w
  by_taken (suc n) some (inr (inr w)) = by_record w (record_of old.own.site w.message) refl w.steps

-- whose journal it is stays
steps_own : (id : DeskId) (r : Record) (old mid : ReplayingValue) → StepsInTurn id r old mid → mid.own ≡ old.own
steps_own id (Wrote e) old mid h = ap (λ (r : ReplayingValue). r.own) h.1
steps_own id (Asked a) old mid h = ap (λ (r : ReplayingValue). r.own) h.1
steps_own id (Applied e) old mid h = ap (λ (r : ReplayingValue). r.own) h.1

record_own : (id : DeskId) (o : Option Record) (old mid : ReplayingValue)
    → MatchOption o ⊥ (λ r. StepsInTurn id r old mid) → mid.own ≡ old.own
record_own id None old mid h = absurd h
record_own id (Some r) old mid h = steps_own id r old mid h

same_own : (id : DeskId) (n : ℕ) (old : ReplayingValue) (text : List ℕ) (mid : ReplayingValue)
    → StartsBy n id old text mid → mid.own ≡ old.own
same_own id zero old text mid h = ap (λ (r : ReplayingValue). r.own) h.1
same_own id (suc n) old text mid (inl w) = ap (λ (r : ReplayingValue). r.own) w.rest
same_own id (suc n) old text mid (inr (inl w)) = ap (λ (r : ReplayingValue). r.own) w.takes.rest
same_own id (suc n) old text mid (inr (inr w)) = record_own id (record_of old.own.site w.message) old mid w.steps

own_after : (id : DeskId) (old : ReplayingValue) (text : List ℕ) (new : ReplayingValue) (s : ℕ) → StartTakes id old text new
    → old.own.site ≡ s → new.own.site ≡ s
own_after id old text new s t own =
    ap (λ (o : OpeningValue). o.site)
    (ap (λ (r : ReplayingValue). r.own) t.counted ∙ same_own id old.taken old text t.mid t.does) ∙ own

counted : (n m : ℕ) → m ≡ min (n + 1) (2 ^ 64 - 1) → 1 ≤ m
counted n m h = omega (arith, h)

pub taken_after : (id : DeskId) (old : ReplayingValue) (text : List ℕ) (new : ReplayingValue) → StartTakes id old text new
    → 1 ≤ new.taken
taken_after id old text new t = counted t.mid.taken new.taken (ap (λ (r : ReplayingValue). r.taken) t.counted)

-- ---- all lines

-- what each of these lines makes of the value, one after another
abbrev pub Chain : DeskId → ℕ → KeptValue → Lines → KeptValue → Type 0
Chain id s k [] l = l ≡ k
Chain id s k (text ∷ texts) l = (m : KeptValue) × LineDone id s k text m × Chain id s m texts l

chained : (id : DeskId) (s : ℕ) (old : ReplayingValue) (lines : Lines) (new : ReplayingValue) (k l : KeptValue)
    → 1 ≤ old.taken → old.own.site ≡ s → (took : Takes (StartTakes id) old lines new) → TakeAlone id k old lines new l took
    → Chain id s k lines l
chained id s old [] new k l some own took alone = alone
chained id s old (text ∷ lines) new k l some own took alone =
    let t = took.1 in (
      alone.0,
      by_taken id s k alone.0 old t.mid took.0 text alone.1 (ap (λ (r : ReplayingValue). r.turns) t.counted)
          (ap (λ (r : ReplayingValue). r.seated.states) t.counted) own old.taken some t.does,
      chained id s took.0 lines new alone.0 l (taken_after id old text took.0 t) (own_after id old text took.0 s t own)
          took.2 alone.2,
    )

-- the opening changes nothing
opened : (id : DeskId) (k m : KeptValue) (old : ReplayingValue) (text : List ℕ) (new : ReplayingValue) → old.taken ≡ 0
    → StartTakes id old text new → HasDeskAlone k old new m → m ≡ k
opened id k m old text new none t alone =
    let first = subst (λ n. StartsBy n id old text t.mid) none t.does in
    found_same k m old new alone
    (ap (λ (r : ReplayingValue). r.turns) t.counted ∙ ap (λ (r : ReplayingValue). r.turns) first.1)
    (ap (λ (r : ReplayingValue). r.seated.states) t.counted ∙ ap (λ (r : ReplayingValue). r.seated.states) first.1)

by_lines : (id : DeskId) (s : ℕ) (old : ReplayingValue) (lines : Lines) (new : ReplayingValue) (k l : KeptValue)
    → old.taken ≡ 0 → old.own.site ≡ s → (took : Takes (StartTakes id) old lines new) → TakeAlone id k old lines new l took
    → Chain id s k (behind lines) l
by_lines id s old [] new k l none own took alone = alone
by_lines id s old (text ∷ lines) new k l none own took alone =
    subst (λ x. Chain id s x lines l) (opened id k alone.0 old text took.0 none took.1 alone.1)
    (chained id s took.0 lines new alone.0 l (taken_after id old text took.0 took.1)
    (own_after id old text took.0 s took.1 own) took.2 alone.2)

-- what a start makes of a desk that it has alone
pub all_chained : (id : DeskId) (own : OpeningValue) (lines : Lines) (done : ReplayingValue) (k l : KeptValue)
    → own.site ≡ id.site → (all : TakesAll id own lines done) → TakeAlone id k all.begun lines done l all.took
    → Chain id id.site k (behind lines) l
all_chained id own lines done k l site all alone =
    by_lines id id.site all.begun lines done k l all.none.0 (ap (λ (o : OpeningValue). o.site) all.whose ∙ site) all.took alone

-- the records of the steps were appended
pub chain_records : (id : DeskId) (s : ℕ) (k : KeptValue) (lines : Lines) (l : KeptValue) → Chain id s k lines l
    → l.records ≡ k.records ++ steps_in s lines
chain_records id s k [] l h = ap (λ (x : KeptValue). x.records) h ∙ sym (append-nil k.records)
chain_records id s k (text ∷ lines) l h =
    chain_records id s h.0 lines l h.2 ∙ ap (λ rs. rs ++ steps_in s lines) h.1.records
    ∙ append_assoc k.records (step_in s text) (steps_in s lines)
