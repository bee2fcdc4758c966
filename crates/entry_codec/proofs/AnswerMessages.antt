-- An answer and its parts: what is read is spelled so and within its limits, and what is spelled so is read.
use Rattle.std.proofs.Common.{◌≡◌, ℕ, ◌+◌, ◌≤◌, ◌<◌, true, not, ltb, List, [], ◌∷◌, ◌++◌, length, take, map, Option}
use Rattle.std.proofs.Common.{Some, None, Result, Ok, Err, refl, sym, ap, subst, ◌∙◌, arith, inl, inr, append_assoc}
use Rattle.std.specs.Prelude.{◌==◌, decimal, codes, IfSome}
use Rattle.std.specs.Borrow.{Bor}
use Rattle.std.specs.List.{All}
use Rattle.std.proofs.lemmas.Bool.{ltb-false, le-ltb, lt-ltb, cases_lt}
use Rattle.std.proofs.lemmas.List.{append-nil, length_push, take_all, take-append-le, length-take-le, take-take}
use Rattle.std.proofs.lemmas.List.Elements.{All-from_recursion, recursion_from_All}
use Rattle.rights_types.specs.declared.limits.TheConstants.{MAX_LINE}
use Rattle.rights_types.specs.Ranges.{IsSite}
use Rattle.rights_types.specs.Entries.{EntryValue, IsEntry}
use Rattle.rights_types.specs.Messages.{MessageValue, AnswerValue, IsAnswer}
use Rattle.rights_types.specs.Messages.MessageValue.{AnAnswer}
use Rattle.entry_codec.specs.declared.fault.LineError.{LineError}
use Rattle.entry_codec.specs.declared.fault.LineError.TheVariants.{TooLong, NoEnd, BadKind, BadField, BadMove}
use Rattle.entry_codec.specs.declared.fault.LineError.TheVariants.{CountWrong, TrailingBytes, OutOfMemory}
use Rattle.entry_codec.specs.Parts.{left, Tells, Gives}
use Rattle.entry_codec.specs.Spelling.{entry_fields}
use Rattle.entry_codec.specs.Reading.{◌>>=◌, place, fault_if, value_at, other_site_at, listed_entry_of, entries_of}
use Rattle.entry_codec.specs.Reading.{answer_sites_of, answer_entries_of, answer_of, has_entries}
use Rattle.entry_codec.proofs.Cuts.{few_parts}
use Rattle.entry_codec.proofs.MoveFields.{both_are}
use Rattle.entry_codec.proofs.Entries.{bind_ok, ok_is, past, IsNoWant, bind_no_want, test_no_want, number_read}
use Rattle.entry_codec.proofs.Entries.{number_at_again, number_no_want, IsOf, entries_are, entries_again}
use Rattle.entry_codec.proofs.Entries.{entries_no_want}
use Rattle.entry_codec.proofs.ShortMessages.{AreParts, alone, other_read, other_site_again, other_site_no_want}

pub record AreSites (fields : List (List ℕ)) (sites : ℕ × ℕ) : Type 0 where
  pub fields-are : fields ≡ decimal sites.0 ∷ decimal sites.1 ∷ []
  pub origin : IsSite sites.0
  pub asker : IsSite sites.1
  pub differ : sites.1 ≡ sites.0 → ⊥

pub sites_are : (fields : List (List ℕ)) (sites : ℕ × ℕ) → answer_sites_of fields ≡ Ok sites → AreSites fields sites
unfolding answer_sites_of
sites_are fields sites h =
    let origin = number_read 1 16 (place 0 1) fields _ sites h in
    let asker = other_read origin.number (place 0 2) origin.rest _ sites origin.later in
    let k = past TrailingBytes (not (length asker.rest == 0)) _ sites asker.later in
    subst (AreSites fields) (ok_is (origin.number, asker.number) sites k.1) (record {
      fields-are = origin.is ∙ both_are refl (asker.is ∙ both_are refl (alone asker.rest k.0));
      origin = origin.range;
      asker = asker.range;
      differ = asker.differ;
    })

pub record AreEntries (origin : ℕ) (parts : List (List (List ℕ))) (es : List EntryValue) : Type 0 where
  pub parts-are : parts ≡ map entry_fields es
  pub few : length es ≤ 16
  pub valid : All IsEntry es
  pub of_origin : All (IsOf origin) es

pub answer_entries_are : (origin : ℕ) (parts : List (List (List ℕ))) (es : List EntryValue) → IsSite origin
    → answer_entries_of origin parts ≡ Ok es → AreEntries origin parts es
unfolding answer_entries_of
answer_entries_are origin parts es site h =
    let a = bind_ok (entries_of 1 origin parts) _ es h in
    let k = past CountWrong (ltb 16 (length a.0)) _ es a.2 in
    let e = entries_are 1 origin parts a.0 site a.1 in
    subst (AreEntries origin parts) (ok_is a.0 es k.1) (record {
      parts-are = e.parts-are;
      few = ltb-false 16 (length a.0) k.0;
      valid = All-from_recursion IsEntry a.0 e.valid;
      of_origin = All-from_recursion (IsOf origin) a.0 e.of_origin;
    })

pub made_answer : (sites : ℕ × ℕ) (fields : List (List ℕ)) (others : List (List (List ℕ))) (es : List EntryValue)
    → AreSites fields sites → AreEntries sites.0 others es
    → IsAnswer (record { origin = sites.0; asker = sites.1; entries = es })
made_answer sites fields others es s e
    = record {
      origin = s.origin;
      asker = s.asker;
      differ = s.differ;
      few = e.few;
      entries = e.valid;
      of_origin = e.of_origin;
    }

pub answer_is : (fields : List (List ℕ)) (others : List (List (List ℕ))) (m : MessageValue)
    → answer_of fields others ≡ Ok m → AreParts ((codes "A" ∷ fields) ∷ others) m
unfolding answer_of
answer_is fields others m h =
    let a = bind_ok (answer_sites_of fields) _ m h in
    let b = bind_ok (answer_entries_of a.0.0 others) _ m a.2 in
    let s = sites_are fields a.0 a.1 in
    let e = answer_entries_are a.0.0 others b.0 s.origin b.1 in
    let made : AnswerValue = record { origin = a.0.0; asker = a.0.1; entries = b.0 } in
    subst (AreParts ((codes "A" ∷ fields) ∷ others)) (ok_is (AnAnswer made) m b.2)
    (both_are (both_are refl s.fields-are) e.parts-are, made_answer a.0 fields others b.0 s e)

pub answer_has : (fields : List (List ℕ)) (others : List (List (List ℕ))) (m : MessageValue)
    → answer_of fields others ≡ Ok m → has_entries m ≡ true
unfolding answer_of
answer_has fields others m h =
    let a = bind_ok (answer_sites_of fields) _ m h in
    let b = bind_ok (answer_entries_of a.0.0 others) _ m a.2 in
    ap has_entries (sym (ok_is (AnAnswer (record { origin = a.0.0; asker = a.0.1; entries = b.0 })) m b.2))

sites_again : (o s : ℕ) → IsSite o → IsSite s → (s ≡ o → ⊥) → answer_sites_of (decimal o ∷ decimal s ∷ []) ≡ Ok (o, s)
unfolding answer_sites_of
sites_again o s h k ne = rw (
  number_at_again 1 16 (place 0 1) o (decimal s ∷ []) (omega (arith, h.1)) h.0 h.1,
  other_site_again o (place 0 2) s [] k ne,
) refl

answer_entries_again : (o : ℕ) (es : List EntryValue) → length es ≤ 16 → All IsEntry es → All (IsOf o) es
    → answer_entries_of o (map entry_fields es) ≡ Ok es
unfolding answer_entries_of
answer_entries_again o es few valid of_origin =
    rw (
      entries_again 1 o es (recursion_from_All IsEntry es valid) (recursion_from_All (IsOf o) es of_origin),
      le-ltb 16 (length es) few,
    ) refl

pub answer_again : (a : AnswerValue) → IsAnswer a
    → answer_of (decimal a.origin ∷ decimal a.asker ∷ []) (map entry_fields a.entries) ≡ Ok (AnAnswer a)
unfolding answer_of
answer_again a h = rw (
  sites_again a.origin a.asker h.origin h.asker h.differ,
  answer_entries_again a.origin a.entries h.few h.entries h.of_origin,
) refl

sites_no_want : (fields : List (List ℕ)) → IsNoWant (answer_sites_of fields)
unfolding answer_sites_of
sites_no_want fields =
    bind_no_want (value_at 1 16 (place 0 1) fields) _ (number_no_want 1 16 (place 0 1) fields) (λ o.
    bind_no_want (other_site_at o.0 (place 0 2) o.1) _ (other_site_no_want o.0 (place 0 2) o.1) (λ s.
    bind_no_want (fault_if TrailingBytes (not (length s.1 == 0))) _
    (test_no_want TrailingBytes (not (length s.1 == 0)) (λ same. absurd cc)) (λ _ same. absurd cc)))

pub answer_entries_no_want : (origin : ℕ) (parts : List (List (List ℕ))) → IsNoWant (answer_entries_of origin parts)
unfolding answer_entries_of
answer_entries_no_want origin parts =
    bind_no_want (entries_of 1 origin parts) _ (entries_no_want 1 origin parts) (λ es.
    bind_no_want (fault_if CountWrong (ltb 16 (length es))) _
    (test_no_want CountWrong (ltb 16 (length es)) (λ same. absurd cc)) (λ _ same. absurd cc))

pub answer_no_want : (fields : List (List ℕ)) (others : List (List (List ℕ))) → IsNoWant (answer_of fields others)
unfolding answer_of
answer_no_want fields others =
    bind_no_want (answer_sites_of fields) _ (sites_no_want fields) (λ s.
    bind_no_want (answer_entries_of s.0 others) _ (answer_entries_no_want s.0 others) (λ es same. absurd cc))

-- ---- in steps

pub answer_sites_fail : (fields : List (List ℕ)) (others : List (List (List ℕ))) (e : LineError)
    → answer_sites_of fields ≡ Err e → answer_of fields others ≡ Err e
unfolding answer_of
answer_sites_fail fields others e h = rw h refl

pub answer_done : (fields : List (List ℕ)) (others : List (List (List ℕ))) (sites : ℕ × ℕ) (es : List EntryValue)
    → answer_sites_of fields ≡ Ok sites → answer_entries_of sites.0 others ≡ Ok es
    → answer_of fields others ≡ Ok (AnAnswer (record { origin = sites.0; asker = sites.1; entries = es }))
unfolding answer_of
answer_done fields others sites es h k = rw (h, k) refl

answer_entries_fail : (fields : List (List ℕ)) (others : List (List (List ℕ))) (sites : ℕ × ℕ) (e : LineError)
    → answer_sites_of fields ≡ Ok sites → answer_entries_of sites.0 others ≡ Err e → answer_of fields others ≡ Err e
unfolding answer_of
answer_entries_fail fields others sites e h k = rw (h, k) refl

pub answer_refused : {X Y : Type 0} (view : X → MessageValue)
    (inner : Y → List EntryValue) (fields : List (List ℕ)) (others : List (List (List ℕ))) (sites : ℕ
    × ℕ) (e : LineError)
    → answer_sites_of fields ≡ Ok sites → Gives inner (Err e) (answer_entries_of sites.0 others)
    → Gives view (Err e) (answer_of fields others)
answer_refused view inner fields others sites TooLong h k = answer_entries_fail fields others sites TooLong h k
answer_refused view inner fields others sites NoEnd h k = answer_entries_fail fields others sites NoEnd h k
answer_refused view inner fields others sites BadKind h k = answer_entries_fail fields others sites BadKind h k
answer_refused view inner fields others sites (BadField p) h k
    = answer_entries_fail fields others sites (BadField p) h k
answer_refused view inner fields others sites (BadMove p) h k = answer_entries_fail fields others sites (BadMove p) h k
answer_refused view inner fields others sites CountWrong h k = answer_entries_fail fields others sites CountWrong h k
answer_refused view inner fields others sites TrailingBytes h k
    = answer_entries_fail fields others sites TrailingBytes h k
answer_refused view inner fields others sites OutOfMemory h k = (_, answer_done fields others sites k.0 h k.1)

pub counted_few : (origin : ℕ) (parts : List (List (List ℕ))) (es : List EntryValue) → entries_of 1 origin parts ≡ Ok es
    → length es ≤ 16 → answer_entries_of origin parts ≡ Ok es
unfolding answer_entries_of
counted_few origin parts es h few = rw (h, le-ltb 16 (length es) few) refl

pub counted_many : (origin : ℕ) (parts : List (List (List ℕ))) (es : List EntryValue)
    → entries_of 1 origin parts ≡ Ok es → 16 < length es → answer_entries_of origin parts ≡ Err CountWrong
unfolding answer_entries_of
counted_many origin parts es h many = rw (h, lt-ltb 16 (length es) many) refl

pub entry_fails : (origin : ℕ) (parts : List (List (List ℕ))) (e : LineError) → entries_of 1 origin parts ≡ Err e
    → answer_entries_of origin parts ≡ Err e
unfolding answer_entries_of
entry_fails origin parts e h = rw h refl

pub tells_fault : {X Y : Type 0} (view : X → Y) (e : LineError) (read : Result Y LineError) → read ≡ Err e
    → Tells view (Err e) read
tells_fault view TooLong read h = h
tells_fault view NoEnd read h = h
tells_fault view BadKind read h = h
tells_fault view (BadField p) read h = h
tells_fault view (BadMove p) read h = h
tells_fault view CountWrong read h = h
tells_fault view TrailingBytes read h = h
tells_fault view OutOfMemory read h = tt

-- ---- entries one after the other, as a loop reads them

abbrev pub with_front : List EntryValue → Result (List EntryValue) LineError → Result (List EntryValue) LineError
with_front front read = read >>= λ es. Ok (front ++ es)

regroup : (front : List EntryValue) (e : EntryValue) (read : Result (List EntryValue) LineError)
    → with_front front (read >>= λ es. Ok (e ∷ es)) ≡ with_front (front ++ e ∷ []) read
regroup front e (Ok es) = ap (λ (x : List EntryValue). Ok x) (sym (append_assoc front (e ∷ []) es))
regroup front e (Err f) = refl

-- this many entries are read, and reading the rest gives the same result as the whole
pub record AreReadUpTo (count : ℕ) (rest whole : Result (List EntryValue) LineError) : Type 0 where
  pub entries : List EntryValue
  pub count-is : length entries ≡ count
  pub so_far : with_front entries rest ≡ whole

pub begins : (whole : Result (List EntryValue) LineError) → AreReadUpTo 0 whole whole
begins whole = record { entries = []; count-is = refl; so_far = same whole } where
  same : (read : Result (List EntryValue) LineError) → with_front [] read ≡ read
  same (Ok es) = refl
  same (Err f) = refl

pub reads_more : (count part origin : ℕ) (first : List (List ℕ)) (more rest : List (List (List ℕ))) (e : EntryValue)
    (whole : Result (List EntryValue) LineError)
    → rest ≡ first ∷ more → listed_entry_of part origin first ≡ Ok e
    → AreReadUpTo count (entries_of part origin rest) whole
    → AreReadUpTo (count + 1) (entries_of (part + 1) origin more) whole
unfolding entries_of
reads_more count part origin first more rest e whole eq is h =
    let one : with_front h.entries (entries_of part origin (first ∷ more))
    ≡ with_front (h.entries ++ e ∷ []) (entries_of (part + 1) origin more)
    = rw is (regroup h.entries e (entries_of (part + 1) origin more)) in
    record {
      entries = h.entries ++ e ∷ [];
      count-is = length_push h.entries e ∙ ap (λ (n : ℕ). n + 1) h.count-is;
      so_far = sym one ∙ rw eq at h.so_far;
    }

pub stops : (count part origin : ℕ) (first : List (List ℕ)) (more rest : List (List (List ℕ))) (f : LineError)
    (whole : Result (List EntryValue) LineError)
    → rest ≡ first ∷ more → listed_entry_of part origin first ≡ Err f
    → AreReadUpTo count (entries_of part origin rest) whole → whole ≡ Err f
unfolding entries_of
stops count part origin first more rest f whole eq is h =
    let one : with_front h.entries (entries_of part origin (first ∷ more)) ≡ Err f = rw is refl in
    sym (rw eq at h.so_far) ∙ one

pub all_read : (count part origin : ℕ) (rest : List (List (List ℕ))) (whole : Result (List EntryValue) LineError)
    (h : AreReadUpTo count (entries_of part origin rest) whole) → rest ≡ [] → whole ≡ Ok h.entries
unfolding entries_of
all_read count part origin rest whole h e = sym h.so_far
    ∙ rw e (ap (λ (x : List EntryValue). Ok x) (append-nil h.entries))

-- the first sixteen of them are kept
pub record AreKeptUpTo (items : List EntryValue) (count : ℕ)
    (rest whole : Result (List EntryValue) LineError) : Type 0 where
  pub read : AreReadUpTo count rest whole
  pub kept : items ≡ take 16 read.entries

pub keeps_none : (items : List EntryValue) (whole : Result (List EntryValue) LineError) → items ≡ []
    → AreKeptUpTo items 0 whole whole
unfolding begins
keeps_none items whole none = record { read = begins whole; kept = none }

take_push : (es : List EntryValue) (e : EntryValue) → take 16 (take 16 es ++ e ∷ []) ≡ take 16 (es ++ e ∷ [])
take_push es e =
    elim (cases_lt (length es) 16) [
      | inl few ↦ ap (λ (xs : List EntryValue). take 16 (xs ++ e ∷ [])) (take_all 16 es (omega (arith, few)))
      | inr many ↦
          take-append-le 16 (take 16 es) (e ∷ []) (omega (arith, length-take-le 16 es many))
          ∙ take-take 16 16 es (omega arith) ∙ sym (take-append-le 16 es (e ∷ []) many)
    ]

pub keeps_more : (items now : List EntryValue) (count part origin : ℕ) (first : List (List ℕ))
    (more rest : List (List (List ℕ))) (e : EntryValue) (whole : Result (List EntryValue) LineError)
    → rest ≡ first ∷ more → listed_entry_of part origin first ≡ Ok e → now ≡ take 16 (items ++ e ∷ [])
    → AreKeptUpTo items count (entries_of part origin rest) whole
    → AreKeptUpTo now (count + 1) (entries_of (part + 1) origin more) whole
unfolding entries_of reads_more
keeps_more items now count part origin first more rest e whole eq is added h = record {
  read = reads_more count part origin first more rest e whole eq is h.read;
  kept = added ∙ ap (λ (xs : List EntryValue). take 16 (xs ++ e ∷ [])) h.kept ∙ take_push h.read.entries e;
}

pub few_items : (items : List EntryValue) (count : ℕ) (rest whole : Result (List EntryValue) LineError)
    → AreKeptUpTo items count rest whole → length items ≤ 16
few_items items count rest whole h =
    elim (cases_lt (length h.read.entries) 16) [
      | inl few ↦ omega (arith, ap length (h.kept ∙ take_all 16 h.read.entries (omega (arith, few))), few)
      | inr many ↦ omega (arith, ap length h.kept, length-take-le 16 h.read.entries many)
    ]

pub all_kept : (items : List EntryValue) (count part origin : ℕ) (rest : List (List (List ℕ)))
    (parts : List (List (List ℕ)))
    → rest ≡ [] → count ≤ 16 → AreKeptUpTo items count (entries_of part origin rest) (entries_of 1 origin parts)
    → answer_entries_of origin parts ≡ Ok items
all_kept items count part origin rest parts e few h =
    let whole = all_read count part origin rest (entries_of 1 origin parts) h.read e in
    counted_few origin parts h.read.entries whole (omega (arith, h.read.count-is, few))
    ∙ ap (λ (x : List EntryValue). Ok x)
    (sym (h.kept ∙ take_all 16 h.read.entries (omega (arith, h.read.count-is, few))))

pub too_many : (items : List EntryValue) (count part origin : ℕ) (rest : List (List (List ℕ)))
    (parts : List (List (List ℕ)))
    → rest ≡ [] → 16 < count → AreKeptUpTo items count (entries_of part origin rest) (entries_of 1 origin parts)
    → answer_entries_of origin parts ≡ Err CountWrong
too_many items count part origin rest parts e many h =
    counted_many origin parts h.read.entries (all_read count part origin rest (entries_of 1 origin parts) h.read e)
    (omega (arith, h.read.count-is, many))

-- ---- room

pub short_rest : (o r : Option (Bor (List ℕ))) (t : Bor (List ℕ)) → o ≡ Some t
    → IfSome o (λ text. length text.now ≤ MAX_LINE) → IfSome r (λ rest. length rest.now < length t.now)
    → IfSome r (λ text. length text.now ≤ MAX_LINE)
short_rest o None t e h k = tt
short_rest o (Some x) t e h k = let all = rw e at h in omega (arith, all, k)

pub parts_room : (o : Option (Bor (List ℕ))) → IfSome o (λ text. length text.now ≤ MAX_LINE)
    → length (left 59 o) ≤ MAX_LINE + 1
parts_room None h = omega arith
parts_room (Some text) h = omega (arith, few_parts 59 text.now, h)
