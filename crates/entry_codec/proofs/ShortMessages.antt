-- Messages without entries: what is read is spelled so and keeps its limits, and what is spelled so is read.
use Rattle.std.proofs.Common.{◌≡◌, ℕ, ◌≤◌, Bool, true, false, cond, not, List, [], ◌∷◌, length, map, Option, Some, None}
use Rattle.std.proofs.Common.{Result, Ok, refl, sym, subst, ◌∙◌, arith, inl, inr}
use Rattle.std.specs.Prelude.{◌==◌, decimal, codes, is_some}
use Rattle.std.specs.Borrow.{Bor}
use Rattle.entry_codec.specs.Parts.{split_at, left}
use Rattle.entry_codec.proofs.Cuts.{some_parts}
use Rattle.std.specs.Str.{bytes_eq}
use Rattle.std.proofs.lemmas.Bool.{ne_eqb, eqb-true, eqb-false, not-false, or_parts}
use Rattle.std.proofs.lemmas.List.{nil_from_length, length-map}
use Rattle.std.proofs.lemmas.Slice.Eq.{bytes_eq-Decides}
use Rattle.rights_types.specs.Messages.{MessageValue, QueryValue, BeatValue, AskValue, DenyValue, IsMessage, IsQuery}
use Rattle.rights_types.specs.Messages.{IsBeat}
use Rattle.rights_types.specs.Messages.MessageValue.{AQuery, ABeat, AnAsk, ADenial, AHello}
use Rattle.entry_codec.specs.declared.fault.Place.{Place}
use Rattle.entry_codec.specs.declared.fault.LineError.{LineError}
use Rattle.entry_codec.specs.declared.fault.LineError.TheVariants.{BadField, TrailingBytes}
use Rattle.entry_codec.specs.Spelling.{parts_of}
use Rattle.entry_codec.specs.Reading.{◌>>=◌, place, fault_if, value_at, other_site_at, trails, query_of, beat_of}
use Rattle.entry_codec.specs.Reading.{ask_of, denial_of, hello_of, short_of}
use Rattle.entry_codec.proofs.MoveFields.{both_are, which}
use Rattle.entry_codec.proofs.Entries.{bind_ok, ok_is, past, IsNoWant, bind_no_want, test_no_want, number_read}
use Rattle.entry_codec.proofs.Entries.{number_at_again, number_no_want}

-- the parts are those of the message, which is within its limits
abbrev pub AreParts : List (List (List ℕ)) → MessageValue → Type 0
AreParts parts m = (parts ≡ parts_of m) × IsMessage m

pub alone : {A : Type 0} (xs : List A) → not (length xs == 0) ≡ false → xs ≡ []
alone xs h = nil_from_length xs (eqb-true (length xs) 0 (not-false (length xs == 0) h))

none_left : (fields : List (List ℕ)) (others : List (List (List ℕ))) → trails fields others ≡ false
    → (fields ≡ []) × (others ≡ [])
none_left fields others h =
    let parts = or_parts (not (length fields == 0)) (not (length others == 0)) h in
    (alone fields parts.0, alone others parts.1)

-- nothing was left
end_read : {B : Type 0} (fields : List (List ℕ)) (others : List (List (List ℕ)))
    (f : Unit {0} → Result B LineError) (y : B)
    → (fault_if TrailingBytes (trails fields others) >>= f) ≡ Ok y → (fields ≡ []) × (others ≡ []) × (f tt ≡ Ok y)
end_read fields others f y h =
    let k = past TrailingBytes (trails fields others) f y h in
    let none = none_left fields others k.0 in
    (none.0, none.1, k.1)

trails_no_want : (fields : List (List ℕ)) (others : List (List (List ℕ)))
    → IsNoWant (fault_if TrailingBytes (trails fields others))
trails_no_want fields others = test_no_want TrailingBytes (trails fields others) (λ same. absurd cc)

-- the code's tests for what is left agree with the definition
pub some_left : (at : ℕ) (o : Option (Bor (List ℕ))) (r : Bool) → r ≡ is_some o → not (length (left at o) == 0) ≡ r
some_left at None r h = sym h
some_left at (Some text) r h
    = rw (ne_eqb (length (split_at at text.now)) 0 (λ z. omega (arith, z, some_parts at text.now))) (sym h)

pub some_others : (o : Option (Bor (List ℕ))) (r : Bool) → r ≡ is_some o
    → not (length (map (split_at 32) (left 59 o)) == 0) ≡ r
some_others None r h = sym h
some_others (Some text) r h =
    rw (ne_eqb (length (map (split_at 32) (split_at 59 text.now))) 0
    (λ z. omega (arith, z, length-map (split_at 59 text.now) (split_at 32), some_parts 59 text.now))) (sym h)

-- ---- two sites that differ

other_site_is : (other : ℕ) (at : Place) (fields : List (List ℕ)) (x : ℕ × List (List ℕ))
    → other_site_at other at fields ≡ Ok x
    → (fields ≡ decimal x.0 ∷ x.1) × ((1 ≤ x.0) × (x.0 ≤ 16)) × (x.0 ≡ other → ⊥)
unfolding other_site_at
other_site_is other at fields x h =
    let a = number_read 1 16 at fields _ x h in
    let b = past (BadField at) (a.number == other) _ x a.later in
    subst (λ (y : ℕ × List (List ℕ)). (fields ≡ decimal y.0 ∷ y.1) × ((1 ≤ y.0) × (y.0 ≤ 16))
    × (y.0 ≡ other → ⊥)) (ok_is (a.number, a.rest) x b.1)
    (a.is, a.range, eqb-false a.number other b.0)

-- a site other than this one was read, and then the rest
pub record IsOtherRead {B : Type 0} (other : ℕ) (fields : List (List ℕ)) (f : ℕ × List (List ℕ)
    → Result B LineError) (y : B) : Type 0 where
  pub number : ℕ
  pub rest : List (List ℕ)
  pub is : fields ≡ decimal number ∷ rest
  pub range : (1 ≤ number) × (number ≤ 16)
  pub differ : number ≡ other → ⊥
  pub later : f (number, rest) ≡ Ok y

pub other_read : {B : Type 0} (other : ℕ) (at : Place) (fields : List (List ℕ)) (f : ℕ × List (List ℕ)
    → Result B LineError) (y : B)
    → (other_site_at other at fields >>= f) ≡ Ok y → IsOtherRead other fields f y
other_read other at fields f y h =
    let a = bind_ok (other_site_at other at fields) f y h in
    let n = other_site_is other at fields a.0 a.1 in
    record { number = a.0.0; rest = a.0.1; is = n.0; range = n.1; differ = n.2; later = a.2 }

pub other_site_again : (other : ℕ) (at : Place) (n : ℕ) (rest : List (List ℕ)) → (1 ≤ n) × (n ≤ 16) → (n ≡ other → ⊥)
    → other_site_at other at (decimal n ∷ rest) ≡ Ok (n, rest)
unfolding other_site_at
other_site_again other at n rest h ne
    = rw (number_at_again 1 16 at n rest (omega (arith, h.1)) h.0 h.1, ne_eqb n other ne) refl

pub other_site_no_want : (other : ℕ) (at : Place) (fields : List (List ℕ)) → IsNoWant (other_site_at other at fields)
unfolding other_site_at
other_site_no_want other at fields =
    bind_no_want (value_at 1 16 at fields) _ (number_no_want 1 16 at fields) (λ s.
    bind_no_want (fault_if (BadField at) (s.0 == other)) _
    (test_no_want (BadField at) (s.0 == other) (λ same. absurd cc)) (λ _ same. absurd cc))

-- ---- what is read is spelled so

query_is : (fields : List (List ℕ)) (others : List (List (List ℕ))) (m : MessageValue) → query_of fields others ≡ Ok m
    → AreParts ((codes "Q" ∷ fields) ∷ others) m
unfolding query_of
query_is fields others m h =
    let asker = number_read 1 16 (place 0 1) fields _ m h in
    let origin = other_read asker.number (place 0 2) asker.rest _ m asker.later in
    let first = number_read 0 1000000000 (place 0 3) origin.rest _ m origin.later in
    let last = number_read 0 1000000000 (place 0 4) first.rest _ m first.later in
    let end = end_read last.rest others _ m last.later in
    let made : QueryValue = record {
      asker = asker.number;
      origin = origin.number;
      first = first.number;
      last = last.number;
    } in
    subst (AreParts ((codes "Q" ∷ fields) ∷ others)) (ok_is (AQuery made) m end.2) (
      both_are (both_are refl (asker.is
          ∙ both_are refl (origin.is ∙ both_are refl (first.is ∙ both_are refl (last.is ∙ both_are refl end.0)))))
          end.1,
      record {
        asker = asker.range;
        origin = origin.range;
        first = first.range.1;
        last = last.range.1;
        differ = origin.differ;
      },
    )

beat_is : (fields : List (List ℕ)) (others : List (List (List ℕ))) (m : MessageValue) → beat_of fields others ≡ Ok m
    → AreParts ((codes "B" ∷ fields) ∷ others) m
unfolding beat_of
beat_is fields others m h =
    let origin = number_read 1 16 (place 0 1) fields _ m h in
    let number = number_read 0 1000000000 (place 0 2) origin.rest _ m origin.later in
    let end = end_read number.rest others _ m number.later in
    let made : BeatValue = record { origin = origin.number; number = number.number } in
    subst (AreParts ((codes "B" ∷ fields) ∷ others)) (ok_is (ABeat made) m end.2) (
      both_are (both_are refl (origin.is ∙ both_are refl (number.is ∙ both_are refl end.0))) end.1,
      record { origin = origin.range; number = number.range.1 },
    )

ask_is : (fields : List (List ℕ)) (others : List (List (List ℕ))) (m : MessageValue) → ask_of fields others ≡ Ok m
    → AreParts ((codes "W" ∷ fields) ∷ others) m
unfolding ask_of
ask_is fields others m h =
    let asker = number_read 1 16 (place 0 1) fields _ m h in
    let asked = other_read asker.number (place 0 2) asker.rest _ m asker.later in
    let ask = number_read 1 1000000000 (place 0 3) asked.rest _ m asked.later in
    let amount = number_read 1 1000000000 (place 0 4) ask.rest _ m ask.later in
    let end = end_read amount.rest others _ m amount.later in
    let made : AskValue = record {
      asker = asker.number;
      asked = asked.number;
      ask = ask.number;
      amount = amount.number;
    } in
    subst (AreParts ((codes "W" ∷ fields) ∷ others)) (ok_is (AnAsk made) m end.2) (
      both_are (both_are refl (asker.is
          ∙ both_are refl (asked.is ∙ both_are refl (ask.is ∙ both_are refl (amount.is ∙ both_are refl end.0))))) end.1,
      record {
        asker = asker.range;
        asked = asked.range;
        differ = asked.differ;
        ask = ask.range;
        amount = amount.range;
      },
    )

denial_is : (fields : List (List ℕ)) (others : List (List (List ℕ))) (m : MessageValue) → denial_of fields others ≡ Ok m
    → AreParts ((codes "D" ∷ fields) ∷ others) m
unfolding denial_of
denial_is fields others m h =
    let denier = number_read 1 16 (place 0 1) fields _ m h in
    let asker = other_read denier.number (place 0 2) denier.rest _ m denier.later in
    let ask = number_read 1 1000000000 (place 0 3) asker.rest _ m asker.later in
    let end = end_read ask.rest others _ m ask.later in
    let made : DenyValue = record { denier = denier.number; asker = asker.number; ask = ask.number } in
    subst (AreParts ((codes "D" ∷ fields) ∷ others)) (ok_is (ADenial made) m end.2) (
      both_are (both_are refl (denier.is
          ∙ both_are refl (asker.is ∙ both_are refl (ask.is ∙ both_are refl end.0)))) end.1,
      record { denier = denier.range; asker = asker.range; differ = asker.differ; ask = ask.range },
    )

hello_is : (fields : List (List ℕ)) (others : List (List (List ℕ))) (m : MessageValue) → hello_of fields others ≡ Ok m
    → AreParts ((codes "H" ∷ fields) ∷ others) m
unfolding hello_of
hello_is fields others m h =
    let site = number_read 1 16 (place 0 1) fields _ m h in
    let end = end_read site.rest others _ m site.later in
    subst (AreParts ((codes "H" ∷ fields) ∷ others)) (ok_is (AHello site.number) m end.2)
    (both_are (both_are refl (site.is ∙ both_are refl end.0)) end.1, site.range)

-- the letter is the one that was tested
pub with_letter : (letter text : List ℕ) (fields : List (List ℕ)) (others : List (List (List ℕ))) (m : MessageValue)
    → bytes_eq letter text ≡ true → AreParts ((text ∷ fields) ∷ others) m → AreParts ((letter ∷ fields) ∷ others) m
with_letter letter text fields others m e h
    = (both_are (both_are ((bytes_eq-Decides letter text).0 e) refl) refl ∙ h.0, h.1)

pub short_is : (letter : List ℕ) (fields : List (List ℕ)) (others : List (List (List ℕ))) (m : MessageValue)
    → short_of letter fields others ≡ Ok m → AreParts ((letter ∷ fields) ∷ others) m
unfolding short_of
short_is l fs others m h =
    elim (which (bytes_eq l (codes "Q")) _ _ (Ok m) h) [
      | inl y ↦ with_letter l (codes "Q") fs others m y.0 (query_is fs others m y.1)
      | inr n ↦ elim (which (bytes_eq l (codes "B")) _ _ (Ok m) n.1) [
        | inl y ↦ with_letter l (codes "B") fs others m y.0 (beat_is fs others m y.1)
        | inr n ↦ elim (which (bytes_eq l (codes "W")) _ _ (Ok m) n.1) [
          | inl y ↦ with_letter l (codes "W") fs others m y.0 (ask_is fs others m y.1)
          | inr n ↦ elim (which (bytes_eq l (codes "D")) _ _ (Ok m) n.1) [
            | inl y ↦ with_letter l (codes "D") fs others m y.0 (denial_is fs others m y.1)
            | inr n ↦ elim (which (bytes_eq l (codes "H")) _ _ (Ok m) n.1) [
              | inl y ↦ with_letter l (codes "H") fs others m y.0 (hello_is fs others m y.1)
              | inr n ↦ let bad = n.1 in absurd cc
            ]
          ]
        ]
      ]
    ]

-- ---- what is spelled so is read

query_again : (q : QueryValue) → IsQuery q
    → query_of (decimal q.asker ∷ decimal q.origin ∷ decimal q.first ∷ decimal q.last ∷ []) [] ≡ Ok (AQuery q)
unfolding query_of
query_again q h =
    rw (
      number_at_again 1 16 (place 0 1) q.asker (decimal q.origin ∷ decimal q.first ∷ decimal q.last ∷ [])
          (omega (arith, h.asker.1)) h.asker.0 h.asker.1,
      other_site_again q.asker (place 0 2) q.origin (decimal q.first ∷ decimal q.last ∷ []) h.origin h.differ,
      number_at_again 0 1000000000 (place 0 3) q.first (decimal q.last ∷ []) (omega (arith, h.first))
          (omega arith) h.first,
      number_at_again 0 1000000000 (place 0 4) q.last [] (omega (arith, h.last)) (omega arith) h.last,
    ) refl

beat_again : (b : BeatValue) → IsBeat b → beat_of (decimal b.origin ∷ decimal b.number ∷ []) [] ≡ Ok (ABeat b)
unfolding beat_of
beat_again b h =
    rw (
      number_at_again 1 16 (place 0 1) b.origin (decimal b.number ∷ [])
          (omega (arith, h.origin.1)) h.origin.0 h.origin.1,
      number_at_again 0 1000000000 (place 0 2) b.number [] (omega (arith, h.number)) (omega arith) h.number,
    ) refl

ask_again : (a : AskValue) → IsMessage (AnAsk a)
    → ask_of (decimal a.asker ∷ decimal a.asked ∷ decimal a.ask ∷ decimal a.amount ∷ []) [] ≡ Ok (AnAsk a)
unfolding ask_of
ask_again a h =
    rw (
      number_at_again 1 16 (place 0 1) a.asker (decimal a.asked ∷ decimal a.ask ∷ decimal a.amount ∷ [])
          (omega (arith, h.asker.1)) h.asker.0 h.asker.1,
      other_site_again a.asker (place 0 2) a.asked (decimal a.ask ∷ decimal a.amount ∷ []) h.asked h.differ,
      number_at_again 1 1000000000 (place 0 3) a.ask (decimal a.amount ∷ []) (omega (arith, h.ask.1)) h.ask.0 h.ask.1,
      number_at_again 1 1000000000 (place 0 4) a.amount [] (omega (arith, h.amount.1)) h.amount.0 h.amount.1,
    ) refl

denial_again : (d : DenyValue) → IsMessage (ADenial d)
    → denial_of (decimal d.denier ∷ decimal d.asker ∷ decimal d.ask ∷ []) [] ≡ Ok (ADenial d)
unfolding denial_of
denial_again d h =
    rw (
      number_at_again 1 16 (place 0 1) d.denier (decimal d.asker ∷ decimal d.ask ∷ [])
          (omega (arith, h.denier.1)) h.denier.0 h.denier.1,
      other_site_again d.denier (place 0 2) d.asker (decimal d.ask ∷ []) h.asker h.differ,
      number_at_again 1 1000000000 (place 0 3) d.ask [] (omega (arith, h.ask.1)) h.ask.0 h.ask.1,
    ) refl

hello_again : (s : ℕ) → IsMessage (AHello s) → hello_of (decimal s ∷ []) [] ≡ Ok (AHello s)
unfolding hello_of
hello_again s h = rw (number_at_again 1 16 (place 0 1) s [] (omega (arith, h.1)) h.0 h.1) refl

pub query_short : (q : QueryValue) → IsQuery q
    → short_of (codes "Q") (decimal q.asker ∷ decimal q.origin ∷ decimal q.first ∷ decimal q.last ∷ []) []
    ≡ Ok (AQuery q)
unfolding short_of
query_short q h = query_again q h

pub beat_short : (b : BeatValue) → IsBeat b
    → short_of (codes "B") (decimal b.origin ∷ decimal b.number ∷ []) [] ≡ Ok (ABeat b)
unfolding short_of
beat_short b h = beat_again b h

pub ask_short : (a : AskValue) → IsMessage (AnAsk a)
    → short_of (codes "W") (decimal a.asker ∷ decimal a.asked ∷ decimal a.ask ∷ decimal a.amount ∷ []) [] ≡ Ok (AnAsk a)
unfolding short_of
ask_short a h = ask_again a h

pub denial_short : (d : DenyValue) → IsMessage (ADenial d)
    → short_of (codes "D") (decimal d.denier ∷ decimal d.asker ∷ decimal d.ask ∷ []) [] ≡ Ok (ADenial d)
unfolding short_of
denial_short d h = denial_again d h

pub hello_short : (s : ℕ) → IsMessage (AHello s) → short_of (codes "H") (decimal s ∷ []) [] ≡ Ok (AHello s)
unfolding short_of
hello_short s h = hello_again s h

-- ---- lack of memory is no fault

query_no_want : (fields : List (List ℕ)) (others : List (List (List ℕ))) → IsNoWant (query_of fields others)
unfolding query_of
query_no_want fields others =
    bind_no_want (value_at 1 16 (place 0 1) fields) _ (number_no_want 1 16 (place 0 1) fields) (λ s.
    bind_no_want (other_site_at s.0 (place 0 2) s.1) _ (other_site_no_want s.0 (place 0 2) s.1) (λ o.
    bind_no_want (value_at 0 1000000000 (place 0 3) o.1) _ (number_no_want 0 1000000000 (place 0 3) o.1) (λ f.
    bind_no_want (value_at 0 1000000000 (place 0 4) f.1) _ (number_no_want 0 1000000000 (place 0 4) f.1) (λ l.
    bind_no_want (fault_if TrailingBytes (trails l.1 others)) _ (trails_no_want l.1 others) (λ _ same. absurd cc)))))

beat_no_want : (fields : List (List ℕ)) (others : List (List (List ℕ))) → IsNoWant (beat_of fields others)
unfolding beat_of
beat_no_want fields others =
    bind_no_want (value_at 1 16 (place 0 1) fields) _ (number_no_want 1 16 (place 0 1) fields) (λ o.
    bind_no_want (value_at 0 1000000000 (place 0 2) o.1) _ (number_no_want 0 1000000000 (place 0 2) o.1) (λ n.
    bind_no_want (fault_if TrailingBytes (trails n.1 others)) _ (trails_no_want n.1 others) (λ _ same. absurd cc)))

ask_no_want : (fields : List (List ℕ)) (others : List (List (List ℕ))) → IsNoWant (ask_of fields others)
unfolding ask_of
ask_no_want fields others =
    bind_no_want (value_at 1 16 (place 0 1) fields) _ (number_no_want 1 16 (place 0 1) fields) (λ o.
    bind_no_want (other_site_at o.0 (place 0 2) o.1) _ (other_site_no_want o.0 (place 0 2) o.1) (λ j.
    bind_no_want (value_at 1 1000000000 (place 0 3) j.1) _ (number_no_want 1 1000000000 (place 0 3) j.1) (λ a.
    bind_no_want (value_at 1 1000000000 (place 0 4) a.1) _ (number_no_want 1 1000000000 (place 0 4) a.1) (λ n.
    bind_no_want (fault_if TrailingBytes (trails n.1 others)) _ (trails_no_want n.1 others) (λ _ same. absurd cc)))))

denial_no_want : (fields : List (List ℕ)) (others : List (List (List ℕ))) → IsNoWant (denial_of fields others)
unfolding denial_of
denial_no_want fields others =
    bind_no_want (value_at 1 16 (place 0 1) fields) _ (number_no_want 1 16 (place 0 1) fields) (λ o.
    bind_no_want (other_site_at o.0 (place 0 2) o.1) _ (other_site_no_want o.0 (place 0 2) o.1) (λ j.
    bind_no_want (value_at 1 1000000000 (place 0 3) j.1) _ (number_no_want 1 1000000000 (place 0 3) j.1) (λ a.
    bind_no_want (fault_if TrailingBytes (trails a.1 others)) _ (trails_no_want a.1 others) (λ _ same. absurd cc))))

hello_no_want : (fields : List (List ℕ)) (others : List (List (List ℕ))) → IsNoWant (hello_of fields others)
unfolding hello_of
hello_no_want fields others =
    bind_no_want (value_at 1 16 (place 0 1) fields) _ (number_no_want 1 16 (place 0 1) fields) (λ s.
    bind_no_want (fault_if TrailingBytes (trails s.1 others)) _ (trails_no_want s.1 others) (λ _ same. absurd cc))

pub if_no_want : {A : Type 0} (b : Bool) (x y : Result A LineError) → IsNoWant x → IsNoWant y → IsNoWant (cond b x y)
if_no_want true x y h k = h
if_no_want false x y h k = k

pub short_no_want : (letter : List ℕ) (fields : List (List ℕ)) (others : List (List (List ℕ)))
    → IsNoWant (short_of letter fields others)
unfolding short_of
short_no_want l fs others =
    if_no_want (bytes_eq l (codes "Q")) _ _ (query_no_want fs others)
    (if_no_want (bytes_eq l (codes "B")) _ _ (beat_no_want fs others)
    (if_no_want (bytes_eq l (codes "W")) _ _ (ask_no_want fs others)
    (if_no_want (bytes_eq l (codes "D")) _ _ (denial_no_want fs others)
    (if_no_want (bytes_eq l (codes "H")) _ _ (hello_no_want fs others) (λ same. absurd cc)))))
