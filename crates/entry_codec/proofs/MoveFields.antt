-- A move and the values of its field: what is read is spelled so, and what is spelled so is read.
use Rattle.std.proofs.Common.{◌≡◌, ℕ, ◌≤◌, ◌<◌, ◌^◌, Bool, true, false, cond, ltb, List, [], ◌∷◌, length, map, Option}
use Rattle.std.proofs.Common.{Some, None, refl, sym, ap, subst, ◌∙◌, arith, inl, inr}
use Rattle.std.specs.Prelude.{◌==◌, ◌||◌, ◌⊎◌, decimal, codes, IfSome}
use Rattle.std.specs.List.{All, join_with_byte}
use Rattle.std.specs.Str.{bytes_eq}
use Rattle.std.proofs.lemmas.Bool.{eqb-true, ltb-false, le-ltb, or_parts}
use Rattle.std.proofs.lemmas.Option.{cond_some, same_Some}
use Rattle.std.proofs.lemmas.List.{nil_from_length, length-map}
use Rattle.std.proofs.lemmas.List.Elements.{All-nil, All-cons, All-head, All-tail}
use Rattle.std.proofs.lemmas.List.Splits.{join_with_byte-slice_split}
use Rattle.std.proofs.lemmas.Slice.Eq.{bytes_eq-Decides}
use Rattle.rights_types.specs.Ranges.{IsNumber, IsFrontier}
use Rattle.rights_types.specs.Moves.{IsMove}
use Rattle.rights_types.specs.declared.moves.Move.{Move}
use Rattle.rights_types.specs.declared.moves.Move.TheVariants.{Issue, Spend, Grant, Give, Close, CloseAt, TakeBack}
use Rattle.entry_codec.specs.Parts.{split_at}
use Rattle.entry_codec.specs.Spelling.{move_values, move_text}
use Rattle.entry_codec.specs.Moves.{◌>>=◌, number_of, first_number, only_number, all_numbers, grant_in, give_in}
use Rattle.entry_codec.specs.Moves.{take_back_in, frontier_in, move_by, move_of}
use Rattle.entry_codec.proofs.Numbers.{number_is, number_some}
use Rattle.entry_codec.proofs.Bytes.{values_back}

pub both_are : {A : Type 0} {x y : A} {xs ys : List A} → x ≡ y → xs ≡ ys → x ∷ xs ≡ y ∷ ys
both_are {A} {y = y} {xs = xs} h k = ap (λ (z : A). z ∷ xs) h ∙ ap (λ (zs : List A). y ∷ zs) k

-- the value of a step that found one
bind_some : {A B : Type 0} (o : Option A) (f : A → Option B) (y : B) → (o >>= f) ≡ Some y
    → (x : A) × (o ≡ Some x) × (f x ≡ Some y)
bind_some (Some x) f y e = (x, refl, e)
bind_some None f y e = absurd cc

pub which : {A : Type 0} (b : Bool) (x y z : A) → cond b x y ≡ z → ((b ≡ true) × (x ≡ z)) ⊎ ((b ≡ false) × (y ≡ z))
which true x y z h = inl (refl, h)
which false x y z h = inr (refl, h)

-- ---- numbers

abbrev Read : List (List ℕ) → ℕ → ℕ → ℕ × List (List ℕ) → Type 0
Read texts low high x = (texts ≡ decimal x.0 ∷ x.1) × (low ≤ x.0) × (x.0 ≤ high)

pub first_is : (low high : ℕ) (texts : List (List ℕ)) (x : ℕ × List (List ℕ)) → first_number low high texts ≡ Some x
    → (texts ≡ decimal x.0 ∷ x.1) × (low ≤ x.0) × (x.0 ≤ high)
unfolding first_number
first_is low high [] x h = absurd cc
first_is low high (text ∷ rest) x h =
    let a = bind_some (number_of low high text) _ x h in
    let n = number_is low high text a.0 a.1 in
    subst (Read (text ∷ rest) low high) (same_Some (a.0, rest) x a.2) (both_are n.0 refl, n.1, n.2)

only_is : (low high : ℕ) (texts : List (List ℕ)) (n : ℕ) → only_number low high texts ≡ Some n
    → (texts ≡ decimal n ∷ []) × (low ≤ n) × (n ≤ high)
unfolding only_number
only_is low high texts n h =
    let a = bind_some (first_number low high texts) _ n h in
    let x = first_is low high texts a.0 a.1 in
    let b = cond_some (length a.0.1 == 0) a.0.0 n a.2 in
    let none : a.0.1 ≡ [] = nil_from_length a.0.1 (eqb-true (length a.0.1) 0 b.0) in
    (x.0 ∙ both_are (ap decimal b.1) none, omega (arith, x.1, b.1), omega (arith, x.2, b.1))

-- a number was read, and then the rest
record IsFirstRead (low high : ℕ) (texts : List (List ℕ)) (f : ℕ × List (List ℕ)
    → Option Move) (m : Move) : Type 0 where
  number : ℕ
  rest : List (List ℕ)
  is : texts ≡ decimal number ∷ rest
  range : (low ≤ number) × (number ≤ high)
  later : f (number, rest) ≡ Some m

first_read : (low high : ℕ) (texts : List (List ℕ)) (f : ℕ × List (List ℕ) → Option Move) (m : Move)
    → (first_number low high texts >>= f) ≡ Some m
    → IsFirstRead low high texts f m
first_read low high texts f m h =
    let a = bind_some (first_number low high texts) f m h in
    let n = first_is low high texts a.0 a.1 in
    record { number = a.0.0; rest = a.0.1; is = n.0; range = (n.1, n.2); later = a.2 }

-- the last number was read
record IsLastRead (low high : ℕ) (texts : List (List ℕ)) (f : ℕ → Option Move) (m : Move) : Type 0 where
  number : ℕ
  is : texts ≡ decimal number ∷ []
  range : (low ≤ number) × (number ≤ high)
  later : f number ≡ Some m

only_read : (low high : ℕ) (texts : List (List ℕ)) (f : ℕ → Option Move) (m : Move)
    → (only_number low high texts >>= f) ≡ Some m → IsLastRead low high texts f m
only_read low high texts f m h =
    let a = bind_some (only_number low high texts) f m h in
    let n = only_is low high texts a.0 a.1 in
    record { number = a.0; is = n.0; range = (n.1, n.2); later = a.2 }

pub all_numbers_are : (texts : List (List ℕ)) (ns : List ℕ) → all_numbers texts ≡ Some ns
    → (texts ≡ map decimal ns) × All IsNumber ns
unfolding all_numbers
all_numbers_are [] ns h = subst (λ (ms : List ℕ). ([] ≡ map decimal ms) × All IsNumber ms) (same_Some [] ns h)
    (refl, All-nil IsNumber)
all_numbers_are (text ∷ rest) ns h =
    let a = bind_some (number_of 0 1000000000 text) _ ns h in
    let b = bind_some (all_numbers rest) _ ns a.2 in
    let n = number_is 0 1000000000 text a.0 a.1 in
    let more = all_numbers_are rest b.0 b.1 in
    subst (λ (ms : List ℕ). (text ∷ rest ≡ map decimal ms) × All IsNumber ms) (same_Some (a.0 ∷ b.0) ns b.2)
    (both_are n.0 more.0, All-cons IsNumber a.0 b.0 n.2 more.1)

none_or : {A : Type 0} (b : Bool) (o : Option A) (y : A) → cond b None o ≡ Some y → (b ≡ false) × (o ≡ Some y)
none_or true o y h = absurd cc
none_or false o y h = (refl, h)

cond_some_of : {A : Type 0} (b : Bool) (o : Option A) (y : A) → cond b o None ≡ Some y → (b ≡ true) × (o ≡ Some y)
cond_some_of true o y h = (refl, h)
cond_some_of false o y h = absurd cc

frontier_is : (texts : List (List ℕ)) (f : List ℕ) → frontier_in texts ≡ Some f → (texts ≡ map decimal f) × IsFrontier f
unfolding frontier_in
frontier_is texts f h =
    let a = none_or (ltb (length texts) 2 || ltb 16 (length texts)) (all_numbers texts) f h in
    let ns = all_numbers_are texts f a.1 in
    let same : length texts ≡ length f = ap length ns.0 ∙ length-map f decimal in
    let tests = or_parts (ltb (length texts) 2) (ltb 16 (length texts)) a.0 in (
      ns.0,
      record {
        some = omega (arith, same, ltb-false (length texts) 2 tests.0);
        few = omega (arith, same, ltb-false 16 (length texts) tests.1);
        each = ns.1;
      },
    )

pub first_again : (low high n : ℕ) (rest : List (List ℕ)) → n < 2 ^ 64 → low ≤ n → n ≤ high
    → first_number low high (decimal n ∷ rest) ≡ Some (n, rest)
unfolding first_number
first_again low high n rest fits above below = rw (number_some low high n fits above below) refl

only_again : (low high n : ℕ) → n < 2 ^ 64 → low ≤ n → n ≤ high → only_number low high (decimal n ∷ []) ≡ Some n
unfolding only_number
only_again low high n fits above below = rw (first_again low high n [] fits above below) refl

all_again : (ns : List ℕ) → All IsNumber ns → all_numbers (map decimal ns) ≡ Some ns
unfolding all_numbers
all_again [] h = refl
all_again (n ∷ ns) h =
    let small = All-head IsNumber n ns h in
    rw (
      number_some 0 1000000000 n (omega (arith, small)) (omega arith) small,
      all_again ns (All-tail IsNumber n ns h),
    ) refl

frontier_again : (f : List ℕ) → IsFrontier f → frontier_in (map decimal f) ≡ Some f
unfolding frontier_in
frontier_again f h =
    let same : length (map decimal f) ≡ length f = length-map f decimal in
    let some : ltb (length (map decimal f)) 2 ≡ false
    = le-ltb (length (map decimal f)) 2 (omega (arith, same, h.some)) in
    let few : ltb 16 (length (map decimal f)) ≡ false
    = le-ltb 16 (length (map decimal f)) (omega (arith, same, h.few)) in
    rw (some, few) (all_again f h.each)

-- ---- moves

abbrev Spelled : List (List ℕ) → Move → Type 0
Spelled texts m = (texts ≡ move_values m) × IsMove m

grant_is : (values : List (List ℕ)) (m : Move) → grant_in values ≡ Some m → Spelled (codes "G" ∷ values) m
unfolding grant_in
grant_is values m h =
    let j = first_read 1 16 values _ m h in
    let n = first_read 1 1000000000 j.rest _ m j.later in
    let k = only_read 1 1000000000 n.rest _ m n.later in
    subst (Spelled (codes "G" ∷ values)) (same_Some (Grant j.number n.number k.number) m k.later)
    (both_are refl (j.is ∙ both_are refl (n.is ∙ both_are refl k.is)), (j.range, n.range, k.range))

give_is : (values : List (List ℕ)) (m : Move) → give_in values ≡ Some m → Spelled (codes "R" ∷ values) m
unfolding give_in
give_is values m h =
    let j = first_read 1 16 values _ m h in
    let n = only_read 1 1000000000 j.rest _ m j.later in
    subst (Spelled (codes "R" ∷ values)) (same_Some (Give j.number n.number) m n.later) (
      both_are refl (j.is
          ∙ both_are refl n.is),
      (j.range, n.range),
    )

take_back_is : (values : List (List ℕ)) (m : Move) → take_back_in values ≡ Some m → Spelled (codes "V" ∷ values) m
unfolding take_back_in
take_back_is values m h =
    let j = first_read 1 16 values _ m h in
    let n = only_read 1 1000000000000000000 j.rest _ m j.later in
    subst (Spelled (codes "V" ∷ values)) (same_Some (TakeBack j.number n.number) m n.later) (
      both_are refl (j.is
          ∙ both_are refl n.is),
      (j.range, n.range),
    )

issue_is : (values : List (List ℕ)) (m : Move) → (only_number 1 1000000000 values >>= λ n. Some (Issue n)) ≡ Some m
    → Spelled (codes "I" ∷ values) m
issue_is values m h =
    let n = only_read 1 1000000000 values (λ n. Some (Issue n)) m h in
    subst (Spelled (codes "I" ∷ values)) (same_Some (Issue n.number) m n.later) (both_are refl n.is, n.range)

spend_is : (values : List (List ℕ)) (m : Move) → (only_number 1 1000000000 values >>= λ n. Some (Spend n)) ≡ Some m
    → Spelled (codes "S" ∷ values) m
spend_is values m h =
    let n = only_read 1 1000000000 values (λ n. Some (Spend n)) m h in
    subst (Spelled (codes "S" ∷ values)) (same_Some (Spend n.number) m n.later) (both_are refl n.is, n.range)

close_is : (values : List (List ℕ)) (m : Move) → cond (length values == 0) (Some Close) None ≡ Some m
    → Spelled (codes "C" ∷ values) m
close_is values m h =
    let a = cond_some (length values == 0) Close m h in
    subst (Spelled (codes "C" ∷ values)) a.1
    (both_are refl (nil_from_length values (eqb-true (length values) 0 a.0)), tt)

close_at_is : (values : List (List ℕ)) (m : Move) → (frontier_in values >>= λ f. Some (CloseAt f)) ≡ Some m
    → Spelled (codes "K" ∷ values) m
close_at_is values m h =
    let a = bind_some (frontier_in values) (λ f. Some (CloseAt f)) m h in
    let f = frontier_is values a.0 a.1 in
    subst (Spelled (codes "K" ∷ values)) (same_Some (CloseAt a.0) m a.2) (both_are refl f.0, f.1)

-- the letter is the one that was tested
with_letter : (letter text : List ℕ) (values : List (List ℕ)) (m : Move) → bytes_eq letter text ≡ true
    → Spelled (text ∷ values) m → Spelled (letter ∷ values) m
with_letter letter text values m e h = (both_are ((bytes_eq-Decides letter text).0 e) refl ∙ h.0, h.1)

move_is : (texts : List (List ℕ)) (m : Move) → move_by texts ≡ Some m → Spelled texts m
move_is [] m h = absurd cc
move_is (l ∷ vs) m h =
    elim (which (bytes_eq l (codes "I")) _ _ (Some m) h) [
      | inl y ↦ with_letter l (codes "I") vs m y.0 (issue_is vs m y.1)
      | inr n ↦ elim (which (bytes_eq l (codes "S")) _ _ (Some m) n.1) [
        | inl y ↦ with_letter l (codes "S") vs m y.0 (spend_is vs m y.1)
        | inr n ↦ elim (which (bytes_eq l (codes "G")) _ _ (Some m) n.1) [
          | inl y ↦ with_letter l (codes "G") vs m y.0 (grant_is vs m y.1)
          | inr n ↦ elim (which (bytes_eq l (codes "R")) _ _ (Some m) n.1) [
            | inl y ↦ with_letter l (codes "R") vs m y.0 (give_is vs m y.1)
            | inr n ↦ elim (which (bytes_eq l (codes "C")) _ _ (Some m) n.1) [
              | inl y ↦ with_letter l (codes "C") vs m y.0 (close_is vs m y.1)
              | inr n ↦ elim (which (bytes_eq l (codes "K")) _ _ (Some m) n.1) [
                | inl y ↦ with_letter l (codes "K") vs m y.0 (close_at_is vs m y.1)
                | inr n ↦
                    let y = cond_some_of (bytes_eq l (codes "V")) (take_back_in vs) m n.1 in
                    with_letter l (codes "V") vs m y.0 (take_back_is vs m y.1)
              ]
            ]
          ]
        ]
      ]
    ]

-- a field that is read as a move is its text
pub move_of_is : (text : List ℕ) (m : Move) → move_of text ≡ Some m → (text ≡ move_text m) × IsMove m
unfolding move_of
move_of_is text m h =
    let found = move_is (split_at 58 text) m h in
    (sym (join_with_byte-slice_split 58 text) ∙ ap (join_with_byte 58) found.0, found.1)

grant_again : (j n a : ℕ) → IsMove (Grant j n a)
    → grant_in (decimal j ∷ decimal n ∷ decimal a ∷ []) ≡ Some (Grant j n a)
unfolding grant_in
grant_again j n a h =
    rw (
      first_again 1 16 j (decimal n ∷ decimal a ∷ []) (omega (arith, h.0.1)) h.0.0 h.0.1,
      first_again 1 1000000000 n (decimal a ∷ []) (omega (arith, h.1.1)) h.1.0 h.1.1,
      only_again 1 1000000000 a (omega (arith, h.2.1)) h.2.0 h.2.1,
    ) refl

give_again : (j n : ℕ) → IsMove (Give j n) → give_in (decimal j ∷ decimal n ∷ []) ≡ Some (Give j n)
unfolding give_in
give_again j n h = rw (
  first_again 1 16 j (decimal n ∷ []) (omega (arith, h.0.1)) h.0.0 h.0.1,
  only_again 1 1000000000 n (omega (arith, h.1.1)) h.1.0 h.1.1,
) refl

take_back_again : (j n : ℕ) → IsMove (TakeBack j n) → take_back_in (decimal j ∷ decimal n ∷ []) ≡ Some (TakeBack j n)
unfolding take_back_in
take_back_again j n h = rw (
  first_again 1 16 j (decimal n ∷ []) (omega (arith, h.0.1)) h.0.0 h.0.1,
  only_again 1 1000000000000000000 n (omega (arith, h.1.1)) h.1.0 h.1.1,
) refl

move_by_again : (m : Move) → IsMove m → move_by (move_values m) ≡ Some m
move_by_again (Issue n) h = rw (only_again 1 1000000000 n (omega (arith, h.1)) h.0 h.1) refl
move_by_again (Spend n) h = rw (only_again 1 1000000000 n (omega (arith, h.1)) h.0 h.1) refl
move_by_again (Grant j n a) h = grant_again j n a h
move_by_again (Give j n) h = give_again j n h
move_by_again Close h = refl
move_by_again (CloseAt f) h = rw (frontier_again f h) refl
move_by_again (TakeBack j n) h = take_back_again j n h

-- a move's text is read as the move
pub move_again : (m : Move) → IsMove m → move_of (move_text m) ≡ Some m
unfolding move_of
move_again m h = ap move_by (values_back m h) ∙ move_by_again m h

-- what reading a field finds is what the field spells, and what it spells is found
pub move_found : (text : List ℕ) (r : Option Move) → r ≡ move_of text → IfSome r (λ m. IsMove m × (text ≡ move_text m))
move_found text None h = tt
move_found text (Some m) h = let is = move_of_is text m (sym h) in (is.1, is.0)

pub move_only : (text : List ℕ) (r : Option Move) → r ≡ move_of text → (m : Move) → IsMove m
    → text ≡ move_text m → r ≡ Some m
move_only text r h m valid is = h ∙ ap move_of is ∙ move_again m valid
