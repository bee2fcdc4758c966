-- The move of the first field, read from the text that begins with it.
use Rattle.std.proofs.Common.{◌≡◌, ℕ, ◌≤◌, ◌<◌, ◌^◌, Bool, true, false, eqb, List, [], ◌∷◌, ◌++◌, length, not, Option}
use Rattle.std.proofs.Common.{Some, None, Ok, Err, refl, sym, ap, subst, ◌∙◌, arith, inl, inr, append_assoc}
use Rattle.std.specs.Prelude.{◌==◌, ◌⊎◌, decimal, if◌then◌else◌, is_some, is_none}
use Rattle.std.specs.Borrow.{Bor}
use Rattle.std.specs.List.{join_with_byte, onto_first}
use Rattle.std.proofs.lemmas.Bool.{eq-eqb, ne_eqb}
use Rattle.std.proofs.lemmas.List.{append-nil}
use Rattle.std.proofs.lemmas.List.Elements.{All-head, All-tail}
use Rattle.std.proofs.lemmas.List.Splits.{slice_split_none, slice_split_at, slice_split-cons_no}
use Rattle.std.proofs.lemmas.List.Splits.{join_with_byte-slice_split}
use Rattle.rights_types.specs.declared.moves.Move.{Move}
use Rattle.rights_types.specs.declared.moves.Move.TheVariants.{Issue, Spend, Grant, Give}
use Rattle.entry_codec.specs.Parts.{split_at, left}
use Rattle.entry_codec.specs.Moves.{◌>>=◌, number_of, first_number, only_number, grant_in, give_in, move_of, first_move}
use Rattle.entry_codec.proofs.Bytes.{Lacks, decimal_lacks}
use Rattle.entry_codec.specs.declared.fault.LineError.{LineError}
use Rattle.entry_codec.specs.Reading.{is_misplaced, allowed}
use Rattle.entry_codec.proofs.Cuts.{some_parts}
use Rattle.entry_codec.proofs.Digits.{some_part}
use Rattle.entry_codec.proofs.MoveLoop.{same_last}
use Rattle.entry_codec.proofs.MoveFields.{first_is, first_again}
use Rattle.entry_codec.proofs.Numbers.{number_is, number_some}

-- what a first field begins with does not matter where it does not part the fields
lacks_before : (c : ℕ) (a t : List ℕ) (g : List ℕ) (gs : List (List ℕ)) → Lacks c a → split_at c t ≡ g ∷ gs
    → split_at c (a ++ t) ≡ (a ++ g) ∷ gs
lacks_before c [] t g gs h e = e
lacks_before c (x ∷ a) t g gs h e =
    slice_split-cons_no (λ b. eqb b c) x (a ++ t) (All-head (λ b. eqb b c ≡ false) x a h)
    ∙ ap (onto_first x) (lacks_before c a t g gs (All-tail (λ b. eqb b c ≡ false) x a h) e)

-- a text is its first part, and what a separator sets off from it
tail_of : (c : ℕ) (t : List ℕ) (g : List ℕ) (gs : List (List ℕ)) → split_at c t ≡ g ∷ gs
    → (tail : List ℕ) × (t ≡ g ++ tail)
tail_of c t g [] e = ([], sym (join_with_byte-slice_split c t) ∙ ap (join_with_byte c) e ∙ sym (append-nil g))
tail_of c t g (y ∷ gs) e = (
  c ∷ join_with_byte c (y ∷ gs),
  sym (join_with_byte-slice_split c t)
      ∙ ap (join_with_byte c) e,
)

-- the number that begins a text up to a colon
colon_front : (low high n : ℕ) (t rest : List ℕ) → high < 10 ^ 19 → n ≤ high → t ≡ decimal n ++ 58 ∷ rest
    → split_at 58 t ≡ decimal n ∷ split_at 58 rest
colon_front low high n t rest top below e =
    ap (split_at 58) e ∙ slice_split_at (λ b. eqb b 58) (decimal n) 58 rest
    (decimal_lacks 58 n (inr (omega arith, omega arith)) (omega (arith, top, below))) (eq-eqb 58 58 refl)

rest_cases : (vs : List (List ℕ)) → (vs ≡ []) ⊎ ((y : List ℕ) × (ys : List (List ℕ)) × (vs ≡ y ∷ ys))
rest_cases [] = inl refl
rest_cases (y ∷ ys) = inr (y, ys, refl)

both_answers : (low high n : ℕ) (parts rest : List (List ℕ)) → parts ≡ decimal n ∷ rest → n < 2 ^ 64 → low ≤ n
    → n ≤ high → first_number low high parts ≡ None → ⊥
both_answers low high n parts rest e fits above below none =
    let found = sym none ∙ ap (first_number low high) e ∙ first_again low high n rest fits above below in absurd cc

-- if the text up to a colon spells no number, the first field has no further value after such a number
no_value : (low high : ℕ) (t g : List ℕ) (gs : List (List ℕ)) (x : ℕ × List (List ℕ)) → high < 10 ^ 19
    → split_at 32 t ≡ g ∷ gs → first_number low high (split_at 58 t) ≡ None
    → first_number low high (split_at 58 g) ≡ Some x → x.1 ≡ []
no_value low high t g gs x top e none found =
    elim (rest_cases x.1) [
      | inl h ↦ h
      | inr h ↦
          let is = first_is low high (split_at 58 g) x found in
          let tail = tail_of 32 t g gs e in
          let more : List ℕ = join_with_byte 58 (h.0 ∷ h.1) in
          let front : g ≡ decimal x.0 ++ 58 ∷ more = sym (join_with_byte-slice_split 58 g)
          ∙ ap (join_with_byte 58) (is.0 ∙ ap (λ (vs : List (List ℕ)). decimal x.0 ∷ vs) h.2) in
          let whole : t ≡ decimal x.0 ++ 58 ∷ (more ++ tail.0) = tail.1 ∙ ap (λ (u : List ℕ). u ++ tail.0) front
          ∙ append_assoc (decimal x.0) (58 ∷ more) tail.0 in
          let parts = colon_front low high x.0 t (more ++ tail.0) top is.2 whole in
          absurd (both_answers low high x.0 (split_at 58 t) _ parts (omega (arith, is.2, top)) is.1 is.2 none)
    ]

-- a number that the first field has up to a colon
value_parts : (low high : ℕ) (t u : List ℕ) (n : ℕ) (g : List ℕ) (gs : List (List ℕ)) → high < 10 ^ 19
    → first_number low high (split_at 58 t) ≡ Some (n, split_at 58 u) → split_at 32 u ≡ g ∷ gs
    → (split_at 32 t ≡ (decimal n ++ 58 ∷ g) ∷ gs) × (split_at 58 (decimal n ++ 58 ∷ g) ≡ decimal n ∷ split_at 58 g)
value_parts low high t u n g gs top found e =
    let is = first_is low high (split_at 58 t) (n, split_at 58 u) found in
    let more = some_part 58 u in
    let text : t ≡ decimal n ++ 58 ∷ u =
    sym (join_with_byte-slice_split 58 t)
    ∙ ap (join_with_byte 58) (is.0 ∙ ap (λ (vs : List (List ℕ)). decimal n ∷ vs) more.2)
    ∙ ap (λ (w : List ℕ). decimal n ++ 58 ∷ w) (sym (ap (join_with_byte 58) more.2)
    ∙ join_with_byte-slice_split 58 u) in
    let fits : n < 2 ^ 64 = omega (arith, is.2, top) in
    let colon : split_at 32 (58 ∷ u) ≡ (58 ∷ g) ∷ gs = ap (onto_first 58) e in (
      ap (split_at 32) text ∙ lacks_before 32 (decimal n) (58 ∷ u) (58 ∷ g) gs
          (decimal_lacks 32 n (inl (omega arith)) fits) colon,
      slice_split_at (λ b. eqb b 58) (decimal n) 58 g (decimal_lacks 58 n (inr (omega arith, omega arith)) fits)
          (eq-eqb 58 58 refl),
    )

abbrev pub if_alone : ℕ × List (List ℕ) → Option ℕ
if_alone x = if length x.1 == 0 then Some x.0 else None

abbrev pub with_rest : List (List ℕ) → ℕ → Option (ℕ × List (List ℕ))
with_rest rest n = Some (n, rest)

not_alone : (o : Option ℕ) (y : List ℕ) (ys : List (List ℕ)) → ((o >>= with_rest (y ∷ ys)) >>= if_alone) ≡ None
not_alone None y ys = refl
not_alone (Some n) y ys = rw (ne_eqb (length (y ∷ ys)) 0 (λ e. omega (arith, e))) refl

number_cases : (o : Option ℕ) → (o ≡ None) ⊎ ((n : ℕ) × (o ≡ Some n))
number_cases None = inl refl
number_cases (Some n) = inr (n, refl)

only_none : (low high : ℕ) (f : List ℕ) (vs : List (List ℕ)) → split_at 58 f ≡ vs → number_of low high f ≡ None
    → only_number low high vs ≡ None
unfolding only_number first_number
only_none low high f [] e none = refl
only_none low high f (v ∷ []) e none =
    let same : f ≡ v = sym (join_with_byte-slice_split 58 f)
    ∙ ap (join_with_byte 58) e in rw (ap (number_of low high) (sym same) ∙ none) refl
only_none low high f (v ∷ y ∷ ys) e none = not_alone (number_of low high v) y ys

-- the only value of a field without a colon
number_only : (low high : ℕ) (f : List ℕ) → high < 10 ^ 19 → only_number low high (split_at 58 f) ≡ number_of low high f
unfolding only_number first_number
number_only low high f top =
    elim (number_cases (number_of low high f)) [
      | inl none ↦ only_none low high f (split_at 58 f) refl none ∙ sym none
      | inr found ↦
          let is = number_is low high f found.0 found.1 in
          let lacks = decimal_lacks 58 found.0 (inr (omega arith, omega arith)) (omega (arith, is.2, top)) in
          let whole : split_at 58 f ≡ f ∷ []
          = subst (λ (t : List ℕ). split_at 58 t ≡ t ∷ []) (sym is.0)
          (slice_split_none (λ b. eqb b 58) (decimal found.0) lacks) in
          rw (whole, found.1) refl
    ]

-- ---- moves

-- a letter and its colon, before the first value
lettered : (letter : ℕ) (values g : List ℕ) (gs : List (List ℕ)) → eqb letter 32 ≡ false → split_at 32 values ≡ g ∷ gs
    → split_at 32 (letter ∷ 58 ∷ values) ≡ (letter ∷ 58 ∷ g) ∷ gs
lettered letter values g gs h e = slice_split-cons_no (λ b. eqb b 32) letter (58 ∷ values) h
    ∙ ap (λ (ps : List (List ℕ)). onto_first letter (onto_first 58 ps)) e

abbrev pub issued : ℕ × List (List ℕ) → Option (Move × List (List ℕ))
issued x = Some (Issue x.0, x.1)

abbrev pub spent : ℕ × List (List ℕ) → Option (Move × List (List ℕ))
spent x = Some (Spend x.0, x.1)

issue_number : (g : List ℕ) (gs : List (List ℕ)) (o : Option ℕ)
    → ((o >>= λ n. Some (Issue n)) >>= λ m. Some (m, gs)) ≡ ((o >>= with_rest gs) >>= issued)
issue_number g gs None = refl
issue_number g gs (Some n) = refl

spend_number : (g : List ℕ) (gs : List (List ℕ)) (o : Option ℕ)
    → ((o >>= λ n. Some (Spend n)) >>= λ m. Some (m, gs)) ≡ ((o >>= with_rest gs) >>= spent)
spend_number g gs None = refl
spend_number g gs (Some n) = refl

pub issue_first : (values : List ℕ)
    → first_move (split_at 32 (73 ∷ 58 ∷ values)) ≡ (first_number 1 1000000000 (split_at 32 values) >>= issued)
unfolding first_move move_of first_number
issue_first values =
    let p = some_part 32 values in
    let fields = lettered 73 values p.0 p.1 refl p.2 in
    rw (fields, p.2, number_only 1 1000000000 p.0 (omega arith)) (issue_number p.0 p.1 (number_of 1 1000000000 p.0))

pub spend_first : (values : List ℕ)
    → first_move (split_at 32 (83 ∷ 58 ∷ values)) ≡ (first_number 1 1000000000 (split_at 32 values) >>= spent)
unfolding first_move move_of first_number
spend_first values =
    let p = some_part 32 values in
    let fields = lettered 83 values p.0 p.1 refl p.2 in
    rw (fields, p.2, number_only 1 1000000000 p.0 (omega arith)) (spend_number p.0 p.1 (number_of 1 1000000000 p.0))

-- ---- giving

abbrev pub gave : ℕ → ℕ × List (List ℕ) → Option (Move × List (List ℕ))
gave j x = Some (Give j x.0, x.1)

no_peer : (o : Option (ℕ × List (List ℕ))) → ((x : ℕ × List (List ℕ)) → o ≡ Some x → x.1 ≡ [])
    → (o >>= λ peer. only_number 1 1000000000 peer.1 >>= λ n. Some (Give peer.0 n)) ≡ None
unfolding only_number first_number
no_peer None k = refl
no_peer (Some x) k = rw (k x refl) refl

pub give_none : (values : List ℕ) → first_number 1 16 (split_at 58 values) ≡ None
    → first_move (split_at 32 (82 ∷ 58 ∷ values)) ≡ None
unfolding first_move move_of give_in
give_none values h =
    let p = some_part 32 values in
    let fields = lettered 82 values p.0 p.1 refl p.2 in
    let none = no_peer (first_number 1 16 (split_at 58 p.0))
    (λ x found. no_value 1 16 values p.0 p.1 x (omega arith) p.2 h found) in
    rw (fields, none) refl

-- a number alone
alone_parts : (low high n : ℕ) (t : List ℕ) → high < 10 ^ 19 → first_number low high (split_at 58 t) ≡ Some (n, [])
    → (split_at 32 t ≡ decimal n ∷ []) × (split_at 58 (decimal n) ≡ decimal n ∷ []) × (n < 2 ^ 64)
    × (low ≤ n) × (n ≤ high)
alone_parts low high n t top found =
    let is = first_is low high (split_at 58 t) (n, []) found in
    let fits : n < 2 ^ 64 = omega (arith, is.2, top) in
    let text : t ≡ decimal n = sym (join_with_byte-slice_split 58 t) ∙ ap (join_with_byte 58) is.0 in (
      ap (split_at 32) text
          ∙ slice_split_none (λ b. eqb b 32) (decimal n) (decimal_lacks 32 n (inl (omega arith)) fits),
      slice_split_none (λ b. eqb b 58) (decimal n) (decimal_lacks 58 n (inr (omega arith, omega arith)) fits),
      fits,
      is.1,
      is.2,
    )

give_number : (j : ℕ) (gs : List (List ℕ)) (o : Option ℕ)
    → ((o >>= λ n. Some (Give j n)) >>= λ m. Some (m, gs)) ≡ ((o >>= with_rest gs) >>= gave j)
give_number j gs None = refl
give_number j gs (Some n) = refl

pub give_first : (values : List ℕ) (j : ℕ) (r : Option (Bor (List ℕ)))
    → first_number 1 16 (split_at 58 values) ≡ Some (j, left 58 r)
    → first_move (split_at 32 (82 ∷ 58 ∷ values)) ≡ (first_number 1 1000000000 (left 32 r) >>= gave j)
unfolding first_move move_of give_in only_number first_number
give_first values j None h =
    let a = alone_parts 1 16 j values (omega arith) h in
    let fields = lettered 82 values (decimal j) [] refl a.0 in
    let peer = number_some 1 16 j a.2 a.3 a.4 in
    rw (fields, a.1, peer) refl
give_first values j (Some u) h =
    let p = some_part 32 u.now in
    let v = value_parts 1 16 values u.now j p.0 p.1 (omega arith) h p.2 in
    let is = first_is 1 16 (split_at 58 values) (j, split_at 58 u.now) h in
    let fields = lettered 82 values (decimal j ++ 58 ∷ p.0) p.1 refl v.0 in
    let peer = number_some 1 16 j (omega (arith, is.2)) is.1 is.2 in
    let amount = number_only 1 1000000000 p.0 (omega arith) in
    rw (fields, v.1, peer, amount, p.2) (give_number j p.1 (number_of 1 1000000000 p.0))

-- ---- granting

abbrev pub granted : ℕ → ℕ → ℕ × List (List ℕ) → Option (Move × List (List ℕ))
granted j n x = Some (Grant j n x.0, x.1)

no_amount : (j : ℕ) (o : Option (ℕ × List (List ℕ))) → ((x : ℕ × List (List ℕ)) → o ≡ Some x → x.1 ≡ [])
    → (o >>= λ amount. only_number 1 1000000000 amount.1 >>= λ a. Some (Grant j amount.0 a)) ≡ None
unfolding only_number first_number
no_amount j None k = refl
no_amount j (Some x) k = rw (k x refl) refl

no_grant_peer : (o : Option (ℕ × List (List ℕ))) → ((x : ℕ × List (List ℕ)) → o ≡ Some x → x.1 ≡ [])
    → (o >>= λ peer. first_number 1 1000000000 peer.1 >>= λ amount. only_number 1 1000000000 amount.1 >>= λ a. Some
    (Grant peer.0 amount.0 a)) ≡ None
unfolding first_number
no_grant_peer None k = refl
no_grant_peer (Some x) k = rw (k x refl) refl

pub grant_none : (values : List ℕ) → first_number 1 16 (split_at 58 values) ≡ None
    → first_move (split_at 32 (71 ∷ 58 ∷ values)) ≡ None
unfolding first_move move_of grant_in
grant_none values h =
    let p = some_part 32 values in
    let fields = lettered 71 values p.0 p.1 refl p.2 in
    let none = no_grant_peer (first_number 1 16 (split_at 58 p.0))
    (λ x found. no_value 1 16 values p.0 p.1 x (omega arith) p.2 h found) in
    rw (fields, none) refl

pub grant_peer : (values : List ℕ) (j : ℕ) (r : Option (Bor (List ℕ)))
    → first_number 1 16 (split_at 58 values) ≡ Some (j, left 58 r) → first_number 1 1000000000 (left 58 r) ≡ None
    → first_move (split_at 32 (71 ∷ 58 ∷ values)) ≡ None
unfolding first_move move_of grant_in
grant_peer values j None h none =
    let a = alone_parts 1 16 j values (omega arith) h in
    let fields = lettered 71 values (decimal j) [] refl a.0 in
    let peer = first_again 1 16 j [] a.2 a.3 a.4 in
    rw (fields, a.1, peer, none) refl
grant_peer values j (Some u) h none =
    let p = some_part 32 u.now in
    let v = value_parts 1 16 values u.now j p.0 p.1 (omega arith) h p.2 in
    let is = first_is 1 16 (split_at 58 values) (j, split_at 58 u.now) h in
    let fields = lettered 71 values (decimal j ++ 58 ∷ p.0) p.1 refl v.0 in
    let peer = first_again 1 16 j (split_at 58 p.0) (omega (arith, is.2)) is.1 is.2 in
    let ends = no_amount j (first_number 1 1000000000 (split_at 58 p.0))
    (λ x found. no_value 1 1000000000 u.now p.0 p.1 x (omega arith) p.2 none found) in
    rw (fields, v.1, peer, ends) refl

grant_number : (j n : ℕ) (gs : List (List ℕ)) (o : Option ℕ)
    → ((o >>= λ a. Some (Grant j n a)) >>= λ m. Some (m, gs)) ≡ ((o >>= with_rest gs) >>= granted j n)
grant_number j n gs None = refl
grant_number j n gs (Some a) = refl

pub grant_first : (values : List ℕ) (j n : ℕ) (r s : Option (Bor (List ℕ)))
    → first_number 1 16 (split_at 58 values) ≡ Some (j, left 58 r)
    → first_number 1 1000000000 (left 58 r) ≡ Some (n, left 58 s)
    → first_move (split_at 32 (71 ∷ 58 ∷ values)) ≡ (first_number 1 1000000000 (left 32 s) >>= granted j n)
unfolding first_move move_of grant_in only_number first_number
grant_first values j n None s h k = absurd cc
grant_first values j n (Some u) None h k =
    let a = alone_parts 1 1000000000 n u.now (omega arith) k in
    let v = value_parts 1 16 values u.now j (decimal n) [] (omega arith) h a.0 in
    let is = first_is 1 16 (split_at 58 values) (j, split_at 58 u.now) h in
    let fields = lettered 71 values (decimal j ++ 58 ∷ decimal n) [] refl v.0 in
    let peer = number_some 1 16 j (omega (arith, is.2)) is.1 is.2 in
    let amount = number_some 1 1000000000 n a.2 a.3 a.4 in
    rw (fields, v.1, a.1, peer, amount) refl
grant_first values j n (Some u) (Some w) h k =
    let p = some_part 32 w.now in
    let b = value_parts 1 1000000000 u.now w.now n p.0 p.1 (omega arith) k p.2 in
    let v = value_parts 1 16 values u.now j (decimal n ++ 58 ∷ p.0) p.1 (omega arith) h b.0 in
    let j-is = first_is 1 16 (split_at 58 values) (j, split_at 58 u.now) h in
    let n-is = first_is 1 1000000000 (split_at 58 u.now) (n, split_at 58 w.now) k in
    let fields = lettered 71 values (decimal j ++ 58 ∷ (decimal n ++ 58 ∷ p.0)) p.1 refl v.0 in
    let peer = number_some 1 16 j (omega (arith, j-is.2)) j-is.1 j-is.2 in
    let amount = number_some 1 1000000000 n (omega (arith, n-is.2)) n-is.1 n-is.2 in
    let ask = number_only 1 1000000000 p.0 (omega arith) in
    rw (fields, v.1, b.1, peer, amount, ask, p.2) (grant_number j n p.1 (number_of 1 1000000000 p.0))

-- ---- whether the first move may stand there

abbrev found_with : List (List ℕ) → Move → Option (Move × List (List ℕ))
found_with gs m = Some (m, gs)

none_before : (o : Option Move) (gs : List (List ℕ)) → (o >>= found_with gs) ≡ None → o ≡ None
none_before None gs h = refl
none_before (Some m) gs h = absurd cc

abbrev move_or : Move → Option (Move × List (List ℕ)) → Move
move_or d None = d
move_or d (Some x) = x.0

abbrev rest_or : Option (Move × List (List ℕ)) → List (List ℕ)
rest_or None = []
rest_or (Some x) = x.1

move_before : (o : Option Move) (gs : List (List ℕ)) (m : Move) (hs : List (List ℕ))
    → (o >>= found_with gs) ≡ found_with hs m → (o ≡ Some m) × (gs ≡ hs)
move_before None gs m hs h = absurd cc
move_before (Some n) gs m hs h = (ap (λ (x : Move). Some x) (ap (move_or m) h), ap rest_or h)

some_move : (text : List ℕ) (m : Move) (hs : List (List ℕ)) → first_move (split_at 32 text) ≡ Some (m, hs)
    → (x : List ℕ) × (split_at 32 text ≡ x ∷ hs) × (move_of x ≡ Some m)
unfolding first_move
some_move text m hs h =
    let p = some_part 32 text in
    let is = move_before (move_of p.0) p.1 m hs (sym (ap first_move p.2) ∙ h) in
    (p.0, p.2 ∙ ap (λ (gs : List (List ℕ)). p.0 ∷ gs) is.1, is.0)

-- what is left has no field only if nothing is left
left_last : (rest : Option (Bor (List ℕ))) → is_none rest ≡ (length (left 32 rest) == 0)
left_last None = refl
left_last (Some t) = sym (ne_eqb (length (split_at 32 t.now)) 0 (λ e. omega (arith, e, some_parts 32 t.now)))

pub no_move : (fault : LineError) (origin : ℕ) (text : List ℕ) → first_move (split_at 32 text) ≡ None
    → (x : List ℕ) × (xs : List (List ℕ)) × (split_at 32 text ≡ x ∷ xs)
    × (allowed fault origin (length xs == 0) (move_of x) ≡ Err fault)
unfolding first_move
no_move fault origin text h =
    let p = some_part 32 text in
    let none = none_before (move_of p.0) p.1 (sym (ap first_move p.2) ∙ h) in
    (p.0, p.1, p.2, rw none refl)

pub refused_move : (fault : LineError) (origin : ℕ) (text : List ℕ) (m : Move) (rest : Option (Bor (List ℕ)))
    (last : Bool) → is_some rest ≡ not last
    → first_move (split_at 32 text) ≡ Some (m, left 32 rest) → is_misplaced origin last m ≡ true
    → (x : List ℕ) × (xs : List (List ℕ)) × (split_at 32 text ≡ x ∷ xs)
    × (allowed fault origin (length xs == 0) (move_of x) ≡ Err fault)
refused_move fault origin text m rest last l h k =
    let p = some_move text m (left 32 rest) h in
    (p.0, left 32 rest, p.1, rw (p.2, ← same_last last rest (length (left 32 rest) == 0) l (left_last rest), k) refl)

pub allowed_move : (fault : LineError) (origin : ℕ) (text : List ℕ) (m : Move) (rest : Option (Bor (List ℕ)))
    (last : Bool) → is_some rest ≡ not last
    → first_move (split_at 32 text) ≡ Some (m, left 32 rest) → is_misplaced origin last m ≡ false
    → (x : List ℕ) × (split_at 32 text ≡ x ∷ left 32 rest)
    × (allowed fault origin (length (left 32 rest) == 0) (move_of x) ≡ Ok m)
allowed_move fault origin text m rest last l h k =
    let p = some_move text m (left 32 rest) h in
    (p.0, p.1, rw (p.2, ← same_last last rest (length (left 32 rest) == 0) l (left_last rest), k) refl)
