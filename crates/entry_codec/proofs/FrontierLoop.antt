-- Reading a frontier's numbers one after the other, as a loop does.
use Rattle.std.proofs.Common.{◌≡◌, ℕ, ◌+◌, ◌≤◌, ◌<◌, Bool, true, false, ltb, List, [], ◌∷◌, ◌++◌, length, take, set}
use Rattle.std.proofs.Common.{Option, Some, None, Ok, Err, refl, sym, ap, ◌∙◌, arith, append_assoc, inl, inr}
use Rattle.std.specs.Prelude.{◌||◌, is_some, decimal}
use Rattle.std.proofs.lemmas.Bool.{lt-ltb, le-ltb}
use Rattle.std.proofs.lemmas.List.{append-nil, take_more_set, length-set}
use Rattle.rights_types.specs.Frontiers.{FrontierMade}
use Rattle.rights_types.specs.declared.fault.TypeError.{TypeError}
use Rattle.rights_types.specs.declared.fault.TypeError.TheVariants.{BadSite, BadAmount, BadNumber, BadCount}
use Rattle.rights_types.specs.declared.fault.TypeError.TheVariants.{CloseNotLast, SameSite}
use Rattle.entry_codec.specs.Moves.{◌>>=◌, number_of, first_number, all_numbers, frontier_in}
use Rattle.entry_codec.specs.Parts.{left}
use Rattle.std.specs.Borrow.{Bor}
use Rattle.entry_codec.proofs.Cuts.{some_parts}
use Rattle.entry_codec.proofs.Numbers.{number_some}
use Rattle.entry_codec.proofs.MoveFields.{first_is, all_numbers_are}

abbrev pub with_front : List ℕ → Option (List ℕ) → Option (List ℕ)
with_front front read = read >>= λ ns. Some (front ++ ns)

pub record IsReadUpTo (numbers : List ℕ) (count : ℕ) (rest whole : List (List ℕ)) : Type 0 where
  pub so_far : with_front (take count numbers) (all_numbers rest) ≡ all_numbers whole
  pub sum : count + length rest ≡ length whole
  pub most : count ≤ 16
  pub sixteen : length numbers ≡ 16

regroup : (front : List ℕ) (n : ℕ) (read : Option (List ℕ))
    → with_front front (read >>= λ ns. Some (n ∷ ns)) ≡ with_front (front ++ n ∷ []) read
regroup front n (Some ns) = ap (λ (x : List ℕ). Some x) (sym (append_assoc front (n ∷ []) ns))
regroup front n None = refl

pub begins : (numbers : List ℕ) (whole : List (List ℕ)) → length numbers ≡ 16 → IsReadUpTo numbers 0 whole whole
begins numbers whole h = record {
  so_far = same (all_numbers whole);
  sum = omega arith;
  most = omega arith;
  sixteen = h;
} where
  same : (read : Option (List ℕ)) → with_front [] read ≡ read
  same (Some ns) = refl
  same None = refl

pub reads_more : (numbers : List ℕ) (count n : ℕ) (text : List ℕ) (more rest whole : List (List ℕ))
    → rest ≡ text ∷ more → count < 16
    → number_of 0 1000000000 text ≡ Some n → IsReadUpTo numbers count rest whole
    → IsReadUpTo (set numbers count n) (count + 1) more whole
unfolding all_numbers
reads_more numbers count n text more rest whole e lt is h =
    let front = take count numbers in
    let taken : take (count + 1) (set numbers count n) ≡ front ++ n ∷ []
    = take_more_set numbers count n (omega (arith, lt, h.sixteen)) in
    let one : with_front front (all_numbers (text ∷ more)) ≡ with_front (front ++ n ∷ []) (all_numbers more)
    = rw is (regroup front n (all_numbers more)) in
    record {
      so_far = rw taken (sym one ∙ rw e at h.so_far);
      sum = omega (arith, h.sum, ap length e);
      most = omega (arith, lt);
      sixteen = length-set numbers count n ∙ h.sixteen;
    }

or_true : (b : Bool) → (b || true) ≡ true
or_true true = refl
or_true false = refl

-- no frontier if a value is no number, or there are more than 16
pub stops : (numbers : List ℕ) (count : ℕ) (text : List ℕ) (more rest whole : List (List ℕ)) → rest ≡ text ∷ more
    → number_of 0 1000000000 text ≡ None → IsReadUpTo numbers count rest whole → None ≡ frontier_in whole
unfolding all_numbers frontier_in
stops numbers count text more rest whole e is h =
    let none : all_numbers whole ≡ None = sym h.so_far ∙ rw (e, is) refl in
    grind (arith, none)

-- the same, by what a call that reads the first value gives
pub reads_first : (numbers : List ℕ) (count n : ℕ) (more rest whole : List (List ℕ))
    → first_number 0 1000000000 rest ≡ Some (n, more) → count < 16
    → IsReadUpTo numbers count rest whole → IsReadUpTo (set numbers count n) (count + 1) more whole
reads_first numbers count n more rest whole h lt inv =
    let first = first_is 0 1000000000 rest (n, more) h in
    reads_more numbers count n (decimal n) more rest whole first.0 lt
    (number_some 0 1000000000 n (omega (arith, first.2)) (omega arith) first.2) inv

abbrev with_rest : List (List ℕ) → ℕ → Option (ℕ × List (List ℕ))
with_rest more n = Some (n, more)

none_of : (more : List (List ℕ)) (o : Option ℕ) → (o >>= with_rest more) ≡ None → o ≡ None
none_of more None h = refl
none_of more (Some n) h = absurd cc

no_number : (text : List ℕ) (more : List (List ℕ)) → first_number 0 1000000000 (text ∷ more) ≡ None
    → number_of 0 1000000000 text ≡ None
unfolding first_number
no_number text more h = none_of more (number_of 0 1000000000 text) h

pub stops_first : (numbers : List ℕ) (count : ℕ) (rest whole : List (List ℕ)) → 1 ≤ length rest
    → first_number 0 1000000000 rest ≡ None → IsReadUpTo numbers count rest whole → None ≡ frontier_in whole
stops_first numbers count [] whole some h inv = absurd (omega (arith, some))
stops_first numbers count (text ∷ more) whole some h inv
    = stops numbers count text more (text ∷ more) whole refl (no_number text more h) inv

-- the code's test for what is left
pub some_values : (o : Option (Bor (List ℕ))) (r : Bool) → r ≡ is_some o → r ≡ true → 1 ≤ length (left 58 o)
some_values None r h k = absurd cc
some_values (Some text) r h k = some_parts 58 text.now

pub no_values : (o : Option (Bor (List ℕ))) (r : Bool) → r ≡ is_some o → r ≡ false → left 58 o ≡ []
no_values None r h k = refl
no_values (Some text) r h k = absurd cc

pub too_many : (numbers : List ℕ) (count : ℕ) (rest whole : List (List ℕ)) → 1 ≤ length rest
    → 16 ≤ count → IsReadUpTo numbers count rest whole → None ≡ frontier_in whole
unfolding frontier_in
too_many numbers count rest whole some past h =
    let many : ltb 16 (length whole) ≡ true = lt-ltb 16 (length whole) (omega (arith, h.sum, past, some)) in
    rw (many, or_true (ltb (length whole) 2)) refl

pub all_read : (numbers : List ℕ) (count : ℕ) (rest whole : List (List ℕ)) → rest ≡ []
    → IsReadUpTo numbers count rest whole → (all_numbers whole ≡ Some (take count numbers)) × (length whole ≡ count)
unfolding all_numbers
all_read numbers count rest whole e h = (
  sym h.so_far ∙ rw e (ap (λ (x : List ℕ). Some x) (append-nil (take count numbers))),
  omega (arith, h.sum, ap length e),
)

-- what making the frontier answers
pub made : (ns f : List ℕ) (whole : List (List ℕ)) → all_numbers whole ≡ Some ns → length whole ≡ length ns
    → FrontierMade ns (Ok f) → Some f ≡ frontier_in whole
unfolding frontier_in
made ns f whole read same h =
    let some : ltb (length whole) 2 ≡ false = le-ltb (length whole) 2 (omega (arith, same, h.0.some)) in
    let few : ltb 16 (length whole) ≡ false = le-ltb 16 (length whole) (omega (arith, same, h.0.few)) in
    rw (some, few, read, h.1) refl

pub refused : (ns : List ℕ) (e : TypeError) (whole : List (List ℕ)) → all_numbers whole ≡ Some ns
    → length whole ≡ length ns → FrontierMade ns (Err e) → None ≡ frontier_in whole
unfolding frontier_in
refused ns BadCount whole read same (inl few) = rw (lt-ltb (length whole) 2 (omega (arith, same, few))) refl
refused ns BadCount whole read same (inr many)
    = rw (lt-ltb 16 (length whole) (omega (arith, same, many)), or_true (ltb (length whole) 2)) refl
refused ns BadNumber whole read same h =
    let large = h.2 in
    let below = (all_numbers_are whole ns read).1 large.0 large.1 large.2 in
    absurd (omega (arith, below, large.3, large.4))
refused ns BadSite whole read same h = absurd h
refused ns BadAmount whole read same h = absurd h
refused ns CloseNotLast whole read same h = absurd h
refused ns SameSite whole read same h = absurd h
