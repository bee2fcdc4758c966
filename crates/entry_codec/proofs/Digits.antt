-- Digits that are read and written from the left.
use Rattle.std.proofs.Common.{◌≡◌, ℕ, zero, suc, ◌+◌, ◌-◌, ◌*◌, ◌/◌, ◌%◌, ◌^◌, ◌<◌, ◌≤◌, Bool, true, false, ◌&&◌, cond}
use Rattle.std.proofs.Common.{eqb, leb, List, [], ◌∷◌, ◌++◌, length, get_or, take, drop, Some, None, refl, sym, ap}
use Rattle.std.proofs.Common.{subst, ◌∙◌, arith, length-append, append_assoc, eq-zero-or-pos, inl, inr}
use Rattle.std.specs.Prelude.{decimal, ◌==◌, ◌⊎◌}
use Rattle.std.specs.Char.{digit_value}
use Rattle.std.specs.List.{All, onto_first}
use Rattle.std.specs.Str.{bytes_eq}
use Rattle.std.specs.Str.Parse.{AllDigits, digits_value}
use Rattle.std.proofs.lemmas.Bool.{and_parts, eqb-true, eqb-false, eq-eqb, ne_eqb, cases_Bool, cases_lt, not-true}
use Rattle.std.proofs.lemmas.Bool.{not-false, le-leb, lt-leb}
use Rattle.std.proofs.lemmas.Fmt.{decimal_digit, decimal_step, decimal-digits_value, decimal_nonempty, first_decimal}
use Rattle.std.proofs.lemmas.Fmt.{length-decimal-le, digits_decimal, decimal_is_IsNumeral}
use Rattle.std.proofs.lemmas.Int.Digits.{digits_value-lt, digits_more, digits_value_more}
use Rattle.std.proofs.lemmas.List.{drop_more, take_all, take-append-drop, length-take-le, length-drop, get_or_default}
use Rattle.std.proofs.lemmas.List.{get_or-take}
use Rattle.std.proofs.lemmas.List.Splits.{slice_split_none, slice_split_at, slice_split-cons_yes, slice_split-cons_no}
use Rattle.std.proofs.lemmas.Slice.Eq.{bytes_eq-Decides}
use Rattle.std.proofs.lemmas.Str.{digit_value_digit}
use Rattle.std.proofs.lemmas.Str.Parse.{IsNumeralModel, numerals_by_value, tells_digits, digit_at}
use Rattle.std.proofs.Math.Nat.{pow-le-pow_right, pow-suc, pow-succ', div-div-eq-div-mul}
use Rattle.entry_codec.specs.Parts.{split_at}
use Rattle.entry_codec.specs.Moves.{number_of, first_number}
use Rattle.entry_codec.specs.Texts.{is_canonical}
use Rattle.entry_codec.specs.Digits.{IsReadUpTo, two_digits, four_digits, eight_digits}
use Rattle.entry_codec.specs.declared.put.TheConstants.{PAIRS}
use Rattle.entry_codec.proofs.Numbers.{number_none}

pub own_digits : IsNumeralModel (AllDigits 10) (digits_value 10)
own_digits = numerals_by_value (AllDigits 10) tells_digits

pub tenfold : (text : List ℕ) (count n : ℕ) → count < length text → count < 19 → IsReadUpTo text count n → n < 10 ^ 18
tenfold text count n lt few h =
    let long = length-take-le count text (omega (arith, lt)) in
    let below : n < 10 ^ length (take count text) = rw h.value (digits_value-lt 10 (take count text) h.digits) in
    let most : 10 ^ length (take count text) ≤ 10 ^ 18
    = pow-le-pow_right {n = 10} (omega arith) {i = length (take count text)} {j = 18} (omega (arith, long, few)) in
    omega (arith, below, most)

pub reads_more : (text : List ℕ) (count n d : ℕ) → count < length text → d < 10 → d ≡ digit_value (get_or text count 0)
    → IsReadUpTo text count n → IsReadUpTo text (count + 1) (n * 10 + d)
reads_more text count n d lt small is h = record {
  digits = digits_more 10 text count lt h.digits (rw is at small);
  value = rw (digits_value_more 10 text count lt, h.value, is) refl;
}

-- digits lack what is no digit
pub digits_lack : (c : ℕ) (ds : List ℕ) → (c < 48) ⊎ (57 < c) → AllDigits 10 ds → All (λ b. eqb b c ≡ false) ds
digits_lack c ds out h k d lt =
    let digit = digit_at ds k h lt in
    rw (get_or_default ds k d 0 lt) (ne_eqb (get_or ds k 0) c (λ e. omega (arith, e, digit.0, digit.1, out)))

-- digits up to the separator are the first part
pub parted : (text : List ℕ) (count at : ℕ) → count < length text → (at < 48) ⊎ (57 < at) → get_or text count 0 ≡ at
    → AllDigits 10 (take count text)
    → split_at at text ≡ take count text ∷ split_at at (take (length text - (count + 1)) (drop (count + 1) text))
parted text count at lt out is digits =
    let rest = drop (count + 1) text in
    let all : take (length text - (count + 1)) rest ≡ rest
    = take_all (length text - (count + 1)) rest (omega (arith, length-drop (count + 1) text)) in
    let whole : text ≡ take count text ++ at ∷ rest = sym (take-append-drop count text)
    ∙ ap (λ (t : List ℕ). take count text ++ t) (drop_more text count 0 lt ∙ ap (λ (b : ℕ). b ∷ rest) is) in
    rw all (ap (split_at at) whole
    ∙ slice_split_at (λ b. eqb b at) (take count text) at rest (digits_lack at (take count text) out digits)
    (eq-eqb at at refl))

pub unparted : (text : List ℕ) (count at : ℕ) → length text ≤ count → (at < 48) ⊎ (57 < at)
    → AllDigits 10 (take count text) → (take count text ≡ text) × (split_at at text ≡ text ∷ [])
unparted text count at past out digits =
    let all : take count text ≡ text = take_all count text past in
    (all, slice_split_none (λ b. eqb b at) text (digits_lack at text out (subst (AllDigits 10) all digits)))

-- a text whose first bytes do not part it begins a longer first part
record BeginsPart (at : ℕ) (text : List ℕ) (i : ℕ) : Type 0 where
  part : List ℕ
  others : List (List ℕ)
  parts-are : split_at at text ≡ part ∷ others
  long : i < length part
  same : get_or part i 0 ≡ get_or text i 0

pub some_part : (at : ℕ) (text : List ℕ) → (part : List ℕ) × (others : List (List ℕ))
    × (split_at at text ≡ part ∷ others)
some_part at [] = ([], [], refl)
some_part at (x ∷ xs) = elim (cases_Bool (eqb x at)) [
  | inl e ↦ ([], split_at at xs, slice_split-cons_yes (λ b. eqb b at) x xs e)
  | inr e ↦ let rest = some_part at xs in (
    x ∷ rest.0,
    rest.1,
    slice_split-cons_no (λ b. eqb b at) x xs e
        ∙ ap (onto_first x) rest.2,
  )
]

begins_part : (at : ℕ) (text : List ℕ) (i : ℕ) → i < length text
    → ((k : ℕ) → k < i + 1 → eqb (get_or text k 0) at ≡ false) → BeginsPart at text i
begins_part at [] i lt none = absurd (omega (arith, lt))
begins_part at (x ∷ xs) zero lt none =
    let rest = some_part at xs in
    record {
      part = x ∷ rest.0;
      others = rest.1;
      parts-are = slice_split-cons_no (λ b. eqb b at) x xs (none 0 (omega arith)) ∙ ap (onto_first x) rest.2;
      long = omega arith;
      same = refl;
    }
begins_part at (x ∷ xs) (suc i) lt none =
    let rest = begins_part at xs i (omega (arith, lt)) (λ k h. none (suc k) (omega (arith, h))) in
    record {
      part = x ∷ rest.part;
      others = rest.others;
      parts-are = slice_split-cons_no (λ b. eqb b at) x xs (none 0 (omega arith)) ∙ ap (onto_first x) rest.parts-are;
      long = omega (arith, rest.long);
      same = rest.same;
    }

-- up to and including the byte at count, there is no separator
none_parts : (text : List ℕ) (count at : ℕ) → count < length text → (at < 48) ⊎ (57 < at)
    → AllDigits 10 (take count text) → (get_or text count 0 ≡ at → ⊥) → (k : ℕ) → k < count + 1
    → eqb (get_or text k 0) at ≡ false
none_parts text count at lt out digits other k h =
    elim (cases_lt k count) [
      | inl below ↦
          let long = length-take-le count text (omega (arith, lt)) in
          let same = get_or-take count text k 0 below in
          rw (← same) (digits_lack at (take count text) out digits k 0 (omega (arith, long, below)))
      | inr above ↦ let is : k ≡ count = omega (arith, above, h) in rw is (ne_eqb (get_or text count 0) at other)
    ]

no_digit_first : (low high at count : ℕ) (text : List ℕ) → count < length text → (at < 48) ⊎ (57 < at) → high < 10 ^ 19
    → AllDigits 10 (take count text) → (get_or text count 0 ≡ at → ⊥)
    → 10 ≤ digit_value (get_or text count 0) → first_number low high (split_at at text) ≡ None
unfolding first_number
no_digit_first low high at count text lt out top digits other bad =
    let p = begins_part at text count lt (none_parts text count at lt out digits other) in
    let none : number_of low high p.part ≡ None = number_none low high p.part (λ n e above below.
    let digit = digit_at (decimal n) count (digits_decimal own_digits n (omega (arith, below, top)))
    (omega (arith, p.long, ap length e)) in
    let here : get_or (decimal n) count 0 ≡ get_or text count 0
    = sym (ap (λ (t : List ℕ). get_or t count 0) e) ∙ p.same in
    let value = digit_value_digit (get_or text count 0) (rw here at digit) in
    omega (arith, value, bad, rw here at digit)) in
    rw (p.parts-are, none) refl

long_first : (low high at : ℕ) (text : List ℕ) → 19 < length text → (at < 48) ⊎ (57 < at) → high < 10 ^ 19
    → AllDigits 10 (take 19 text) → (get_or text 19 0 ≡ at → ⊥) → first_number low high (split_at at text) ≡ None
unfolding first_number
long_first low high at text lt out top digits other =
    let p = begins_part at text 19 lt (none_parts text 19 at lt out digits other) in
    let none : number_of low high p.part ≡ None = number_none low high p.part (λ n e above below.
    omega (
      arith,
      p.long,
      ap length e,
      length-decimal-le 19 n (omega arith) (omega (arith, below, top))
          (omega (arith, below, top)),
    )) in
    rw (p.parts-are, none) refl

-- a digit that a text begins with
pub digit_first : (text : List ℕ) (d : ℕ) → 0 < length text → d < 10 → d ≡ digit_value (get_or text 0 0)
    → AllDigits 10 (take 1 text) × (take 1 text ≡ decimal d)
digit_first text d lt small is =
    let none : IsReadUpTo text 0 0 = record { digits = search; value = search } in
    let one = reads_more text 0 0 d lt small is none in
    let long = length-take-le 1 text (omega (arith, lt)) in
    let value : digits_value 10 (take 1 text) ≡ d = omega (arith, one.value) in
    let spelled = decimal-digits_value own_digits (take 1 text) one.digits (omega (arith, long)) (λ e. long)
    (rw value (omega (arith, small))) in
    (one.digits, sym spelled ∙ ap decimal value)

-- and that is the whole text
pub digit_alone : (text : List ℕ) (at d : ℕ) → length text ≡ 1 → (at < 48) ⊎ (57 < at) → d < 10
    → d ≡ digit_value (get_or text 0 0) → split_at at text ≡ decimal d ∷ []
digit_alone text at d one out small is =
    let first = digit_first text d (omega (arith, one)) small is in
    let whole = unparted text 1 at (omega (arith, one)) out first.0 in
    whole.1 ∙ ap (λ (t : List ℕ). t ∷ []) (sym whole.0 ∙ first.1)

-- or that is the first part
pub digit_parted : (text : List ℕ) (at d : ℕ) → 1 < length text → (at < 48) ⊎ (57 < at) → get_or text 1 0 ≡ at → d < 10
    → d ≡ digit_value (get_or text 0 0)
    → split_at at text ≡ decimal d ∷ split_at at (take (length text - 2) (drop 2 text))
digit_parted text at d more out is-at small is =
    let first = digit_first text d (omega (arith, more)) small is in
    parted text 1 at more out is-at first.0
    ∙ ap (λ (t : List ℕ). t ∷ split_at at (take (length text - 2) (drop 2 text))) first.1

-- what follows the digits, and is not a separator, makes the first part no number
pub bad_first : (low high at count n : ℕ) (text : List ℕ) → count < length text → count ≤ 19 → (at < 48) ⊎ (57 < at)
    → high < 10 ^ 19 → IsReadUpTo text count n → (get_or text count 0 ≡ at → ⊥)
    → (count < 19 → 10 ≤ digit_value (get_or text count 0)) → first_number low high (split_at at text) ≡ None
bad_first low high at count n text lt few out top h other stop =
    elim (cases_lt count 19) [
      | inl short ↦ no_digit_first low high at count text lt out top h.digits other (stop short)
      | inr past ↦
          let is : count ≡ 19 = omega (arith, few, past) in
          long_first low high at text (rw is at lt) out top (rw is at h.digits) (rw is at other)
    ]

-- by the first part
pub first_some : (low high n : ℕ) (parts : List (List ℕ)) (front : List ℕ) (rest : List (List ℕ)) → parts ≡ front ∷ rest
    → Some n ≡ number_of low high front → first_number low high parts ≡ Some (n, rest)
unfolding first_number
first_some low high n parts front rest e h = rw (e, ← h) refl

pub first_none : (low high : ℕ) (parts : List (List ℕ)) (front : List ℕ) (rest : List (List ℕ)) → parts ≡ front ∷ rest
    → None ≡ number_of low high front → first_number low high parts ≡ None
unfolding first_number
first_none low high parts front rest e h = rw (e, ← h) refl

-- ---- digits that spell a number

canonical_parts : (ds : List ℕ) → is_canonical ds ≡ true → (0 < length ds) × (get_or ds 0 0 ≡ 48 → length ds ≡ 1)
canonical_parts [] h = absurd cc
canonical_parts (x ∷ []) h = (omega arith, λ e. refl)
canonical_parts (x ∷ y ∷ ys) h = (omega arith, λ e. absurd (eqb-false x 48 (not-true (x == 48) h) e))

pub spelled : (ds : List ℕ) (n : ℕ) → AllDigits 10 ds → n ≡ digits_value 10 ds → n < 2 ^ 64 → is_canonical ds ≡ true
    → ds ≡ decimal n
spelled ds n digits is fits h =
    let c = canonical_parts ds h in
    let same : decimal (digits_value 10 ds) ≡ ds = decimal-digits_value own_digits ds digits c.0 c.1 (rw (← is) fits) in
    sym same ∙ ap decimal (sym is)

pub not_canonical : (ds : List ℕ) (n : ℕ) → is_canonical ds ≡ false → n < 2 ^ 64 → ds ≡ decimal n → ⊥
not_canonical [] n h fits e = omega (arith, decimal_nonempty n fits, ap length e)
not_canonical (x ∷ []) n h fits e = absurd cc
not_canonical (x ∷ y ∷ ys) n h fits e =
    let zero-first : x ≡ 48 = eqb-true x 48 (not-false (x == 48) h) in
    elim (eq-zero-or-pos n) [
      | inl none ↦ omega (arith, ap length (e ∙ ap decimal none ∙ decimal_digit 0 (omega arith)))
      | inr more ↦ omega (arith, zero-first, ap (λ (t : List ℕ). get_or t 0 0) e, first_decimal n more fits)
    ]

-- ---- a text whose digits were read up to some place

pub read_whole : (text : List ℕ) (count n : ℕ) → length text ≤ count → IsReadUpTo text count n
    → AllDigits 10 text × (n ≡ digits_value 10 text)
read_whole text count n all h =
    let whole : take count text ≡ text = take_all count text all in
    (subst (AllDigits 10) whole h.digits, h.value ∙ ap (digits_value 10) whole)

-- the value of a text by its last digit
pub by_last : (text : List ℕ) (count front n : ℕ) → length text ≡ count + 1 → IsReadUpTo text count front → n < 2 ^ 64
    → text ≡ decimal n
    → n ≡ front * 10 + digit_value (get_or text count 0)
by_last text count front n long h fits e =
    let whole : take (count + 1) text ≡ text = take_all (count + 1) text (omega (arith, long)) in
    let value : digits_value 10 text ≡ n = ap (digits_value 10) e ∙ (decimal_is_IsNumeral n fits).1 in
    omega (arith, digits_value_more 10 text count (omega (arith, long)), ap (digits_value 10) whole, value, h.value)

-- the first byte of what is left is the next one
pub last_of : (text : List ℕ) (count : ℕ) → count < length text
    → get_or (take (length text - count) (drop count text)) 0 0 ≡ get_or text count 0
last_of text count lt =
    get_or-take (length text - count) (drop count text) 0 0 (omega (arith, lt))
    ∙ ap (λ (t : List ℕ). get_or t 0 0) (drop_more text count 0 lt)

-- a number's text has digits alone
pub all_digits : (text : List ℕ) (count n : ℕ) → count < length text → 10 ≤ digit_value (get_or text count 0)
    → n < 2 ^ 64 → text ≡ decimal n → ⊥
all_digits text count n lt bad fits e =
    let digit = digit_at text count (rw e (digits_decimal own_digits n fits)) lt in
    omega (arith, digit_value_digit (get_or text count 0) digit, bad, digit)

-- and no more than twenty
pub too_many : (text : List ℕ) (count n : ℕ) → count + 2 ≤ length text → count ≤ 19
    → (count < 19 → 10 ≤ digit_value (get_or text count 0)) → n < 2 ^ 64 → text ≡ decimal n → ⊥
too_many text count n long few stop fits e =
    elim (cases_lt count 19) [
      | inl short ↦ all_digits text count n (omega (arith, long)) (stop short) fits e
      | inr past ↦ omega (
        arith,
        long,
        past,
        ap length e,
        length-decimal-le 20 n (omega arith) (omega (arith, fits)) fits,
      )
    ]

-- ---- a decimal's length, and its last digits

pub length_one : (n : ℕ) → n < 10 → length (decimal n) ≡ 1
length_one n h = ap length (decimal_digit n h)

pub length_more : (n : ℕ) → 10 ≤ n → n < 2 ^ 64 → length (decimal n) ≡ length (decimal (n / 10)) + 1
length_more n h fits = ap length (decimal_step n h fits) ∙ length-append (decimal (n / 10)) ((48 + n % 10) ∷ [])

step : ℕ → ℕ → ℕ
step least n = cond (leb least n) 1 0

-- how many digits: one more for each power of ten that is reached
count : ℕ → ℕ → ℕ
count zero n = 1
count (suc k) n = count k n + step (10 ^ suc k) n

step_tenth : (k n : ℕ) → step (10 ^ suc (suc k)) n ≡ step (10 ^ suc k) (n / 10)
unfolding step
step_tenth k n =
    let more = pow-suc 10 (suc k) in
    elim (cases_lt (n / 10) (10 ^ suc k)) [
      | inl below ↦ rw (
        lt-leb (10 ^ suc (suc k)) n (omega (arith, more, below)),
        lt-leb (10 ^ suc k) (n / 10) below,
      ) refl
      | inr above ↦ rw (
        le-leb (10 ^ suc (suc k)) n (omega (arith, more, above)),
        le-leb (10 ^ suc k) (n / 10) above,
      ) refl
    ]

count_tenth : (k n : ℕ) → 10 ≤ n → count (suc k) n ≡ suc (count k (n / 10))
unfolding count step
count_tenth zero n h = rw (le-leb (10 ^ 1) n (omega (arith, h))) refl
count_tenth (suc k) n h = rw (count_tenth k n h, step_tenth k n) (omega arith)

count_one : (k n : ℕ) → n < 10 → count k n ≡ 1
unfolding count step
count_one zero n h = refl
count_one (suc k) n h =
    let most : 10 ^ 1 ≤ 10 ^ suc k = pow-le-pow_right {n = 10} (omega arith) {i = 1} {j = suc k} (omega arith) in
    rw (count_one k n h, lt-leb (10 ^ suc k) n (omega (arith, h, most))) refl

count_is : (k n : ℕ) → n < 10 ^ suc k → n < 2 ^ 64 → count k n ≡ length (decimal n)
unfolding count
count_is zero n h fits = sym (length_one n (omega (arith, h)))
count_is (suc k) n h fits =
    elim (cases_lt n 10) [
      | inl one ↦ count_one (suc k) n one ∙ sym (length_one n one)
      | inr more ↦
          let tenth : n / 10 < 10 ^ suc k = omega (arith, h, pow-suc 10 (suc k)) in
          let rest = count_is k (n / 10) tenth (omega (arith, fits)) in
          count_tenth k n more ∙ omega (arith, rest, length_more n more fits)
    ]

pub short_length : (n : ℕ) → n < 10 ^ 10
    → 1 + cond (leb 10 n) 1 0 + cond (leb 100 n) 1 0 + cond (leb 1000 n) 1 0 + cond (leb 10000 n) 1 0
    + cond (leb 100000 n) 1 0 + cond (leb 1000000 n) 1 0 + cond (leb 10000000 n) 1 0 + cond (leb 100000000 n) 1 0
    + cond (leb 1000000000 n) 1 0
    ≡ length (decimal n)
unfolding count step
short_length n h = count_is 9 n h (omega (arith, h))

pub length_tenths : (k n : ℕ) → 10 ^ k ≤ n → n < 2 ^ 64 → length (decimal n) ≡ k + length (decimal (n / 10 ^ k))
length_tenths zero n h fits = let whole : n / 10 ^ 0 ≡ n = omega arith in rw whole (omega arith)
length_tenths (suc k) n h fits =
    let more = pow-suc 10 k in
    let one : 1 ≤ 10 ^ k = pow-le-pow_right {n = 10} (omega arith) {i = 0} {j = k} (omega arith) in
    let rest = length_tenths k (n / 10) (omega (arith, h, more)) (omega (arith, fits)) in
    let same : n / 10 / 10 ^ k ≡ n / 10 ^ suc k = div-div-eq-div-mul n 10 (10 ^ k)
    ∙ ap (λ (m : ℕ). n / m) (sym (pow-succ' 10 k)) in
    omega (arith, length_more n (omega (arith, h, more, one)) fits, rest, ap (λ (m : ℕ). length (decimal m)) same)

-- ---- a decimal by its last digits

pub decimal_two : (n : ℕ) → 10 ≤ n → n < 100 → decimal n ≡ two_digits n
decimal_two n more less = decimal_step n more (omega (arith, less))
    ∙ ap (λ (t : List ℕ). t ++ (48 + n % 10) ∷ []) (decimal_digit (n / 10) (omega (arith, less)))

pub last_two : (n : ℕ) → 100 ≤ n → n < 2 ^ 64 → decimal n ≡ decimal (n / 100) ++ two_digits (n % 100)
last_two n more fits =
    let front : n / 10 / 10 ≡ n / 100 = omega arith in
    let tens : n / 10 % 10 ≡ n % 100 / 10 = omega arith in
    let ones : n % 10 ≡ n % 100 % 10 = omega arith in
    rw (
      decimal_step n (omega (arith, more)) fits,
      decimal_step (n / 10) (omega (arith, more)) (omega (arith, fits)),
      append_assoc,
      front,
      tens,
      ones,
    ) refl

pub last_four : (n : ℕ) → 10000 ≤ n → n < 2 ^ 64 → decimal n ≡ decimal (n / 10000) ++ four_digits (n % 10000)
last_four n more fits =
    let front : n / 100 / 100 ≡ n / 10000 = omega arith in
    let left : n / 100 % 100 ≡ n % 10000 / 100 = omega arith in
    let right : n % 100 ≡ n % 10000 % 100 = omega arith in
    rw (
      last_two n (omega (arith, more)) fits,
      last_two (n / 100) (omega (arith, more)) (omega (arith, fits)),
      append_assoc (decimal (n / 100 / 100)),
      front,
      left,
      right,
    ) refl

pub last_eight : (n : ℕ) → 100000000 ≤ n → n < 2 ^ 64
    → decimal n ≡ decimal (n / 100000000) ++ eight_digits (n % 100000000)
last_eight n more fits =
    let front : n / 10000 / 10000 ≡ n / 100000000 = omega arith in
    let left : n / 10000 % 10000 ≡ n % 100000000 / 10000 = omega arith in
    let right : n % 10000 ≡ n % 100000000 % 10000 = omega arith in
    rw (
      last_four n (omega (arith, more)) fits,
      last_four (n / 10000) (omega (arith, more)) (omega (arith, fits)),
      append_assoc (decimal (n / 10000 / 10000)),
      front,
      left,
      right,
    ) refl

pub length_by_two : (n : ℕ) → 100 ≤ n → n < 2 ^ 64 → length (decimal n) ≡ length (decimal (n / 100)) + 2
length_by_two n more fits = ap length (last_two n more fits) ∙ length-append (decimal (n / 100)) (two_digits (n % 100))

pub length_by_four : (n : ℕ) → 10000 ≤ n → n < 2 ^ 64 → length (decimal n) ≡ length (decimal (n / 10000)) + 4
length_by_four n more fits = ap length (last_four n more fits)
    ∙ length-append (decimal (n / 10000)) (four_digits (n % 10000))

pub length_by_eight : (n : ℕ) → 100000000 ≤ n → n < 2 ^ 64 → length (decimal n) ≡ length (decimal (n / 100000000)) + 8
length_by_eight n more fits = ap length (last_eight n more fits)
    ∙ length-append (decimal (n / 100000000)) (eight_digits (n % 100000000))

-- a text that is put in two parts
pub in_parts : (before front back whole between after : List ℕ) → between ≡ before ++ front → after ≡ between ++ back
    → whole ≡ front ++ back → after ≡ before ++ whole
in_parts before front back whole between after first second is =
    second ∙ ap (λ (t : List ℕ). t ++ back) first ∙ append_assoc before front back
    ∙ ap (λ (t : List ℕ). before ++ t) (sym is)

-- ---- the table of pairs

abbrev pair_in_table : ℕ → List ℕ
pair_in_table p = get_or PAIRS (p * 2) 0 ∷ get_or PAIRS (p * 2 + 1) 0 ∷ []

abbrev are_pairs : ℕ → Bool
are_pairs zero = true
are_pairs (suc p) = bytes_eq (two_digits p) (pair_in_table p) && are_pairs p

pair_below : (n p : ℕ) → are_pairs n ≡ true → p < n → two_digits p ≡ pair_in_table p
pair_below zero p h lt = absurd (omega (arith, lt))
pair_below (suc n) p h lt =
    let tests = and_parts (bytes_eq (two_digits n) (pair_in_table n)) (are_pairs n) h in
    elim (cases_lt p n) [
      | inl below ↦ pair_below n p tests.1 below
      | inr above ↦ let is : p ≡ n
          = omega (arith, above, lt) in rw is ((bytes_eq-Decides (two_digits n) (pair_in_table n)).0 tests.0)
    ]

pub pair_is : (p : ℕ) → p < 100 → two_digits p ≡ get_or PAIRS (p * 2) 0 ∷ get_or PAIRS (p * 2 + 1) 0 ∷ []
pair_is p lt = pair_below 100 p refl lt
