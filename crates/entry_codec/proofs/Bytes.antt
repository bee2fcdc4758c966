-- Bytes that a text does not contain, so that splitting undoes joining.
use Rattle.std.proofs.Common.{◌≡◌, ℕ, ◌≤◌, ◌<◌, ◌^◌, false, eqb, List, [], ◌∷◌, get_or, map, refl, ap, ◌∙◌, arith, inl}
use Rattle.std.proofs.Common.{inr}
use Rattle.std.specs.Prelude.{◌⊎◌, decimal, codes}
use Rattle.std.specs.List.{All, AllByRecursion, join_with_byte}
use Rattle.std.proofs.lemmas.Bool.{ne_eqb, eq-eqb}
use Rattle.std.proofs.lemmas.List.{get_or_default}
use Rattle.std.proofs.lemmas.List.Elements.{All-nil, All-cons, All-append, recursion_from_All}
use Rattle.std.proofs.lemmas.List.Splits.{slice_split_none, slice_split_at}
use Rattle.std.proofs.lemmas.Fmt.{digits_decimal}
use Rattle.std.proofs.lemmas.Str.Parse.{digit_at}
use Rattle.rights_types.specs.Ranges.{IsNumber}
use Rattle.rights_types.specs.Moves.{IsMove}
use Rattle.rights_types.specs.declared.moves.Move.{Move}
use Rattle.rights_types.specs.declared.moves.Move.TheVariants.{Issue, Spend, Grant, Give, Close, CloseAt, TakeBack}
use Rattle.rights_types.specs.Entries.{EntryValue, IsEntry, own}
use Rattle.rights_types.specs.Messages.{MessageValue, IsMessage}
use Rattle.rights_types.specs.Messages.MessageValue.{AnEntry, AQuery, AnAnswer, ABeat, AnAsk, ADenial, AHello}
use Rattle.entry_codec.specs.Parts.{split_at}
use Rattle.entry_codec.specs.Spelling.{move_values, move_text, entry_fields, parts_of, part_text, text_of}
use Rattle.entry_codec.proofs.Digits.{own_digits}

abbrev pub Lacks : ℕ → List ℕ → Type 0
Lacks c text = All (λ b. eqb b c ≡ false) text

-- neither a digit nor a letter
abbrev pub IsApart : ℕ → Type 0
IsApart c = (c < 48) ⊎ ((57 < c) × (c < 65))

no_digit : (b c : ℕ) → 48 ≤ b → b ≤ 57 → IsApart c → b ≡ c → ⊥
no_digit b c low high (inl below) e = omega (arith, low, below, e)
no_digit b c low high (inr above) e = omega (arith, high, above.0, e)

no_letter : (b c : ℕ) → 65 ≤ b → IsApart c → b ≡ c → ⊥
no_letter b c low (inl below) e = omega (arith, low, below, e)
no_letter b c low (inr above) e = omega (arith, low, above.1, e)

pub decimal_lacks : (c n : ℕ) → IsApart c → n < 2 ^ 64 → Lacks c (decimal n)
decimal_lacks c n out fits k d lt =
    let digit = digit_at (decimal n) k (digits_decimal own_digits n fits) lt in
    rw (get_or_default (decimal n) k d 0 lt)
    (ne_eqb (get_or (decimal n) k 0) c (no_digit (get_or (decimal n) k 0) c digit.0 digit.1 out))

pub letter_lacks : (c b : ℕ) → IsApart c → 65 ≤ b → Lacks c (b ∷ [])
letter_lacks c b out low = All-cons (λ b. eqb b c ≡ false) b [] (ne_eqb b c (no_letter b c low out))
    (All-nil (λ b. eqb b c ≡ false))

pub join_lacks : (c at : ℕ) (parts : List (List ℕ)) → (at ≡ c → ⊥) → AllByRecursion (Lacks c) parts
    → Lacks c (join_with_byte at parts)
join_lacks c at [] out h = All-nil (λ b. eqb b c ≡ false)
join_lacks c at (x ∷ []) out h = h.0
join_lacks c at (x ∷ y ∷ parts) out h =
    All-append (λ b. eqb b c ≡ false) x (at ∷ join_with_byte at (y ∷ parts)) h.0
    (All-cons (λ b. eqb b c ≡ false) at (join_with_byte at (y ∷ parts)) (ne_eqb at c out)
    (join_lacks c at (y ∷ parts) out h.1))

pub split_join : (c : ℕ) (x : List ℕ) (xs : List (List ℕ)) → AllByRecursion (Lacks c) (x ∷ xs)
    → split_at c (join_with_byte c (x ∷ xs)) ≡ x ∷ xs
split_join c x [] h = slice_split_none (λ b. eqb b c) x h.0
split_join c x (y ∷ ys) h =
    slice_split_at (λ b. eqb b c) x c (join_with_byte c (y ∷ ys)) h.0 (eq-eqb c c refl)
    ∙ ap (λ (zs : List (List ℕ)). x ∷ zs) (split_join c y ys h.1)

-- ---- moves

decimals_lack : (c : ℕ) (ns : List ℕ) → IsApart c → AllByRecursion IsNumber ns
    → AllByRecursion (Lacks c) (map decimal ns)
decimals_lack c [] out h = tt
decimals_lack c (n ∷ ns) out h = (decimal_lacks c n out (omega (arith, h.0)), decimals_lack c ns out h.1)

pub values_lack : (c : ℕ) (m : Move) → IsApart c → IsMove m → AllByRecursion (Lacks c) (move_values m)
values_lack c (Issue n) out h = (letter_lacks c 73 out (omega arith), (decimal_lacks c n out (omega (arith, h.1)), tt))
values_lack c (Spend n) out h = (letter_lacks c 83 out (omega arith), (decimal_lacks c n out (omega (arith, h.1)), tt))
values_lack c (Grant j n a) out h = (
  letter_lacks c 71 out (omega arith),
  (
    decimal_lacks c j out (omega (arith, h.0.1)),
    (decimal_lacks c n out (omega (arith, h.1.1)), (decimal_lacks c a out (omega (arith, h.2.1)), tt)),
  ),
)
values_lack c (Give j n) out h = (
  letter_lacks c 82 out (omega arith),
  (decimal_lacks c j out (omega (arith, h.0.1)), (decimal_lacks c n out (omega (arith, h.1.1)), tt)),
)
values_lack c Close out h = (letter_lacks c 67 out (omega arith), tt)
values_lack c (CloseAt f) out h
    = (letter_lacks c 75 out (omega arith), decimals_lack c f out (recursion_from_All IsNumber f h.each))
values_lack c (TakeBack j n) out h = (
  letter_lacks c 86 out (omega arith),
  (decimal_lacks c j out (omega (arith, h.0.1)), (decimal_lacks c n out (omega (arith, h.1.1)), tt)),
)

pub values_back : (m : Move) → IsMove m → split_at 58 (move_text m) ≡ move_values m
values_back (Issue n) h = split_join 58 (codes "I") _ (values_lack 58 (Issue n) (inr (omega arith, omega arith)) h)
values_back (Spend n) h = split_join 58 (codes "S") _ (values_lack 58 (Spend n) (inr (omega arith, omega arith)) h)
values_back (Grant j n a) h
    = split_join 58 (codes "G") _ (values_lack 58 (Grant j n a) (inr (omega arith, omega arith)) h)
values_back (Give j n) h = split_join 58 (codes "R") _ (values_lack 58 (Give j n) (inr (omega arith, omega arith)) h)
values_back Close h = split_join 58 (codes "C") _ (values_lack 58 Close (inr (omega arith, omega arith)) h)
values_back (CloseAt f) h = split_join 58 (codes "K") _ (values_lack 58 (CloseAt f) (inr (omega arith, omega arith)) h)
values_back (TakeBack j n) h
    = split_join 58 (codes "V") _ (values_lack 58 (TakeBack j n) (inr (omega arith, omega arith)) h)

moves_lack : (c : ℕ) (ms : List Move) → IsApart c → (58 ≡ c → ⊥) → AllByRecursion IsMove ms
    → AllByRecursion (Lacks c) (map move_text ms)
moves_lack c [] out other h = tt
moves_lack c (m ∷ ms) out other h
    = (join_lacks c 58 (move_values m) other (values_lack c m out h.0), moves_lack c ms out other h.1)

-- ---- parts

-- fields that contain no separator and no line feed
abbrev pub IsPart : List (List ℕ) → Type 0
IsPart [] = ⊥
IsPart (x ∷ xs) = (c : ℕ) → IsApart c → (58 ≡ c → ⊥) → AllByRecursion (Lacks c) (x ∷ xs)

pub entry_part : (e : EntryValue) → IsEntry e → IsPart (entry_fields e)
entry_part e h c out other =
    let number = h.number in (
      letter_lacks c 69 out (omega arith),
      (
        decimal_lacks c e.origin out (omega (arith, h.origin.1)),
        (
          decimal_lacks c e.prev out (omega (arith, number)),
          (
            decimal_lacks c (own e) out (omega (arith, number)),
            moves_lack c e.moves out other (recursion_from_All IsMove e.moves h.moves),
          ),
        ),
      ),
    )

entry_parts : (es : List EntryValue) → AllByRecursion IsEntry es → AllByRecursion IsPart (map entry_fields es)
entry_parts [] h = tt
entry_parts (e ∷ es) h = (entry_part e h.0, entry_parts es h.1)

pub are_parts : (m : MessageValue) → IsMessage m → AllByRecursion IsPart (parts_of m)
are_parts (AnEntry e) h = (entry_part e h, tt)
are_parts (AQuery q) h = (
  λ c out other. (
    letter_lacks c 81 out (omega arith),
    (
      decimal_lacks c q.asker out (omega (arith, h.asker.1)),
      (
        decimal_lacks c q.origin out (omega (arith, h.origin.1)),
        (
          decimal_lacks c q.first out (omega (arith, h.first)),
          (decimal_lacks c q.last out (omega (arith, h.last)), tt),
        ),
      ),
    ),
  ),
  tt,
)
are_parts (AnAnswer a) h = (
  λ c out other. (
    letter_lacks c 65 out (omega arith),
    (
      decimal_lacks c a.origin out (omega (arith, h.origin.1)),
      (decimal_lacks c a.asker out (omega (arith, h.asker.1)), tt),
    ),
  ),
  entry_parts a.entries (recursion_from_All IsEntry a.entries h.entries),
)
are_parts (ABeat b) h = (
  λ c out other. (
    letter_lacks c 66 out (omega arith),
    (
      decimal_lacks c b.origin out (omega (arith, h.origin.1)),
      (decimal_lacks c b.number out (omega (arith, h.number)), tt),
    ),
  ),
  tt,
)
are_parts (AnAsk a) h = (
  λ c out other. (
    letter_lacks c 87 out (omega arith),
    (
      decimal_lacks c a.asker out (omega (arith, h.asker.1)),
      (
        decimal_lacks c a.asked out (omega (arith, h.asked.1)),
        (
          decimal_lacks c a.ask out (omega (arith, h.ask.1)),
          (decimal_lacks c a.amount out (omega (arith, h.amount.1)), tt),
        ),
      ),
    ),
  ),
  tt,
)
are_parts (ADenial d) h = (
  λ c out other. (
    letter_lacks c 68 out (omega arith),
    (
      decimal_lacks c d.denier out (omega (arith, h.denier.1)),
      (
        decimal_lacks c d.asker out (omega (arith, h.asker.1)),
        (decimal_lacks c d.ask out (omega (arith, h.ask.1)), tt),
      ),
    ),
  ),
  tt,
)
are_parts (AHello s) h = (
  λ c out other. (
    letter_lacks c 72 out (omega arith),
    (decimal_lacks c s out (omega (arith, h.1)), tt),
  ),
  tt,
)

pub part_lacks : (c : ℕ) (fields : List (List ℕ)) → IsApart c → (58 ≡ c → ⊥) → (32 ≡ c → ⊥) → IsPart fields
    → Lacks c (part_text fields)
part_lacks c [] out a b h = absurd h
part_lacks c (x ∷ xs) out a b h = join_lacks c 32 (x ∷ xs) b (h c out a)

parts_lack : (c : ℕ) (parts : List (List (List ℕ))) → IsApart c → (58 ≡ c → ⊥) → (32 ≡ c → ⊥)
    → AllByRecursion IsPart parts → AllByRecursion (Lacks c) (map part_text parts)
parts_lack c [] out a b h = tt
parts_lack c (p ∷ ps) out a b h = (part_lacks c p out a b h.0, parts_lack c ps out a b h.1)

part_back : (fields : List (List ℕ)) → IsPart fields → split_at 32 (part_text fields) ≡ fields
part_back [] h = absurd h
part_back (x ∷ xs) h = split_join 32 x xs (h 32 (inl (omega arith)) (λ e. omega (arith, e)))

parts_back : (parts : List (List (List ℕ))) → AllByRecursion IsPart parts
    → map (split_at 32) (map part_text parts) ≡ parts
parts_back [] h = refl
parts_back (p ∷ ps) h = rw (part_back p h.0, parts_back ps h.1) refl

-- splitting a joined text gives its items back
pub all_back : (part : List (List ℕ)) (parts : List (List (List ℕ))) → AllByRecursion IsPart (part ∷ parts)
    → map (split_at 32) (split_at 59 (join_with_byte 59 (map part_text (part ∷ parts)))) ≡ part ∷ parts
all_back part parts h =
    ap (map (split_at 32)) (split_join 59 (part_text part) (map part_text parts)
    (parts_lack 59 (part ∷ parts) (inr (omega arith, omega arith)) (λ e. omega (arith, e))
    (λ e. omega (arith, e)) h))
    ∙ parts_back (part ∷ parts) h

-- a text has no line feed
pub text_lacks_end : (m : MessageValue) → IsMessage m → Lacks 10 (text_of m)
text_lacks_end m h =
    join_lacks 10 59 (map part_text (parts_of m)) (λ e. omega (arith, e))
    (parts_lack 10 (parts_of m) (inl (omega arith)) (λ e. omega (arith, e)) (λ e. omega (arith, e)) (are_parts m h))
