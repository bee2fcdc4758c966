-- What a log gave beyond a number, by reading it from its end.
use Rattle.std.proofs.Common.{◌≡◌, ℕ, zero, suc, ◌+◌, ◌-◌, ◌<◌, ◌≤◌, Bool, List, [], ◌∷◌, ◌++◌, take, drop, Option}
use Rattle.std.proofs.Common.{Some, ap, sym, ◌∙◌, arith, refl, drop-cons}
use Rattle.std.specs.List.{All, Contains, slice_get}
use Rattle.std.proofs.Math.Seq.{take-suc}
use Rattle.std.proofs.lemmas.Bool.{le-leb, lt-leb}
use Rattle.std.proofs.lemmas.List.{take-append-drop}
use Rattle.std.proofs.lemmas.List.Elements.{All-head, All-tail}
use Rattle.std.proofs.lemmas.Option.{slice_get_within, get_or_from_slice_get}
use Rattle.rights_types.specs.Entries.{EntryValue, own, closes}
use Rattle.rights_types.specs.Chains.{ChainFrom, moves_of}
use Rattle.rights_types.specs.Rights.{to}
use Rattle.rights_types.proofs.Chains.{prev_above}
use Rattle.rights_types.proofs.Sums.{moves_of-append, moves_of-push, to-append}
use Rattle.rights_protocol.specs.Retiring.{beyond}

-- ---- an entry before a place

-- the entry before index i is the last of those before i, and directly precedes the others
pub record IsBefore (es : List EntryValue) (i : ℕ) (e : EntryValue) : Type 0 where
  pub place : suc (i - 1) ≡ i
  pub at : slice_get es (i - 1) ≡ Some e
  pub front : take i es ≡ take (i - 1) es ++ e ∷ []
  pub rest : drop (i - 1) es ≡ e ∷ drop i es

pub entry_before : (es : List EntryValue) (i : ℕ) (e : EntryValue) {found : Option EntryValue} → 0 < i
    → found ≡ slice_get es (i - 1) → found ≡ Some e → IsBefore es i e
entry_before es i e some read is_e =
    let k : ℕ = i - 1 in
    let at : slice_get es k ≡ Some e = sym read ∙ is_e in
    let within : k < _ = slice_get_within es k e at in
    let is = get_or_from_slice_get es k e e at in
    let place : suc k ≡ i = omega arith in
    record {
      place = place;
      at = at;
      front = ap (λ n. take n es) (sym place) ∙ take-suc es k e within
          ∙ ap (λ (x : EntryValue). take k es ++ x ∷ []) is;
      rest = drop-cons es k e within ∙ ap (λ (x : EntryValue). x ∷ drop (suc k) es) is ∙ ap (λ n. e ∷ drop n es) place;
    }

-- ---- the entries beyond a number

pub all_beyond : (f : ℕ) (es : List EntryValue) → All (λ (e : EntryValue). f ≤ e.prev) es → beyond f es ≡ es
all_beyond f [] h = refl
all_beyond f (e ∷ es) h =
    rw (le-leb f e.prev (All-head (λ (x : EntryValue). f ≤ x.prev) e es h))
    (ap (λ (xs : List EntryValue). e ∷ xs) (all_beyond f es (All-tail (λ (x : EntryValue). f ≤ x.prev) e es h)))

-- if an entry of a chain begins before f and none after it does, exactly those after it do not
pub those_behind : (o : ℕ) (b : Bool) (n f : ℕ) (es : List EntryValue) (k : ℕ) (e : EntryValue) → ChainFrom o b n es
    → slice_get es k ≡ Some e → e.prev < f
    → All (λ (x : EntryValue). f ≤ x.prev) (drop (suc k) es) → beyond f es ≡ drop (suc k) es
those_behind o b n f [] k e c at early later = absurd cc
those_behind o b n f (x ∷ xs) zero e c at early later =
    let same : x ≡ e = cc in
    rw (lt-leb f x.prev (omega (arith, ap (λ (y : EntryValue). y.prev) same))) (all_beyond f xs later)
those_behind o b n f (x ∷ xs) (suc k) e c at early later =
    let found : Contains xs e = (k, slice_get_within xs k e at, get_or_from_slice_get xs k e e at) in
    let above = prev_above o (closes x) (own x) xs e c.4 found in
    rw (lt-leb f x.prev (omega (arith, above, c.2))) (those_behind o (closes x) (own x) f xs k e c.4 at early later)

-- ---- what they give

-- one more entry is read
pub given_before : (c : ℕ) (es : List EntryValue) (i : ℕ) (e : EntryValue) → IsBefore es i e
    → to c (moves_of (take i es)) ≡ to c (moves_of (take (i - 1) es)) + to c e.moves
given_before c es i e is =
    ap (λ xs. to c (moves_of xs)) is.front ∙ ap (to c) (moves_of-push (take (i - 1) es) e)
    ∙ to-append c (moves_of (take (i - 1) es)) e.moves

-- what all entries give, before index i and from there on
pub given_parts : (c : ℕ) (es : List EntryValue) (i : ℕ)
    → to c (moves_of es) ≡ to c (moves_of (take i es)) + to c (moves_of (drop i es))
given_parts c es i =
    ap (λ xs. to c (moves_of xs)) (sym (take-append-drop i es)) ∙ ap (to c) (moves_of-append (take i es) (drop i es))
    ∙ to-append c (moves_of (take i es)) (moves_of (drop i es))
