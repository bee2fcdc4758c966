-- Laws of entries in order, and of filters by previous numbers.
use Rattle.std.proofs.Common.{◌≡◌, ℕ, suc, ◌+◌, ◌<◌, ◌≤◌, Bool, true, false, not, cond, List, [], ◌∷◌, ◌++◌, ◌⊎◌, inl}
use Rattle.std.proofs.Common.{inr, length, get_or, take, drop, arith, refl, sym, ap, ◌∙◌, subst, ltb}
use Rattle.std.specs.List.{All, Contains, filter, insert}
use Rattle.std.proofs.lemmas.Bool.{lt-ltb, le-ltb, ltb-false, not-true, cases_lt, cases_eq}
use Rattle.std.proofs.lemmas.List.{append-nil, take-append-drop, length-append}
use Rattle.std.proofs.lemmas.List.Elements.{All-head, All-tail, All-cons, All-nil, All-append, All-filter, All-contains}
use Rattle.std.proofs.lemmas.List.Elements.{All-contains_itself, filter_passes, filter-append, Contains-append_cases}
use Rattle.std.proofs.lemmas.List.Elements.{Contains-append_left, Contains-append_right, Contains-get_or}
use Rattle.std.proofs.lemmas.List.Filters.{length-filter_both}
use Rattle.std.proofs.lemmas.List.Kept.{AllPairs-cons, AllPairs-filter}
use Rattle.rights_types.specs.Entries.{EntryValue}
use Rattle.rights_types.proofs.Chains.{not_in_nil, contains_cases}
use Rattle.sub_buffer.specs.Buffers.{HasPrev, before, onward, InOrder}
use Rattle.sub_buffer.specs.Places.{IsPlace}

abbrev Before : EntryValue → EntryValue → Type 0
Before e f = e.prev < f.prev

-- ---- one entry of a list

pub order_head : (e : EntryValue) (es : List EntryValue) → InOrder (e ∷ es) → All (Before e) es
order_head e es h = λ k d lt. h 0 (suc k) d (omega arith) (omega arith)

pub order_tail : (e : EntryValue) (es : List EntryValue) → InOrder (e ∷ es) → InOrder es
order_tail e es h = λ i j d lt within. h (suc i) (suc j) d (omega arith) (omega arith)

-- whether an entry begins after the number n
pub prev_cases : (n : ℕ) (es : List EntryValue) → HasPrev n es ⊎ (HasPrev n es → ⊥)
prev_cases n [] = inr (λ (e, i, q). not_in_nil e i)
prev_cases n (x ∷ xs) =
    elim (cases_eq x.prev n) [
      | inl q ↦ inl (x, (0, omega arith, refl), q)
      | inr ne ↦ elim (prev_cases n xs) [
        | inl (e, i, q) ↦ inl (e, Contains-append_right (x ∷ []) xs e i, q)
        | inr none ↦ inr (λ (e, i, q). elim (contains_cases x xs e i) [
          | inl same ↦ ne (ap (λ (y : EntryValue). y.prev) same ∙ q)
          | inr later ↦ none (e, later, q)
        ])
      ]
    ]

-- ---- what a filter keeps

pub in_filter : (p : EntryValue → Bool) (es : List EntryValue) (e : EntryValue) → Contains (filter p es) e
    → Contains es e × (p e ≡ true)
in_filter p es e h = (
  All-contains (Contains es) (filter p es) e (All-filter p (Contains es) es (All-contains_itself es)) h,
  All-contains (λ x. p x ≡ true) (filter p es) e (filter_passes p es) h,
)

into_filter : (p : EntryValue → Bool) (es : List EntryValue) (e : EntryValue) → Contains es e → p e ≡ true
    → Contains (filter p es) e
into_filter p [] e h passes = absurd (not_in_nil e h)
into_filter p (x ∷ xs) e h passes = into (p x) refl (contains_cases x xs e h) (λ later. into_filter p xs e later passes)
  where
    into : (b : Bool) → p x ≡ b → (x ≡ e) ⊎ Contains xs e → (Contains xs e → Contains (filter p xs) e)
        → Contains (cond b (x ∷ filter p xs) (filter p xs)) e
    into true at (inl same) rest = (0, omega arith, same)
    into true at (inr later) rest = Contains-append_right (x ∷ []) (filter p xs) e (rest later)
    into false at (inl same) rest = absurd (let wrong : true ≡ false = sym passes ∙ ap p (sym same) ∙ at in cc)
    into false at (inr later) rest = rest later

pub in_onward : (n : ℕ) (es : List EntryValue) (e : EntryValue) → Contains (onward n es) e
    → Contains es e × (n ≤ e.prev)
in_onward n es e h =
    let p = in_filter (λ x. not (ltb x.prev n)) es e h in
    (p.0, ltb-false e.prev n (not-true (ltb e.prev n) p.1))

pub into_onward : (n : ℕ) (es : List EntryValue) (e : EntryValue) → Contains es e → n ≤ e.prev
    → Contains (onward n es) e
into_onward n es e h le = into_filter (λ x. not (ltb x.prev n)) es e h (ap not (le-ltb e.prev n le))

pub in_before : (n : ℕ) (es : List EntryValue) (e : EntryValue) → Contains (before n es) e → Contains es e
in_before n es e h = (in_filter (λ x. ltb x.prev n) es e h).0

pub into_before : (n : ℕ) (es : List EntryValue) (e : EntryValue) → Contains es e → e.prev < n
    → Contains (before n es) e
into_before n es e h lt = into_filter (λ x. ltb x.prev n) es e h (lt-ltb e.prev n lt)

pub onward_is : (n : ℕ) (e : EntryValue) (es : List EntryValue) → n ≤ e.prev → onward n (e ∷ es) ≡ e ∷ onward n es
onward_is n e es le = ap (λ b. cond (not b) (e ∷ onward n es) (onward n es)) (le-ltb e.prev n le)

pub onward_not : (n : ℕ) (e : EntryValue) (es : List EntryValue) → e.prev < n → onward n (e ∷ es) ≡ onward n es
onward_not n e es lt = ap (λ b. cond (not b) (e ∷ onward n es) (onward n es)) (lt-ltb e.prev n lt)

before_is : (n : ℕ) (e : EntryValue) (es : List EntryValue) → e.prev < n → before n (e ∷ es) ≡ e ∷ before n es
before_is n e es lt = ap (λ b. cond b (e ∷ before n es) (before n es)) (lt-ltb e.prev n lt)

before_not : (n : ℕ) (e : EntryValue) (es : List EntryValue) → n ≤ e.prev → before n (e ∷ es) ≡ before n es
before_not n e es le = ap (λ b. cond b (e ∷ before n es) (before n es)) (le-ltb e.prev n le)

pub onward_all : (n : ℕ) (es : List EntryValue) → All (λ e. n ≤ e.prev) es → onward n es ≡ es
onward_all n [] h = refl
onward_all n (x ∷ xs) h = onward_is n x xs (All-head (λ e. n ≤ e.prev) x xs h)
    ∙ ap (λ ys. x ∷ ys) (onward_all n xs (All-tail (λ e. n ≤ e.prev) x xs h))

onward_none : (n : ℕ) (es : List EntryValue) → All (λ e. e.prev < n) es → onward n es ≡ []
onward_none n [] h = refl
onward_none n (x ∷ xs) h = onward_not n x xs (All-head (λ e. e.prev < n) x xs h)
    ∙ onward_none n xs (All-tail (λ e. e.prev < n) x xs h)

before_all : (n : ℕ) (es : List EntryValue) → All (λ e. e.prev < n) es → before n es ≡ es
before_all n [] h = refl
before_all n (x ∷ xs) h = before_is n x xs (All-head (λ e. e.prev < n) x xs h)
    ∙ ap (λ ys. x ∷ ys) (before_all n xs (All-tail (λ e. e.prev < n) x xs h))

before_none : (n : ℕ) (es : List EntryValue) → All (λ e. n < e.prev) es → before n es ≡ []
before_none n [] h = refl
before_none n (x ∷ xs) h =
    let later : n < x.prev = All-head (λ e. n < e.prev) x xs h in
    before_not n x xs (omega arith) ∙ before_none n xs (All-tail (λ e. n < e.prev) x xs h)

not_before : (n : ℕ) (es : List EntryValue) → All (λ e. n < e.prev) es → All (λ e. n ≤ e.prev) es
not_before n es h = λ k d lt. omega (arith, h k d lt)

-- ---- the place of a number

pub before_at : (n : ℕ) (es : List EntryValue) (k : ℕ) → IsPlace n es k → before n es ≡ take k es
before_at n es k place =
    ap (before n) (sym (take-append-drop k es))
    ∙ filter-append (λ e. ltb e.prev n) (take k es) (drop k es)
    ∙ ap (λ ys. before n (take k es) ++ ys) (before_none n (drop k es) place.later)
    ∙ append-nil (before n (take k es))
    ∙ before_all n (take k es) place.earlier

pub onward_at : (n : ℕ) (es : List EntryValue) (k : ℕ) → IsPlace n es k → onward n es ≡ drop k es
onward_at n es k place =
    ap (onward n) (sym (take-append-drop k es))
    ∙ filter-append (λ e. not (ltb e.prev n)) (take k es) (drop k es)
    ∙ ap (λ ys. ys ++ onward n (drop k es)) (onward_none n (take k es) place.earlier)
    ∙ onward_all n (drop k es) (not_before n (drop k es) place.later)

pub inserted : (n : ℕ) (es : List EntryValue) (k : ℕ) (e : EntryValue) → IsPlace n es k
    → insert es k e ≡ before n es ++ e ∷ onward n es
inserted n es k e place =
    ap (λ ys. take k es ++ e ∷ ys) (sym (onward_at n es k place))
    ∙ ap (λ ys. ys ++ e ∷ onward n es) (sym (before_at n es k place))

pub place_none : (n : ℕ) (es : List EntryValue) (k : ℕ) → IsPlace n es k → HasPrev n es → ⊥
place_none n es k place (e, i, q) =
    let i' : Contains (take k es ++ drop k es) e = subst (λ ys. Contains ys e) (sym (take-append-drop k es)) i in
    elim (Contains-append_cases (take k es) (drop k es) e i') [
      | inl front ↦ omega (arith, All-contains (λ x. x.prev < n) (take k es) e place.earlier front)
      | inr back ↦ omega (arith, All-contains (λ x. n < x.prev) (drop k es) e place.later back)
    ]

-- ---- an entry put in its place

order_between : (xs : List EntryValue) (e : EntryValue) (ys : List EntryValue) → InOrder xs → InOrder ys
    → All (λ x. x.prev < e.prev) xs → All (Before e) ys → InOrder (xs ++ e ∷ ys)
order_between [] e ys ox oy front back = AllPairs-cons Before e ys back oy
order_between (x ∷ xs) e ys ox oy front back =
    let here : x.prev < e.prev = All-head (λ z. z.prev < e.prev) x xs front in
    let after : All (Before x) ys = λ k d lt. omega (arith, back k d lt) in
    AllPairs-cons Before x (xs ++ e ∷ ys)
    (All-append (Before x) xs (e ∷ ys) (order_head x xs ox) (All-cons (Before x) e ys here after))
    (order_between xs e ys (order_tail x xs ox) oy (All-tail (λ z. z.prev < e.prev) x xs front) back)

pub order_onward : (n : ℕ) (es : List EntryValue) → InOrder es → InOrder (onward n es)
order_onward n es h = AllPairs-filter Before (λ e. not (ltb e.prev n)) es h

pub order_held : (es : List EntryValue) (k : ℕ) (e : EntryValue) → InOrder es → IsPlace e.prev es k
    → InOrder (before e.prev es ++ e ∷ onward e.prev es)
order_held es k e order place =
    order_between (before e.prev es) e (onward e.prev es)
    (AllPairs-filter Before (λ x. ltb x.prev e.prev) es order)
    (order_onward e.prev es order)
    (subst (All (λ x. x.prev < e.prev)) (sym (before_at e.prev es k place)) place.earlier)
    (subst (All (Before e)) (sym (onward_at e.prev es k place)) place.later)

pub all_held : (P : EntryValue → Type 0) (n : ℕ) (es : List EntryValue) (e : EntryValue) → All P es → P e
    → All P (before n es ++ e ∷ onward n es)
all_held P n es e all here =
    All-append P (before n es) (e ∷ onward n es) (All-filter (λ x. ltb x.prev n) P es all)
    (All-cons P e (onward n es) here (All-filter (λ x. not (ltb x.prev n)) P es all))

pub length_onward : (n : ℕ) (es : List EntryValue) → length (before n es) + length (onward n es) ≡ length es
length_onward n es = length-filter_both (λ e. ltb e.prev n) (λ e. not (ltb e.prev n)) (λ e. refl) es

pub length_held : (n : ℕ) (es : List EntryValue) (e : EntryValue)
    → length (before n es ++ e ∷ onward n es) ≡ length es + 1
length_held n es e = omega (arith, length-append (before n es) (e ∷ onward n es), length_onward n es)

pub in_held : (n : ℕ) (es : List EntryValue) (e x : EntryValue) → Contains (before n es ++ e ∷ onward n es) x
    → Contains es x ⊎ (e ≡ x)
in_held n es e x h =
    elim (Contains-append_cases (before n es) (e ∷ onward n es) x h) [
      | inl front ↦ inl (in_before n es x front)
      | inr back ↦ elim (contains_cases e (onward n es) x back) [
        | inl same ↦ inr same
        | inr later ↦ inl (in_onward n es x later).0
      ]
    ]

pub into_held : (n : ℕ) (es : List EntryValue) (e x : EntryValue) → Contains es x
    → Contains (before n es ++ e ∷ onward n es) x
into_held n es e x h =
    elim (cases_lt x.prev n) [
      | inl lt ↦ Contains-append_left (before n es) (e ∷ onward n es) x (into_before n es x h lt)
      | inr le ↦ Contains-append_right (before n es) (e ∷ onward n es) x
          (Contains-append_right (e ∷ []) (onward n es) x (into_onward n es x h le))
    ]

pub held_itself : (n : ℕ) (es : List EntryValue) (e : EntryValue) → Contains (before n es ++ e ∷ onward n es) e
held_itself n es e = Contains-append_right (before n es) (e ∷ onward n es) e (0, omega arith, refl)

-- ---- the first entry

-- if the first of entries in order begins at n or later, all do
pub onward_settled : (n : ℕ) (es : List EntryValue) (e : EntryValue) → InOrder es → e ≡ get_or es 0 e → n ≤ e.prev
    → onward n es ≡ es
onward_settled n [] e order is le = refl
onward_settled n (x ∷ xs) e order is le =
    let at : e.prev ≡ x.prev = ap (λ (y : EntryValue). y.prev) is in
    onward_all n (x ∷ xs) (All-cons (λ y. n ≤ y.prev) x xs (omega arith)
    (λ k d lt. omega (arith, order_head x xs order k d lt)))

-- if the first begins before n, it is not among those from n onward
onward_dropped : (n : ℕ) (es : List EntryValue) (e : EntryValue) → e ≡ get_or es 0 e → e.prev < n
    → onward n (drop 1 es) ≡ onward n es
onward_dropped n [] e is lt = refl
onward_dropped n (x ∷ xs) e is lt =
    let at : e.prev ≡ x.prev = ap (λ (y : EntryValue). y.prev) is in
    sym (onward_not n x xs (omega arith))

pub order_drop : (es : List EntryValue) → InOrder es → InOrder (drop 1 es)
order_drop [] order = order
order_drop (x ∷ xs) order = order_tail x xs order

-- .. and once it was dropped, those from n onward are still the same
pub dropped_first : (n : ℕ) (es rest onwards : List EntryValue) (e : EntryValue) → rest ≡ drop 1 es → e ≡ get_or es 0 e
    → e.prev < n → InOrder es → onward n es ≡ onwards
    → (onward n rest ≡ onwards) × InOrder rest
dropped_first n es rest onwards e is first lt order same
    = (ap (onward n) is ∙ onward_dropped n es e first lt ∙ same, subst InOrder (sym is) (order_drop es order))

-- the first of entries in order has the least previous number
pub first_least : (es : List EntryValue) (e : EntryValue) → InOrder es → e ≡ get_or es 0 e
    → All (λ f. e.prev ≤ f.prev) es
first_least [] e order is = All-nil (λ f. e.prev ≤ f.prev)
first_least (x ∷ xs) e order is =
    let at : e.prev ≡ x.prev = ap (λ (y : EntryValue). y.prev) is in
    All-cons (λ f. e.prev ≤ f.prev) x xs (omega arith) (λ k d lt. omega (arith, order_head x xs order k d lt))

-- ---- lengths

-- without an entry that begins before n, fewer are left
pub onward_fewer : (n : ℕ) (es : List EntryValue) (e : EntryValue) → Contains es e → e.prev < n
    → length (onward n es) < length es
onward_fewer n es e h lt =
    let among : Contains (before n es) e = into_before n es e h lt in
    omega (arith, length_onward n es, among.1)

-- if only the first of them begins before n, one less is left
pub onward_first : (n : ℕ) (es : List EntryValue) (e : EntryValue) → InOrder es → All (λ f. e.prev ≤ f.prev) es
    → Contains es e → e.prev < n
    → ((f : EntryValue) → Contains es f → e.prev < f.prev → n ≤ f.prev) → length es ≡ length (onward n es) + 1
onward_first n [] e order least h lt past = absurd (not_in_nil e h)
onward_first n (x ∷ xs) e order least h lt past =
    let low : e.prev ≤ x.prev = All-head (λ f. e.prev ≤ f.prev) x xs least in
    let at : x.prev ≡ e.prev = elim (contains_cases x xs e h) [
      | inl same ↦ ap (λ (y : EntryValue). y.prev) same
      | inr later ↦ absurd (omega (arith, low, All-contains (Before x) xs e (order_head x xs order) later))
    ] in
    let kept : onward n xs ≡ xs = onward_all n xs (λ k d within.
    past (get_or xs k d) (Contains-append_right (x ∷ []) xs (get_or xs k d) (Contains-get_or xs k d within))
    (omega (arith, at, order_head x xs order k d within))) in
    let whole : onward n (x ∷ xs) ≡ xs = onward_not n x xs (omega (arith, at)) ∙ kept in
    omega (arith, ap (λ (ys : List EntryValue). length ys) whole)

pub later_onward : (n : ℕ) (es : List EntryValue) → All (λ e. n ≤ e.prev) (onward n es)
later_onward n es = λ k d lt. (in_onward n es (get_or (onward n es) k d) (Contains-get_or (onward n es) k d lt)).1
