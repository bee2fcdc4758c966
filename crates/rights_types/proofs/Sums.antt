-- Laws of the sums over moves.
use Rattle.std.proofs.Common.{◌≡◌, ℕ, ◌+◌, ◌-◌, ◌*◌, ◌<◌, ◌≤◌, Bool, true, false, List, [], ◌∷◌, ◌++◌, length, get_or}
use Rattle.std.proofs.Common.{take, drop, arith, refl, sym, ap, ◌∙◌, eqb, ltb, cond, not}
use Rattle.std.specs.List.{sum_by, All, list_any}
use Rattle.std.proofs.lemmas.Bool.{and_parts, or_parts, ltb-false, le-ltb, lt-ltb, not-true}
use Rattle.std.proofs.lemmas.List.{append_assoc, append-nil, take-append-drop, at_drop_more}
use Rattle.std.proofs.lemmas.List.Sums.{sum_by-append, sum_by-cons, sum_by-le, sum_by-le-sum_by, sum_by_more}
use Rattle.std.proofs.lemmas.List.Elements.{All-weaker, All-head, All-tail, All-take}
use Rattle.rights_types.specs.Moves.{IsMove, NamesWithin, names, issue_of, spend_of, gift_of, gift_to, take_back_of}
use Rattle.rights_types.specs.Moves.{take_back_from, gain_of, cost_of}
use Rattle.rights_types.specs.Entries.{EntryValue}
use Rattle.rights_types.specs.Chains.{moves_of, end, IsChain}
use Rattle.rights_types.specs.Rights.{issued, spent, out, to, taken_back, back, sum_sites, covers, rights_after}
use Rattle.rights_types.specs.Rights.{IsNeverShort}
use Rattle.rights_types.specs.declared.moves.Move.{Move}
use Rattle.rights_types.specs.declared.moves.Move.TheVariants.{Issue, Spend, Grant, Give, Close, CloseAt, TakeBack}
use Rattle.rights_types.proofs.Chains.{end-count, all_moves}
use Rattle.rights_types.proofs.SiteSums.{sum_same, sum_add, sum_zero, sum_one}

pub moves_of-nil : moves_of [] ≡ []
unfolding moves_of
moves_of-nil = refl

pub moves_of-append : (xs ys : List EntryValue) → moves_of (xs ++ ys) ≡ moves_of xs ++ moves_of ys
unfolding moves_of
moves_of-append [] ys = refl
moves_of-append (x ∷ xs) ys = ap (λ (ms : List Move). x.moves ++ ms) (moves_of-append xs ys)
    ∙ sym (append_assoc x.moves (moves_of xs) (moves_of ys))

pub moves_of-push : (xs : List EntryValue) (e : EntryValue) → moves_of (xs ++ e ∷ []) ≡ moves_of xs ++ e.moves
unfolding moves_of
moves_of-push xs e = moves_of-append xs (e ∷ []) ∙ ap (λ (ms : List Move). moves_of xs ++ ms) (append-nil e.moves)

pub issued-append : (xs ys : List Move) → issued (xs ++ ys) ≡ issued xs + issued ys
unfolding issued
issued-append xs ys = sum_by-append issue_of xs ys

pub spent-append : (xs ys : List Move) → spent (xs ++ ys) ≡ spent xs + spent ys
unfolding spent
spent-append xs ys = sum_by-append spend_of xs ys

pub out-append : (xs ys : List Move) → out (xs ++ ys) ≡ out xs + out ys
unfolding out
out-append xs ys = sum_by-append gift_of xs ys

pub to-append : (s : ℕ) (xs ys : List Move) → to s (xs ++ ys) ≡ to s xs + to s ys
unfolding to
to-append s xs ys = sum_by-append (gift_to s) xs ys

pub taken_back-append : (xs ys : List Move) → taken_back (xs ++ ys) ≡ taken_back xs + taken_back ys
unfolding taken_back
taken_back-append xs ys = sum_by-append take_back_of xs ys

pub back-append : (s : ℕ) (xs ys : List Move) → back s (xs ++ ys) ≡ back s xs + back s ys
unfolding back
back-append s xs ys = sum_by-append (take_back_from s) xs ys

-- the moves from index i on begin with the move at i
pub next_move : (ms : List Move) (i : ℕ) (m : Move) → i < length ms → m ≡ get_or ms i m
    → drop i ms ≡ m ∷ drop (i + 1) ms
next_move ms i m lt is = at_drop_more (λ xs. xs) ms i m lt ∙ ap (λ (x : Move). x ∷ drop (i + 1) ms) (sym is)

pub issued-cons : (m : Move) (ms : List Move) → issued (m ∷ ms) ≡ issue_of m + issued ms
unfolding issued
issued-cons m ms = sum_by-cons issue_of m ms

pub spent-cons : (m : Move) (ms : List Move) → spent (m ∷ ms) ≡ spend_of m + spent ms
unfolding spent
spent-cons m ms = sum_by-cons spend_of m ms

pub out-cons : (m : Move) (ms : List Move) → out (m ∷ ms) ≡ gift_of m + out ms
unfolding out
out-cons m ms = sum_by-cons gift_of m ms

pub taken_back-cons : (m : Move) (ms : List Move) → taken_back (m ∷ ms) ≡ take_back_of m + taken_back ms
unfolding taken_back
taken_back-cons m ms = sum_by-cons take_back_of m ms

pub to-cons : (j : ℕ) (m : Move) (ms : List Move) → to j (m ∷ ms) ≡ gift_to j m + to j ms
unfolding to
to-cons j m ms = sum_by-cons (gift_to j) m ms

pub back-cons : (j : ℕ) (m : Move) (ms : List Move) → back j (m ∷ ms) ≡ take_back_from j m + back j ms
unfolding back
back-cons j m ms = sum_by-cons (take_back_from j) m ms

pub out-nil : out [] ≡ 0
unfolding out
out-nil = refl

pub taken_back-nil : taken_back [] ≡ 0
unfolding taken_back
taken_back-nil = refl

pub back-nil : (j : ℕ) → back j [] ≡ 0
unfolding back
back-nil j = refl

pub to-nil : (s : ℕ) → to s [] ≡ 0
unfolding to
to-nil s = refl

-- the amount reclaimed by a single move
pub back-one : (c j n : ℕ) → back c (TakeBack j n ∷ []) ≡ cond (eqb j c) n 0
back-one c j n = omega (arith, back-cons c (TakeBack j n) [], back-nil c)

no_gift : (s : ℕ) (m : Move) → names s m ≡ false → gift_to s m ≡ 0
no_gift s (Issue a) h = refl
no_gift s (Spend a) h = refl
no_gift s (Grant j a k) h = rw h refl
no_gift s (Give j a) h = rw h refl
no_gift s Close h = refl
no_gift s (CloseAt f) h = refl
no_gift s (TakeBack j a) h = refl

-- moves that do not name a site give nothing to it
pub nothing_to : (s : ℕ) (ms : List Move) → list_any (names s) ms ≡ false → to s ms ≡ 0
nothing_to s [] h = to-nil s
nothing_to s (m ∷ ms) h =
    let p = or_parts (names s m) (list_any (names s) ms) h in
    omega (arith, to-cons s m ms, no_gift s m p.0, nothing_to s ms p.1)

-- one more of the first moves
pub to-more : (s : ℕ) (ms : List Move) (i : ℕ) (d : Move) → i < length ms
    → to s (take (i + 1) ms) ≡ to s (take i ms) + gift_to s (get_or ms i d)
unfolding to
to-more s ms i d h = sum_by_more (gift_to s) ms i d h

pub issued-more : (ms : List Move) (i : ℕ) (d : Move) → i < length ms
    → issued (take (i + 1) ms) ≡ issued (take i ms) + issue_of (get_or ms i d)
unfolding issued
issued-more ms i d h = sum_by_more issue_of ms i d h

pub spent-more : (ms : List Move) (i : ℕ) (d : Move) → i < length ms
    → spent (take (i + 1) ms) ≡ spent (take i ms) + spend_of (get_or ms i d)
unfolding spent
spent-more ms i d h = sum_by_more spend_of ms i d h

pub issued-nil : issued [] ≡ 0
unfolding issued
issued-nil = refl

pub spent-nil : spent [] ≡ 0
unfolding spent
spent-nil = refl

-- ---- bounds

issue-bound : (m : Move) → IsMove m → issue_of m ≤ 1000000000
issue-bound (Issue n) h = h.1
issue-bound (Spend n) h = omega arith
issue-bound (Grant j n a) h = omega arith
issue-bound (Give j n) h = omega arith
issue-bound Close h = omega arith
issue-bound (CloseAt f) h = omega arith
issue-bound (TakeBack j n) h = omega arith

spend-bound : (m : Move) → IsMove m → spend_of m ≤ 1000000000
spend-bound (Issue n) h = omega arith
spend-bound (Spend n) h = h.1
spend-bound (Grant j n a) h = omega arith
spend-bound (Give j n) h = omega arith
spend-bound Close h = omega arith
spend-bound (CloseAt f) h = omega arith
spend-bound (TakeBack j n) h = omega arith

pub at_most : (b : Bool) (n m : ℕ) → n ≤ m → cond b n 0 ≤ m
at_most true n m h = h
at_most false n m h = omega arith

pub gift_to-bound : (s : ℕ) (m : Move) → IsMove m → gift_to s m ≤ 1000000000
gift_to-bound s (Issue n) h = omega arith
gift_to-bound s (Spend n) h = omega arith
gift_to-bound s (Grant j n a) h = at_most (eqb j s) n 1000000000 h.1.1
gift_to-bound s (Give j n) h = at_most (eqb j s) n 1000000000 h.1.1
gift_to-bound s Close h = omega arith
gift_to-bound s (CloseAt f) h = omega arith
gift_to-bound s (TakeBack j n) h = omega arith

pub issued-bound : (ms : List Move) → All IsMove ms → issued ms ≤ length ms * 1000000000
unfolding issued
issued-bound ms h = sum_by-le issue_of 1000000000 ms (All-weaker IsMove (λ m. issue_of m ≤ 1000000000) issue-bound ms h)

pub spent-bound : (ms : List Move) → All IsMove ms → spent ms ≤ length ms * 1000000000
unfolding spent
spent-bound ms h = sum_by-le spend_of 1000000000 ms (All-weaker IsMove (λ m. spend_of m ≤ 1000000000) spend-bound ms h)

pub to-bound : (s : ℕ) (ms : List Move) → All IsMove ms → to s ms ≤ length ms * 1000000000
unfolding to
to-bound s ms h = sum_by-le (gift_to s) 1000000000 ms
    (All-weaker IsMove (λ m. gift_to s m ≤ 1000000000) (gift_to-bound s) ms h)

gift-bound : (m : Move) → IsMove m → gift_of m ≤ 1000000000
gift-bound (Issue n) h = omega arith
gift-bound (Spend n) h = omega arith
gift-bound (Grant j n a) h = h.1.1
gift-bound (Give j n) h = h.1.1
gift-bound Close h = omega arith
gift-bound (CloseAt f) h = omega arith
gift-bound (TakeBack j n) h = omega arith

take_back-bound : (m : Move) → IsMove m → take_back_of m ≤ 1000000000000000000
take_back-bound (Issue n) h = omega arith
take_back-bound (Spend n) h = omega arith
take_back-bound (Grant j n a) h = omega arith
take_back-bound (Give j n) h = omega arith
take_back-bound Close h = omega arith
take_back-bound (CloseAt f) h = omega arith
take_back-bound (TakeBack j n) h = h.1.1

pub out-bound : (ms : List Move) → All IsMove ms → out ms ≤ length ms * 1000000000
unfolding out
out-bound ms h = sum_by-le gift_of 1000000000 ms (All-weaker IsMove (λ m. gift_of m ≤ 1000000000) gift-bound ms h)

pub taken_back-bound : (ms : List Move) → All IsMove ms → taken_back ms ≤ length ms * 1000000000000000000
unfolding taken_back
taken_back-bound ms h = sum_by-le take_back_of 1000000000000000000 ms
    (All-weaker IsMove (λ m. take_back_of m ≤ 1000000000000000000) take_back-bound ms h)

-- a log issues, spends and gives to each site at most 10^9 for each of its numbers
pub log-issued : (o : ℕ) (es : List EntryValue) → IsChain o es → issued (moves_of es) ≤ end es * 1000000000
log-issued o es c = let n : end es ≡ length (moves_of es)
    = omega (arith, end-count o false 0 es c) in rw n (issued-bound (moves_of es) (all_moves o false 0 es c))

pub log-spent : (o : ℕ) (es : List EntryValue) → IsChain o es → spent (moves_of es) ≤ end es * 1000000000
log-spent o es c = let n : end es ≡ length (moves_of es)
    = omega (arith, end-count o false 0 es c) in rw n (spent-bound (moves_of es) (all_moves o false 0 es c))

pub log-to : (o s : ℕ) (es : List EntryValue) → IsChain o es → to s (moves_of es) ≤ end es * 1000000000
log-to o s es c = let n : end es ≡ length (moves_of es)
    = omega (arith, end-count o false 0 es c) in rw n (to-bound s (moves_of es) (all_moves o false 0 es c))

at_least : (b : Bool) (n : ℕ) → cond b n 0 ≤ n
at_least true n = omega arith
at_least false n = omega arith

back_from-bound : (s : ℕ) (m : Move) → take_back_from s m ≤ take_back_of m
back_from-bound s (Issue n) = omega arith
back_from-bound s (Spend n) = omega arith
back_from-bound s (Grant j n a) = omega arith
back_from-bound s (Give j n) = omega arith
back_from-bound s Close = omega arith
back_from-bound s (CloseAt f) = omega arith
back_from-bound s (TakeBack j n) = at_least (eqb j s) n

-- what is reclaimed from one site is at most what is reclaimed in all
pub back-bound : (s : ℕ) (ms : List Move) → back s ms ≤ taken_back ms
unfolding back taken_back
back-bound s ms = sum_by-le-sum_by (take_back_from s) take_back_of ms (back_from-bound s)

-- ---- what moves leave

gains : (ms : List Move) → sum_by gain_of ms ≡ issued ms + taken_back ms
unfolding issued taken_back
gains [] = refl
gains (m ∷ ms) = simp sum_by-cons (omega (arith, gains ms))

costs : (ms : List Move) → sum_by cost_of ms ≡ spent ms + out ms
unfolding spent out
costs [] = refl
costs (m ∷ ms) = simp sum_by-cons (omega (arith, costs ms))

-- the first move is covered, and the others by what remains after it
pub covers_parts : (r : ℕ) (m : Move) (ms : List Move) → covers r (m ∷ ms) ≡ true
    → (cost_of m ≤ r) × (covers ((r - cost_of m) + gain_of m) ms ≡ true)
covers_parts r m ms h =
    let p = and_parts (not (ltb r (cost_of m))) (covers ((r - cost_of m) + gain_of m) ms) h in
    (ltb-false r (cost_of m) (not-true (ltb r (cost_of m)) p.0), p.1)

pub covers_both : (r : ℕ) (m : Move) (ms : List Move) → cost_of m ≤ r → covers ((r - cost_of m) + gain_of m) ms ≡ true
    → covers r (m ∷ ms) ≡ true
covers_both r m ms le h = rw (le-ltb r (cost_of m) le, h) refl

-- after a covered move, the others must be covered by what remains
pub covers_next : (r : ℕ) (m : Move) (ms : List Move) → cost_of m ≤ r
    → covers r (m ∷ ms) ≡ covers ((r - cost_of m) + gain_of m) ms
covers_next r m ms le = rw (le-ltb r (cost_of m) le) refl

-- a move that costs more than there is is not covered
pub covers_not : (r : ℕ) (m : Move) (ms : List Move) → r < cost_of m → covers r (m ∷ ms) ≡ false
covers_not r m ms lt = rw (lt-ltb r (cost_of m) lt) refl

after_by : (r : ℕ) (ms : List Move) → covers r ms ≡ true → rights_after r ms + sum_by cost_of ms ≡ r + sum_by gain_of ms
after_by r [] h = refl
after_by r (m ∷ ms) h =
    let p = covers_parts r m ms h in
    simp sum_by-cons (omega (arith, p.0, after_by ((r - cost_of m) + gain_of m) ms p.1))

-- what remains, was spent and was given is what there was, was issued and was reclaimed
pub rights_after_is : (r : ℕ) (ms : List Move) → covers r ms ≡ true
    → rights_after r ms + spent ms + out ms ≡ r + issued ms + taken_back ms
rights_after_is r ms h = omega (arith, after_by r ms h, gains ms, costs ms)

-- more rights cover whatever fewer rights cover
pub covers-more : (r q : ℕ) (ms : List Move) → r ≤ q → covers r ms ≡ true → covers q ms ≡ true
covers-more r q [] le h = refl
covers-more r q (m ∷ ms) le h =
    let p = covers_parts r m ms h in
    covers_both q m ms (omega (arith, p.0))
    (covers-more ((r - cost_of m) + gain_of m) ((q - cost_of m) + gain_of m) ms (omega (arith, p.0)) p.1)

pub covers-append : (r : ℕ) (xs ys : List Move) → covers r xs ≡ true → covers (rights_after r xs) ys ≡ true
    → covers r (xs ++ ys) ≡ true
covers-append r [] ys h k = k
covers-append r (m ∷ xs) ys h k =
    let p = covers_parts r m xs h in
    covers_both r m (xs ++ ys) p.0 (covers-append ((r - cost_of m) + gain_of m) xs ys p.1 k)

covers-left : (r : ℕ) (xs ys : List Move) → covers r (xs ++ ys) ≡ true → covers r xs ≡ true
covers-left r [] ys h = refl
covers-left r (m ∷ xs) ys h =
    let p = covers_parts r m (xs ++ ys) h in
    covers_both r m xs p.0 (covers-left ((r - cost_of m) + gain_of m) xs ys p.1)

-- ---- what moves give to each site

one_gift : (n : ℕ) (m : Move) → NamesWithin n m → sum_sites n (λ s. gift_to s m) ≡ gift_of m
one_gift n (Issue a) h = sum_zero n
one_gift n (Spend a) h = sum_zero n
one_gift n (Grant j a k) h = sum_one n j a h.0 h.1
one_gift n (Give j a) h = sum_one n j a h.0 h.1
one_gift n Close h = sum_zero n
one_gift n (CloseAt f) h = sum_zero n
one_gift n (TakeBack j a) h = sum_zero n

-- a sum over moves by the site that each names, and the sum over those sites
by_sites : (n : ℕ) (part : ℕ → Move → ℕ) (whole : Move → ℕ)
    → ((m : Move) → NamesWithin n m → sum_sites n (λ s. part s m) ≡ whole m)
    → (ms : List Move) → All (NamesWithin n) ms → sum_sites n (λ s. sum_by (part s) ms) ≡ sum_by whole ms
by_sites n part whole one [] h = sum_zero n
by_sites n part whole one (m ∷ ms) h =
    sum_same n (λ s. sum_by (part s) (m ∷ ms)) (λ s. part s m + sum_by (part s) ms)
    (λ s low high. sum_by-cons (part s) m ms)
    ∙ sum_add n (λ s. part s m) (λ s. sum_by (part s) ms)
    ∙ ap (λ k. sum_sites n (λ s. part s m) + k) (by_sites n part whole one ms (All-tail (NamesWithin n) m ms h))
    ∙ ap (λ k. k + sum_by whole ms) (one m (All-head (NamesWithin n) m ms h)) ∙ sym (sum_by-cons whole m ms)

-- moves that name only the sites 1 to n give away the sum of what they give to each of them
pub out_is : (n : ℕ) (ms : List Move) → All (NamesWithin n) ms → sum_sites n (λ s. to s ms) ≡ out ms
unfolding to out
out_is n = by_sites n gift_to gift_of (one_gift n)

one_back : (n : ℕ) (m : Move) → NamesWithin n m → sum_sites n (λ s. take_back_from s m) ≡ take_back_of m
one_back n (Issue a) h = sum_zero n
one_back n (Spend a) h = sum_zero n
one_back n (Grant j a k) h = sum_zero n
one_back n (Give j a) h = sum_zero n
one_back n Close h = sum_zero n
one_back n (CloseAt f) h = sum_zero n
one_back n (TakeBack j a) h = sum_one n j a h.0 h.1

pub taken_back_is : (n : ℕ) (ms : List Move) → All (NamesWithin n) ms → sum_sites n (λ s. back s ms) ≡ taken_back ms
unfolding back taken_back
taken_back_is n = by_sites n take_back_from take_back_of (one_back n)

-- no prefix of covered moves overspends
pub never_short : (n r : ℕ) (ms : List Move) → covers r ms ≡ true → All (NamesWithin n) ms → IsNeverShort n r ms
never_short n r ms h named k =
    let cut : List Move = take k ms in
    let whole : covers r (cut ++ drop k ms) ≡ true = rw (take-append-drop k ms) h in
    let covered : covers r cut ≡ true = covers-left r cut (drop k ms) whole in
    omega (arith, rights_after_is r cut covered, taken_back_is n cut (All-take (NamesWithin n) k ms named))
