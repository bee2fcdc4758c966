-- Moves at the end of a site's log as operations of the counter.
use Rattle.std.proofs.Common.{◌≡◌, ◌≢◌, ℕ, ◌+◌, ◌-◌, ◌≤◌, ◌⊎◌, inl, inr, Bool, true, false, cond, eqb, List, [], ◌∷◌}
use Rattle.std.proofs.Common.{◌++◌, arith, refl, sym, ap, ◌∙◌, subst}
use Rattle.std.specs.List.{All, list_any}
use Rattle.std.proofs.lemmas.Bool.{cases_eq, eq-eqb, ne_eqb, both_ways, or_parts}
use Rattle.std.proofs.lemmas.List.{append_assoc, append-nil}
use Rattle.std.proofs.lemmas.List.Elements.{All-head, All-tail}
use Rattle.std.proofs.lemmas.List.Sums.{sum_by-cons}
use Rattle.rights_types.specs.Moves.{NamesWithin, names, issue_of, spend_of, gift_to, take_back_from, gain_of, cost_of}
use Rattle.rights_types.specs.Rights.{issued, spent, to, back, covers}
use Rattle.rights_types.specs.declared.moves.Move.{Move}
use Rattle.rights_types.specs.declared.moves.Move.TheVariants.{Issue, Spend, Grant, Give, Close, CloseAt, TakeBack}
use Rattle.rights_types.proofs.Sums.{issued-append, spent-append, to-append, back-append, covers_parts}
use Rattle.rights_protocol.specs.Lists.{IsSiteOf}
use Rattle.rights_protocol.specs.BoundedCounter.{Counter, incoming, outgoing, local_rights, OnlyEntry, SameCounter}
use Rattle.rights_protocol.specs.BoundedCounter.{Increments, Decrements, Transfers, TakesBack, Operates, Operate}
use Rattle.rights_protocol.specs.CounterOfLists.{counter_of}
use Rattle.rights_protocol.proofs.CounterRuns.{own_in, own_out, in_same, own_same, out_risen, use_in, use_out, same_in}
use Rattle.rights_protocol.proofs.CounterRuns.{same_out}
use Rattle.rights_protocol.proofs.CounterLists.{own_cell, cell}

-- ---- one more move

issued_more : (ms : List Move) (m : Move) → issued (ms ++ m ∷ []) ≡ issued ms + issue_of m
unfolding issued
issued_more ms m = omega (arith, issued-append ms (m ∷ []), sum_by-cons issue_of m [])

spent_more : (ms : List Move) (m : Move) → spent (ms ++ m ∷ []) ≡ spent ms + spend_of m
unfolding spent
spent_more ms m = omega (arith, spent-append ms (m ∷ []), sum_by-cons spend_of m [])

to_more : (j : ℕ) (ms : List Move) (m : Move) → to j (ms ++ m ∷ []) ≡ to j ms + gift_to j m
unfolding to
to_more j ms m = omega (arith, to-append j ms (m ∷ []), sum_by-cons (gift_to j) m [])

back_more : (j : ℕ) (ms : List Move) (m : Move) → back j (ms ++ m ∷ []) ≡ back j ms + take_back_from j m
unfolding back
back_more j ms m = omega (arith, back-append j ms (m ∷ []), sum_by-cons (take_back_from j) m [])

-- s makes one more move
pub record Added (s : ℕ) (m : Move) (moves now : ℕ → List Move) : Type 0 where
  pub here : now s ≡ moves s ++ m ∷ []
  pub others : (k : ℕ) → k ≢ s → now k ≡ moves k

row : (s : ℕ) (m : Move) (moves now : ℕ → List Move) → Added s m moves now → (k j : ℕ) → k ≢ s
    → (counter_of now).R k j ≡ (counter_of moves).R k j
row s m moves now a k j ne = ap (λ ms. cond (eqb j k) (issued ms) (to j ms - back j ms)) (a.others k ne)

creates : (s : ℕ) (m : Move) (moves now : ℕ → List Move) → Added s m moves now
    → (counter_of now).R s s ≡ (counter_of moves).R s s + issue_of m
creates s m moves now a = omega (arith, own_cell now s, own_cell moves s, ap issued a.here, issued_more (moves s) m)

consumes : (s : ℕ) (m : Move) (moves now : ℕ → List Move) → Added s m moves now
    → (counter_of now).U s ≡ (counter_of moves).U s + spend_of m
consumes s m moves now a = omega (arith, ap spent a.here, spent_more (moves s) m)

moves_to : (s : ℕ) (m : Move) (moves now : ℕ → List Move) → Added s m moves now → (j : ℕ) → j ≢ s
    → (counter_of now).R s j ≡ (to j (moves s) + gift_to j m) - (back j (moves s) + take_back_from j m)
moves_to s m moves now a j ne
    = omega (
      arith,
      cell now s j ne,
      ap (to j) a.here,
      ap (back j) a.here,
      to_more j (moves s) m,
      back_more j (moves s) m,
    )

others_use : (s : ℕ) (m : Move) (moves now : ℕ → List Move) → Added s m moves now → (k : ℕ) → k ≢ s
    → (counter_of now).U k ≡ (counter_of moves).U k
others_use s m moves now a k ne = ap spent (a.others k ne)

-- of the entries of R, m changes at most that of (s, t)
record Touches (s t : ℕ) (m : Move) : Type 0 where
  pub issue : t ≢ s → issue_of m ≡ 0
  pub gift : (j : ℕ) → j ≢ t → gift_to j m ≡ 0
  pub back : (j : ℕ) → j ≢ t → take_back_from j m ≡ 0

own_row_stays : (s t : ℕ) (m : Move) (moves now : ℕ → List Move) → Added s m moves now → Touches s t m → (j : ℕ) → j ≢ t
    → (counter_of now).R s j ≡ (counter_of moves).R s j
own_row_stays s t m moves now a touches j ne = elim (cases_eq j s) [
  | inl e ↦
      let none : issue_of m ≡ 0 = touches.issue (λ f. ne (e ∙ sym f)) in
      let same : (counter_of now).R s s ≡ (counter_of moves).R s s = omega (arith, creates s m moves now a, none) in
      subst (λ k. (counter_of now).R s k ≡ (counter_of moves).R s k) (sym e) same
  | inr apart ↦ omega (
    arith,
    moves_to s m moves now a j apart,
    cell moves s j apart,
    touches.gift j ne,
    touches.back j ne,
  )
]

entries_stay : (s t : ℕ) (m : Move) (moves now : ℕ → List Move) → Added s m moves now → Touches s t m → (i j : ℕ)
    → (i ≢ s) ⊎ (j ≢ t) → (counter_of now).R i j ≡ (counter_of moves).R i j
entries_stay s t m moves now a touches i j apart = elim (cases_eq i s) [
  | inl e ↦
      let ne : j ≢ t = λ f. elim apart [ inl apart_i ↦ apart_i e | inr apart_j ↦ apart_j f ] in
      subst (λ k. (counter_of now).R k j ≡ (counter_of moves).R k j) (sym e)
      (own_row_stays s t m moves now a touches j ne)
  | inr ne ↦ row s m moves now a i j ne
]

uses_stay : (s : ℕ) (m : Move) (moves now : ℕ → List Move) → Added s m moves now → spend_of m ≡ 0 → (i : ℕ)
    → (counter_of now).U i ≡ (counter_of moves).U i
uses_stay s m moves now a none i = elim (cases_eq i s) [
  | inl e ↦
      let same : (counter_of now).U s ≡ (counter_of moves).U s = omega (arith, consumes s m moves now a, none) in
      subst (λ k. (counter_of now).U k ≡ (counter_of moves).U k) (sym e) same
  | inr ne ↦ others_use s m moves now a i ne
]

only_entry : (s t : ℕ) (m : Move) (moves now : ℕ → List Move) → Added s m moves now → Touches s t m → spend_of m ≡ 0
    → OnlyEntry s t (counter_of moves) (counter_of now)
only_entry s t m moves now a touches none
    = record {
      R = λ i j apart. entries_stay s t m moves now a touches i j apart;
      U = λ i. uses_stay s m moves now a none i;
    }

-- a move that does nothing to the counter
does_nothing : (s : ℕ) (m : Move) (moves now : ℕ → List Move) → Added s m moves now → ((t : ℕ) → Touches s t m)
    → issue_of m ≡ 0 → spend_of m ≡ 0 → SameCounter (counter_of moves) (counter_of now)
does_nothing s m moves now a touches unissued unspent = record {
  R = λ i j. elim (cases_eq j s) [
    | inl e ↦ elim (cases_eq i s) [
      | inl f ↦
          let same : (counter_of now).R s s ≡ (counter_of moves).R s s
          = omega (arith, creates s m moves now a, unissued) in
          subst (λ k. (counter_of now).R k j ≡ (counter_of moves).R k j) (sym f)
          (subst (λ k. (counter_of now).R s k ≡ (counter_of moves).R s k) (sym e) same)
      | inr ne ↦ row s m moves now a i j ne
    ]
    | inr ne ↦ entries_stay s s m moves now a (touches s) i j (inr ne)
  ];
  U = λ i. uses_stay s m moves now a unspent i;
}

-- ---- the operations

zero_unless : (j k a : ℕ) → k ≢ j → cond (eqb j k) a 0 ≡ 0
zero_unless j k a ne = rw (ne_eqb j k (λ e. ne (sym e))) refl

whole_at : (j a : ℕ) → cond (eqb j j) a 0 ≡ a
whole_at j a = let at : eqb j j ≡ true = eq-eqb j j refl in rw at refl

issue_is : (s amount : ℕ) (moves now : ℕ → List Move) → Added s (Issue amount) moves now
    → Increments s amount (counter_of moves) (counter_of now)
issue_is s amount moves now a = record {
  created = creates s (Issue amount) moves now a;
  others = only_entry s s (Issue amount) moves now a
      (record { issue = λ ne. absurd (ne refl); gift = λ j ne. refl; back = λ j ne. refl }) refl;
}

spend_is : (n s amount : ℕ) (moves now : ℕ → List Move) → Added s (Spend amount) moves now
    → amount ≤ local_rights n (counter_of moves) s → Decrements n s amount (counter_of moves) (counter_of now)
spend_is n s amount moves now a guard =
    record {
      guard = guard;
      consumed = consumes s (Spend amount) moves now a;
      others = record {
        R = λ i j. elim (cases_eq i s) [
          | inl e ↦
              let anywhere : (t : ℕ) → Touches s t (Spend amount)
              = λ t. record { issue = λ ne. refl; gift = λ k ne. refl; back = λ k ne. refl } in
              entries_stay s (j + 1) (Spend amount) moves now a (anywhere (j + 1)) i j (inr (λ f. omega (arith, f)))
          | inr ne ↦ row s (Spend amount) moves now a i j ne
        ];
        U = λ i ne. others_use s (Spend amount) moves now a i ne;
      };
    }

-- a gift, asked for or not
gift_is : (n s j amount : ℕ) (m : Move) (moves now : ℕ → List Move) → Added s m moves now → Touches s j m
    → spend_of m ≡ 0 → gift_to j m ≡ amount → take_back_from j m ≡ 0
    → IsSiteOf n j → j ≢ s → amount ≤ local_rights n (counter_of moves) s → back j (moves s) ≤ to j (moves s)
    → Transfers n s j amount (counter_of moves) (counter_of now)
gift_is n s j amount m moves now a touches unspent gift none site differ guard given = record {
  site = site;
  differ = differ;
  guard = guard;
  transferred = omega (arith, moves_to s m moves now a j differ, cell moves s j differ, gift, none, given);
  others = only_entry s j m moves now a touches unspent;
}

pub take_back_is : (n s j amount : ℕ) (moves now : ℕ → List Move) → Added s (TakeBack j amount) moves now → IsSiteOf n j
    → j ≢ s → back j (moves s) + amount ≤ to j (moves s)
    → amount ≤ local_rights n (counter_of moves) j → TakesBack n s j amount (counter_of moves) (counter_of now)
take_back_is n s j amount moves now a site differ given guard =
    let was : (counter_of moves).R s j ≡ to j (moves s) - back j (moves s) = cell moves s j differ in
    let at : take_back_from j (TakeBack j amount) ≡ amount = whole_at j amount in
    record {
      site = site;
      differ = differ;
      given = omega (arith, was, given);
      guard = guard;
      taken = omega (arith, moves_to s (TakeBack j amount) moves now a j differ, was, at, given);
      others = only_entry s j (TakeBack j amount) moves now a
          (record { issue = λ ne. refl; gift = λ k ne. refl; back = λ k ne. zero_unless j k amount ne }) refl;
    }

-- ---- what is left after a move

-- s has r rights, or more
abbrev pub Room : ℕ → Counter → ℕ → ℕ → Type 0
Room n c s r = outgoing n c s + c.U s + r ≤ c.R s s + incoming n c s

room_same : (n s r : ℕ) (old new : Counter) → SameCounter old new → Room n old s r → Room n new s r
room_same n s r old new same h
    = omega (arith, same_in n s old new same, same_out n s old new same, same.R s s, same.U s, h)

room_increment : (n s amount r : ℕ) (old new : Counter) → Increments s amount old new → Room n old s r
    → Room n new s (r + amount)
room_increment n s amount r old new op h
    = omega (arith, own_in n s s old new op.others, own_out n s s old new op.others, op.created, op.others.U s, h)

room_decrement : (n s amount r : ℕ) (old new : Counter) → Decrements n s amount old new → amount ≤ r → Room n old s r
    → Room n new s (r - amount)
room_decrement n s amount r old new op le h
    = omega (
      arith,
      use_in n s s old new op.others,
      use_out n s s old new op.others,
      op.others.R s s,
      op.consumed,
      le,
      h,
    )

room_transfer : (n s j amount r : ℕ) (old new : Counter) → Transfers n s j amount old new → amount ≤ r → Room n old s r
    → Room n new s (r - amount)
room_transfer n s j amount r old new op le h =
    omega (
      arith,
      in_same n s j s old new op.others (λ e. op.differ (sym e)),
      out_risen n s j amount old new op.others op.site op.differ op.transferred,
      own_same s j s old new op.others op.differ,
      op.others.U s,
      le,
      h,
    )

-- ---- moves that reclaim nothing

abbrev pub is_own : Move → Bool
is_own (Issue a) = true
is_own (Spend a) = true
is_own (Grant j a k) = true
is_own (Give j a) = true
is_own Close = true
is_own (CloseAt f) = true
is_own (TakeBack j a) = false

own_takes_none : (c : ℕ) (m : Move) → is_own m ≡ true → take_back_from c m ≡ 0
own_takes_none c (Issue a) h = refl
own_takes_none c (Spend a) h = refl
own_takes_none c (Grant j a k) h = refl
own_takes_none c (Give j a) h = refl
own_takes_none c Close h = refl
own_takes_none c (CloseAt f) h = refl
own_takes_none c (TakeBack j a) h = absurd cc

record Moved (n s r : ℕ) (m : Move) (moves now : ℕ → List Move) : Type 0 where
  pub op : Operates n s m (counter_of moves) (counter_of now)
  pub room : Room n (counter_of now) s ((r - cost_of m) + gain_of m)

moved_gift : (n s r j amount : ℕ) (m : Move) (moves now : ℕ → List Move)
    → Transfers n s j amount (counter_of moves) (counter_of now)
    → Room n (counter_of moves) s r → amount ≤ r → cost_of m ≡ amount → gain_of m ≡ 0
    → Room n (counter_of now) s ((r - cost_of m) + gain_of m)
moved_gift n s r j amount m moves now op room le cost gain
    = omega (arith, room_transfer n s j amount r (counter_of moves) (counter_of now) op le room, cost, gain)

moved : (n s r : ℕ) (m : Move) (moves now : ℕ → List Move) → Added s m moves now → Room n (counter_of moves) s r
    → cost_of m ≤ r → NamesWithin n m → names s m ≡ false → is_own m ≡ true
    → ((c : ℕ) → back c (moves s) ≤ to c (moves s)) → Moved n s r m moves now
moved n s r (Issue amount) moves now a room le within others own given =
    let op : Increments s amount (counter_of moves) (counter_of now) = issue_is s amount moves now a in
    record { op = op; room = omega (arith, room_increment n s amount r (counter_of moves) (counter_of now) op room) }
moved n s r (Spend amount) moves now a room le within others own given =
    let op : Decrements n s amount (counter_of moves) (counter_of now)
    = spend_is n s amount moves now a (omega (arith, room, le)) in
    record {
      op = op;
      room = omega
          (arith, room_decrement n s amount r (counter_of moves) (counter_of now) op (omega (arith, le)) room);
    }
moved n s r (Grant j amount ask) moves now a room le within others own given =
    let differ : j ≢ s = λ e. both_ways (eqb j s) others (eq-eqb j s e) in
    let op : Transfers n s j amount (counter_of moves) (counter_of now) =
    gift_is n s j amount (Grant j amount ask) moves now a
    (record { issue = λ ne. refl; gift = λ k ne. zero_unless j k amount ne; back = λ k ne. refl }) refl
    (whole_at j amount) refl
    within differ (omega (arith, room, le)) (given j) in
    record {
      op = op;
      room = moved_gift n s r j amount (Grant j amount ask) moves now op room (omega (arith, le))
          (omega arith) (omega arith);
    }
moved n s r (Give j amount) moves now a room le within others own given =
    let differ : j ≢ s = λ e. both_ways (eqb j s) others (eq-eqb j s e) in
    let op : Transfers n s j amount (counter_of moves) (counter_of now) =
    gift_is n s j amount (Give j amount) moves now a
    (record { issue = λ ne. refl; gift = λ k ne. zero_unless j k amount ne; back = λ k ne. refl }) refl
    (whole_at j amount) refl
    within differ (omega (arith, room, le)) (given j) in
    record {
      op = op;
      room = moved_gift n s r j amount (Give j amount) moves now op room (omega (arith, le))
          (omega arith) (omega arith);
    }
moved n s r Close moves now a room le within others own given =
    let op : SameCounter (counter_of moves) (counter_of now)
    = does_nothing s Close moves now a
    (λ t. record { issue = λ ne. refl; gift = λ k ne. refl; back = λ k ne. refl }) refl refl in
    record { op = op; room = omega (arith, room_same n s r (counter_of moves) (counter_of now) op room) }
moved n s r (CloseAt f) moves now a room le within others own given =
    let op : SameCounter (counter_of moves) (counter_of now)
    = does_nothing s (CloseAt f) moves now a
    (λ t. record { issue = λ ne. refl; gift = λ k ne. refl; back = λ k ne. refl }) refl refl in
    record { op = op; room = omega (arith, room_same n s r (counter_of moves) (counter_of now) op room) }
moved n s r (TakeBack j amount) moves now a room le within others own given = absurd cc

-- ---- any moves of a site

pub same_counter : (moves now : ℕ → List Move) → ((k : ℕ) → now k ≡ moves k)
    → SameCounter (counter_of moves) (counter_of now)
same_counter moves now same
    = record {
      R = λ i j. ap (λ ms. cond (eqb j i) (issued ms) (to j ms - back j ms)) (same i);
      U = λ i. ap spent (same i);
    }

abbrev one_more : ℕ → Move → (ℕ → List Move) → ℕ → List Move
one_more s m moves k = cond (eqb k s) (moves k ++ m ∷ []) (moves k)

adds_one : (s : ℕ) (m : Move) (moves : ℕ → List Move) → Added s m moves (one_more s m moves)
adds_one s m moves = record {
  here = let at : eqb s s ≡ true = eq-eqb s s refl in rw at refl;
  others = λ k ne. rw (ne_eqb k s ne) refl;
}

-- what a site with r rights may write
pub record Fit (n s r : ℕ) (ms : List Move) : Type 0 where
  pub covered : covers r ms ≡ true
  pub within : All (NamesWithin n) ms
  pub others : list_any (names s) ms ≡ false
  pub own : All (λ m. is_own m ≡ true) ms

pub operates : (n s r : ℕ) (ms : List Move) (moves now : ℕ → List Move) → Fit n s r ms → Room n (counter_of moves) s r
    → ((c : ℕ) → back c (moves s) ≤ to c (moves s))
    → now s ≡ moves s ++ ms → ((k : ℕ) → k ≢ s → now k ≡ moves k) → Operate n s ms (counter_of moves) (counter_of now)
operates n s r [] moves now fit room given here others = same_counter moves now (λ k. elim (cases_eq k s) [
  | inl e ↦ subst (λ j. now j ≡ moves j) (sym e) (here ∙ append-nil (moves s))
  | inr ne ↦ others k ne
])
operates n s r (m ∷ ms) moves now fit room given here others =
    let mid : ℕ → List Move = one_more s m moves in
    let a : Added s m moves mid = adds_one s m moves in
    let p = covers_parts r m ms fit.covered in
    let q = or_parts (names s m) (list_any (names s) ms) fit.others in
    let own : is_own m ≡ true = All-head (λ x. is_own x ≡ true) m ms fit.own in
    let first : Moved n s r m moves mid
    = moved n s r m moves mid a room p.0 (All-head (NamesWithin n) m ms fit.within) q.0 own given in
    let rest : Fit n s ((r - cost_of m) + gain_of m) ms =
    record {
      covered = p.1;
      within = All-tail (NamesWithin n) m ms fit.within;
      others = q.1;
      own = All-tail (λ x. is_own x ≡ true) m ms fit.own;
    } in
    let still : (c : ℕ) → back c (mid s) ≤ to c (mid s) =
    λ c. omega (
      arith,
      ap (back c) a.here,
      ap (to c) a.here,
      back_more c (moves s) m,
      to_more c (moves s) m,
      own_takes_none c m own,
      given c,
    ) in
    let on : now s ≡ mid s ++ ms = here ∙ sym (append_assoc (moves s) (m ∷ []) ms)
    ∙ ap (λ (xs : List Move). xs ++ ms) (sym a.here) in (
      counter_of mid,
      first.op,
      operates n s ((r - cost_of m) + gain_of m) ms mid now rest first.room still on
          (λ k ne. others k ne ∙ sym (a.others k ne)),
    )
