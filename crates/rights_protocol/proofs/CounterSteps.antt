-- Each change of the lists as operations of the counter.
use Rattle.std.proofs.Common.{◌≡◌, ◌≢◌, ℕ, ◌+◌, ◌-◌, ◌≤◌, ◌⊎◌, inl, inr, true, false, eqb, List, [], ◌∷◌, ◌++◌, Option}
use Rattle.std.proofs.Common.{Some, None, arith, refl, sym, ap, ◌∙◌, subst}
use Rattle.std.specs.List.{All}
use Rattle.std.proofs.lemmas.Bool.{cases_eq, eq-eqb, ne_eqb}
use Rattle.std.proofs.lemmas.List.{append-nil}
use Rattle.std.proofs.lemmas.List.Elements.{All-nil, All-cons, All-weaker}
use Rattle.rights_types.specs.Entries.{EntryValue}
use Rattle.rights_types.specs.Chains.{moves_of}
use Rattle.rights_types.specs.Moves.{NamesWithin, cost_of, gain_of}
use Rattle.rights_types.specs.Rights.{to, back, held}
use Rattle.rights_types.specs.declared.moves.Move.{Move}
use Rattle.rights_types.specs.declared.moves.Move.TheVariants.{Issue, Spend, Grant, Give, Close, CloseAt, TakeBack}
use Rattle.rights_types.proofs.SiteSums.{sum_term}
use Rattle.rights_types.proofs.Sums.{moves_of-push, to-append, back-append, covers_both}
use Rattle.rights_protocol.specs.Lists.{Lists, IsSiteOf, held_at, on_way}
use Rattle.rights_protocol.specs.Retiring.{own_frontier, numbers_in, owed, entry_at_end}
use Rattle.rights_protocol.specs.Writing.{is_plain, MayClose, closing_moves}
use Rattle.rights_protocol.specs.Changes.{Change, LinkStays, OthersStay, Appends, Offers, Takes, Closes, Step}
use Rattle.rights_protocol.specs.Changes.Change.{Append, Offer, Take, CloseSite, Nothing}
use Rattle.rights_protocol.specs.Invariant.{Invariant}
use Rattle.rights_protocol.specs.BoundedCounter.{SameCounter, TakesBack, Operate}
use Rattle.rights_protocol.specs.CounterOfLists.{state_of, seen, state_at}
use Rattle.rights_protocol.specs.CounterLaws.{OperatesBoth, ByOperations}
use Rattle.rights_protocol.proofs.Takings.{taking_cases, back_same}
use Rattle.rights_protocol.proofs.Steps.{step_keeps}
use Rattle.rights_protocol.proofs.Promises.{way_is}
use Rattle.rights_protocol.proofs.CounterLists.{taken_given, held_parts, incoming_is, has_rights, seen_own, seen_other}
use Rattle.rights_protocol.proofs.CounterLists.{seen_incoming}
use Rattle.rights_protocol.proofs.CounterMoves.{Room, Fit, is_own, take_back_is, same_counter, operates}

-- ---- the rights that a site counts on

state_room : (w : Lists) (s : ℕ) → Invariant w → IsSiteOf w.count s → Room w.count (state_of w) s (held_at w s)
state_room w s kept among
    = omega (arith, held_parts w s (λ o. moves_of (w.log o)) kept among refl, incoming_is w s kept among)

view_room : (w : Lists) (s : ℕ) → Invariant w → IsSiteOf w.count s → Room w.count (state_at w s) s (held_at w s)
view_room w s kept among = omega (
  arith,
  held_parts w s (λ o. moves_of (seen w s o)) kept among (seen_own w s),
  seen_incoming w s kept among,
)

-- ---- an entry of these moves

writes_state : (old new : Lists) (s : ℕ) (ms : List Move) → Invariant old → IsSiteOf old.count s
    → Fit old.count s (held_at old s) ms → new.log s ≡ old.log s ++ entry_at_end s (old.log s) ms ∷ []
    → OthersStay old new s → Operate old.count s ms (state_of old) (state_of new)
writes_state old new s ms kept among fit grown others =
    operates old.count s (held_at old s) ms (λ o. moves_of (old.log o)) (λ o. moves_of (new.log o)) fit
    (state_room old s kept among) (λ c. taken_given old s c kept among)
    (ap moves_of grown ∙ moves_of-push (old.log s) (entry_at_end s (old.log s) ms))
    (λ k ne. ap moves_of (others.sites k ne).log)

writes_view : (old new : Lists) (s : ℕ) (ms : List Move) → Invariant old → IsSiteOf old.count s
    → Fit old.count s (held_at old s) ms → new.log s ≡ old.log s ++ entry_at_end s (old.log s) ms ∷ []
    → ((o : ℕ) → LinkStays old new s o) → Operate old.count s ms (state_at old s) (state_at new s)
writes_view old new s ms kept among fit grown links =
    let own : moves_of (seen old s s) ≡ moves_of (old.log s) = seen_own old s in
    operates old.count s (held_at old s) ms (λ o. moves_of (seen old s o)) (λ o. moves_of (seen new s o)) fit
    (view_room old s kept among)
    (λ c. subst (λ xs. back c xs ≤ to c xs) (sym own) (taken_given old s c kept among))
    (seen_own new s ∙ ap moves_of grown ∙ moves_of-push (old.log s) (entry_at_end s (old.log s) ms)
    ∙ ap (λ (xs : List Move). xs ++ ms) (sym own))
    (λ k ne. seen_other new s k ne ∙ ap moves_of (links k).applied ∙ sym (seen_other old s k ne))

writes_both : (old new : Lists) (s : ℕ) (ms : List Move) → Invariant old → IsSiteOf old.count s
    → Fit old.count s (held_at old s) ms → new.log s ≡ old.log s ++ entry_at_end s (old.log s) ms ∷ []
    → ((o : ℕ) → LinkStays old new s o) → OthersStay old new s → OperatesBoth s ms old new
writes_both old new s ms kept among fit grown links others = record {
  state = writes_state old new s ms kept among fit grown others;
  view = writes_view old new s ms kept among fit grown links;
}

-- ---- an ordinary entry

plain_own : (m : Move) → is_plain m ≡ true → is_own m ≡ true
plain_own (Issue a) h = refl
plain_own (Spend a) h = refl
plain_own (Grant j a k) h = refl
plain_own (Give j a) h = refl
plain_own Close h = refl
plain_own (CloseAt f) h = refl
plain_own (TakeBack j a) h = absurd cc

appends_both : (old new : Lists) (s : ℕ) (ms : List Move) → Invariant old → Appends old new s ms
    → OperatesBoth s ms old new
appends_both old new s ms kept step =
    let own : All (λ m. is_own m ≡ true) ms
    = All-weaker (λ m. is_plain m ≡ true) (λ m. is_own m ≡ true) plain_own ms step.may.plain in
    writes_both old new s ms kept step.site
    (record { covered = step.may.holds; within = step.may.within; others = step.may.others; own = own }) step.log
    step.links step.others

-- ---- a closing entry

close_fits : (n s r : ℕ) (f : List ℕ) → Fit n s r (CloseAt f ∷ [])
close_fits n s r f = record {
  covered = covers_both r (CloseAt f) [] (omega arith) refl;
  within = All-cons (NamesWithin n) (CloseAt f) [] tt (All-nil (NamesWithin n));
  others = refl;
  own = All-cons (λ m. is_own m ≡ true) (CloseAt f) [] refl (All-nil (λ m. is_own m ≡ true));
}

heir_fits : (n s heir r : ℕ) (f : List ℕ) → IsSiteOf n heir → s ≢ heir → Fit n s r (Give heir r ∷ (CloseAt f ∷ []))
heir_fits n s heir r f site differ =
    let last : Fit n s ((r - cost_of (Give heir r)) + gain_of (Give heir r)) (CloseAt f ∷ [])
    = close_fits n s ((r - cost_of (Give heir r)) + gain_of (Give heir r)) f in
    let apart : eqb heir s ≡ false = ne_eqb heir s (λ e. differ (sym e)) in
    record {
      covered = covers_both r (Give heir r) (CloseAt f ∷ []) (omega arith) last.covered;
      within = All-cons (NamesWithin n) (Give heir r) (CloseAt f ∷ []) site last.within;
      others = rw apart refl;
      own = All-cons (λ m. is_own m ≡ true) (Give heir r) (CloseAt f ∷ []) refl last.own;
    }

closing_fits : (n s : ℕ) (log : List EntryValue) (applied : ℕ → List EntryValue) (heir : Option ℕ)
    → MayClose n s log applied heir → Fit n s (held n s log applied) (closing_moves n s log applied heir)
closing_fits n s log applied None may = close_fits n s (held n s log applied) (own_frontier n applied)
closing_fits n s log applied (Some heir) may =
    let r : ℕ = held n s log applied in
    let f : List ℕ = own_frontier n applied in
    elim (cases_eq r 0) [
      | inl e ↦ let none : eqb r 0 ≡ true = eq-eqb r 0 e in rw none (close_fits n s r f)
      | inr ne ↦ let some : eqb r 0 ≡ false
          = ne_eqb r 0 ne in rw some (heir_fits n s heir r f may.inherits.site may.inherits.differ)
    ]

closes_both : (old new : Lists) (s : ℕ) (heir : Option ℕ) → Invariant old → Closes old new s heir
    → OperatesBoth s (closing_moves old.count s (old.log s) (old.applied s) heir) old new
closes_both old new s heir kept step =
    writes_both old new s (closing_moves old.count s (old.log s) (old.applied s) heir) kept step.site
    (closing_fits old.count s (old.log s) (old.applied s) heir step.may)
    step.log step.links step.others

-- ---- a take

logs_same : (old new : Lists) → ((k : ℕ) → new.log k ≡ old.log k) → SameCounter (state_of old) (state_of new)
logs_same old new same = same_counter (λ k. moves_of (old.log k)) (λ k. moves_of (new.log k))
    (λ k. ap moves_of (same k))

one_log_same : (old new : Lists) (s : ℕ) → OthersStay old new s → new.log s ≡ old.log s
    → SameCounter (state_of old) (state_of new)
one_log_same old new s others same = logs_same old new (λ k. elim (cases_eq k s) [
  | inl e ↦ subst (λ j. new.log j ≡ old.log j) (sym e) same
  | inr ne ↦ (others.sites k ne).log
])

to_none : (o n : ℕ) → to o (TakeBack o n ∷ []) ≡ 0
unfolding to
to_none o n = refl

-- what is reclaimed was in transit
taken_from_way : (old new : Lists) (s o amount : ℕ) → Invariant old → Invariant new → (step : Takes old new s o)
    → moves_of (new.log s) ≡ moves_of (old.log s) ++ TakeBack o amount ∷ []
    → (amount ≤ on_way old s o) × (back o (moves_of (old.log s)) + amount ≤ to o (moves_of (old.log s)))
taken_from_way old new s o amount kept kept_now step grown =
    let site_now : IsSiteOf new.count s = subst (λ n. IsSiteOf n s) (sym step.others.count) step.site in
    let was = way_is old s o kept step.site in
    let now = way_is new s o kept_now site_now in
    let given : to o (moves_of (new.log s)) ≡ to o (moves_of (old.log s)) + 0 =
    ap (to o) grown ∙ to-append o (moves_of (old.log s)) (TakeBack o amount ∷ [])
    ∙ ap (λ k. to o (moves_of (old.log s)) + k) (to_none o amount) in
    let taken : back o (moves_of (new.log s)) ≡ back o (moves_of (old.log s)) + amount =
    ap (back o) grown ∙ back-append o (moves_of (old.log s)) (TakeBack o amount ∷ [])
    ∙ ap (λ k. back o (moves_of (old.log s)) + k) (back_same o amount) in
    let applied : to o (moves_of (new.applied o s)) ≡ to o (moves_of (old.applied o s)) =
    ap (λ es. to o (moves_of es)) ((step.others.sites o (λ e. step.differ (sym e))).links s).applied in
    (omega (arith, was, now, given, taken, applied), omega (arith, was, now, given, taken, applied))

takes_it_back : (old new : Lists) (s o amount : ℕ) → Invariant old → Invariant new → (step : Takes old new s o)
    → new.log s ≡ old.log s ++ entry_at_end s (old.log s) (TakeBack o amount ∷ []) ∷ []
    → TakesBack old.count s o amount (state_of old) (state_of new)
takes_it_back old new s o amount kept kept_now step grown =
    let on : moves_of (new.log s) ≡ moves_of (old.log s) ++ TakeBack o amount ∷ [] =
    ap moves_of grown ∙ moves_of-push (old.log s) (entry_at_end s (old.log s) (TakeBack o amount ∷ [])) in
    let p = taken_from_way old new s o amount kept kept_now step on in
    take_back_is old.count s o amount (λ k. moves_of (old.log k)) (λ k. moves_of (new.log k))
    (record { here = on; others = λ k ne. ap moves_of (step.others.sites k ne).log })
    step.from (λ e. step.differ (sym e)) p.1
    (omega (
      arith,
      p.0,
      has_rights old o kept step.from,
      sum_term old.count s (λ k. on_way old k o) step.site.0 step.site.1,
    ))

takes_state : (old new : Lists) (s o : ℕ) → Invariant old → Invariant new → (step : Takes old new s o)
    → SameCounter (state_of old) (state_of new)
    ⊎ ((amount : ℕ) × TakesBack old.count s o amount (state_of old) (state_of new))
takes_state old new s o kept kept_now step =
    let amount : ℕ = owed s o (old.log s) (numbers_in step.entry.moves) in
    elim (taking_cases s o (old.log s) amount) [
      | inl p ↦ inl (one_log_same old new s step.others (step.log ∙ ap (λ es. old.log s ++ es) p.1
          ∙ append-nil (old.log s)))
      | inr p ↦ inr (
        amount,
        takes_it_back old new s o amount kept kept_now step (step.log
            ∙ ap (λ es. old.log s ++ es) p.1),
      )
    ]

-- ---- any change

offers_state : (old new : Lists) (s o : ℕ) (e : EntryValue) → Offers old new s o e
    → SameCounter (state_of old) (state_of new)
offers_state old new s o e offer = elim offer.comes [
  | inl r ↦ one_log_same old new s r.others r.log
  | inr t ↦ logs_same old new (λ k. (t.all.sites k).log)
]

pub step_operates : (old : Lists) (change : Change) (new : Lists) → Invariant old → Step old change new
    → ByOperations old change new
step_operates old (Append s ms) new kept step = appends_both old new s ms kept step
step_operates old (Offer s o e) new kept step = offers_state old new s o e step
step_operates old (Take s o) new kept step = takes_state old new s o kept (step_keeps old (Take s o) new kept step) step
step_operates old (CloseSite s heir) new kept step = closes_both old new s heir kept step
step_operates old Nothing new kept step = logs_same old new (λ k. (step.sites k).log)
