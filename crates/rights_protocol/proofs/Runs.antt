-- What holds along every run, and what stays true forever.
use Rattle.std.proofs.Common.{◌≡◌, ◌≢◌, ℕ, inl, inr, true, false, List, [], ◌∷◌, ap, ◌∙◌, sym, subst}
use Rattle.std.proofs.lemmas.Bool.{cases_eq, both_ways}
use Rattle.rights_types.specs.Chains.{is_closed}
use Rattle.rights_protocol.specs.Lists.{Lists}
use Rattle.rights_protocol.specs.Retiring.{frontier}
use Rattle.rights_protocol.specs.Changes.{Change, SiteStays, OthersStay, Step, Runs, Start}
use Rattle.rights_protocol.specs.Changes.Change.{Append, Offer, Take, CloseSite, Nothing}
use Rattle.rights_protocol.specs.Invariant.{Invariant}
use Rattle.rights_protocol.specs.Retirement.{AppliedClose, Promised}
use Rattle.rights_protocol.specs.Laws.{AllAlong}
use Rattle.rights_protocol.proofs.Frontiers.{has_closed, front_open}
use Rattle.rights_protocol.proofs.Steps.{stays_kept, next_chain, step_keeps, start_kept}
use Rattle.rights_protocol.proofs.Promises.{kept_promises}

-- ---- every run

runs_keep : (old : Lists) (changes : List Change) (new : Lists) → Invariant old → Runs old changes new → Invariant new
runs_keep old [] new kept run = stays_kept old new kept run
runs_keep old (change ∷ changes) new kept run
    = runs_keep run.0 changes new (step_keeps old change run.0 kept run.1) run.2

pub every_run : (n : ℕ) (start : Lists) (changes : List Change) (new : Lists) → Start n start → Runs start changes new
    → Promised new
every_run n start changes new at run = kept_promises new (runs_keep start changes new (start_kept n start at) run)

all_along : (old : Lists) (changes : List Change) (new : Lists) → Invariant old → (run : Runs old changes new)
    → AllAlong Promised old changes new run
all_along old [] new kept run = (kept_promises old kept, kept_promises new (stays_kept old new kept run))
all_along old (change ∷ changes) new kept run
    = (kept_promises old kept, all_along run.0 changes new (step_keeps old change run.0 kept run.1) run.2)

pub every_moment : (n : ℕ) (start : Lists) (changes : List Change) (new : Lists) → Start n start
    → (run : Runs start changes new) → AllAlong Promised start changes new run
every_moment n start changes new at run = all_along start changes new (start_kept n start at) run

-- ---- a closed site

-- it stays closed, and applies nothing
record StaysClosed (old new : Lists) (c : ℕ) : Type 0 where
  pub closed : is_closed (new.log c) ≡ true
  pub applied : (o : ℕ) → new.applied c o ≡ old.applied c o

site_closed : (old new : Lists) (c : ℕ) → SiteStays old new c → is_closed (old.log c) ≡ true → StaysClosed old new c
site_closed old new c stays closed = record { closed = rw stays.log closed; applied = λ o. (stays.links o).applied }

-- a change of a site that is not closed
other_closed : (old new : Lists) (s c : ℕ) → OthersStay old new s → is_closed (old.log s) ≡ false
    → is_closed (old.log c) ≡ true → StaysClosed old new c
other_closed old new s c others unclosed closed =
    let ne : c ≢ s = λ e. both_ways (is_closed (old.log s)) unclosed
    (subst (λ k. is_closed (old.log k) ≡ true) e closed) in
    site_closed old new c (others.sites c ne) closed

step_closed : (old : Lists) (change : Change) (new : Lists) (c : ℕ) → Step old change new → is_closed (old.log c) ≡ true
    → StaysClosed old new c
step_closed old (Append s ms) new c step closed = other_closed old new s c step.others step.may.unclosed closed
step_closed old (Offer s o e) new c step closed = elim step.comes [
  | inl r ↦ elim (cases_eq c s) [
    | inl p ↦
        let same : new.log c ≡ old.log c = subst (λ k. new.log k ≡ old.log k) (sym p) r.log in
        record {
          closed = rw same closed;
          applied = λ k. subst (λ j. new.applied j k ≡ old.applied j k) (sym p) (elim (cases_eq k o) [
            | inl q ↦ subst (λ j. new.applied s j ≡ old.applied s j) (sym q) r.applied
            | inr ne ↦ (r.links k ne).applied
          ]);
        }
    | inr ne ↦ site_closed old new c (r.others.sites c ne) closed
  ]
  | inr t ↦ site_closed old new c (t.all.sites c) closed
]
step_closed old (Take s o) new c step closed = other_closed old new s c step.others step.unclosed closed
step_closed old (CloseSite s heir) new c step closed = other_closed old new s c step.others step.may.unclosed closed
step_closed old Nothing new c step closed = site_closed old new c (step.sites c) closed

pub closed_for_good : (old : Lists) (changes : List Change) (new : Lists) (c : ℕ) → Runs old changes new
    → is_closed (old.log c) ≡ true
    → (is_closed (new.log c) ≡ true) × ((o : ℕ) → new.applied c o ≡ old.applied c o)
closed_for_good old [] new c run closed = let k = site_closed old new c (run.sites c) closed in (k.closed, k.applied)
closed_for_good old (change ∷ changes) new c run closed =
    let k : StaysClosed old run.0 c = step_closed old change run.0 c run.1 closed in
    let rest = closed_for_good run.0 changes new c run.2 k.closed in
    (rest.0, λ o. rest.1 o ∙ k.applied o)

-- ---- a closed log that was applied

-- for sites that do not change, the applied lists stay; s is the site of the change
applied_stays : (old new : Lists) (s a c : ℕ) → OthersStay old new s → (a ≡ s → new.applied s c ≡ old.applied s c)
    → new.applied a c ≡ old.applied a c
applied_stays old new s a c others here = elim (cases_eq a s) [
  | inl e ↦ subst (λ k. new.applied k c ≡ old.applied k c) (sym e) (here e)
  | inr ne ↦ ((others.sites a ne).links c).applied
]

step_applied : (old : Lists) (change : Change) (new : Lists) (a c : ℕ) → Invariant old → Step old change new
    → is_closed (old.applied a c) ≡ true → new.applied a c ≡ old.applied a c
step_applied old (Append s ms) new a c kept step closed
    = applied_stays old new s a c step.others (λ _. (step.links c).applied)
step_applied old (Offer s o e) new a c kept step closed = elim step.comes [
  | inl r ↦ applied_stays old new s a c r.others (λ _. elim (cases_eq c o) [
    | inl q ↦ subst (λ j. new.applied s j ≡ old.applied s j) (sym q) r.applied
    | inr ne ↦ (r.links c ne).applied
  ])
  | inr t ↦ ((t.all.sites a).links c).applied
]
step_applied old (Take s o) new a c kept step closed
    = applied_stays old new s a c step.others (λ p. elim (cases_eq c o) [
      | inl q ↦ absurd
          (both_ways (is_closed (old.applied s o))
          (front_open o (old.applied s o) step.entry [] (next_chain old new s o kept step))
          (subst (λ k. is_closed (old.applied s k) ≡ true) q
          (subst (λ k. is_closed (old.applied k c) ≡ true) p closed)))
      | inr ne ↦ step.applied.elsewhere c ne
    ])
step_applied old (CloseSite s heir) new a c kept step closed
    = applied_stays old new s a c step.others (λ _. (step.links c).applied)
step_applied old Nothing new a c kept step closed = ((step.sites a).links c).applied

pub applied_for_good : (old : Lists) (changes : List Change) (new : Lists) (s c : ℕ) (numbers : List ℕ) → Invariant old
    → Runs old changes new → AppliedClose old s c numbers → AppliedClose new s c numbers
applied_for_good old [] new s c numbers kept run h = ap frontier ((run.sites s).links c).applied ∙ h
applied_for_good old (change ∷ changes) new s c numbers kept run h =
    let same : run.0.applied s c ≡ old.applied s c
    = step_applied old change run.0 s c kept run.1 (has_closed (old.applied s c) numbers h) in
    applied_for_good run.0 changes new s c numbers (step_keeps old change run.0 kept run.1) run.2 (ap frontier same ∙ h)
