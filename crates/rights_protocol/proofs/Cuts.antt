-- A cut through sites that run independently, from the invariants of the sites.
use Rattle.std.proofs.Common.{◌≡◌, ◌≢◌, ℕ, zero, suc, ◌≤◌, ◌⊎◌, inl, inr, Bool, false, List, [], ◌∷◌, ◌++◌, length}
use Rattle.std.proofs.Common.{get_or, arith, refl, sym, ap, subst}
use Rattle.std.specs.List.{All, AllPairs, Contains}
use Rattle.std.proofs.lemmas.Bool.{cases_lt}
use Rattle.std.proofs.lemmas.List.{append-nil}
use Rattle.std.proofs.lemmas.List.Elements.{All-weaker, All-contains_itself, Contains-append_left, Contains-get_or}
use Rattle.rights_types.specs.Entries.{EntryValue, own, closes}
use Rattle.rights_types.specs.Chains.{ChainFrom, IsChain, IsPrefix, IsLongest, HeadNotIn}
use Rattle.rights_types.proofs.Chains.{chain_left, chain_right, prev_above, not_before}
use Rattle.rights_protocol.specs.Lists.{Lists, IsSiteOf}
use Rattle.rights_protocol.specs.Writing.{closing_moves}
use Rattle.rights_protocol.specs.Retiring.{entry_at_end}
use Rattle.rights_protocol.specs.Invariant.{SiteInvariant, LinkInvariant, Invariant}
use Rattle.rights_protocol.specs.Schedules.{SiteLists, IsFresh, together, LocalChange, LocalStep, LocalRun, IsCut}
use Rattle.rights_protocol.specs.Schedules.{AllPromised}
use Rattle.rights_protocol.specs.Schedules.LocalChange.{Write, Apply, Retire, Other}
use Rattle.rights_protocol.proofs.Sites.{site_same, site_appends, site_takes, site_closes, site_starts}
use Rattle.rights_protocol.proofs.Promises.{kept_promises}
use Rattle.rights_protocol.proofs.Untouched.{untouched}
use Rattle.rights_protocol.proofs.CounterLists.{kept_counts}

-- ---- a front of a log, as what came, was put and was applied

-- an entry of a chain differs from those after it
differs : (o : ℕ) (b : Bool) (n : ℕ) (e : EntryValue) (es : List EntryValue) (x : EntryValue) → ChainFrom o b n (e ∷ es)
    → Contains es x → e ≡ x → ⊥
differs o b n e es x c i same =
    let after : own e ≤ x.prev = prev_above o (closes e) (own e) es x c.4 i in
    let at : e.prev ≡ x.prev = ap (λ (y : EntryValue). y.prev) same in
    let some : 1 ≤ length e.moves = c.3.some in
    omega (arith, after, at, some)

each_once : (o : ℕ) (b : Bool) (n : ℕ) (es : List EntryValue) → ChainFrom o b n es → AllPairs (λ x y. x ≢ y) es
each_once o b n [] c i j d below within = absurd (omega (arith, within))
each_once o b n (e ∷ es) c i zero d below within = absurd (omega (arith, below))
each_once o b n (e ∷ es) c zero (suc j) d below within
    = differs o b n e es (get_or es j d) c (Contains-get_or es j d (omega (arith, within)))
each_once o b n (e ∷ es) c (suc i) (suc j) d below within
    = each_once o (closes e) (own e) es c.4 i j d (omega (arith, below)) (omega (arith, within))

none_after : (o : ℕ) (front rest : List EntryValue) → IsChain o (front ++ rest) → HeadNotIn front rest
none_after o front [] c = tt
none_after o front (e ∷ rest) c =
    let next = chain_right o false 0 front (e ∷ rest) c in
    not_before o front e (chain_left o false 0 front (e ∷ rest) c) (omega (arith, next.2))

pub front_longest : (o : ℕ) (es front : List EntryValue) → IsChain o es → IsPrefix front es → IsLongest front es front
front_longest o es front c p = record {
  rest = p.0;
  whole = p.1;
  inside = All-contains_itself front;
  no_longer = none_after o front p.0 (subst (IsChain o) (sym p.1) c);
}

link_of_front : (o : ℕ) (es front : List EntryValue) → IsChain o es → IsPrefix front es
    → LinkInvariant es front front front
link_of_front o es front c p = record {
  sent = subst (λ xs. All (Contains xs) front) p.1
      (All-weaker (Contains front) (Contains (front ++ p.0)) (λ x h. Contains-append_left front p.0 x h) front
      (All-contains_itself front));
  once = each_once o false 0 front (chain_left o false 0 front p.0 (subst (IsChain o) (sym p.1) c));
  longest = front_longest o es front c p;
  held = omega arith;
  begins = ([], append-nil front);
}

-- ---- a cut

pub is_site : (n s : ℕ) → IsSiteOf n s ⊎ (¬ IsSiteOf n s)
is_site n s = elim (cases_lt s 1) [
  | inl low ↦ inr (λ h. omega (arith, h.0, low))
  | inr low ↦ elim (cases_lt n s) [
    | inl high ↦ inr (λ h. omega (arith, h.1, high))
    | inr high ↦ inl (low, high)
  ]
]

cut_site : (n s : ℕ) (sites : ℕ → SiteLists) → IsCut n sites → SiteInvariant n s (sites s).log (sites s).applied
cut_site n s sites cut = elim (is_site n s) [
  | inl of ↦ cut.kept s of
  | inr out ↦ let none = cut.others s out in site_starts n s (sites s).log (sites s).applied none.log none.applied
]

cut_begins : (n s o : ℕ) (sites : ℕ → SiteLists) → IsCut n sites → IsPrefix ((sites s).applied o) (sites o).log
cut_begins n s o sites cut = elim (is_site n s) [
  | inl of ↦ cut.begins s o of
  | inr out ↦ subst (λ es. IsPrefix es (sites o).log) (sym ((cut.others s out).applied o)) ((sites o).log, refl)
]

cut_kept : (n : ℕ) (sites : ℕ → SiteLists) → IsCut n sites → Invariant (together n sites)
cut_kept n sites cut = record {
  some = cut.some;
  few = cut.few;
  sites = λ s. cut_site n s sites cut;
  links = λ s o. link_of_front o (sites o).log ((sites s).applied o) (cut_site n o sites cut).chain
      (cut_begins n s o sites cut);
}

pub all_promised : (w : Lists) → Invariant w → AllPromised w
all_promised w kept = record {
  promised = kept_promises w kept;
  counts = kept_counts w kept;
  untouched = λ s o among. untouched w s o kept among;
}

pub any_cut : (n : ℕ) (sites : ℕ → SiteLists) → IsCut n sites → AllPromised (together n sites)
any_cut n sites cut = all_promised (together n sites) (cut_kept n sites cut)

-- ---- a step of one site

pub local_keeps : (n s : ℕ) (old : SiteLists) (change : LocalChange) (new : SiteLists) → 2 ≤ n → n ≤ 16 → IsSiteOf n s
    → SiteInvariant n s old.log old.applied → LocalStep n s old change new → SiteInvariant n s new.log new.applied
local_keeps n s old (Write ms) new some few site k step =
    site_same n s (old.log ++ entry_at_end s old.log ms ∷ []) new.log old.applied new.applied
    (site_appends n s old.log old.applied ms some few site k step.may) step.log step.applied
local_keeps n s old (Apply o e) new some few site k step =
    subst (λ es. SiteInvariant n s es new.applied) (sym step.log)
    (site_takes n s o old.log old.applied new.applied e some few site step.from step.differ k step.unclosed step.next
    step.applied)
local_keeps n s old (Retire heir) new some few site k step =
    site_same n s (old.log ++ entry_at_end s old.log (closing_moves n s old.log old.applied heir) ∷ []) new.log
    old.applied new.applied
    (site_closes n s old.log old.applied heir some few site k step.may) step.log step.applied
local_keeps n s old Other new some few site k step
    = site_same n s old.log new.log old.applied new.applied k step.log step.applied

run_keeps : (n s : ℕ) (old : SiteLists) (changes : List LocalChange) (new : SiteLists) → 2 ≤ n → n ≤ 16 → IsSiteOf n s
    → SiteInvariant n s old.log old.applied → LocalRun n s old changes new → SiteInvariant n s new.log new.applied
run_keeps n s old [] new some few site k run
    = site_same n s old.log new.log old.applied new.applied k run.log run.applied
run_keeps n s old (change ∷ changes) new some few site k run =
    run_keeps n s run.0 changes new some few site (local_keeps n s old change run.0 some few site k run.1) run.2

pub local_run_kept : (n s : ℕ) (start : SiteLists) (changes : List LocalChange) (now : SiteLists) → 2 ≤ n → n ≤ 16
    → IsSiteOf n s
    → IsFresh start → LocalRun n s start changes now → SiteInvariant n s now.log now.applied
local_run_kept n s start changes now some few site fresh run =
    run_keeps n s start changes now some few site (site_starts n s start.log start.applied fresh.log fresh.applied) run
