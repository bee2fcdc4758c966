-- The headline and retirement, from the invariant.
use Rattle.std.proofs.Common.{◌≡◌, ℕ, ◌+◌, ◌-◌, ◌≤◌, true, List, [], ◌++◌, length, drop, Option, Some, None, arith}
use Rattle.std.proofs.Common.{refl, sym, ap, ◌∙◌, subst}
use Rattle.std.specs.List.{slice_get}
use Rattle.std.proofs.lemmas.List.{drop_at, append-nil}
use Rattle.rights_types.specs.Entries.{EntryValue}
use Rattle.rights_types.specs.Chains.{end, is_closed, IsChain, IsPrefix, moves_of}
use Rattle.rights_types.specs.Rights.{sum_sites, issued, spent, out, to, taken_back, back, received, way}
use Rattle.rights_types.proofs.SiteSums.{sum_same, sum_add, sum_swap}
use Rattle.rights_types.proofs.Sums.{moves_of-append, to-append, rights_after_is, out_is, taken_back_is, never_short}
use Rattle.rights_protocol.specs.Lists.{Lists, IsSiteOf, held_at, on_way, received_at}
use Rattle.rights_protocol.specs.Retiring.{frontier, beyond, given_beyond, owed, own_frontier, one_taking}
use Rattle.rights_protocol.specs.Invariant.{Invariant}
use Rattle.rights_protocol.specs.Headline.{all_held, all_spent, all_issued, all_on_way, unapplied}
use Rattle.rights_protocol.specs.Retirement.{AppliedClose, Promised}
use Rattle.rights_protocol.proofs.Frontiers.{no_frontier, has_closed, closed_whole, beyond_rest}
use Rattle.rights_protocol.proofs.Takings.{taken_is}
use Rattle.rights_protocol.proofs.Numbers.{number_at}
use Rattle.rights_protocol.proofs.Writes.{held_is}
use Rattle.rights_protocol.proofs.Links.{applied_begins}

-- what was applied is a prefix of the log
pub begins : (w : Lists) (s o : ℕ) → Invariant w → IsPrefix (w.applied s o) (w.log o)
begins w s o kept = applied_begins (w.log o) (w.reached s o) (w.put s o) (w.applied s o) (kept.links s o)

pub held_sum : (w : Lists) (s : ℕ) → Invariant w
    → held_at w s + (out (moves_of (w.log s)) + spent (moves_of (w.log s)))
    ≡ (issued (moves_of (w.log s)) + received_at w s) + taken_back (moves_of (w.log s))
held_sum w s kept =
    let site = kept.sites s in
    omega (
      arith,
      held_is w.count s (w.log s) (w.applied s) site.within site.covered,
      rights_after_is (received_at w s) (moves_of (w.log s)) site.covered,
    )

-- ---- what is in transit

-- the frontier that o applied from the log of s is the one that s wrote
frontier_is : (w : Lists) (o s : ℕ) (numbers : List ℕ) → Invariant w → AppliedClose w o s numbers
    → numbers ≡ own_frontier w.count (w.applied s)
frontier_is w o s numbers kept h =
    let p : IsPrefix (w.applied o s) (w.log s) = begins w o s kept in
    let closed : is_closed (w.applied o s) ≡ true = has_closed (w.applied o s) numbers h in
    let none : p.0 ≡ [] = closed_whole s (w.applied o s) p.0
    (subst (IsChain s) (sym p.1) (kept.sites s).chain) closed in
    let whole : w.applied o s ≡ w.log s = sym (append-nil (w.applied o s))
    ∙ ap (λ (es : List EntryValue). w.applied o s ++ es) (sym none) ∙ p.1 in
    let wrote : frontier (w.log s) ≡ Some (own_frontier w.count (w.applied s))
    = (kept.sites s).closing (subst (λ es. is_closed es ≡ true) whole closed) in
    let same : frontier (w.log s) ≡ Some numbers = subst (λ es. frontier es ≡ Some numbers) whole h in
    cc

-- and the position of o in it is the end of what s applied of its log
pub place_is : (w : Lists) (o s : ℕ) (numbers : List ℕ) → Invariant w → IsSiteOf w.count o → AppliedClose w o s numbers
    → slice_get numbers (o - 1) ≡ Some (end (w.applied s o))
place_is w o s numbers kept among h = ap (λ (fs : List ℕ). slice_get fs (o - 1)) (frontier_is w o s numbers kept h)
    ∙ number_at w.count o (w.applied s) among

-- the entries beyond that frontier are those that s did not apply
beyond_is : (w : Lists) (o s : ℕ) → Invariant w → beyond (end (w.applied s o)) (w.log o) ≡ unapplied w o s
beyond_is w o s kept =
    let p : IsPrefix (w.applied s o) (w.log o) = begins w s o kept in
    let a : List EntryValue = w.applied s o in
    let chain : IsChain o (a ++ p.0) = subst (IsChain o) (sym p.1) (kept.sites o).chain in
    let rest : beyond (end a) (a ++ p.0) ≡ drop (length a) (a ++ p.0) = beyond_rest o a p.0 chain
    ∙ sym (drop_at a p.0 (length a) refl) in
    subst (λ es. beyond (end a) es ≡ drop (length a) es) p.1 rest

-- what o reclaimed from s is what it is owed by the frontier of s that it applied
pub back_is : (w : Lists) (o s : ℕ) → Invariant w
    → back s (moves_of (w.log o)) ≡ owed o s (w.log o) (frontier (w.applied o s))
back_is w o s kept = taken_is s (owed o s (w.log o) (frontier (w.applied o s))) (w.log o) ((kept.sites o).taken s)

-- by that frontier, it is what s did not apply
owed_is : (w : Lists) (o s : ℕ) (numbers : List ℕ) → Invariant w → IsSiteOf w.count o → AppliedClose w o s numbers
    → owed o s (w.log o) (Some numbers) ≡ to s (moves_of (unapplied w o s))
owed_is w o s numbers kept among h =
    ap (given_beyond s (w.log o)) (place_is w o s numbers kept among h)
    ∙ ap (λ es. to s (moves_of es)) (beyond_is w o s kept)

over_cases : (w : Lists) (o s : ℕ) (k : Option (List ℕ)) → Invariant w → IsSiteOf w.count o
    → frontier (w.applied o s) ≡ k → owed o s (w.log o) k ≤ to s (moves_of (unapplied w o s))
over_cases w o s None kept among h = omega arith
over_cases w o s (Some numbers) kept among h = omega (arith, owed_is w o s numbers kept among h)

never_over : (w : Lists) (o s : ℕ) → Invariant w → IsSiteOf w.count o
    → back s (moves_of (w.log o)) ≤ to s (moves_of (unapplied w o s))
never_over w o s kept among
    = omega (arith, back_is w o s kept, over_cases w o s (frontier (w.applied o s)) kept among refl)

none_on_way : (w : Lists) (o s : ℕ) (numbers : List ℕ) → Invariant w → IsSiteOf w.count o → AppliedClose w o s numbers
    → on_way w o s ≡ 0
unfolding way
none_on_way w o s numbers kept among h =
    let owes : owed o s (w.log o) (frontier (w.applied o s)) ≡ owed o s (w.log o) (Some numbers)
    = ap (owed o s (w.log o)) h in
    omega (arith, back_is w o s kept, owes, owed_is w o s numbers kept among h)

-- what o gave to s was applied there, is in transit, or was reclaimed
pub way_is : (w : Lists) (o s : ℕ) → Invariant w → IsSiteOf w.count o
    → to s (moves_of (w.log o)) ≡ (to s (moves_of (w.applied s o)) + on_way w o s) + back s (moves_of (w.log o))
unfolding way
way_is w o s kept among =
    let p = begins w s o kept in
    let a : List EntryValue = w.applied s o in
    let rest : drop (length a) (w.log o) ≡ p.0 = rw (← p.1) (drop_at a p.0 (length a) refl) in
    let whole : to s (moves_of (w.log o)) ≡ to s (moves_of a) + to s (moves_of p.0) =
    ap (λ es. to s (moves_of es)) (sym p.1) ∙ ap (to s) (moves_of-append a p.0)
    ∙ to-append s (moves_of a) (moves_of p.0) in
    let same : to s (moves_of (drop (length a) (w.log o))) ≡ to s (moves_of p.0) = ap (λ es. to s (moves_of es)) rest in
    omega (arith, whole, same, never_over w o s kept among)

-- ---- conservation

given_is : (w : Lists) (o : ℕ) → Invariant w → IsSiteOf w.count o
    → out (moves_of (w.log o))
    ≡ (sum_sites w.count (λ s. to s (moves_of (w.applied s o))) + sum_sites w.count (λ s. on_way w o s))
    + taken_back (moves_of (w.log o))
given_is w o kept among =
    let n : ℕ = w.count in
    let ms = moves_of (w.log o) in
    let named = (kept.sites o).within in
    omega (
      arith,
      out_is n ms named,
      taken_back_is n ms named,
      sum_same n (λ s. to s ms) (λ s. (to s (moves_of (w.applied s o)) + on_way w o s) + back s ms)
          (λ s low high. way_is w o s kept among),
      sum_add n (λ s. to s (moves_of (w.applied s o)) + on_way w o s) (λ s. back s ms),
      sum_add n (λ s. to s (moves_of (w.applied s o))) (λ s. on_way w o s),
    )

all_received : (w : Lists) → sum_sites w.count (λ o. sum_sites w.count (λ s. to s (moves_of (w.applied s o))))
    ≡ sum_sites w.count (received_at w)
unfolding received
all_received w = sum_swap w.count w.count (λ o s. to s (moves_of (w.applied s o)))

conserved : (w : Lists) → Invariant w → all_held w + all_spent w + all_on_way w ≡ all_issued w
conserved w kept =
    let n : ℕ = w.count in
    let given : ℕ → ℕ = λ s. out (moves_of (w.log s)) in
    let used : ℕ → ℕ = λ s. spent (moves_of (w.log s)) in
    let made : ℕ → ℕ = λ s. issued (moves_of (w.log s)) in
    let regained : ℕ → ℕ = λ s. taken_back (moves_of (w.log s)) in
    let arrived : ℕ → ℕ = λ o. sum_sites n (λ s. to s (moves_of (w.applied s o))) in
    let going : ℕ → ℕ = λ o. sum_sites n (λ s. on_way w o s) in
    let a : sum_sites n (λ s. held_at w s + (given s + used s))
    ≡ sum_sites n (λ s. (made s + received_at w s) + regained s) =
    sum_same n (λ s. held_at w s + (given s + used s)) (λ s. (made s + received_at w s) + regained s)
    (λ s low high. held_sum w s kept) in
    let b : sum_sites n given ≡ sum_sites n (λ o. (arrived o + going o) + regained o) =
    sum_same n given (λ o. (arrived o + going o) + regained o) (λ o low high. given_is w o kept (low, high)) in
    omega (
      arith,
      a,
      b,
      all_received w,
      sum_add n (held_at w) (λ s. given s + used s),
      sum_add n given used,
      sum_add n (λ s. made s + received_at w s) regained,
      sum_add n made (received_at w),
      sum_add n (λ o. arrived o + going o) regained,
      sum_add n arrived going,
    )

-- ---- all that is promised

pub kept_promises : (w : Lists) → Invariant w → Promised w
kept_promises w kept =
    let all : all_held w + all_spent w + all_on_way w ≡ all_issued w = conserved w kept in
    record {
      headline = record {
        never_oversold = omega (arith, all);
        conserved = all;
        never_short = λ s. never_short w.count (received_at w s) (moves_of (w.log s)) (kept.sites s).covered
            (kept.sites s).within;
        never_over = λ o s among. never_over w o s kept among;
        chains = λ o. (kept.sites o).chain;
        sent = λ s o. (kept.links s o).sent;
        once = λ s o. (kept.links s o).once;
        longest = λ s o. (kept.links s o).longest;
        held = λ s o. (kept.links s o).held;
        applied = λ s o. (kept.links s o).begins;
      };
      retirement = record {
        frontier_is = λ c. (kept.sites c).closing;
        taken_back = λ s c numbers h. back_is w s c kept ∙ ap (owed s c (w.log s)) h;
        once = λ s c numbers h. (kept.sites s).taken c ∙ ap (λ k. one_taking c (owed s c (w.log s) k)) h;
        none_on_way = λ s c numbers among h. none_on_way w s c numbers kept among h;
        none_before = λ s c h. (kept.sites s).taken c
            ∙ ap (λ k. one_taking c (owed s c (w.log s) k)) (no_frontier (w.applied s c) h);
      };
    }
