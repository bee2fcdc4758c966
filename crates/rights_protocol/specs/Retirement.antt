-- Retirement: what is in transit to a site that closes is reclaimed, once, and nothing else is.
use Rattle.std.specs.Prelude.{◌≡◌, ℕ, true, false, List, [], Some}
use Rattle.rights_types.specs.Chains.{is_closed, moves_of}
use Rattle.rights_types.specs.Rights.{back}
use Rattle.rights_protocol.specs.Lists.{Lists, IsSiteOf, on_way}
use Rattle.rights_protocol.specs.Retiring.{frontier, owed, own_frontier, takings, one_taking}
use Rattle.rights_protocol.specs.Headline.{Headline}

-- s applied the closing entry of c, which has this frontier
abbrev pub AppliedClose : Lists → ℕ → ℕ → List ℕ → Type 0
AppliedClose w s c numbers = frontier (w.applied s c) ≡ Some numbers

pub record Retirement (w : Lists) : Type 0 where
  -- the frontier of a closed site is what it has applied
  pub frontier_is : (c : ℕ) → is_closed (w.log c) ≡ true
      → frontier (w.log c) ≡ Some (own_frontier w.count (w.applied c))
  -- a site that applied it reclaimed exactly what it gave beyond the frontier
  pub taken_back : (s c : ℕ) (numbers : List ℕ) → AppliedClose w s c numbers
      → back c (moves_of (w.log s)) ≡ owed s c (w.log s) (Some numbers)
  -- by one entry, or by none if that is nothing
  pub once : (s c : ℕ) (numbers : List ℕ) → AppliedClose w s c numbers
      → takings c (w.log s) ≡ one_taking c (owed s c (w.log s) (Some numbers))
  -- and from then on nothing is in transit from there to the closed site
  pub none_on_way : (s c : ℕ) (numbers : List ℕ) → IsSiteOf w.count s → AppliedClose w s c numbers → on_way w s c ≡ 0
  -- nothing is reclaimed before
  pub none_before : (s c : ℕ) → is_closed (w.applied s c) ≡ false → takings c (w.log s) ≡ []

pub record Promised (w : Lists) : Type 0 where
  pub headline : Headline w
  pub retirement : Retirement w
