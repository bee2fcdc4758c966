-- The headline: nothing is oversold.
use Rattle.std.specs.Prelude.{◌≡◌, ◌≢◌, ℕ, ◌+◌, ◌≤◌, List, length, drop}
use Rattle.std.specs.List.{All, AllPairs, Contains}
use Rattle.rights_types.specs.Entries.{EntryValue}
use Rattle.rights_types.specs.Chains.{IsChain, IsPrefix, IsLongest, moves_of}
use Rattle.rights_types.specs.Rights.{sum_sites, issued, spent, to, back, IsNeverShort}
use Rattle.rights_types.specs.declared.limits.TheConstants.{MAX_HELD}
use Rattle.rights_protocol.specs.Lists.{Lists, IsSiteOf, received_at, held_at, on_way}

-- the rights that all sites spent, issued and hold, and those in transit between any two
abbrev pub all_spent : Lists → ℕ
all_spent w = sum_sites w.count (λ s. spent (moves_of (w.log s)))

abbrev pub all_issued : Lists → ℕ
all_issued w = sum_sites w.count (λ s. issued (moves_of (w.log s)))

abbrev pub all_held : Lists → ℕ
all_held w = sum_sites w.count (held_at w)

abbrev pub all_on_way : Lists → ℕ
all_on_way w = sum_sites w.count (λ o. sum_sites w.count (λ s. on_way w o s))

-- the entries of o that s has not applied
abbrev pub unapplied : Lists → ℕ → ℕ → List EntryValue
unapplied w o s = drop (length (w.applied s o)) (w.log o)

pub record Headline (w : Lists) : Type 0 where
  -- no more was spent than was issued
  pub never_oversold : all_spent w ≤ all_issued w
  -- rights held, spent and in transit together are the rights issued
  pub conserved : all_held w + all_spent w + all_on_way w ≡ all_issued w
  -- at no point of its log, after any move, had a site spent and given more than it had
  pub never_short : (s : ℕ) → IsNeverShort w.count (received_at w s) (moves_of (w.log s))
  -- no more was reclaimed from s than was in transit to it, so `on_way` is the rest
  pub never_over : (o s : ℕ) → IsSiteOf w.count o → back s (moves_of (w.log o)) ≤ to s (moves_of (unapplied w o s))
  -- a log is numbered without a gap, and nothing comes after its closing entry
  pub chains : (o : ℕ) → IsChain o (w.log o)
  -- what reached a site was sent, and is listed once
  pub sent : (s o : ℕ) → All (Contains (w.log o)) (w.reached s o)
  pub once : (s o : ℕ) → AllPairs (λ x y. x ≢ y) (w.reached s o)
  -- what was delivered is the longest prefix of the log that reached the site, and few entries are held beyond it
  pub longest : (s o : ℕ) → IsLongest (w.reached s o) (w.log o) (w.put s o)
  pub held : (s o : ℕ) → length (w.reached s o) ≤ length (w.put s o) + MAX_HELD
  -- and what it applied is a prefix of that
  pub applied : (s o : ℕ) → IsPrefix (w.applied s o) (w.put s o)
