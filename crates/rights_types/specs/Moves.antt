-- Moves, and the effect of each on rights.
use Rattle.std.specs.Prelude.{ℕ, ◌+◌, ◌-◌, ◌≤◌, Bool, true, false, not, ◌==◌, ◌||◌, List, [], ◌∷◌, Option, Some, None}
use Rattle.std.specs.Prelude.{IfSome, if◌then◌else◌}
use Rattle.std.specs.List.{slice_get}
use Rattle.rights_types.specs.Ranges.{IsSite, IsAmount, IsAskNumber, IsTotal, IsFrontier}
use Rattle.rights_types.specs.declared.moves.Move.{Move}
use Rattle.rights_types.specs.declared.moves.Move.TheVariants.{Issue, Spend, Grant, Give, Close, CloseAt, TakeBack}

-- a move whose values are in their ranges
abbrev pub IsMove : Move → Type 0
IsMove (Issue n) = IsAmount n
IsMove (Spend n) = IsAmount n
IsMove (Grant j n a) = IsSite j × IsAmount n × IsAskNumber a
IsMove (Give j n) = IsSite j × IsAmount n
IsMove Close = Unit {0}
IsMove (CloseAt f) = IsFrontier f
IsMove (TakeBack j n) = IsSite j × IsTotal n

abbrev pub is_close : Move → Bool
is_close Close = true
is_close (CloseAt f) = true
is_close m = false

-- the other site that a move names
abbrev pub peer_of : Move → Option ℕ
peer_of (Grant j n a) = Some j
peer_of (Give j n) = Some j
peer_of (TakeBack j n) = Some j
peer_of m = None

abbrev pub is_site : ℕ → Option ℕ → Bool
is_site s None = false
is_site s (Some j) = j == s

abbrev pub names : ℕ → Move → Bool
names s m = is_site s (peer_of m)

-- if the move names a site, it is one of the sites 1 to n
abbrev pub NamesWithin : ℕ → Move → Type 0
NamesWithin n m = IfSome (peer_of m) (λ j. (1 ≤ j) × (j ≤ n))

abbrev pub is_zero : Option ℕ → Bool
is_zero None = false
is_zero (Some n) = n == 0

-- a frontier in which the origin's own position is missing or not 0
abbrev pub lacks_own_place : ℕ → Move → Bool
lacks_own_place o (CloseAt f) = not (is_zero (slice_get f (o - 1)))
lacks_own_place o m = false

-- a closing move comes before the last move
abbrev pub closes_early : List Move → Bool
closes_early [] = false
closes_early (m ∷ []) = false
closes_early (m ∷ (n ∷ ms)) = is_close m || closes_early (n ∷ ms)

-- the amount that a move issues, spends, gives away, gives to j, reclaims, reclaims from j
abbrev pub issue_of : Move → ℕ
issue_of (Issue n) = n
issue_of m = 0

abbrev pub spend_of : Move → ℕ
spend_of (Spend n) = n
spend_of m = 0

abbrev pub gift_of : Move → ℕ
gift_of (Grant j n a) = n
gift_of (Give j n) = n
gift_of m = 0

abbrev pub gift_to : ℕ → Move → ℕ
gift_to s (Grant j n a) = if j == s then n else 0
gift_to s (Give j n) = if j == s then n else 0
gift_to s m = 0

abbrev pub take_back_of : Move → ℕ
take_back_of (TakeBack j n) = n
take_back_of m = 0

abbrev pub take_back_from : ℕ → Move → ℕ
take_back_from s (TakeBack j n) = if j == s then n else 0
take_back_from s m = 0

-- the amount that a move adds to the rights of its origin, and that it takes from them
abbrev pub gain_of : Move → ℕ
gain_of m = issue_of m + take_back_of m

abbrev pub cost_of : Move → ℕ
cost_of m = spend_of m + gift_of m
