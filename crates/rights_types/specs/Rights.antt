-- Sums over moves, and the rights that sites hold and that are in transit. The rights are those of the Bounded Counter
-- with bound 0: R(i,i) is what i issued, R(i,j) what i gave to j, U(i) what i spent.
use Rattle.std.specs.Prelude.{ℕ, zero, suc, ◌+◌, ◌-◌, ◌≤◌, Bool, true, not, nat_lt, ◌&&◌, List, [], ◌∷◌, length, take}
use Rattle.std.specs.Prelude.{drop}
use Rattle.std.specs.List.{sum_by}
use Rattle.rights_types.specs.Entries.{EntryValue}
use Rattle.rights_types.specs.Chains.{moves_of}
use Rattle.rights_types.specs.Moves.{issue_of, spend_of, gift_of, gift_to, take_back_of, take_back_from, gain_of}
use Rattle.rights_types.specs.Moves.{cost_of}
use Rattle.rights_types.specs.declared.moves.Move.{Move}

-- the sum of what these moves issue, spend, give away, give to j, reclaim, reclaim from j
unfoldable pub issued : List Move → ℕ
issued ms = sum_by issue_of ms

unfoldable pub spent : List Move → ℕ
spent ms = sum_by spend_of ms

unfoldable pub out : List Move → ℕ
out ms = sum_by gift_of ms

unfoldable pub to : ℕ → List Move → ℕ
to j ms = sum_by (gift_to j) ms

unfoldable pub taken_back : List Move → ℕ
taken_back ms = sum_by take_back_of ms

unfoldable pub back : ℕ → List Move → ℕ
back j ms = sum_by (take_back_from j) ms

-- f 1 + f 2 + .. + f n, a sum over the sites 1 to n
abbrev pub sum_sites : ℕ → (ℕ → ℕ) → ℕ
sum_sites zero f = 0
sum_sites (suc n) f = sum_sites n f + f (suc n)

-- what s received among n sites, where applied o is what s applied of the log of o
unfoldable pub received : ℕ → ℕ → (ℕ → List EntryValue) → ℕ
received n s applied = sum_sites n (λ o. to s (moves_of (applied o)))

-- the rights that s holds: issued, received and reclaimed, less given and spent
unfoldable pub held : ℕ → ℕ → List EntryValue → (ℕ → List EntryValue) → ℕ
held n s log applied =
    let ms = moves_of log in (issued ms + received n s applied + sum_sites n (λ j. back j ms)) - (out ms + spent ms)

-- the rights in transit to s from the site with this log, of which s applied a prefix of this length
unfoldable pub way : ℕ → List EntryValue → List EntryValue → ℕ
way s log applied = to s (moves_of (drop (length applied) log)) - back s (moves_of log)

-- no prefix of these moves gives and spends more than it issues and reclaims, plus what was received
abbrev pub IsNeverShort : ℕ → ℕ → List Move → Type 0
IsNeverShort n received ms =
    (k : ℕ) → let cut = take k ms in out cut + spent cut ≤ issued cut + received + sum_sites n (λ j. back j cut)

-- in order, each move costs no more than what is held after the moves before it
abbrev pub covers : ℕ → List Move → Bool
covers rights [] = true
covers rights (m ∷ ms) = not (nat_lt rights (cost_of m)) && covers ((rights - cost_of m) + gain_of m) ms

-- what is held after these moves
abbrev pub rights_after : ℕ → List Move → ℕ
rights_after rights [] = rights
rights_after rights (m ∷ ms) = rights_after ((rights - cost_of m) + gain_of m) ms
