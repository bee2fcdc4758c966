-- The rights that a site knows of each site.
use Rattle.std.specs.Prelude.{ℕ, ◌+◌, ◌==◌, List, ℤ, pos, ◌-ℤ◌, if◌then◌else◌}
use Rattle.rights_types.specs.Entries.{EntryValue}
use Rattle.rights_types.specs.Chains.{moves_of}
use Rattle.rights_types.specs.Rights.{issued, spent, out, to, taken_back, sum_sites}

-- the logs as site me has them: all of its own, and of each other what it applied
abbrev pub logs_at : ℕ → List EntryValue → (ℕ → List EntryValue) → ℕ → List EntryValue
logs_at me log applied o = if o == me then log else applied o

-- what the others of n sites gave to j in these logs
abbrev pub known_gifts : ℕ → ℕ → (ℕ → List EntryValue) → ℕ
known_gifts n j logs = sum_sites n (λ o. if o == j then 0 else to j (moves_of (logs o)))

-- the rights of j by these logs of n sites: what it issued, the others gave to it and it reclaimed, less what it gave
-- and spent. It is negative if j used gifts that are not in these logs.
unfoldable pub known : ℕ → ℕ → (ℕ → List EntryValue) → ℤ
known n j logs =
    let ms = moves_of (logs j) in pos (issued ms + known_gifts n j logs + taken_back ms) -ℤ pos (out ms + spent ms)
