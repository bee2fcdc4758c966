-- A closing site records what it had applied, and others reclaim what it will never apply.
use Rattle.std.specs.Prelude.{ℕ, ◌-◌, Bool, false, nat_le, ◌==◌, List, [], ◌∷◌, Option, Some, None, map, if◌then◌else◌}
use Rattle.std.specs.List.{filter, list_any, slice_get, range_with_len}
use Rattle.rights_types.specs.Entries.{EntryValue}
use Rattle.rights_types.specs.Chains.{end, moves_of}
use Rattle.rights_types.specs.Rights.{to}
use Rattle.rights_types.specs.declared.moves.Move.{Move}
use Rattle.rights_types.specs.declared.moves.Move.TheVariants.{CloseAt, TakeBack}

-- ---- the frontier of a closing site

-- the frontier that a site writes in its closing entry: for each of n sites, the end of what it applied of that log.
-- It applies nothing of its own log, so its own position is 0.
abbrev pub own_frontier : ℕ → (ℕ → List EntryValue) → List ℕ
own_frontier n applied = map (λ o. end (applied o)) (range_with_len 1 n)

-- the frontier among these moves
abbrev pub numbers_in : List Move → Option (List ℕ)
numbers_in [] = None
numbers_in (CloseAt numbers ∷ ms) = Some numbers
numbers_in (m ∷ ms) = numbers_in ms

-- the frontier of the last entry, or k if there is no entry
abbrev pub frontier_from : Option (List ℕ) → List EntryValue → Option (List ℕ)
frontier_from k [] = k
frontier_from k (e ∷ es) = frontier_from (numbers_in e.moves) es

-- the frontier that a log ends in
abbrev pub frontier : List EntryValue → Option (List ℕ)
frontier es = frontier_from None es

-- ---- what lies beyond it

-- the entries that begin at number f or after it
abbrev pub beyond : ℕ → List EntryValue → List EntryValue
beyond f es = filter (λ e. nat_le f e.prev) es

abbrev pub given_beyond : ℕ → List EntryValue → Option ℕ → ℕ
given_beyond c es None = 0
given_beyond c es (Some f) = to c (moves_of (beyond f es))

-- what s, whose log is es, is owed by c, which closed with this frontier: all that s gave to c beyond its own position
-- in the frontier. Without a frontier, or one with no position for s, it is owed nothing.
abbrev pub owed : ℕ → ℕ → List EntryValue → Option (List ℕ) → ℕ
owed s c es None = 0
owed s c es (Some numbers) = given_beyond c es (slice_get numbers (s - 1))

-- ---- the entry that reclaims

-- the entry of these moves that s writes at the end of its log
abbrev pub entry_at_end : ℕ → List EntryValue → List Move → EntryValue
entry_at_end s log ms = record { origin = s; prev = end log; moves = ms }

-- the moves of each entry that reclaims from c: n in the one move of one entry; none if n is 0
abbrev pub one_taking : ℕ → ℕ → List (List Move)
one_taking c n = if n == 0 then [] else (TakeBack c n ∷ []) ∷ []

-- the entry that s writes when it applies the entry e of o: it reclaims what s is owed, if e closes with a frontier
abbrev pub taking_back : ℕ → ℕ → List EntryValue → EntryValue → List EntryValue
taking_back s o log e = map (entry_at_end s log) (one_taking o (owed s o log (numbers_in e.moves)))

abbrev pub takes_from : ℕ → Move → Bool
takes_from c (TakeBack j n) = j == c
takes_from c m = false

-- the moves of each entry that reclaims something from c
abbrev pub takings : ℕ → List EntryValue → List (List Move)
takings c es = map (λ (e : EntryValue). e.moves) (filter (λ (e : EntryValue). list_any (takes_from c) e.moves) es)
