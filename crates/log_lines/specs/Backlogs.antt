-- The log lines that wait, as plain data.
use Rattle.std.specs.Prelude.{◌≡◌, ℕ, ◌+◌, ◌-◌, ◌^◌, ◌<◌, Bool, true, false, List, [], ◌∷◌, ◌++◌, flat_map, length, min}
use Rattle.log_lines.specs.declared.backlog.TheConstants.{LOG_LINES}

-- the lines that wait, the oldest first; how many were dropped since that was last reported
pub record BacklogValue : Type 0 where
  pub lines : List (List ℕ)
  pub dropped : ℕ

-- so many lines more count as dropped, as far as the count goes
abbrev pub Drops : BacklogValue → ℕ → BacklogValue → Type 0
Drops old count new = new ≡ record old { dropped = min (old.dropped + count) (2 ^ 64 - 1) }

-- the line was put after the others; or there was no room for it, and it counts as dropped
abbrev pub Puts : BacklogValue → List ℕ → Bool → BacklogValue → Type 0
Puts old line true new = (length old.lines < LOG_LINES) × (new ≡ record old { lines = old.lines ++ line ∷ [] })
Puts old line false new = (length old.lines ≡ LOG_LINES) × Drops old 1 new

-- lines, concatenated
abbrev pub joined : List (List ℕ) → List ℕ
joined lines = flat_map (λ (line : List ℕ). line) lines
