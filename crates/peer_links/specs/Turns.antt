-- Steps made one after another.
use Rattle.std.specs.Prelude.{◌≡◌, List, [], ◌∷◌}

-- one step for each item, in order, leads from the first state to the last
abbrev pub InTurn : {S X : Type 0} → (S → X → S → Type 0) → S → List X → S → Type 0
InTurn step old [] new = new ≡ old
InTurn {S} step old (item ∷ more) new = (mid : S) × step old item mid × InTurn step mid more new
