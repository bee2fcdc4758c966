-- What a cutter returns.
use Rattle.std.specs.Prelude.{◌≡◌, ℕ, ◌<◌, ◌≤◌, List, [], ◌∷◌, ◌++◌, length}
use Rattle.entry_codec.specs.declared.cutter.Cut.{Cut}
use Rattle.entry_codec.specs.declared.cutter.Cut.TheVariants.{Line, Long}
use Rattle.entry_codec.specs.Cutter.{CutterView, IsFed}
use Rattle.rights_types.specs.declared.limits.TheConstants.{MAX_LINE}

-- what is returned for a piece
abbrev pub IsCut : {A : Type 0} → List ℕ → Cut A → Type 0
IsCut piece (Line bytes) = (bytes.items ≡ piece) × (length piece ≤ MAX_LINE)
IsCut piece Long = MAX_LINE < length piece

-- this cut is for the next piece of the stream, and the cutter has what comes after it
abbrev pub IsGiven : {A : Type 0} → Cut A → CutterView → List ℕ → List (List ℕ) → Type 0
IsGiven cut cutter stream given =
    (piece : List ℕ) × IsCut piece cut × IsFed cutter stream (given ++ piece ∷ [])
