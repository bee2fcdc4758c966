-- The pieces of a stream that is read a block at a time.
use Rattle.std.specs.Prelude.{◌≡◌, ℕ, ◌<◌, ◌≤◌, List, [], ◌∷◌, length, Option, None, Some}
use Rattle.rights_types.specs.declared.limits.TheConstants.{MAX_LINE}
use Rattle.peer_links.specs.declared.lines.Piece.{Piece}
use Rattle.peer_links.specs.declared.lines.Piece.TheVariants.{Borrowed, Owned, Long}

-- the bytes that a piece has
abbrev pub IsPiece : {A : Type 0} → Piece A → List ℕ → Type 0
IsPiece (Borrowed line) piece = (line.now ≡ piece) × (length piece ≤ MAX_LINE)
IsPiece (Owned line) piece = (line.items ≡ piece) × (length piece ≤ MAX_LINE)
IsPiece Long piece = MAX_LINE < length piece

-- what a call returns if these pieces ended: none or one
abbrev pub IsGivenFor : {A : Type 0} → Option (Piece A) → List (List ℕ) → Type 0
IsGivenFor None ended = ended ≡ []
IsGivenFor (Some given) ended = (piece : List ℕ) × IsPiece given piece × (ended ≡ piece ∷ [])
