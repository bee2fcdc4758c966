-- What a cutter has of the stream that it is fed.
use Rattle.std.specs.Prelude.{◌≡◌, ℕ, Bool, not, List, [], ◌∷◌, ◌++◌, length, nat_le, if◌then◌else◌}
use Rattle.std.specs.Io.BufRead.{ends_with_byte}
use Rattle.entry_codec.specs.Pieces.{pieces, unfinished}
use Rattle.rights_types.specs.declared.limits.TheConstants.{MAX_LINE}
use Rattle.entry_codec.specs.declared.format.TheConstants.{LINE_END}

-- what it has of the current piece: its bytes, unless they are too many
pub record CutterView : Type 0 where
  pub kept : List ℕ
  pub is_long : Bool
  pub is_finished : Bool

abbrev pub fits : List ℕ → Bool
fits piece = nat_le (length piece) MAX_LINE

abbrev pub view_of : List ℕ → CutterView
view_of piece = record {
  kept = if fits piece then piece else [];
  is_long = not (fits piece);
  is_finished = ends_with_byte LINE_END piece;
}

-- it has taken these bytes since the last piece that it returned
abbrev pub Holds : CutterView → List ℕ → Type 0
Holds cutter piece = cutter ≡ view_of piece

-- it took this stream and returned these pieces of it; it has the finished one that waits, or the bytes after the last
-- line feed
abbrev pub IsFed : CutterView → List ℕ → List (List ℕ) → Type 0
IsFed cutter stream given = (piece : List ℕ) × Holds cutter piece
    × (pieces stream ≡ given ++ (if cutter.is_finished then piece ∷ [] else []))
    × (unfinished stream ≡ (if cutter.is_finished then [] else piece))
