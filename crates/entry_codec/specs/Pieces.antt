-- The pieces of a stream of bytes, each of which ends in its first line feed.
use Rattle.std.specs.Prelude.{◌≡◌, ◌≢◌, ℕ, List, [], ◌∷◌, ◌++◌, ◌==◌, if◌then◌else◌}
use Rattle.std.specs.List.{All}
use Rattle.entry_codec.specs.declared.format.TheConstants.{LINE_END}

-- the pieces that end in these bytes, where front is what came after the last line feed before them
abbrev pub pieces_after : List ℕ → List ℕ → List (List ℕ)
pieces_after front [] = []
pieces_after front (x ∷ xs) =
    if x == LINE_END then (front ++ x ∷ []) ∷ pieces_after [] xs else pieces_after (front ++ x ∷ []) xs

-- what came after the last line feed
abbrev pub rest_after : List ℕ → List ℕ → List ℕ
rest_after front [] = front
rest_after front (x ∷ xs) = if x == LINE_END then rest_after [] xs else rest_after (front ++ x ∷ []) xs

-- the finished pieces of a stream; what comes after its last line feed is unfinished
abbrev pub pieces : List ℕ → List (List ℕ)
pieces stream = pieces_after [] stream

abbrev pub unfinished : List ℕ → List ℕ
unfinished stream = rest_after [] stream

-- a text whose one line feed is its last byte
abbrev pub IsLine : List ℕ → Type 0
IsLine text = (front : List ℕ) × (text ≡ front ++ LINE_END ∷ []) × All (λ b. b ≢ LINE_END) front
