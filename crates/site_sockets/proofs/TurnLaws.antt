-- Lines that are taken one after another.
use Rattle.std.proofs.Common.{ℕ, zero, suc, List, [], ◌∷◌, take, refl}
use Rattle.std.specs.List.{All}
use Rattle.std.proofs.lemmas.List.Elements.{All-head, All-tail}
use Rattle.entry_codec.specs.Pieces.{IsLine}
use Rattle.peer_links.specs.Turns.{InTurn}

-- whole lines are taken in turn, where no more is said of it
pub all_in_turn : {S : Type 0} (s : S) (count : ℕ) (lines : List (List ℕ)) → All IsLine lines
    → InTurn {S = S} (λ _ line _. IsLine line) s (take count lines) s
all_in_turn s zero lines all = refl
all_in_turn s (suc n) [] all = refl
all_in_turn s (suc n) (line ∷ lines) all
    = (s, All-head IsLine line lines all, all_in_turn s n lines (All-tail IsLine line lines all))
