-- Steps one after another.
use Rattle.std.proofs.Common.{◌≡◌, List, [], ◌∷◌, ◌++◌, refl, subst}
use Rattle.peer_links.specs.Turns.{InTurn}

module _ {S X : Type 0} (step : S → X → S → Type 0) where
  pub turn_one : (old : S) (item : X) (new : S) → step old item new → InTurn step old (item ∷ []) new
  turn_one old item new h = (new, h, refl)

  pub turns_both : (old mid new : S) (a b : List X) → InTurn step old a mid → InTurn step mid b new
      → InTurn step old (a ++ b) new
  turns_both old mid new [] b h k = subst (λ (s : S). InTurn step s b new) h k
  turns_both old mid new (item ∷ a) b h k = (h.0, h.1, turns_both h.0 mid new a b h.2 k)
