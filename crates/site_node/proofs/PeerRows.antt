-- One object after another.
use Rattle.std.proofs.Common.{◌≡◌, ◌∙◌, ◌+◌, ◌++◌, ℕ, suc, List, sym, ap, subst, arith, append_assoc}
use Rattle.site_core.specs.Desks.{DeskValue}
use Rattle.site_node.specs.PeerSums.{peer_item, peer_items}

grown : (start before one : List ℕ) {mid new : List ℕ} → mid ≡ start ++ before → new ≡ mid ++ one
    → new ≡ start ++ (before ++ one)
grown start before one had step = step ∙ ap (λ xs. xs ++ one) had ∙ append_assoc start before one

pub item_added : (d : DeskValue) (n : ℕ) (start mid new : List ℕ) → mid ≡ start ++ peer_items d n
    → new ≡ mid ++ peer_item d (n + 1) → new ≡ start ++ peer_items d (n + 1)
item_added d n start mid new had step =
    let next : n + 1 ≡ suc n = omega arith in
    let more : new ≡ start ++ peer_items d (suc n) =
    grown start (peer_items d n) (peer_item d (suc n)) had (subst (λ k. new ≡ mid ++ peer_item d k) next step) in
    subst (λ k. new ≡ start ++ peer_items d k) (sym next) more
