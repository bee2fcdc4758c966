-- The places after those that were written are 0.
use Rattle.std.proofs.Common.{◌≡◌, ℕ, suc, ◌+◌, ◌-◌, ◌<◌, List, [], ◌∷◌, length, get_or, drop, ap, sym, ◌∙◌, arith}
use Rattle.std.proofs.Common.{add-one}
use Rattle.std.specs.Prelude.{replicate}
use Rattle.std.proofs.Math.Seq.{drop-cons}

tail_of : List ℕ → List ℕ
tail_of [] = []
tail_of (x ∷ xs) = xs

pub zeros_behind : (xs : List ℕ) (i : ℕ) → length xs ≡ 64 → i < 64 → drop i xs ≡ replicate (64 - i) 0
    → drop (i + 1) xs ≡ replicate (64 - (i + 1)) 0
unfolding tail_of
zeros_behind xs i long small zeros =
    let one : 64 - i ≡ suc (64 - suc i) = omega arith in
    let here : get_or xs i 0 ∷ drop (suc i) xs ≡ replicate (suc (64 - suc i)) 0 =
    sym (drop-cons xs i 0 (omega arith)) ∙ zeros ∙ ap (λ n. replicate n 0) one in
    rw add-one (ap tail_of here)
