-- What writes took, one after another.
use Rattle.std.proofs.Common.{◌≡◌, ℕ, ◌+◌, ◌-◌, List, ◌++◌, length, take, drop, sym, ◌∙◌, subst, arith, Option}
use Rattle.std.proofs.Common.{take-append-drop}
use Rattle.std.proofs.lemmas.List.{take-take, drop-take, take_rest}
use Rattle.std.specs.Io.KnownBytes.{Appends}
use Rattle.std.proofs.KnownBytes.{Appends-trans}

pub take_both : {X : Type 0} (i n : ℕ) (xs : List X) → take (i + n) xs ≡ take i xs ++ take n (drop i xs)
take_both i n xs = sym (take-append-drop i (take (i + n) xs))
    ∙ rw (take-take i (i + n) xs (omega arith), drop-take i n xs)

-- what two writes took is what they took together
pub wrote_more : (a b c : Option (List ℕ)) (text : List ℕ) (done n : ℕ) → Appends a b (take done text)
    → Appends b c (take n (take (length text - done) (drop done text))) → Appends a c (take (done + n) text)
wrote_more a b c text done n p q
    = subst (Appends a c) (sym (take_both done n text)) (Appends-trans a b c _ _ p (rw take_rest at q))
