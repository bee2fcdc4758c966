-- A text that begins with these bytes.
use Rattle.std.proofs.Common.{◌≡◌, ℕ, true, List, ◌++◌, take, drop, refl, sym, ◌∙◌}
use Rattle.std.proofs.lemmas.List.{take-append-drop}
use Rattle.std.proofs.lemmas.Slice.Eq.{bytes_eq-Decides}
use Rattle.std.specs.Str.{bytes_eq}

-- a text whose first bytes are these
pub begins_so : (n : ℕ) (text begins first rest : List ℕ) → first ≡ take n text → rest ≡ drop n text
    → bytes_eq first begins ≡ true → text ≡ begins ++ rest
begins_so n text begins first rest f r same =
    let is : first ≡ begins = (bytes_eq-Decides first begins).0 same in
    sym (take-append-drop n text) ∙ rw (← f, ← r, is) refl
