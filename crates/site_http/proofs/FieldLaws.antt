-- What stands under a name that no field has.
use Rattle.std.proofs.Common.{◌≡◌, ℕ, suc, List, [], ◌∷◌, refl, inl, inr, arith}
use Rattle.std.proofs.lemmas.Bool.{cases_Bool}
use Rattle.std.proofs.lemmas.Slice.Eq.{bytes_eq-Decides}
use Rattle.std.specs.Str.{bytes_eq}
use Rattle.http.specs.HeaderMap.{Entries, ContainsKey, get_all}

pub no_field : {X : Type 0} (fields : Entries X) (name : List ℕ) → (ContainsKey fields name → ⊥)
    → get_all fields name ≡ []
no_field [] name none = refl
no_field (field ∷ fields) name none =
    elim (cases_Bool (bytes_eq field.0 name)) [
      | inl same ↦ absurd (none (0, grind (arith), (bytes_eq-Decides field.0 name).0 same))
      | inr other ↦ rw other (no_field fields name (λ found. none (suc found.0, let below = found.1 in grind (arith), found.2)))
    ]
