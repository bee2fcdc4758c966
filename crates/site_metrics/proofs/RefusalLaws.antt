-- The counts of refusals, one after another.
use Rattle.std.proofs.Common.{◌≡◌, ℕ, ◌+◌, ◌<◌, List, [], ◌++◌, length, take, get_or, refl, ap, sym, ◌∙◌, arith}
use Rattle.std.specs.List.{flat_map, zip}
use Rattle.std.proofs.lemmas.List.{flat_map_more, take_more, get_or-map}
use Rattle.std.proofs.lemmas.Slice.Zip.{length-zip, get_or-zip}
use Rattle.refusals.specs.Refusals.{all_refusals, refusal_name, refusal_names}
use Rattle.refusals.specs.declared.refusal.Refusal.TheVariants.{OwnClock}
use Rattle.refusals.specs.declared.refusal.TheConstants.{REFUSAL_COUNT}

-- the name of the refusal at a place
pub name_at : (index : ℕ) → index < REFUSAL_COUNT
    → refusal_name (get_or all_refusals index OwnClock) ≡ get_or refusal_names index []
name_at index low = sym (get_or-map refusal_name all_refusals index OwnClock [] low)

-- the counts of one more name were appended
pub name_more : (f : List ℕ × ℕ → List ℕ) (text before after counts : List ℕ) (index : ℕ) (name : List ℕ)
    → index < REFUSAL_COUNT → length counts ≡ REFUSAL_COUNT
    → before ≡ text ++ flat_map f (take index (zip refusal_names counts)) → name ≡ get_or refusal_names index []
    → after ≡ before ++ f (name, get_or counts index 0)
    → after ≡ text ++ flat_map f (take (index + 1) (zip refusal_names counts))
name_more f text before after counts index name low long done named more =
    let all : List (List ℕ × ℕ) = zip refusal_names counts in
    let within : index < length all = omega (arith, length-zip refusal_names counts, long, low) in
    let item : get_or all index ([], 0) ≡ (name, get_or counts index 0) =
    get_or-zip refusal_names counts index ([], 0) low (omega (arith, long, low))
    ∙ ap (λ (n : List ℕ). (n, get_or counts index 0)) (sym named) in
    more ∙ ap (λ (t : List ℕ). t ++ f (name, get_or counts index 0)) done
    ∙ ap (λ (e : List ℕ × ℕ). (text ++ flat_map f (take index all)) ++ f e) (sym item)
    ∙ flat_map_more f text (take index all) (get_or all index ([], 0))
    ∙ ap (λ (es : List (List ℕ × ℕ)). text ++ flat_map f es) (sym (take_more all index ([], 0) within))
