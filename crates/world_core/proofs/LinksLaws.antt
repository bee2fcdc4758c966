-- The link of a site to an origin, as one of the site's links.
use Rattle.std.proofs.Common.{◌≡◌, ◌≢◌, ℕ, ◌+◌, ◌<◌, ◌≤◌, List, length, get_or, set, Option, Some, None, IsSome, inl}
use Rattle.std.proofs.Common.{inr, true, false, arith, sym, ◌∙◌, subst}
use Rattle.std.specs.List.{slice_get}
use Rattle.std.proofs.lemmas.List.{get_or_read, get_or_past}
use Rattle.std.proofs.lemmas.Bool.{cases_lt}
use Rattle.rights_types.specs.Places.{at_site, set_site}
use Rattle.rights_types.proofs.Places.{at_site-index, set_site-index}
use Rattle.world_core.specs.Values.{LinkValue}
use Rattle.world_core.specs.Worlds.{list_of}

-- the link that is borrowed at an index is the one to the origin, and a change of it is a change of that link
pub record Lends (links now : List (Option LinkValue)) (i o : ℕ) (l : LinkValue) : Type 0 where
  pub is : at_site now o None ≡ Some l
  pub changed : (x : LinkValue) → set links i (Some x) ≡ set_site now o (Some x)

pub lends : (links now : List (Option LinkValue)) (i o : ℕ) (was : Option LinkValue) (l : LinkValue)
    → links ≡ now → i + 1 ≡ o → at_site now o None ≢ None → was ≡ get_or links i was → was ≡ Some l
    → Lends links now i o l
lends links now i o was l same at there read some =
    let within : i < length links =
    elim (cases_lt i (length links)) [
      | inl h ↦ h
      | inr h ↦ absurd (there (subst (λ xs. at_site xs o None ≡ None) same
          (at_site-index links i o None at ∙ get_or_past links i None (omega arith))))
    ] in
    record {
      is = subst (λ xs. at_site xs o None ≡ Some l) same
          (at_site-index links i o None at ∙ sym (get_or_read links i was within read None) ∙ some);
      changed = λ x. sym (subst (λ xs. set_site xs o (Some x) ≡ set links i (Some x)) same
          (set_site-index links i o (Some x) at));
    }

-- ---- if there is a link

-- what is some is not none: as `is_some` says, and by its value
pub some_there : {X : Type 0} (x : Option X) → IsSome x → x ≢ None
some_there x h none =
    let bad : false ≡ true = subst IsSome none h in
    absurd cc

pub is_there : {X : Type 0} (x : Option X) (y : X) → x ≡ Some y → x ≢ None
is_there x y is none =
    let bad : Some y ≡ None = sym is ∙ none in
    absurd cc

-- if an entry is next, there is a link
pub next_there : (l : Option LinkValue)
    → IsSome (slice_get (list_of (λ x. x.put) l) (length (list_of (λ x. x.applied) l))) → l ≢ None
next_there l h none =
    let next : Option LinkValue → Type 0 =
    λ x. IsSome (slice_get (list_of (λ y. y.put) x) (length (list_of (λ y. y.applied) x))) in
    let bad : false ≡ true = subst next none h in
    absurd cc

-- ---- what is read at an index

-- within the links, and past them
pub reads : (links now : List (Option LinkValue)) (i o : ℕ) → links ≡ now → i + 1 ≡ o
    → get_or links i None ≡ at_site now o None
reads links now i o same at =
    subst (λ xs. get_or links i None ≡ at_site xs o None) same (sym (at_site-index links i o None at))

pub reads_past : (links now : List (Option LinkValue)) (i o : ℕ) → links ≡ now → i + 1 ≡ o → length links ≤ i
    → None ≡ at_site now o None
reads_past links now i o same at past = sym (get_or_past links i None past) ∙ reads links now i o same at
