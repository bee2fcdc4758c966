-- Lists with an item for each site, the first for site 1.
use Rattle.std.specs.Prelude.{ℕ, zero, suc, List, slice_index_or, slice_set}

-- the item of a site, or d if there is none
abbrev pub at_site : {X : Type 0} → List X → ℕ → X → X
at_site xs zero d = d
at_site xs (suc i) d = slice_index_or xs i d

-- the list with the item of one site replaced
abbrev pub set_site : {X : Type 0} → List X → ℕ → X → List X
set_site xs zero x = xs
set_site xs (suc i) x = slice_set xs i x
