-- Sets of sites: a flag for each site that a system can have, the first for site 1.
use Rattle.std.specs.Prelude.{ℕ, Bool, false, List, replicate}
use Rattle.rights_types.specs.declared.limits.TheConstants.{MAX_SITES}
use Rattle.rights_types.specs.Places.{at_site}

-- the empty set
abbrev pub no_sites : List Bool
no_sites = replicate MAX_SITES false

-- site j is in the set
abbrev pub has_site : List Bool → ℕ → Bool
has_site set j = at_site set j false
