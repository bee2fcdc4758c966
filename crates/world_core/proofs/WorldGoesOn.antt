-- A world that changes by changes of the protocol.
use Rattle.std.proofs.Common.{List, [], ◌∷◌, refl}
use Rattle.rights_protocol.specs.Lists.{Lists}
use Rattle.rights_protocol.specs.Changes.{Change, Stays, Step, Runs}
use Rattle.rights_protocol.specs.Invariant.{Invariant}
use Rattle.rights_protocol.specs.Changes.Change.{Nothing}
use Rattle.rights_protocol.proofs.Steps.{step_keeps}
use Rattle.world_core.specs.Values.{WorldValue}
use Rattle.world_core.specs.Worlds.{lists_of}
use Rattle.world_core.specs.Sound.{IsWorld}
use Rattle.world_core.specs.Refinement.{Refines}

-- ---- changes

-- lists that are the same stay
pub stay : (w : Lists) → Stays w w
stay w =
    record {
      count = refl;
      sites = λ k. record
          { log = refl; links = λ o. record { reached = refl; put = refl; applied = refl } };
    }

-- where one run leads, another continues
joined : (old mid new : Lists) (first more : List Change) → Runs old first mid → Runs mid more new
    → (changes : List Change) × Runs old changes new
joined old mid new [] more run later = (Nothing ∷ more, (mid, run, later))
joined old mid new (change ∷ changes) more run later =
    let rest = joined run.0 mid new changes more run.2 later in (change ∷ rest.0, (run.0, run.1, rest.1))

-- one change
by_change : (old new : WorldValue) (change : Change) → Step (lists_of old) change (lists_of new) → Refines old new
by_change old new change step = (change ∷ [], (lists_of new, step, stay (lists_of new)))

pub refines_then : (old mid new : WorldValue) → Refines old mid → Refines mid new → Refines old new
refines_then old mid new first more =
    joined (lists_of old) (lists_of mid) (lists_of new) first.0 more.0 first.1 more.1

-- ---- lists that are kept

-- changes of the protocol lead to the lists of the new world, and preserve the invariant
pub record Leads (old new : WorldValue) : Type 0 where
  pub kept : Invariant (lists_of new)
  pub refines : Refines old new

pub leads_nowhere : (w : WorldValue) → IsWorld w → Leads w w
leads_nowhere w is = record { kept = is.kept; refines = ([], stay (lists_of w)) }

-- by one more change
pub leads_on : (old mid new : WorldValue) (change : Change) → Leads old mid → Step (lists_of mid) change (lists_of new)
    → Leads old new
leads_on old mid new change h step = record {
  kept = step_keeps (lists_of mid) change (lists_of new) h.kept step;
  refines = refines_then old mid new h.refines (by_change mid new change step);
}

-- by one change
pub leads : (old new : WorldValue) (change : Change) → IsWorld old → Step (lists_of old) change (lists_of new)
    → Leads old new
leads old new change is step = record {
  kept = step_keeps (lists_of old) change (lists_of new) is.kept step;
  refines = by_change old new change step;
}

-- ---- worlds

-- the old world changes by changes of the protocol, and the new one satisfies the invariant
pub record WorldGoesOn (old new : WorldValue) : Type 0 where
  pub is : IsWorld new
  pub refines : Refines old new

pub unchanged : (w : WorldValue) → IsWorld w → WorldGoesOn w w
unchanged w is = record { is = is; refines = ([], stay (lists_of w)) }

pub goes_then : (old mid new : WorldValue) → WorldGoesOn old mid → WorldGoesOn mid new → WorldGoesOn old new
goes_then old mid new first more =
    record { is = more.is; refines = refines_then old mid new first.refines more.refines }
