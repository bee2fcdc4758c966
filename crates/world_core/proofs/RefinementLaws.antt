-- A run of a world is a run of the protocol, so what is proved of the protocol's runs holds in a world.
use Rattle.std.proofs.Common.{◌≡◌, ℕ, true, List}
use Rattle.rights_types.specs.Chains.{is_closed}
use Rattle.rights_protocol.specs.Changes.{Start}
use Rattle.rights_protocol.specs.Retirement.{AppliedClose}
use Rattle.rights_protocol.specs.BoundedCounter.{Counter, Operation, CounterRun, EmptyCounter}
use Rattle.rights_protocol.specs.CounterOfLists.{state_of}
use Rattle.rights_protocol.proofs.Runs as protocol
use Rattle.rights_protocol.proofs.CounterEvery as counter
use Rattle.world_core.specs.Values.{WorldValue}
use Rattle.world_core.specs.Worlds.{start, log, applied, lists_of}
use Rattle.world_core.specs.Sound.{IsWorld}
use Rattle.world_core.specs.Refinement.{Refines, Later, Reached}
use Rattle.world_core.proofs.WorldGoesOn.{WorldGoesOn}
use Rattle.world_core.proofs.StartLaws.{start_lists, start_world}
use Rattle.world_core.proofs.WorldLaws.{run_goes_on}

later_goes_on : (old new : WorldValue) → IsWorld old → Later old new → WorldGoesOn old new
later_goes_on old new is h = run_goes_on old new h.events h.outcomes is h.run

-- a world that was reached satisfies the invariant, and was reached by changes of the protocol
reached_goes_on : (n : ℕ) (w : WorldValue) → Reached n w → WorldGoesOn (start n) w
reached_goes_on n w h = later_goes_on (start n) w (start_world n h.some h.few) h.later

pub later_refines : (n : ℕ) (old new : WorldValue) → Reached n old → Later old new → Refines old new
later_refines n old new first later = (later_goes_on old new (reached_goes_on n old first).is later).refines

pub every_run_refines : (n : ℕ) (w : WorldValue) → Reached n w → Start n (lists_of (start n)) × Refines (start n) w
every_run_refines n w h = (start_lists n h.some h.few, (reached_goes_on n w h).refines)

pub every_run_operates : (n : ℕ) (w : WorldValue) → Reached n w
    → (ops : List Operation) × ((empty : Counter) × EmptyCounter empty × CounterRun n ops empty (state_of (lists_of w)))
every_run_operates n w h =
    let by = every_run_refines n w h in counter.run_operates n (lists_of (start n)) by.1.0 (lists_of w) by.0 by.1.1

pub closed_for_good : (n : ℕ) (old new : WorldValue) (c : ℕ) → Reached n old → Later old new
    → is_closed (log old c) ≡ true → (is_closed (log new c) ≡ true) × ((o : ℕ) → applied new c o ≡ applied old c o)
closed_for_good n old new c first later closed =
    let by : Refines old new = later_refines n old new first later in
    protocol.closed_for_good (lists_of old) by.0 (lists_of new) c by.1 closed

pub applied_for_good : (n : ℕ) (old new : WorldValue) (s c : ℕ) (numbers : List ℕ) → Reached n old → Later old new
    → AppliedClose (lists_of old) s c numbers → AppliedClose (lists_of new) s c numbers
applied_for_good n old new s c numbers first later at =
    let by : WorldGoesOn old new = later_goes_on old new (reached_goes_on n old first).is later in
    protocol.applied_for_good (lists_of old) by.refines.0 (lists_of new) s c numbers
    (reached_goes_on n old first).is.kept by.refines.1 at
