-- Every step preserves the invariant of the world, and so does every run.
use Rattle.std.proofs.Common.{◌≡◌, ℕ, ◌≤◌, List, [], ◌∷◌, ◌++◌, refl, sym, subst, Option, Some, None, Result, Err}
use Rattle.std.specs.Prelude.{MatchOption}
use Rattle.rights_protocol.proofs.Promises.{kept_promises}
use Rattle.world_core.specs.Values.{WorldValue}
use Rattle.world_core.specs.Worlds.{start, ended, lists_of}
use Rattle.world_core.specs.Faults.{place_fault, fault_of}
use Rattle.world_core.specs.Step.{Attempts, Happens, Step, Runs}
use Rattle.world_core.specs.Sound.{IsWorld}
use Rattle.world_core.specs.Headline.{Headline}
use Rattle.world_core.specs.declared.event.Event.{Event}
use Rattle.world_core.specs.declared.event.Event.TheVariants.{Post, Issue, Give, Spend, Serve, Expire, Status, Plan}
use Rattle.world_core.specs.declared.event.Event.TheVariants.{Ask, Publish, Beat, Query, Arrive, Noise, Take, Close}
use Rattle.world_core.specs.declared.reply.Reply.{Reply}
use Rattle.world_core.specs.declared.fault.WorldError.{WorldError}
use Rattle.world_core.specs.declared.fault.WorldError.TheVariants.{OutOfMemory}
use Rattle.world_core.proofs.EventPlaces.{place_known}
use Rattle.world_core.proofs.WorldGoesOn.{WorldGoesOn, unchanged, goes_then}
use Rattle.world_core.proofs.DeskSteps.{post_keeps, issue_keeps, give_keeps, spend_keeps, serve_keeps, expire_keeps}
use Rattle.world_core.proofs.DeskSteps.{status_keeps, plan_keeps, close_keeps}
use Rattle.world_core.proofs.SendKeeps.{ends_known, ask_keeps, publish_keeps, beat_event_keeps, query_keeps}
use Rattle.world_core.proofs.SendKeeps.{ended_world}
use Rattle.world_core.proofs.PacketKeeps.{packet_keeps}
use Rattle.world_core.proofs.StartLaws.{start_world}
use Rattle.world_core.proofs.TakeKeeps.{take_keeps}

-- an event that the world does not refuse
attempt_world : {A : Type 0} (old new : WorldValue) (event : Event A) (outcome : Result (Reply A) WorldError)
    → IsWorld old → place_fault old event ≡ None → Attempts old event outcome new → WorldGoesOn old new
attempt_world old new (Post s ms) outcome is known h = post_keeps old new s ms outcome is known h
attempt_world old new (Issue s n) outcome is known h = issue_keeps old new s n outcome is known h
attempt_world old new (Give s j n) outcome is known h = give_keeps old new s j n outcome is known h
attempt_world old new (Spend s n deadline) outcome is known h = spend_keeps old new s n deadline outcome is known h
attempt_world old new (Serve s) outcome is known h = serve_keeps old new s outcome is known h
attempt_world old new (Expire s time) outcome is known h = expire_keeps old new s time outcome is known h
attempt_world old new (Status s ticket) outcome is known h = status_keeps old new s ticket outcome is known h
attempt_world old new (Plan s) outcome is known h = plan_keeps old new s outcome is known h
attempt_world old new (Ask s p) outcome is known h = ask_keeps old new s p outcome is (ends_known old s p known) h
attempt_world old new (Publish s p) outcome is known h =
    publish_keeps old new s p outcome is (ends_known old s p known) h
attempt_world old new (Beat s p) outcome is known h =
    beat_event_keeps old new s p outcome is (ends_known old s p known) h
attempt_world old new (Query s o again) outcome is known h =
    query_keeps old new s o again outcome is (ends_known old s o known) h
attempt_world old new (Arrive s number) outcome is known h = packet_keeps old new s number outcome is known h
attempt_world old new (Noise s o bytes) outcome is known h = subst (WorldGoesOn old) (sym h.1) (unchanged old is)
attempt_world old new (Take s o) outcome is known h = take_keeps old new s o outcome is known h
attempt_world old new (Close s heir) outcome is known h = close_keeps old new s heir outcome is known h

-- or that ends it
happens_world : {A : Type 0} (old new : WorldValue) (event : Event A) (outcome : Result (Reply A) WorldError)
    → IsWorld old → place_fault old event ≡ None → Happens old event outcome new → WorldGoesOn old new
happens_world old new event (Err OutOfMemory) is known h =
    let by : WorldGoesOn old h.0 = attempt_world old h.0 event (Err OutOfMemory) is known h.1 in
    subst (WorldGoesOn old) (sym h.2) (goes_then old h.0 (ended h.0) by (ended_world h.0 by.is))
happens_world old new event outcome is known h = attempt_world old new event outcome is known h

step_cases : {A : Type 0} (old new : WorldValue) (event : Event A) (outcome : Result (Reply A) WorldError)
    (fault : Option WorldError) → IsWorld old → fault_of old event ≡ fault
    → MatchOption fault (Happens old event outcome new) (λ f. (outcome ≡ Err f) × (new ≡ old)) → WorldGoesOn old new
step_cases old new event outcome None is known h =
    happens_world old new event outcome is (place_known old event known) h
step_cases old new event outcome (Some fault) is known h = subst (WorldGoesOn old) (sym h.1) (unchanged old is)

pub step_goes_on : {A : Type 0} (old new : WorldValue) (event : Event A) (outcome : Result (Reply A) WorldError)
    → IsWorld old → Step old event outcome new → WorldGoesOn old new
unfolding Step
step_goes_on old new event outcome is h = step_cases old new event outcome (fault_of old event) is refl h

pub run_goes_on : {A : Type 0} (old new : WorldValue) (events : List (Event A))
    (outcomes : List (Result (Reply A) WorldError)) → IsWorld old → Runs old events outcomes new → WorldGoesOn old new
run_goes_on old new [] [] is h = subst (WorldGoesOn old) (sym h) (unchanged old is)
run_goes_on old new (event ∷ events) (outcome ∷ outcomes) is h =
    let by : WorldGoesOn old h.0 = step_goes_on old h.0 event outcome is h.1 in
    goes_then old h.0 new by (run_goes_on h.0 new events outcomes by.is h.2)
run_goes_on old new [] (outcome ∷ outcomes) is h = absurd h
run_goes_on old new (event ∷ events) [] is h = absurd h

-- .. from a world in a struct whose invariant holds
pub runs_from : {A : Type 0} (inside old new : WorldValue) (events : List (Event A))
    (outcomes : List (Result (Reply A) WorldError)) → inside ≡ old → IsWorld inside → Runs old events outcomes new
    → WorldGoesOn old new
runs_from inside old new events outcomes same is h = run_goes_on old new events outcomes (subst IsWorld same is) h

-- one more event
pub runs-push : {A : Type 0} (old mid new : WorldValue) (events : List (Event A)) (event : Event A)
    (outcomes : List (Result (Reply A) WorldError)) (outcome : Result (Reply A) WorldError)
    → Runs old events outcomes mid → Step mid event outcome new
    → Runs old (events ++ event ∷ []) (outcomes ++ outcome ∷ []) new
runs-push old mid new [] event [] outcome h step = (new, subst (λ w. Step w event outcome new) h step, refl)
runs-push old mid new (first ∷ events) event (one ∷ outcomes) outcome h step =
    (h.0, h.1, runs-push h.0 mid new events event outcomes outcome h.2 step)
runs-push old mid new [] event (one ∷ outcomes) outcome h step = absurd h
runs-push old mid new (first ∷ events) event [] outcome h step = absurd h

pub headline_of : (w : WorldValue) → IsWorld w → Headline w
headline_of w is = kept_promises (lists_of w) is.kept

pub every_run : {A : Type 0} (n : ℕ) (events : List (Event A)) (outcomes : List (Result (Reply A) WorldError))
    (w : WorldValue) → 2 ≤ n → n ≤ 16 → Runs (start n) events outcomes w → Headline w
every_run n events outcomes w some few h =
    headline_of w (run_goes_on (start n) w events outcomes (start_world n some few) h).is
