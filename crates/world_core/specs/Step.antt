-- The possible results of an event: a relation from an old world and an event to an outcome and a new world.
use Rattle.std.specs.Prelude.{◌≡◌, Bool, true, false, List, [], ◌∷◌, Result, Err, MatchOption}
use Rattle.world_core.specs.Values.{WorldValue}
use Rattle.world_core.specs.Worlds.{ended, packet}
use Rattle.world_core.specs.Faults.{fault_of}
use Rattle.world_core.specs.DeskEvents.{PostHappens, IssueHappens, GiveHappens, SpendHappens, ServeHappens}
use Rattle.world_core.specs.DeskEvents.{ExpireHappens, StatusHappens, PlanHappens, CloseHappens}
use Rattle.world_core.specs.LinkEvents.{AskHappens, PublishHappens, BeatHappens, QueryHappens, PacketComes}
use Rattle.world_core.specs.LinkEvents.{NoiseHappens, TakeHappens}
use Rattle.world_core.specs.declared.event.Event.{Event}
use Rattle.world_core.specs.declared.event.Event.TheVariants.{Post, Issue, Give, Spend, Serve, Expire, Status, Plan}
use Rattle.world_core.specs.declared.event.Event.TheVariants.{Ask, Publish, Beat, Query, Arrive, Noise, Take, Close}
use Rattle.world_core.specs.declared.reply.Reply.{Reply}
use Rattle.world_core.specs.declared.fault.WorldError.{WorldError}
use Rattle.world_core.specs.declared.fault.WorldError.TheVariants.{OutOfMemory}

-- an event that the world itself does not refuse
abbrev pub Attempts : {A : Type 0} → WorldValue → Event A → Result (Reply A) WorldError → WorldValue → Type 0
Attempts old (Post s ms) outcome new = PostHappens old s ms outcome new
Attempts old (Issue s n) outcome new = IssueHappens old s n outcome new
Attempts old (Give s j n) outcome new = GiveHappens old s j n outcome new
Attempts old (Spend s n deadline) outcome new = SpendHappens old s n deadline outcome new
Attempts old (Serve s) outcome new = ServeHappens old s outcome new
Attempts old (Expire s time) outcome new = ExpireHappens old s time outcome new
Attempts old (Status s ticket) outcome new = StatusHappens old s ticket outcome new
Attempts old (Plan s) outcome new = PlanHappens old s outcome new
Attempts old (Ask s p) outcome new = AskHappens old s p outcome new
Attempts old (Publish s p) outcome new = PublishHappens old s p outcome new
Attempts old (Beat s p) outcome new = BeatHappens old s p outcome new
Attempts old (Query s o again) outcome new = QueryHappens old s o again outcome new
Attempts old (Arrive s number) outcome new = PacketComes old s (packet old number) outcome new
Attempts old (Noise s o bytes) outcome new = NoiseHappens old bytes outcome new
Attempts old (Take s o) outcome new = TakeHappens old s o outcome new
Attempts old (Close s heir) outcome new = CloseHappens old s heir outcome new

abbrev pub wants_memory : {A : Type 0} → Result (Reply A) WorldError → Bool
wants_memory (Err OutOfMemory) = true
wants_memory outcome = false

-- the same, except that lack of memory ends the world
abbrev pub Happens : {A : Type 0} → WorldValue → Event A → Result (Reply A) WorldError → WorldValue → Type 0
Happens old event (Err OutOfMemory) new =
    (mid : WorldValue) × Attempts old event (Err OutOfMemory) mid × (new ≡ ended mid)
Happens old event outcome new = Attempts old event outcome new

-- from old, the event may have this outcome and lead to new; a refusal has the first cause and changes nothing
unfoldable pub Step : {A : Type 0} → WorldValue → Event A → Result (Reply A) WorldError → WorldValue → Type 0
Step old event outcome new =
    MatchOption (fault_of old event) (Happens old event outcome new) (λ fault. (outcome ≡ Err fault) × (new ≡ old))

-- events one after another
abbrev pub Runs : {A : Type 0} → WorldValue → List (Event A) → List (Result (Reply A) WorldError) → WorldValue → Type 0
Runs old [] [] new = new ≡ old
Runs old (event ∷ events) (outcome ∷ outcomes) new =
    (mid : WorldValue) × Step old event outcome mid × Runs mid events outcomes new
Runs old [] (outcome ∷ outcomes) new = ⊥
Runs old (event ∷ events) [] new = ⊥
