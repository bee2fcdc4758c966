-- Each turn at a desk is one of those of the laws on keys.
use Rattle.std.specs.Prelude.{◌≡◌, ℕ, Bool, List, Some, None, Result, Ok, Err}
use Rattle.rights_types.specs.Entries.{EntryValue}
use Rattle.rights_types.specs.Messages.{AskValue}
use Rattle.rights_protocol.specs.Crashes.{Record}
use Rattle.request_queue.specs.Queues.{without_tickets}
use Rattle.site_core.specs.Calls.{after_skip}
use Rattle.site_core.specs.declared.fault.DeskError.{DeskError}
use Rattle.site_core.specs.declared.fault.ReplayError.{ReplayError}
use Rattle.site_journal.specs.Batch.{records_in}
use Rattle.apply_lanes.specs.Names.{DeskId}
use Rattle.apply_lanes.specs.Kepts.{KeptValue, IsKept, SeatValue}
use Rattle.apply_lanes.specs.Appliers.{ApplierValue}
use Rattle.apply_lanes.specs.declared.applier.StepError.{StepError}
use Rattle.apply_lanes.specs.declared.recorder.RecordLost.{RecordLost}
use Rattle.site_words.specs.declared.commands.DeskCommand.{DeskCommand}
use Rattle.site_node.specs.Acting.{Acts}
use Rattle.site_node.specs.Keyed.{ActsKeyed}
use Rattle.site_node.specs.Remembering.{KeyTurn, HasKeyTurn}
use Rattle.site_node.specs.Remembering.KeyTurn.{UnderKey, ByTick, HandsOver as HandsOverLines, Aside}
use Rattle.site_node.specs.declared.reply.Reply.{Reply}
use Rattle.site_node.specs.declared.tick.Ticked.{Ticked}
use Rattle.desk_turns.specs.Turns.{ServesDue}
use Rattle.desk_turns.specs.Journaling.{HandsOver, ReplaysOwn, ReplaysAsk}
use Rattle.desk_turns.specs.Applying.{AppliesReady, AppliesHand}
use Rattle.desk_turns.specs.declared.work.HandedOver.{HandedOver}

-- the records that a journal has or was handed, after this turn
abbrev pub handed_after : KeyTurn → KeptValue → List Record
handed_after (UnderKey key command reply) old = old.handed
handed_after ByTick old = old.handed
handed_after (HandsOverLines lines) old = old.records
handed_after Aside old = old.handed

-- it is this turn; and only a hand-over changes what the journal was handed
pub record IsKeyTurn (old : KeptValue) (turn : KeyTurn) (new : KeptValue) : Type 0 where
  pub has : HasKeyTurn old turn new
  pub handed : new.handed ≡ handed_after turn old

-- what each work at a desk is that is valid before and after it, as it is in any turn: of a client, of the clock, of the
-- thread that appends, of a start
pub record WorkIsKeyTurn (old new : KeptValue) : Type 0 where
  pub act : (command : DeskCommand) (was : SeatValue) (reply : Reply) (now : SeatValue) → Acts old was command reply new now
      → IsKeyTurn old Aside new
  pub act_keyed : (key : List ℕ) (command : DeskCommand) (was : SeatValue) (reply : Reply) (now : SeatValue)
      → ActsKeyed old was key command reply new now → IsKeyTurn old (UnderKey key command reply) new
  pub tick : (silent : ℕ → Bool) (time : ℕ) (was : SeatValue) (ticked : Result Ticked DeskError) (now : SeatValue)
      → ServesDue silent old was time ticked new now → IsKeyTurn old ByTick new
  pub hand_over : (handed : HandedOver) → HandsOver old (Ok (Some handed)) new
      → IsKeyTurn old (HandsOverLines (records_in handed.batch)) new
  pub no_journal : HandsOver old (Ok None) new → IsKeyTurn old Aside new
  pub lost : (lost : RecordLost) → HandsOver old (Err lost) new → IsKeyTurn old Aside new
  pub replay_own : (e : EntryValue) (was : SeatValue) (told : Result (Unit {0}) ReplayError) (now : SeatValue)
      → ReplaysOwn e was old told now new → IsKeyTurn old Aside new
  pub replay_ask : (a : AskValue) (told : Result (Unit {0}) ReplayError) → ReplaysAsk a old told new
      → IsKeyTurn old Aside new
  pub skip_tickets : (last : ℕ)
      → new ≡ record old { desk = record old.desk { queue = without_tickets old.desk.queue last } } → IsKeyTurn old Aside new
  pub skip_unpublished : (peer : ℕ) → new ≡ record old { desk = after_skip old.desk peer } → IsKeyTurn old Aside new

abbrev pub AllWorkIsKeyTurn : Type 0
AllWorkIsKeyTurn = (id : DeskId) (old new : KeptValue) → IsKept id old → IsKept id new → WorkIsKeyTurn old new

-- .. and of an applier
pub record ApplyIsKeyTurn (G A : Type 0) (id : DeskId) (old new : KeptValue) : Type 0 where
  pub batch : (was : ApplierValue G A) (result : Result (ℕ × Bool) StepError) (now : ApplierValue G A)
      → AppliesReady id was old result now new → IsKeyTurn old Aside new
  pub again : (e : EntryValue) (was : ApplierValue G A) (told : Result (Unit {0}) StepError) (now : ApplierValue G A)
      → AppliesHand id e was old told now new → IsKeyTurn old Aside new
