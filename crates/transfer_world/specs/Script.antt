-- The reply to a line of a script.
use Rattle.std.specs.Prelude.{◌≡◌, ℕ, List, Option, Some, None, Result, codes}
use Rattle.reply_texts.specs.Texts.{bad_command}
use Rattle.world_core.specs.Values.{WorldValue}
use Rattle.world_core.specs.Worlds.{start}
use Rattle.world_core.specs.Step.{Step}
use Rattle.world_core.specs.declared.reply.Reply.{Reply}
use Rattle.world_core.specs.declared.fault.WorldError.{WorldError}
use Rattle.transfer_world.specs.declared.script.commands.ScriptCommand.{ScriptCommand}
use Rattle.transfer_world.specs.declared.script.commands.ScriptCommand.TheVariants.{Sites, Act, Report}
use Rattle.transfer_world.specs.Commands.{command_of}
use Rattle.transfer_world.specs.Replies.{outcome_text, report_text}

-- the reply to a command, and the world afterwards; there is none before `sites`
abbrev pub CommandGets : {A : Type 0} → Option WorldValue → Option (ScriptCommand A) → List ℕ → Option WorldValue
    → Type 0
CommandGets old None text new = (text ≡ bad_command) × (new ≡ old)
CommandGets None (Some (Sites n)) text new = (text ≡ codes "ok") × (new ≡ Some (start n))
CommandGets None (Some (Act event)) text new = (text ≡ codes "error NoWorld") × (new ≡ None)
CommandGets None (Some Report) text new = (text ≡ codes "error NoWorld") × (new ≡ None)
CommandGets (Some world) (Some (Sites n)) text new = (text ≡ bad_command) × (new ≡ Some world)
CommandGets {A} (Some world) (Some (Act event)) text new =
    (outcome : Result (Reply A) WorldError) × (next : WorldValue) × Step world event outcome next
    × (text ≡ outcome_text next outcome) × (new ≡ Some next)
CommandGets (Some world) (Some Report) text new = (text ≡ report_text world) × (new ≡ Some world)

-- the reply to a line with its line feed
abbrev pub LineGets : Type 0 → Option WorldValue → List ℕ → List ℕ → Option WorldValue → Type 0
LineGets A old line text new = CommandGets {A = A} old (command_of line) text new
