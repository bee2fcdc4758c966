-- A program that never reached its script.
use Rattle.std.proofs.Common.{◌≡◌, subst, refl, ℕ, List, Option, Err}
use Rattle.transfer_world.proofs.RunLaws.{nothing_ran}
use Rattle.line_streams.specs.declared.fault.ConversationError.TheVariants as script_fault
use Rattle.site_words.specs.Asked.{Asked, script}
use Rattle.site_words.specs.Words.{MayAnswer, MayRefuse}
use Rattle.rights_program.specs.Faults.{fault_of_words}
use Rattle.rights_program.specs.Scripts.{Answered}
use Rattle.rights_program.specs.declared.fault.ProgramError.TheVariants.{OutOfMemory as NoMemory}
use Rattle.site_words.specs.declared.words.WordsFault.{WordsFault}
use Rattle.site_words.specs.declared.words.WordsFault.TheVariants as words

pub none_ran : (A : Type 0) (given held : Option (List ℕ)) → Answered A given given held held (Err NoMemory)
none_ran A given held = let ran = nothing_ran A given held in (Err script_fault.OutOfMemory, refl, ran.0, ran.1)

pub none_answered : (A : Type 0) (given held : Option (List ℕ)) (asked : Asked) (fault : WordsFault)
    → MayAnswer asked (Err fault) → asked ≡ script
    → Answered A given given held held (Err (fault_of_words fault))
none_answered A given held asked words.Refused h same = absurd (subst MayRefuse same h)
none_answered A given held asked words.OutOfMemory h same = none_ran A given held
