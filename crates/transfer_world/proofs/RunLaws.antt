-- How a script ends.
use Rattle.std.proofs.Common.{◌≡◌, refl, subst, ℕ, List, Option, None, Result, Ok, Err}
use Rattle.std.specs.Io.KnownBytes.{IsAtEnd}
use Rattle.line_streams.specs.declared.fault.ConversationError.{ConversationError}
use Rattle.line_streams.specs.declared.fault.ConversationError.TheVariants.{OutOfMemory}
use Rattle.line_streams.specs.declared.handler.EndedBy.{EndedBy}
use Rattle.line_streams.specs.declared.handler.EndedBy.TheVariants.{Input, Handler}
use Rattle.line_streams.proofs.RunLaws.{EndedAs, nothing_ran as no_line_ran}
use Rattle.world_core.specs.Values.{WorldValue}
use Rattle.transfer_world.specs.Talk.{ScriptAnswers, Talk, EndsBy}

-- no fault ended it
abbrev pub ended_by : EndedBy → Result EndedBy ConversationError
ended_by by = Ok by

module _ (A : Type 0) (fails : Option WorldValue → Option WorldValue → Type 0) (given left held holds : Option (List ℕ))
    (after start : Option WorldValue) where
  -- how a conversation of a script ended
  abbrev pub Ended : Result EndedBy ConversationError → Type 0
  Ended result = EndedAs (ScriptAnswers A) fails start given left held holds result after

  from_no_world : start ≡ None → (result : Result EndedBy ConversationError) → Ended result
      → EndedAs (ScriptAnswers A) fails None given left held holds result after
  from_no_world fresh result ended =
      subst (λ (world : Option WorldValue). EndedAs (ScriptAnswers A) fails world given left held holds result after)
      fresh ended

  -- no line ends a script, so its input does
  pub script_done : start ≡ None → (by : EndedBy) → Ended (Ok by)
      → (talk : Talk A given left held holds) × EndsBy (Ok tt) talk
  script_done fresh Input ended = let whole = from_no_world fresh (Ok Input) ended in (whole.0, whole.1)
  script_done fresh Handler ended = absurd ended.2.ends

  pub script_failed : start ≡ None → (fault : ConversationError) → Ended (Err fault)
      → (talk : Talk A given left held holds) × EndsBy (Err fault) talk
  script_failed fresh fault ended = let whole = from_no_world fresh (Err fault) ended in (whole.0, whole.1)

  pub script_read : (by : EndedBy) → Ended (Ok by) → (ended_by by ≡ ended_by Input → IsAtEnd left) → IsAtEnd left
  script_read Input ended all = all refl
  script_read Handler ended all = absurd ended.2.ends

pub nothing_ran : (A : Type 0) (given held : Option (List ℕ))
    → (talk : Talk A given given held held) × EndsBy (Err OutOfMemory) talk
nothing_ran A given held =
    let ran = no_line_ran (ScriptAnswers A) (λ before after. Option WorldValue) None given held in
    (ran.0, ran.1)
