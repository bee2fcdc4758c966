-- The effect of a script's run on its reader and its writer.
use Rattle.std.specs.Prelude.{ℕ, List, Option, Some, None, Result, Ok, Err}
use Rattle.line_streams.specs.Handling.{Answering}
use Rattle.line_streams.specs.Talk.{Talk as LineTalk, EndsBy as LinesEndBy}
use Rattle.line_streams.specs.declared.fault.ConversationError.{ConversationError}
use Rattle.line_streams.specs.declared.handler.EndedBy.TheVariants.{Input}
use Rattle.world_core.specs.Values.{WorldValue}
use Rattle.transfer_world.specs.Script.{LineGets}

-- each line of a script gets a reply
abbrev pub ScriptAnswers : Type 0 → Option WorldValue → List ℕ → Option (List ℕ) → Option WorldValue → Type 0
ScriptAnswers A old line (Some reply) new = LineGets A old line reply new
ScriptAnswers A old line None new = ⊥

-- the reader gave some input, some lines were answered, starting with no world, and the writer took some text
abbrev pub Talk : Type 0 → Option (List ℕ) → Option (List ℕ) → Option (List ℕ) → Option (List ℕ) → Type 0
Talk A given left held holds = LineTalk (ScriptAnswers A) None given left held holds

-- a script ends with its input, or on a fault
abbrev pub EndsBy : {answers : Answering (Option WorldValue)} → {start : Option WorldValue}
    → {given left held holds : Option (List ℕ)}
    → Result (Unit {0}) ConversationError → LineTalk answers start given left held holds → Type 0
EndsBy (Ok _) talk = LinesEndBy (Ok Input) talk
EndsBy (Err fault) talk = LinesEndBy (Err fault) talk
