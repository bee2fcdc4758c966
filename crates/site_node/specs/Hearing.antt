-- The effect of a peer's messages, and the answers: from the desk and a sink before to the desk and the sink
-- afterwards.
use Rattle.std.specs.Prelude.{◌≡◌, ℕ, List, Bool, Option, Some, None}
use Rattle.rights_types.specs.Messages.{MessageValue, QueryValue, AnswerValue, AskValue, DenyValue}
use Rattle.rights_types.specs.Messages.MessageValue.{AnAnswer}
use Rattle.origin_log.specs.declared.fault.ReadError.{ReadError}
use Rattle.origin_log.specs.Answering.{answer_to_query}
use Rattle.origin_log.specs.Faults.{query_fault}
use Rattle.transfer_manager.specs.Managers.{ended}
use Rattle.site_core.specs.Desks.{DeskValue}
use Rattle.site_core.specs.Calls.{answer_of, denial_of, DeskAnswers, AnswerKeeps}
use Rattle.apply_lanes.specs.Recording.{with_answered}
use Rattle.apply_lanes.specs.Kepts.{KeptValue}
use Rattle.site_node.specs.Sending.{OffersIf}

-- a query that is refused gets no answer
abbrev pub unless_refused : Option ReadError → AnswerValue → Option MessageValue
unless_refused None answer = Some (AnAnswer answer)
unless_refused (Some fault) answer = None

-- a denial ends the ask of its number to that peer, if it is outstanding; nothing else changes
abbrev pub NotesDenial : KeptValue → DenyValue → KeptValue → Type 0
NotesDenial old denial new =
    new ≡ record old { desk = record old.desk { manager = ended old.desk.manager denial.denier denial.ask } }

module _ {S : Type 0} (takes : S → List ℕ → Bool → S → Type 0) where
  -- the line of this message was offered, if there is a message; whether it found space is not reported
  abbrev pub Replies : Option MessageValue → S → S → Type 0
  Replies message before after = (sent : ℕ) × OffersIf takes message before sent after

  -- the line of the log's answer was offered, if the query is not refused
  abbrev pub AnswersQuery : DeskValue → QueryValue → S → S → Type 0
  AnswersQuery d query before after =
      Replies (unless_refused (query_fault d.ledger.log query) (answer_to_query query d.ledger.log)) before after

  -- a grant was written and recorded; or a denial was recorded, and its line offered; or nothing was done
  pub record AnswersAsk (old : KeptValue) (ask : AskValue) (before : S) (new : KeptValue) (after : S) : Type 0 where
    pub number : Option ℕ
    pub answer : DeskAnswers old.desk ask (answer_of old.desk ask) number new.desk
    pub keeps : AnswerKeeps old.desk ask (answer_of old.desk ask) new.desk
    pub rest : new ≡ record old {
      desk = new.desk;
      records = with_answered old.records (answer_of old.desk ask) new.desk;
    }
    pub denial : Replies (denial_of ask (answer_of old.desk ask)) before after
