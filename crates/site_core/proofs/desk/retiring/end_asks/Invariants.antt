use Rattle.std.proofs.Common.{◌≡◌, drop}
use Rattle.rights_types.specs.Messages.{AskValue}
use Rattle.transfer_manager.specs.Managers.{SameSystem}
use Rattle.transfer_manager.specs.AskAnswers.{IsAnswered}
use Rattle.site_core.specs.Desks.{after_grants}
use Rattle.site_core.proofs.desk.retiring.end_asks.Given as goal

abbrev pub invariant-loop-m : goal.invariant-loop-m
invariant-loop-m l = record {
  ended : after_grants l.me l.origin (drop l.m-index l.moves) l.manager
      ≡ after_grants l.me l.origin l.moves l.initial.manager;
  same : SameSystem l.initial.manager l.manager;
  answered : (past : AskValue) → IsAnswered l.initial.manager past → IsAnswered l.manager past;
}
