use Rattle.apply_lanes.proofs.KeptLaws.{any_handed}
use Rattle.std.proofs.Common.{ap}
use Rattle.rights_protocol.specs.Schedules.LocalChange.{Other}
use Rattle.rights_protocol.specs.Crashes.Record.{Asked}
use Rattle.site_core.specs.Desks.{DeskValue}
use Rattle.apply_lanes.proofs.StepLaws.{seen, steps_none}
use Rattle.apply_lanes.proofs.RecordLaws.{kept_asked}
use Rattle.apply_lanes.proofs.kept.Kept.replay_ask.Goals as goal

pub invariant_of-self-2 : goal.invariant_of-self-2
invariant_of-self-2 g c =
    let asked = c.in_ok-replay_ask.ensures in
    any_handed c.note.new.self.handed c.note.new.self.lines (kept_asked _ _ c.replay_ask.new.self (Asked c.args.ask.now) _ c.self.invariant
    (ap (λ (d : DeskValue). d.ledger) asked.asks) asked.ok c.note.ensures.items)

pub returns-clause-step : goal.returns-clause-step
returns-clause-step g c =
    let id = g.D.DeskNames.id in
    seen id _ _ Other c.replay_ask.new.self c.self.view_is
    (steps_none id c.self.inside.desk c.replay_ask.new.self (ap (λ (d : DeskValue). d.ledger) c.in_ok-replay_ask.ensures.asks))
