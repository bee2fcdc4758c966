use Rattle.apply_lanes.proofs.KeptLaws.{any_handed}
use Rattle.std.proofs.Common.{◌≡◌, ◌-◌, arith}
use Rattle.rights_types.specs.Rights.{issued, spent}
use Rattle.rights_protocol.specs.Crashes.Record.{Wrote}
use Rattle.apply_lanes.proofs.KeptLaws.{kept_write}
use Rattle.apply_lanes.proofs.JournalLaws.{steps_replay, seen_some}
use Rattle.apply_lanes.proofs.RecordLaws.{replayed_lists}
use Rattle.apply_lanes.proofs.kept.Kept.replay_own.Goals as goal

pub invariant_of-self-2 : goal.invariant_of-self-2
invariant_of-self-2 g c =
    let keeps = c.in_ok-replay_own.ensures.keeps in
    let more : issued c.args.entry.now.moves ≡ c.issued.result - c.issued-issued.result
    = omega (arith, c.issued.ensures.booked, c.issued-issued.ensures.booked, keeps.leaves.issues) in
    let used : spent c.args.entry.now.moves ≡ c.spent.result - c.spent-spent.result
    = omega (arith, c.spent.ensures.booked, c.spent-spent.ensures.booked, keeps.leaves.spends) in
    let has = replayed_lists _ _ c.replay_own.new.self (Wrote c.args.entry.now) c.note.new.self.items c.self.invariant
    c.in_ok-replay_own.ensures.ok c.note.ensures.items in
    any_handed c.note.new.self.handed c.note.new.self.lines (kept_write _ _ _ c.args.entry.now.moves _ _ _ _ _ c.self.invariant keeps.log keeps.leaves has
    more used c.add.ensures.sum c.add-2.ensures.sum)

pub returns-clause-step : goal.returns-clause-step
returns-clause-step g c =
    let id = g.D.DeskNames.id in
    seen_some id _ _ c.replay_own.new.self c.self.view_is
    (steps_replay id _ c.replay_own.new.self (Wrote c.args.entry.now) c.self.invariant c.in_ok-replay_own.ensures.ok)
