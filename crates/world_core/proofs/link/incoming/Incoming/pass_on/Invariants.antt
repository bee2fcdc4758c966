use Rattle.std.proofs.Common.{◌≡◌, ◌+◌, ◌≤◌, ◌++◌, length, map, reverse, vec_capacity}
use Rattle.inbound.specs.Inbounds.{ready_in}
use Rattle.world_core.specs.LinkEvents.{reported}
use Rattle.world_core.proofs.link.incoming.Incoming.pass_on.Given as goal

abbrev pub invariant-loop-verdict : goal.invariant-loop-verdict
invariant-loop-verdict g l = record {
  put : l.self.put.items ++ ready_in (reverse l.scratch.verdicts.items) ≡ l.fn.self.put.items ++ ready_in
      l.fn.scratch.verdicts.items;
  reported : l.scratch.reported.items ++ map reported (reverse l.scratch.verdicts.items) ≡ l.fn.scratch.reported.items
      ++ map reported l.fn.scratch.verdicts.items;
  rest : l.self ≡ record l.fn.self { put = l.self.put };
  put_fits : length l.self.put.items + length l.scratch.verdicts.items ≤ vec_capacity l.fn.self.put;
  reported_fits : length l.scratch.reported.items + length l.scratch.verdicts.items ≤ vec_capacity
      l.fn.scratch.reported;
  put_room : vec_capacity l.self.put ≡ vec_capacity l.fn.self.put;
  reported_room : vec_capacity l.scratch.reported ≡ vec_capacity l.fn.scratch.reported;
  verdicts_room : vec_capacity l.scratch.verdicts ≡ vec_capacity l.fn.scratch.verdicts;
}

abbrev pub decreases-loop-verdict : goal.decreases-loop-verdict
decreases-loop-verdict g l = length l.scratch.verdicts.items
