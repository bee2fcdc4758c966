use Rattle.std.proofs.Common.{◌≡◌, ◌++◌, length}
use Rattle.std.specs.Vec.Iter.{into_iter_items, into_iter_len}
use Rattle.inbound.specs.Inbounds.{ready_in}
use Rattle.link_intake.specs.Intakes.{PutsAll}
use Rattle.link_intake.proofs.intake.put_ready.Given as goal

abbrev pub invariant-loop-verdict : goal.invariant-loop-verdict
invariant-loop-verdict g l = record {
  items : l.yielded ++ into_iter_items l.verdict-iterator ≡ into_iter_items l.initial.verdict-iterator;
  count : into_iter_len l.verdict-iterator ≡ length (into_iter_items l.verdict-iterator);
  lane : l.inlet.lane ≡ l.initial.inlet.lane;
  put : PutsAll l.initial.inlet.put l.initial.ended (ready_in l.yielded) l.ended l.inlet;
}
