use Rattle.std.proofs.Common.{◌↔◌, drop}
use Rattle.world_core.specs.IncomingLists.{NoneAhead}
use Rattle.world_core.proofs.link.incoming.none_ahead.Given as goal

abbrev pub invariant-loop-entry : goal.invariant-loop-entry
invariant-loop-entry g l = NoneAhead l.fn.number l.entries ↔ NoneAhead l.end (drop l.entry-index l.entries)
