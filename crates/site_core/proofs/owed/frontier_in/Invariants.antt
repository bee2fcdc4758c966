use Rattle.std.proofs.Common.{◌≡◌, drop}
use Rattle.rights_protocol.specs.Retiring.{numbers_in}
use Rattle.site_core.proofs.owed.frontier_in.Given as goal

abbrev pub invariant-loop-m : goal.invariant-loop-m
invariant-loop-m l = numbers_in (drop l.m-index l.moves) ≡ numbers_in l.moves
