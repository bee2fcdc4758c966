use Rattle.std.proofs.Common.{◌≡◌, ◌-◌, length, take, drop}
use Rattle.std.specs.Prelude.{replicate}
use Rattle.command_keys.proofs.key.Key.known.Given as goal

abbrev pub invariant-loop-i : goal.invariant-loop-i
invariant-loop-i l = record {
  whole : length l.places ≡ 64;
  copied : take l.i l.places ≡ take l.i l.text;
  zeros : drop l.i l.places ≡ replicate (64 - l.i) 0;
}
