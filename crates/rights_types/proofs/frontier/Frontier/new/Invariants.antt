use Rattle.std.proofs.Common.{◌≡◌, ◌-◌, length, take, drop}
use Rattle.std.specs.Prelude.{replicate}
use Rattle.std.specs.List.{All}
use Rattle.rights_types.specs.Ranges.{IsNumber}
use Rattle.rights_types.proofs.frontier.Frontier.new.Given as goal

abbrev pub invariant-loop-i : goal.invariant-loop-i
invariant-loop-i l =
    (length l.kept ≡ 16) × (take l.i l.kept ≡ take l.i l.numbers) × (drop l.i l.kept ≡ replicate (16 - l.i) 0)
    × All IsNumber (take l.i l.numbers)
