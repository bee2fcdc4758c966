use Rattle.std.proofs.Common.{take}
use Rattle.std.specs.List.{All}
use Rattle.rights_types.specs.Entries.{IsEntry}
use Rattle.rights_types.proofs.answer.all_valid.Given as goal

abbrev pub invariant-loop-entry : goal.invariant-loop-entry
invariant-loop-entry g l = All IsEntry (take l.entry-index l.entries)
