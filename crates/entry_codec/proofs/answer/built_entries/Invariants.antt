use Rattle.std.proofs.Common.{◌≡◌, ◌+◌, ◌≤◌, length}
use Rattle.std.specs.Prelude.{IfSome}
use Rattle.rights_types.specs.declared.limits.TheConstants.{MAX_LINE}
use Rattle.entry_codec.specs.Parts.{left, parts_left}
use Rattle.entry_codec.specs.Reading.{entries_of}
use Rattle.entry_codec.proofs.AnswerMessages.{AreKeptUpTo}
use Rattle.entry_codec.proofs.answer.built_entries.Given as goal

abbrev pub invariant-loop-rest : goal.invariant-loop-rest
invariant-loop-rest g l = record {
  read : AreKeptUpTo l.entries.items l.count (entries_of (1 + l.count) l.origin (parts_left l.rest))
      (entries_of 1 l.origin (parts_left l.fn.parts));
  room : l.count + length (left 59 l.rest) ≤ MAX_LINE + 1;
  short : IfSome l.rest (λ text. length text.now ≤ MAX_LINE);
  slots : length l.kept ≡ 17;
}

abbrev pub decreases-loop-rest : goal.decreases-loop-rest
decreases-loop-rest g l = length (left 59 l.rest)
