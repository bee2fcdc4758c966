use Rattle.std.proofs.Common.{◌≡◌, ◌∷◌, ◌++◌, take}
use Rattle.std.specs.List.{flat_map}
use Rattle.transfer_world.specs.Replies.{verdict_text}
use Rattle.transfer_world.proofs.script.answers.put_verdicts.Given as goal

abbrev pub invariant-loop-verdict : goal.invariant-loop-verdict
invariant-loop-verdict g l = record {
  words : l.replies.part ≡ l.initial.replies.part ++ flat_map (λ v. 32 ∷ verdict_text v)
      (take l.verdict-index l.others);
  kept : l.replies.whole ≡ l.fn.replies.whole;
}
