use Rattle.std.proofs.Common.{◌≡◌, ◌==◌, ◌+◌, take}
use Rattle.std.specs.List.{count_by}
use Rattle.transfer_world.proofs.script.commands.count_words.Given as goal

-- a word more than there are spaces so far
abbrev pub invariant-loop-byte : goal.invariant-loop-byte
invariant-loop-byte l = l.count ≡ count_by (λ b. b == 32) (take l.byte-index l.text) + 1
