use Rattle.std.proofs.Common.{◌≢◌, ℕ, List, take, All}
use Rattle.command_keys.specs.declared.outcome.Written.{Written}
use Rattle.command_keys.proofs.entry_keys.EntryKeys.key_anywhere.Given as goal

-- none of the keys so far is that of the entry
abbrev pub invariant-loop-place : goal.invariant-loop-place
invariant-loop-place g l = All (λ (e : List ℕ × Written). e.1.number ≢ l.number) (take l.place l.self.entries)
