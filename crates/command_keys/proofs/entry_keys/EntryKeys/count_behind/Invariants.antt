use Rattle.std.proofs.Common.{◌≤◌, ◌<◌, ◌-◌, ℕ, List, length, take, drop, All}
use Rattle.command_keys.specs.declared.outcome.Written.{Written}
use Rattle.command_keys.proofs.entry_keys.EntryKeys.count_behind.Given as goal

-- those before `low` are behind the number, and those from `high` on are not
abbrev pub invariant-halves : goal.invariant-halves
invariant-halves g l = record {
  order : l.low ≤ l.high;
  within : l.high ≤ length l.self.entries;
  behind : All (λ (e : List ℕ × Written). l.number < e.1.number) (take l.low l.self.entries);
  others : All (λ (e : List ℕ × Written). e.1.number ≤ l.number) (drop l.high l.self.entries);
}

abbrev pub decreases-halves : goal.decreases-halves
decreases-halves g l = l.high - l.low
