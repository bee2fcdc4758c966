-- The lists of a system of sites. In whatever form its sites store them, a system is modelled by these functions.
use Rattle.std.specs.Prelude.{ℕ, ◌≤◌, List}
use Rattle.rights_types.specs.Entries.{EntryValue}
use Rattle.rights_types.specs.Rights.{held, way, received}

-- How many sites there are, numbered from 1, and the log of each. For a site s and an origin o, `reached s o`, `put s
-- o` and `applied s o` are the entries of o's log that reached s, each listed once in the order of arrival; those that
-- its buffer delivered, in order; and those that it applied.
pub record Lists : Type 0 where
  pub count : ℕ
  pub log : ℕ → List EntryValue
  pub reached : ℕ → ℕ → List EntryValue
  pub put : ℕ → ℕ → List EntryValue
  pub applied : ℕ → ℕ → List EntryValue

-- s is one of n sites
abbrev pub IsSiteOf : ℕ → ℕ → Type 0
IsSiteOf n s = (1 ≤ s) × (s ≤ n)

-- the rights that s received, and those that it holds
abbrev pub received_at : Lists → ℕ → ℕ
received_at w s = received w.count s (w.applied s)

abbrev pub held_at : Lists → ℕ → ℕ
held_at w s = held w.count s (w.log s) (w.applied s)

-- the rights in transit from o to s: o gave them, and s has not applied the gift
abbrev pub on_way : Lists → ℕ → ℕ → ℕ
on_way w o s = way s (w.log o) (w.applied s o)
