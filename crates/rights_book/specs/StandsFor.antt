-- The logs that a book represents.
use Rattle.std.specs.Prelude.{◌≡◌, ℕ, ◌≤◌, true, List, []}
use Rattle.std.specs.List.{All}
use Rattle.rights_types.specs.Entries.{EntryValue}
use Rattle.rights_types.specs.Chains.{moves_of}
use Rattle.rights_types.specs.Moves.{NamesWithin}
use Rattle.rights_types.specs.Rights.{to, back, covers}
use Rattle.rights_types.specs.declared.moves.Move.{Move}
use Rattle.rights_book.specs.Accounts.{account_of}
use Rattle.rights_book.specs.Books.{BookValue, sites, peer, received_by}
use Rattle.rights_book.specs.Known.{known_gifts}

-- this is the log of the book's site: the book has its sums, it names only sites of the system, and given what was
-- received, each of its moves was covered by what was held before it
pub record StandsForOwn (log : List EntryValue) (b : BookValue) : Type 0 where
  pub sums : b.own ≡ account_of log
  pub given_are : (j : ℕ) → (peer b j).given ≡ to j (moves_of log)
  pub back_are : (j : ℕ) → (peer b j).back ≡ back j (moves_of log)
  pub named : All (NamesWithin (sites b)) (moves_of log)
  pub covered : covers (received_by b) (moves_of log) ≡ true

-- this was applied of each other log: the book has its sums, and the sum of all gifts in them
pub record StandsForApplied (applied : ℕ → List EntryValue) (b : BookValue) : Type 0 where
  pub sums : (o : ℕ) → (peer b o).log ≡ account_of (applied o)
  pub received_are : (o : ℕ) → (peer b o).received ≡ to b.me (moves_of (applied o))
  pub gifts_are : (j : ℕ) → 1 ≤ j → j ≤ sites b → (peer b j).gifts ≡ known_gifts (sites b) j applied
  pub none_own : applied b.me ≡ []

-- the book represents its own log and what was applied of each other one
pub record StandsFor (log : List EntryValue) (applied : ℕ → List EntryValue) (b : BookValue) : Type 0 where
  pub of_own : StandsForOwn log b
  pub of_applied : StandsForApplied applied b

-- the entry that the book's site writes next
abbrev pub own_entry : BookValue → List Move → EntryValue
own_entry b ms = record { origin = b.me; prev = b.own.end; moves = ms }
