-- What a book's readers return after it booked an entry, compared with before.
use Rattle.std.specs.Prelude.{◌≡◌, ◌≢◌, ℕ, ◌+◌, List, length}
use Rattle.std.specs.List.{list_any}
use Rattle.rights_types.specs.Entries.{EntryValue, own, closes}
use Rattle.rights_types.specs.Moves.{is_close}
use Rattle.rights_types.specs.Rights.{issued, spent, out, to, taken_back, back}
use Rattle.rights_types.specs.declared.moves.Move.{Move}
use Rattle.rights_book.specs.Books.{BookValue, sites, peer, account, received_by, held_by}

-- these moves are the next entry of the book's own site
pub record OwnLeaves (old : BookValue) (ms : List Move) (new : BookValue) : Type 0 where
  pub same_me : new.me ≡ old.me
  pub same_sites : sites new ≡ sites old
  pub number : new.own.end ≡ old.own.end + length ms
  pub closed : new.own.closed ≡ list_any is_close ms
  pub issues : new.own.issued ≡ old.own.issued + issued ms
  pub spends : new.own.spent ≡ old.own.spent + spent ms
  pub gives : new.own.given ≡ old.own.given + out ms
  pub takes_back : new.own.back ≡ old.own.back + taken_back ms
  pub gives_to : (j : ℕ) → (peer new j).given ≡ (peer old j).given + to j ms
  pub takes_back_from : (j : ℕ) → (peer new j).back ≡ (peer old j).back + back j ms
  pub holds : held_by new + spent ms + out ms ≡ held_by old + issued ms + taken_back ms
  pub same_received : received_by new ≡ received_by old
  pub same_applied : (o : ℕ) → (peer new o).log ≡ (peer old o).log
  pub same_received_from : (o : ℕ) → (peer new o).received ≡ (peer old o).received

-- e is the next entry of another site o
pub record ApplyLeaves (old : BookValue) (o : ℕ) (e : EntryValue) (new : BookValue) : Type 0 where
  pub same_me : new.me ≡ old.me
  pub same_sites : sites new ≡ sites old
  pub same_own : new.own ≡ old.own
  pub same_given_to : (j : ℕ) → (peer new j).given ≡ (peer old j).given
  pub same_back : (j : ℕ) → (peer new j).back ≡ (peer old j).back
  pub applied : (peer new o).log.end ≡ own e
  pub closed : (account new o).closed ≡ closes e
  pub received_from : (peer new o).received ≡ (peer old o).received + to old.me e.moves
  pub receives : received_by new ≡ received_by old + to old.me e.moves
  pub holds : held_by new ≡ held_by old + to old.me e.moves
  pub same_applied : (k : ℕ) → k ≢ o → (peer new k).log ≡ (peer old k).log
  pub same_account : (k : ℕ) → k ≢ o → account new k ≡ account old k
  pub same_received_from : (k : ℕ) → k ≢ o → (peer new k).received ≡ (peer old k).received
