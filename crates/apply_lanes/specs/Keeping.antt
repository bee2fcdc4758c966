-- What becomes of the keys of commands under the lock.
use Rattle.std.specs.Prelude.{◌≡◌, ◌⊎◌, ℕ, Bool, true, false, List, []}
use Rattle.command_keys.specs.Books.{KeyBookValue, with_record}
use Rattle.site_records.specs.KeyRecords.{TakesKey}
use Rattle.apply_lanes.specs.Kepts.{KeptValue, no_book}

-- a journal is kept from now on, which has all keys so far; or the site takes no keys
pub record KeepsJournal (old new : KeyBookValue) : Type 0 where
  pub keys : new.keys ≡ old.keys
  pub recorded : new.is_recorded ≡ true
  pub none : new.unrecorded ≡ []

abbrev pub IsJournaled : KeyBookValue → KeyBookValue → Type 0
IsJournaled old new = KeepsJournal old new ⊎ ((old ≡ no_book) × (new ≡ old))

-- all keys are in the journal
abbrev pub all_recorded : KeyBookValue → ℕ → KeyBookValue
all_recorded book room = record book { unrecorded = []; room = room }

-- with the memory for more keys that this book has
abbrev pub with_room : KeptValue → KeyBookValue → KeptValue
with_room k book = record k {
  keys = record k.keys { keys = record k.keys.keys { room = book.keys.room }; room = book.room };
}

-- the key of a record is remembered, with the entry of the log that has this number
pub record ReplaysOne (old : KeptValue) (key : List ℕ) (number : ℕ) (new : KeptValue) : Type 0 where
  pub takes : TakesKey old.keys.keys old.desk.ledger.log.entries key number new.keys.keys
  pub rest : new ≡ record old {
    keys = record old.keys {
      keys = new.keys.keys;
      unrecorded = with_record old.keys key number;
      room = new.keys.room;
    };
  }

-- .. by whether the site takes keys
abbrev pub ReplaysKey : Bool → KeptValue → List ℕ → ℕ → KeptValue → Type 0
ReplaysKey true old key number new = ReplaysOne old key number new
ReplaysKey false old key number new = new ≡ old
