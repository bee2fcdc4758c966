-- What identifies a desk that threads share.
use Rattle.std.specs.Prelude.{◌≡◌, ℕ, ◌+◌, []}
use Rattle.rights_book.specs.Books.{sites}
use Rattle.rights_book.specs.StandsFor.{StandsForApplied}
use Rattle.site_core.specs.Desks.{DeskValue}
use Rattle.apply_lanes.specs.declared.names.Blanks.{Blanks}
use Rattle.apply_lanes.specs.declared.names.TheConstants.{SEATS, APPLIERS}

-- the names of its four ledgers, its site, and how many sites the system has
pub record DeskId : Type 0 where
  pub issued : ℕ
  pub spent : ℕ
  pub number : ℕ
  pub received : ℕ
  pub site : ℕ
  pub sites : ℕ

-- the identity of a desk with these blanks
abbrev pub id_of : DeskValue → Blanks → DeskId
id_of d blanks = record {
  issued = blanks.issued.name;
  spent = blanks.spent.name;
  number = blanks.number.name;
  received = blanks.received.name;
  site = d.ledger.log.site;
  sites = sites d.ledger.book;
}

-- one part for each seat, the clock's included, or for each applier, and one for the desk
pub record AreBlank (blanks : Blanks) : Type 0 where
  pub issued : blanks.issued.parts ≡ SEATS + 2
  pub spent : blanks.spent.parts ≡ SEATS + 2
  pub number : blanks.number.parts ≡ APPLIERS + 1
  pub received : blanks.received.parts ≡ APPLIERS + 1

-- the desk wrote nothing and applied nothing
pub record IsUnused (d : DeskValue) : Type 0 where
  pub nothing_written : d.ledger.log.entries ≡ []
  pub nothing_applied : StandsForApplied (λ o. []) d.ledger.book
