-- What a view of a desk says.
use Rattle.std.specs.Prelude.{◌≡◌}
use Rattle.rights_types.specs.Chains.{end, moves_of}
use Rattle.rights_types.specs.Rights.{issued, spent, out, taken_back}
use Rattle.rights_book.specs.Books.{received_by, held_by}
use Rattle.request_queue.specs.Queues.{total_of}
use Rattle.site_core.specs.Desks.{DeskValue}
use Rattle.site_core.specs.Faults.{has_closed}
use Rattle.thread_parts.specs.declared.view.DeskView.{DeskView}

-- the values of the desk's readers
pub record IsViewOf (d : DeskValue) (v : DeskView) : Type 0 where
  pub site : v.site ≡ d.ledger.log.site
  pub closed : v.closed ≡ has_closed d
  pub number : v.number ≡ end d.ledger.log.entries
  pub issued : v.issued ≡ issued (moves_of d.ledger.log.entries)
  pub spent : v.spent ≡ spent (moves_of d.ledger.log.entries)
  pub given : v.given ≡ out (moves_of d.ledger.log.entries)
  pub back : v.back ≡ taken_back (moves_of d.ledger.log.entries)
  pub received : v.received ≡ received_by d.ledger.book
  pub held : v.held ≡ held_by d.ledger.book
  pub queued : v.queued ≡ total_of d.queue.waiting
