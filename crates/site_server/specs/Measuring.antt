-- What a site reports about itself when it is asked for its metrics or its health.
use Rattle.std.specs.Prelude.{◌≡◌, ℕ, Bool, List, length}
use Rattle.std.specs.List.{All}
use Rattle.rights_book.specs.Books.{peer}
use Rattle.site_core.specs.Desks.{DeskValue}
use Rattle.site_core.specs.Faults.{has_closed}
use Rattle.apply_lanes.specs.Names.{DeskId}
use Rattle.apply_lanes.specs.Kepts.{KeptValue, IsKept}
use Rattle.apply_lanes.specs.Views.{IsViewOf}
use Rattle.site_metrics.specs.Table.{metrics_text}
use Rattle.site_metrics.specs.declared.metrics.Metrics.{Metrics}
use Rattle.site_metrics.specs.declared.metrics.PeerMetrics.{PeerMetrics}
use Rattle.site_server.specs.Journals.{AreJournalMetrics}
use Rattle.site_server.specs.declared.site.measuring.DeskValues.{DeskValues}

-- each value of the desk is in its field; the other fields are counters and values of threads
pub record HasValues (values : DeskValues) (metrics : Metrics) : Type 0 where
  pub held : metrics.held ≡ values.view.held
  pub queued : metrics.queued ≡ values.view.queued
  pub issued : metrics.issued ≡ values.view.issued
  pub spent : metrics.spent ≡ values.view.spent
  pub received : metrics.received ≡ values.view.received
  pub given : metrics.given ≡ values.view.given
  pub taken_back : metrics.taken_back ≡ values.view.back
  pub log_number : metrics.log_number ≡ values.view.number
  pub closed : metrics.closed ≡ values.view.closed
  pub waiting : metrics.requests_waiting ≡ values.waiting
  pub unread : metrics.outcomes_unread ≡ values.unread

-- this value is how far the desk applied that peer's log
abbrev pub HasApplied : DeskValue → PeerMetrics → Type 0
HasApplied d metrics = metrics.applied ≡ (peer d.ledger.book metrics.site).log.end

-- the values, and how far each peer's log was applied, are those of the desk at one moment
pub record AreValues (id : DeskId) (values : DeskValues) (peers : List PeerMetrics) : Type 0 where
  pub kept : KeptValue
  pub valid : IsKept id kept
  pub of_desk : IsViewOf kept.desk values.view
  pub waiting : values.waiting ≡ length kept.desk.queue.waiting
  pub unread : values.unread ≡ length kept.desk.queue.outcomes
  pub applied : All (HasApplied kept.desk) peers

-- the same, and the site's metrics have these values, and the counts of the journal at one moment
pub record AreMetrics (id : DeskId) (metrics : Metrics) (peers : List PeerMetrics) : Type 0 where
  pub values : DeskValues
  pub of_desk : AreValues id values peers
  pub has : HasValues values metrics
  pub journal : AreJournalMetrics metrics.journal

-- the text of such metrics
pub record TellsMetrics (id : DeskId) (text : List ℕ) : Type 0 where
  pub metrics : Metrics
  pub peers : List PeerMetrics
  pub read : AreMetrics id metrics peers
  pub says : text ≡ metrics_text metrics peers

-- whether the desk is closed, at one moment
pub record TellsClosed (id : DeskId) (is_closed : Bool) : Type 0 where
  pub kept : KeptValue
  pub valid : IsKept id kept
  pub says : is_closed ≡ has_closed kept.desk
