-- The metrics of a site, in their order.
use Rattle.std.specs.Prelude.{ℕ, Bool, List, [], ◌∷◌, ◌++◌, Option, Some, None, codes, decimal, map, if◌then◌else◌}
use Rattle.std.specs.List.{zip}
use Rattle.site_metrics.specs.declared.kind.Kind.{Kind}
use Rattle.site_metrics.specs.declared.kind.Kind.TheVariants.{Gauge, Counter}
use Rattle.site_metrics.specs.declared.metrics.Metrics.{Metrics}
use Rattle.site_metrics.specs.declared.metrics.JournalMetrics.{JournalMetrics}
use Rattle.site_metrics.specs.declared.metrics.PeerMetrics.{PeerMetrics}
use Rattle.site_metrics.specs.declared.peer_value.PeerValue.{PeerValue}
use Rattle.site_metrics.specs.declared.peer_value.PeerValue.TheVariants.{Applied, Buffering, Held, Receiving, Sending, Silent}
use Rattle.site_metrics.specs.declared.peer_value.PeerValue.TheVariants.{Lines, Refused, Dropped, Waiting, WentBack}
use Rattle.site_metrics.specs.Format.{Sample, Family, exposition}
use Rattle.refusals.specs.Refusals.{refusal_names}

-- the word for a type
abbrev pub kind_word : Kind → List ℕ
kind_word Gauge = codes "gauge"
kind_word Counter = codes "counter"

abbrev pub family : Kind → List ℕ → List ℕ → List Sample → Family
family kind name help samples = record { name = name; help = help; kind = kind_word kind; samples = samples }

abbrev pub gauge : List ℕ → List ℕ → List Sample → Family
gauge = family Gauge

abbrev pub counter : List ℕ → List ℕ → List Sample → Family
counter = family Counter

-- a metric with one value has no labels
abbrev pub alone : ℕ → List Sample
alone value = record { labels = []; value = value } ∷ []

abbrev pub bit : Bool → ℕ
bit b = if b then 1 else 0

-- a value for each peer, in the order given
abbrev pub peer_sample : (PeerMetrics → ℕ) → PeerMetrics → Sample
peer_sample value peer = record { labels = codes "{peer=\"" ++ decimal peer.site ++ codes "\"}"; value = value peer }

abbrev pub by_peer : (PeerMetrics → ℕ) → List PeerMetrics → List Sample
by_peer value peers = map (peer_sample value) peers

-- a count for each name of a refusal, even if it is 0
abbrev pub name_sample : List ℕ × ℕ → Sample
name_sample counted = record { labels = codes "{name=\"" ++ counted.0 ++ codes "\"}"; value = counted.1 }

abbrev pub by_name : List ℕ → List Sample
by_name counts = map name_sample (zip refusal_names counts)

abbrev pub rights_metrics : Metrics → List Family
rights_metrics m =
    gauge (codes "rights_held") (codes "Rights that the site holds.") (alone m.held)
    ∷ gauge (codes "rights_queued") (codes "Rights that waiting spends are for.") (alone m.queued)
    ∷ counter (codes "rights_issued_total") (codes "Rights that the site issued.") (alone m.issued)
    ∷ counter (codes "rights_spent_total") (codes "Rights that the site spent.") (alone m.spent)
    ∷ counter (codes "rights_received_total") (codes "Rights that came from other sites.") (alone m.received)
    ∷ counter (codes "rights_given_total") (codes "Rights that went to other sites, taken back or not.") (alone m.given)
    ∷ counter (codes "rights_taken_back_total") (codes "Rights taken back after the site they were given to closed.")
    (alone m.taken_back)
    ∷ []

abbrev pub state_metrics : Metrics → List Family
state_metrics m =
    counter (codes "rights_log_moves_total") (codes "Moves in the site's log: the number of its last entry.")
    (alone m.log_number)
    ∷ gauge (codes "rights_closed") (codes "1 once the site has closed, else 0.") (alone (bit m.closed))
    ∷ gauge (codes "rights_requests_waiting") (codes "Slots of the queue taken by spends that wait.")
    (alone m.requests_waiting)
    ∷ gauge (codes "rights_outcomes_unread") (codes "Slots of the queue taken by outcomes that nobody has read.")
    (alone m.outcomes_unread)
    ∷ gauge (codes "rights_clock_behind_seconds") (codes "How far the wall clock is behind the site's time, rounded up.")
    (alone m.clock_behind)
    ∷ []

abbrev pub client_metrics : Metrics → List Family
client_metrics m =
    gauge (codes "rights_clients") (codes "HTTP connections that stand.") (alone m.clients)
    ∷ counter (codes "rights_commands_total") (codes "Commands answered, of all clients and standard input.")
    (alone m.commands)
    ∷ counter (codes "rights_commands_refused_total") (codes "Commands refused, by the name of the refusal.")
    (by_name m.refused)
    ∷ counter (codes "rights_log_lines_dropped_total")
    (codes "Log lines that were not written, since the log was not read.") (alone m.log_lines_dropped)
    ∷ []

-- the metric with this value of each peer
abbrev pub peer_metric : PeerValue → List PeerMetrics → Family
peer_metric Applied peers
    = counter (codes "rights_peer_moves_applied_total") (codes "Moves of the peer's log that are applied.")
    (by_peer (λ p. p.applied) peers)
peer_metric Buffering peers
    = gauge (codes "rights_peer_buffering") (codes "1 while entries of the peer wait for one that is missing, else 0.")
    (by_peer (λ p. bit p.buffering) peers)
peer_metric Held peers = gauge (codes "rights_peer_entries_held")
    (codes "Entries of the peer that wait for one that is missing.") (by_peer (λ p. p.held) peers)
peer_metric Receiving peers
    = gauge (codes "rights_peer_receiving") (codes "1 while a connection from the peer stands, else 0.")
    (by_peer (λ p. bit p.receiving) peers)
peer_metric Sending peers
    = gauge (codes "rights_peer_sending") (codes "1 while a connection to the peer stands, else 0.")
    (by_peer (λ p. bit p.sending) peers)
peer_metric Silent peers
    = gauge (codes "rights_peer_silent_seconds")
    (codes "How long nothing has come from the peer, once that makes it silent; else 0.") (by_peer (λ p. p.silent) peers)
peer_metric Lines peers = counter (codes "rights_peer_lines_total") (codes "Lines that came from the peer.")
    (by_peer (λ p. p.lines) peers)
peer_metric Refused peers
    = counter (codes "rights_peer_lines_refused_total") (codes "Lines from the peer that were skipped.")
    (by_peer (λ p. p.refused) peers)
peer_metric Dropped peers
    = counter (codes "rights_peer_lines_dropped_total")
    (codes "Lines for the peer that found no room in the outbox, or were lost by a failed connection or write.")
    (by_peer (λ p. p.dropped) peers)
peer_metric Waiting peers
    = gauge (codes "rights_peer_lines_waiting") (codes "Lines that wait in the peer's outbox.")
    (by_peer (λ p. p.waiting) peers)
peer_metric WentBack peers
    = counter (codes "rights_peer_number_went_back_total")
    (codes "Beats of the peer below what was applied of its log: it was started anew, or runs twice.")
    (by_peer (λ p. p.went_back) peers)

abbrev pub log_metrics : List PeerMetrics → List Family
log_metrics peers = map (λ v. peer_metric v peers) (Applied ∷ Buffering ∷ Held ∷ Receiving ∷ Sending ∷ Silent ∷ [])

abbrev pub line_metrics : List PeerMetrics → List Family
line_metrics peers = map (λ v. peer_metric v peers) (Lines ∷ Refused ∷ Dropped ∷ Waiting ∷ WentBack ∷ [])

abbrev pub values_metrics : JournalMetrics → List Family
values_metrics j =
    counter (codes "rights_journal_records_total")
    (codes "Records made for the journal, those of earlier processes among them.") (alone j.records)
    ∷ counter (codes "rights_journal_records_durable_total") (codes "Records of the journal that are on its disk.")
    (alone j.durable)
    ∷ gauge (codes "rights_journal_bytes") (codes "Bytes of the journal up to its last sync.") (alone j.bytes)
    ∷ gauge (codes "rights_journal_synced_timestamp_seconds")
    (codes "When the journal was last synced, in seconds since 1970.") (alone j.synced)
    ∷ []

-- none without a journal
abbrev pub journal_metrics : Option JournalMetrics → List Family
journal_metrics None = []
journal_metrics (Some j) = values_metrics j

abbrev pub all_metrics : Metrics → List PeerMetrics → List Family
all_metrics m peers = rights_metrics m
    ++ (state_metrics m ++ (client_metrics m ++ (log_metrics peers ++ (line_metrics peers ++ journal_metrics m.journal))))

-- the whole text of a site's metrics
abbrev pub metrics_text : Metrics → List PeerMetrics → List ℕ
metrics_text m peers = exposition (all_metrics m peers)
