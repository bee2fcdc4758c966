-- What was offered to the outbox of a peer, and the status of a site.
use Rattle.std.proofs.Common.{◌≡◌, ◌∙◌, ℕ, ◌<◌, Option, Some, ap, sym, List, [], ◌∷◌, ◌++◌, length, Result, Ok, Err, OnOk, OnErr, IfOk, refl}
use Rattle.std.proofs.Math.ListN.{get_or}
use Rattle.std.proofs.lemmas.Option.{slice_get-get_or}
use Rattle.rights_types.specs.declared.fault.OutOfMemory.{OutOfMemory}
use Rattle.thread_parts.specs.declared.view.DeskView.{DeskView}
use Rattle.line_streams.specs.Waiting.{Waiting, AddsReply}
use Rattle.apply_lanes.specs.Names.{DeskId}
use Rattle.apply_lanes.specs.Kepts.{KeptValue, IsKept}
use Rattle.site_sockets.specs.declared.peer.PeerState.{PeerState}
use Rattle.site_words.specs.Status.{status_text}
use Rattle.site_words.specs.declared.status_object.JournalView.{JournalView}
use Rattle.site_words.specs.declared.status_object.PeerView.{PeerView}
use Rattle.site_metrics.specs.Table.{metrics_text}
use Rattle.site_metrics.specs.declared.metrics.Metrics.{Metrics}
use Rattle.site_metrics.specs.declared.metrics.PeerMetrics.{PeerMetrics}
use Rattle.site_server.specs.Journals.{IsJournalView}
use Rattle.site_server.specs.Measuring.{AreMetrics, TellsMetrics}
use Rattle.site_server.specs.Outboxes.{SendingValue, SendsAll, SendsFront, SendsToPeer, StopsAtOutbox}
use Rattle.site_core.specs.Desks.{DeskValue}
use Rattle.site_server.specs.Replying.{IsApplied, AreOfPeers, AreViews, TellsStatus}

module _ (id : DeskId) (peers : List PeerState) (index : ℕ) (peer : PeerState) (was now : SendingValue)
    (old new : KeptValue) (is : peer ≡ get_or peers index peer) (within : index < length peers)
    (one : now.turns ≡ was.turns ++ old ∷ new ∷ []) (valid : IsKept id old) where
  pub sends_to_peer : (result : Result ℕ OutOfMemory)
      → IfOk result (λ sent. SendsAll peer was.holds old sent now.holds new)
      → IfOk result (λ sent. SendsToPeer id peers index was sent now)
  sends_to_peer (Ok sent) sends =
      record {
        peer = peer;
        listed = slice_get-get_or peers index peer within ∙ ap (λ (p : PeerState). Some p) (sym is);
        old = old;
        new = new;
        one = one;
        valid = valid;
        sends = sends;
      }
  sends_to_peer (Err fault) sends = tt

  pub stops_at_outbox : (result : Result ℕ OutOfMemory)
      → OnErr result (SendsFront peer was.holds old now.holds new)
      → OnErr result (StopsAtOutbox id peers index was now)
  stops_at_outbox (Ok sent) sends = tt
  stops_at_outbox (Err fault) sends =
      record {
        peer = peer;
        listed = slice_get-get_or peers index peer within ∙ ap (λ (p : PeerState). Some p) (sym is);
        old = old;
        new = new;
        one = one;
        valid = valid;
        sends = sends;
      }

pub tells_status : (id : DeskId) (view : DeskView) (peers slice : List PeerView) (journal : Option JournalView)
    (keys : ℕ) (old new : Waiting) (result : Result (Unit {0}) OutOfMemory)
    → AreViews id view peers keys → IsJournalView journal → slice ≡ peers
    → OnOk result (AddsReply old new (status_text view slice journal keys))
    → OnOk result ((text : List ℕ) × TellsStatus id text × AddsReply old new text)
tells_status id view peers slice journal keys old new (Ok done) views counted same adds = (
  status_text view slice journal keys,
  record {
    view = view;
    peers = peers;
    journal = journal;
    keys = keys;
    views = views;
    counted = counted;
    says = rw same refl;
  },
  adds,
)
tells_status id view peers slice journal keys old new (Err fault) views counted same adds = tt

pub tells_metrics : (id : DeskId) (metrics : Metrics) (peers slice : List PeerMetrics) (old new : Waiting)
    (result : Result (Unit {0}) OutOfMemory)
    → AreMetrics id metrics peers → slice ≡ peers
    → OnOk result ((new.whole ≡ old.whole ++ metrics_text metrics slice) × (new.part ≡ []))
    → OnOk result ((text : List ℕ) × TellsMetrics id text × (new.whole ≡ old.whole ++ text))
tells_metrics id metrics peers slice old new (Ok done) read same adds =
    (metrics_text metrics slice, record { metrics = metrics; peers = peers; read = read; says = rw same refl }, adds.0)
tells_metrics id metrics peers slice old new (Err fault) read same adds = tt

-- one view more, for the next peer
pub views_more : (d : DeskValue) (peers : List PeerState) (views : List PeerView) (peer : PeerState) (view : PeerView)
    → AreOfPeers d peers views → view.site ≡ peer.site → IsApplied d view
    → AreOfPeers d (peers ++ peer ∷ []) (views ++ view ∷ [])
views_more d [] [] peer view h site applied = (site, applied, tt)
views_more d [] (other ∷ views) peer view h site applied = absurd h
views_more d (first ∷ peers) [] peer view h site applied = absurd h
views_more d (first ∷ peers) (other ∷ views) peer view h site applied =
    (h.0, h.1, views_more d peers views peer view h.2 site applied)
