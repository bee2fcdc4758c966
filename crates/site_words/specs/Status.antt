-- The status object.
use Rattle.std.specs.Prelude.{ℕ, zero, suc, List, Option, Some, None, map, codes}
use Rattle.serde_json.specs.Data.{Data, Members, array, boolean, member, no_members, number, object, unsigned}
use Rattle.serde_json.specs.View.{items_of}
use Rattle.serde_json.specs.Written.{compact_text}
use Rattle.thread_parts.specs.declared.view.DeskView.{DeskView}
use Rattle.site_words.specs.declared.status_object.JournalView.{JournalView}
use Rattle.site_words.specs.declared.status_object.PeerView.{PeerView}

abbrev pub whole : ℕ → Data
whole n = number (unsigned n)

abbrev pub peer_data : PeerView → Data
peer_data peer = object
    (member (codes "applied") (whole peer.applied)
    (member (codes "buffering") (boolean peer.buffering)
    (member (codes "held") (whole peer.held)
    (member (codes "site") (whole peer.site)
    no_members))))

abbrev pub rights_data : DeskView → Members
rights_data desk =
    member (codes "held") (whole desk.held)
    (member (codes "issued") (whole desk.issued)
    (member (codes "queued") (whole desk.queued)
    (member (codes "received") (whole desk.received)
    (member (codes "spent") (whole desk.spent)
    no_members))))

abbrev pub journal_data : JournalView → Data
journal_data journal = object
    (member (codes "bytes") (whole journal.bytes)
    (member (codes "durable") (whole journal.durable)
    (member (codes "records") (whole journal.records)
    (member (codes "synced") (whole journal.synced)
    no_members))))

-- without a journal there is no such member
abbrev pub with_journal : Option JournalView → Members → Members
with_journal None members = members
with_journal (Some journal) members = member (codes "journal") (journal_data journal) members

-- .. nor while no key of a command is remembered
abbrev pub with_keys : ℕ → Members → Members
with_keys zero members = members
with_keys (suc n) members = member (codes "keys") (whole (suc n)) members

abbrev pub status_data : DeskView → List PeerView → Option JournalView → ℕ → Data
status_data desk peers journal keys = object
    (member (codes "closed") (boolean desk.closed)
    (member (codes "held") (whole desk.held)
    (member (codes "issued") (whole desk.issued)
    (with_journal journal
    (with_keys keys
    (member (codes "number") (whole desk.number)
    (member (codes "peers") (array (items_of (map peer_data peers)))
    (member (codes "queued") (whole desk.queued)
    (member (codes "received") (whole desk.received)
    (member (codes "site") (whole desk.site)
    (member (codes "spent") (whole desk.spent)
    no_members)))))))))))

-- .. as a text with no space in it
abbrev pub status_text : DeskView → List PeerView → Option JournalView → ℕ → List ℕ
status_text desk peers journal keys = compact_text (status_data desk peers journal keys)
