-- The lists of a world, and the rights over them.
use Rattle.std.specs.Prelude.{ℕ, ◌-◌, false, true, ◌==◌, List, [], ◌∷◌, ◌++◌, length, Option, Some, None, map}
use Rattle.std.specs.Prelude.{if◌then◌else◌}
use Rattle.std.specs.List.{slice_get, range_with_len}
use Rattle.rights_types.specs.Places.{at_site, set_site}
use Rattle.rights_types.specs.Entries.{EntryValue}
use Rattle.rights_protocol.specs.Lists.{Lists, held_at, on_way as way_between}
use Rattle.origin_log.specs.Logs.{entry_line}
use Rattle.site_core.specs.Desks.{DeskValue, new_desk}
use Rattle.inbound.specs.Inbounds.{new_inbound}
use Rattle.world_core.specs.Values.{LinkValue, BodyValue, PacketValue, WorldValue}
use Rattle.world_core.specs.Values.BodyValue.{EntryAt, Text}

-- ---- sites

abbrev pub count : WorldValue → ℕ
count w = length w.desks

-- the numbers of the sites
abbrev pub sites_of : WorldValue → List ℕ
sites_of w = range_with_len 1 (count w)

-- the desk of a site; an empty one if there is no such site
abbrev pub desk : WorldValue → ℕ → DeskValue
desk w s = at_site w.desks s (new_desk 0 0)

abbrev pub with_desk : WorldValue → ℕ → DeskValue → WorldValue
with_desk w s d = record w { desks = set_site w.desks s d }

abbrev pub log : WorldValue → ℕ → List EntryValue
log w s = (desk w s).ledger.log.entries

-- ---- links

abbrev pub row : WorldValue → ℕ → List (Option LinkValue)
row w s = at_site w.links s []

-- what s has of the log of o, if both exist and differ
abbrev pub link : WorldValue → ℕ → ℕ → Option LinkValue
link w s o = at_site (row w s) o None

abbrev pub with_link : WorldValue → ℕ → ℕ → LinkValue → WorldValue
with_link w s o l = record w { links = set_site w.links s (set_site (row w s) o (Some l)) }

abbrev pub list_of : (LinkValue → List EntryValue) → Option LinkValue → List EntryValue
list_of list None = []
list_of list (Some l) = list l

-- of the log of o: what reached s, what the buffer of s delivered, what s applied
abbrev pub reached : WorldValue → ℕ → ℕ → List EntryValue
reached w s o = list_of (λ l. l.reached) (link w s o)

abbrev pub put : WorldValue → ℕ → ℕ → List EntryValue
put w s o = list_of (λ l. l.put) (link w s o)

abbrev pub applied : WorldValue → ℕ → ℕ → List EntryValue
applied w s o = list_of (λ l. l.applied) (link w s o)

-- ---- the whole

-- a world's lists, as the protocol models them
abbrev pub lists_of : WorldValue → Lists
lists_of w = record { count = count w; log = log w; reached = reached w; put = put w; applied = applied w }

-- the rights that s holds, and those in transit from o to s
abbrev pub held_by : WorldValue → ℕ → ℕ
held_by w s = held_at (lists_of w) s

abbrev pub on_way : WorldValue → ℕ → ℕ → ℕ
on_way w o s = way_between (lists_of w) o s

abbrev pub ended : WorldValue → WorldValue
ended w = record w { ended = true }

-- ---- packets

abbrev pub with_packet : WorldValue → PacketValue → WorldValue
with_packet w p = record w { packets = w.packets ++ p ∷ [] }

-- the packet with a number, counted from 1
abbrev pub packet : WorldValue → ℕ → Option PacketValue
packet w number = if number == 0 then None else slice_get w.packets (number - 1)

abbrev pub line_of : Option EntryValue → List ℕ
line_of None = []
line_of (Some e) = entry_line e

abbrev pub body_text : List EntryValue → BodyValue → List ℕ
body_text es (EntryAt place) = line_of (slice_get es place)
body_text es (Text text) = text

-- the line of a packet
abbrev pub packet_text : WorldValue → PacketValue → List ℕ
packet_text w p = body_text (log w p.from) p.body

-- ---- the start

-- what s has of o among n sites, before anything came
abbrev pub new_link : ℕ → ℕ → ℕ → LinkValue
new_link n s o = record { inbound = new_inbound s o n; reached = []; put = []; applied = [] }

abbrev pub link_to : ℕ → ℕ → ℕ → Option LinkValue
link_to n s o = if o == s then None else Some (new_link n s o)

abbrev pub new_row : ℕ → ℕ → List (Option LinkValue)
new_row n s = map (link_to n s) (range_with_len 1 n)

-- n sites, before anything happened
abbrev pub start : ℕ → WorldValue
start n = record {
  desks = map (λ s. new_desk s n) (range_with_len 1 n);
  links = map (new_row n) (range_with_len 1 n);
  packets = [];
  ended = false;
}
