-- How packets are stored: one row each, and beside the rows the lines that belong to packets.
use Rattle.std.specs.Prelude.{◌≡◌, ℕ, ◌<◌, false, if◌then◌else◌, get_or, length, map, List, []}
use Rattle.world_core.specs.Values.{PacketValue}
use Rattle.world_core.specs.Values.BodyValue.{EntryAt, Text}
use Rattle.world_core.specs.declared.packets.Row.{Row}

-- the packets, and how many more of them, and of lines of their own, can be added without a memory request
pub record PacketsValue : Type 0 where
  pub items : List PacketValue
  pub room : ℕ
  pub lines : ℕ

-- the packet of a row
abbrev pub packet_in : List (List ℕ) → Row → PacketValue
packet_in lines row = record {
  from = row.from;
  to = row.to;
  body = if row.is_entry then EntryAt row.place else Text (get_or lines row.place []);
}

abbrev pub packets_in : List (List ℕ) → List Row → List PacketValue
packets_in lines rows = map (packet_in lines) rows

-- a row of a packet that carries no entry has a line
abbrev pub HasLine : List (List ℕ) → Row → Type 0
HasLine lines row = row.is_entry ≡ false → row.place < length lines
