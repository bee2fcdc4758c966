-- A world as plain data: the desk of each site, what each site has of each other log, and all packets ever sent.
use Rattle.std.specs.Prelude.{ℕ, Bool, List, Option}
use Rattle.rights_types.specs.Entries.{EntryValue}
use Rattle.site_core.specs.Desks.{DeskValue}
use Rattle.inbound.specs.Inbounds.{InboundValue}

-- what a site has of the log of an origin: its inbound; the entries that reached the site, each listed once, in the
-- order in which they first arrived; those that its buffer delivered, in order; and those that it applied
pub record LinkValue : Type 0 where
  pub inbound : InboundValue
  pub reached : List EntryValue
  pub put : List EntryValue
  pub applied : List EntryValue

-- the content of a packet: the line of the entry at an index of its sender's log, or a line of its own
pub data BodyValue : Type 0 where
  EntryAt : ℕ → BodyValue
  Text : List ℕ → BodyValue

-- a line that one site sent to another
pub record PacketValue : Type 0 where
  pub from : ℕ
  pub to : ℕ
  pub body : BodyValue

-- the desks and, in a row for each site, the links, both in the order of the sites' numbers; a site has no link to
-- itself
pub record WorldValue : Type 0 where
  pub desks : List DeskValue
  pub links : List (List (Option LinkValue))
  pub packets : List PacketValue
  pub ended : Bool
