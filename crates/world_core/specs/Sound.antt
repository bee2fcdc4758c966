-- The invariant of every world.
use Rattle.std.specs.Prelude.{◌≡◌, ◌≢◌, ℕ, ◌<◌, ◌≤◌, false, length, Some, None}
use Rattle.std.specs.List.{All, Contains}
use Rattle.rights_types.specs.Chains.{end, moves_of}
use Rattle.rights_types.specs.Messages.{MessageValue}
use Rattle.rights_types.specs.Messages.MessageValue.{AnEntry, AQuery, AnAnswer, ABeat, AnAsk, ADenial, AHello}
use Rattle.rights_types.specs.declared.moves.Move.{Move}
use Rattle.rights_protocol.specs.Lists.{IsSiteOf}
use Rattle.rights_protocol.specs.Invariant.{Invariant}
use Rattle.entry_codec.specs.Spelling.{Spells}
use Rattle.rights_book.specs.Books.{sites}
use Rattle.sub_buffer.specs.Buffers.{IsSettled}
use Rattle.sub_buffer.specs.Follows.{Follows}
use Rattle.site_core.specs.Ledgers.{HasApplied}
use Rattle.site_core.specs.Desks.{DeskSound}
use Rattle.inbound.specs.Inbounds.{is_foreign}
use Rattle.world_core.specs.Values.{LinkValue, BodyValue, PacketValue, WorldValue}
use Rattle.world_core.specs.Values.BodyValue.{EntryAt, Text}
use Rattle.world_core.specs.Worlds.{count, desk, log, row, link, applied, lists_of}

-- of site s: its desk is that of s in this system, and agrees with what s applied; it has a link to each other site
pub record SiteSound (w : WorldValue) (s : ℕ) : Type 0 where
  pub me : (desk w s).ledger.log.site ≡ s
  pub manager : (desk w s).manager.me ≡ s
  pub system : sites (desk w s).ledger.book ≡ count w
  pub sound : DeskSound (desk w s)
  pub applied : HasApplied (applied w s) (desk w s).ledger
  pub width : length (row w s) ≡ count w
  pub itself : link w s s ≡ None
  pub others : (o : ℕ) → IsSiteOf (count w) o → s ≢ o → (l : LinkValue) × (link w s o ≡ Some l)

-- of what s has of the log of o: it belongs to this pair in this system, and its buffer follows the log
pub record LinkSound (w : WorldValue) (s o : ℕ) (l : LinkValue) : Type 0 where
  pub me : l.inbound.buffer.me ≡ s
  pub origin : l.inbound.buffer.origin ≡ o
  pub system : l.inbound.sites ≡ count w
  pub settled : IsSettled l.inbound.buffer
  pub follows : Follows (log w o) l.reached l.put l.inbound.buffer

-- the messages that s may have sent to p
abbrev pub IsSaid : WorldValue → ℕ → ℕ → MessageValue → Type 0
IsSaid w s p (AnEntry e) = ⊥
IsSaid w s p (AQuery q) = (q.asker ≡ s) × (q.origin ≡ p)
IsSaid w s p (AnAnswer a) = (a.origin ≡ s) × (a.asker ≡ p) × All (Contains (log w s)) a.entries
IsSaid w s p (ABeat b) = (b.origin ≡ s) × (b.number ≤ end (log w s))
IsSaid w s p (AnAsk a) = (a.asker ≡ s) × (a.asked ≡ p)
IsSaid w s p (ADenial d) = (d.denier ≡ s) × (d.asker ≡ p)
IsSaid w s p (AHello site) = ⊥

-- the messages that may arrive from s at p: what s may have sent, or an entry of its log
abbrev pub MayCome : WorldValue → ℕ → ℕ → MessageValue → Type 0
MayCome w s p (AnEntry e) = Contains (log w s) e
MayCome w s p m = IsSaid w s p m

-- an entry of its sender's log, or a message that the sender may have sent
abbrev pub IsBody : WorldValue → ℕ → ℕ → BodyValue → Type 0
IsBody w s p (EntryAt place) = place < length (log w s)
IsBody w s p (Text text) = (m : MessageValue) × Spells m text × IsSaid w s p m

-- a packet from one site to another, with content that the sender may have sent
pub record IsSent (w : WorldValue) (p : PacketValue) : Type 0 where
  pub from : IsSiteOf (count w) p.from
  pub to : IsSiteOf (count w) p.to
  pub differ : p.to ≢ p.from
  pub said : IsBody w p.from p.to p.body

-- every move of every site fits this system
abbrev pub IsNative : WorldValue → ℕ → Type 0
IsNative w s = All (λ (m : Move). is_foreign (count w) m ≡ false) (moves_of (log w s))

pub record IsWorld (w : WorldValue) : Type 0 where
  -- the invariant of the protocol: 2 to 16 sites, the part of each site, and that of each link
  pub kept : Invariant (lists_of w)
  pub rows : length w.links ≡ count w
  pub sites : (s : ℕ) → IsSiteOf (count w) s → SiteSound w s
  pub links : (s o : ℕ) (l : LinkValue) → link w s o ≡ Some l → LinkSound w s o l
  pub native : (s : ℕ) → IsNative w s
  pub sent : All (IsSent w) w.packets
