-- Why the world itself refuses an event.
use Rattle.std.specs.Prelude.{ℕ, Bool, not, ◌&&◌, nat_le, ◌==◌, Option, Some, None, if◌then◌else◌}
use Rattle.world_core.specs.Values.{PacketValue, WorldValue}
use Rattle.world_core.specs.Worlds.{count, packet}
use Rattle.world_core.specs.declared.event.Event.{Event}
use Rattle.world_core.specs.declared.event.Event.TheVariants.{Post, Issue, Give, Spend, Serve, Expire, Status, Plan}
use Rattle.world_core.specs.declared.event.Event.TheVariants.{Ask, Publish, Beat, Query, Arrive, Noise, Take, Close}
use Rattle.world_core.specs.declared.fault.WorldError.{WorldError}
use Rattle.world_core.specs.declared.fault.WorldError.TheVariants.{Ended, NoSuchSite, NoPacket, NotForSite}

abbrev pub is_site : WorldValue → ℕ → Bool
is_site w s = nat_le 1 s && nat_le s (count w)

abbrev pub site_fault : WorldValue → ℕ → Option WorldError
site_fault w s = if is_site w s then None else Some NoSuchSite

-- both ends of a link are sites, and not the same
abbrev pub link_fault : WorldValue → ℕ → ℕ → Option WorldError
link_fault w s o = if is_site w s && is_site w o && not (s == o) then None else Some NoSuchSite

abbrev pub delivery_fault : ℕ → Option PacketValue → Option WorldError
delivery_fault s None = Some NoPacket
delivery_fault s (Some p) = if p.to == s then None else Some NotForSite

abbrev pub arrive_fault : WorldValue → ℕ → ℕ → Option WorldError
arrive_fault w s number = if is_site w s then delivery_fault s (packet w number) else Some NoSuchSite

-- if the event is to happen
abbrev pub place_fault : {A : Type 0} → WorldValue → Event A → Option WorldError
place_fault w (Post s ms) = site_fault w s
place_fault w (Issue s n) = site_fault w s
place_fault w (Give s j n) = site_fault w s
place_fault w (Spend s n deadline) = site_fault w s
place_fault w (Serve s) = site_fault w s
place_fault w (Expire s time) = site_fault w s
place_fault w (Status s ticket) = site_fault w s
place_fault w (Plan s) = site_fault w s
place_fault w (Ask s p) = link_fault w s p
place_fault w (Publish s p) = link_fault w s p
place_fault w (Beat s p) = link_fault w s p
place_fault w (Query s o again) = link_fault w s o
place_fault w (Arrive s number) = arrive_fault w s number
place_fault w (Noise s o bytes) = link_fault w s o
place_fault w (Take s o) = link_fault w s o
place_fault w (Close s heir) = site_fault w s

-- why the world refuses the event before any desk or link is involved
unfoldable pub fault_of : {A : Type 0} → WorldValue → Event A → Option WorldError
fault_of w event = if w.ended then Some Ended else place_fault w event
