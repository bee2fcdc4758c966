-- Values that are stored in one of several forms, and the fields of a system, as plain data.
use Rattle.std.specs.Prelude.{List}
use Rattle.world_core.specs.Values.{BodyValue, WorldValue}
use Rattle.world_core.specs.Values.BodyValue.{EntryAt, Text}
use Rattle.world_core.specs.declared.packets.Body.{Body}
use Rattle.world_core.specs.declared.packets.Body.TheVariants.{Entry, Own}
use Rattle.world_core.specs.declared.reply.VerdictList.{VerdictList}
use Rattle.world_core.specs.declared.reply.VerdictList.TheVariants.{One, Many}
use Rattle.world_core.specs.declared.reply.EntryVerdict.{EntryVerdict}
use Rattle.world_core.specs.declared.system.System.TheInside.{Inside}

-- the content of a packet
abbrev pub body_of : Body → BodyValue
body_of (Entry place) = EntryAt place
body_of (Own line) = Text line.now

-- the verdicts of one arrival
abbrev pub verdicts_in : {A : Type 0} → VerdictList A → List EntryVerdict
verdicts_in (One verdict) = verdict
verdicts_in (Many verdicts) = verdicts.items

-- the world of a system's fields
abbrev pub world_of : {A K : Type 0} → Inside A K → WorldValue
world_of w = record { desks = w.desks.items; links = w.links.items; packets = w.packets.items; ended = w.ended }
