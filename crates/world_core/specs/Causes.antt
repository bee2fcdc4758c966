-- A desk's cause as the world's.
use Rattle.site_core.specs.declared.fault.DeskError.{DeskError}
use Rattle.site_core.specs.declared.fault.DeskError.TheVariants.{OutOfMemory as NoMemory}
use Rattle.world_core.specs.declared.fault.WorldError.{WorldError}
use Rattle.world_core.specs.declared.fault.WorldError.TheVariants.{Desk, OutOfMemory}

-- a desk's lack of memory is the world's
abbrev pub cause_of : DeskError → WorldError
cause_of NoMemory = OutOfMemory
cause_of cause = Desk cause
