-- The export of a log is told.
use Rattle.std.proofs.Common.{◌≡◌, ◌++◌, ℕ, [], List, Result, Ok, Err, OnOk, refl}
use Rattle.apply_lanes.specs.Names.{DeskId}
use Rattle.apply_lanes.specs.Kepts.{KeptValue, IsKept}
use Rattle.site_node.specs.LogTexts.{log_text}
use Rattle.site_server.specs.Replying.{TellsLog}

pub tells_log : {E : Type 0} (result : Result (Unit {0}) E) (id : DeskId) (first : ℕ) (kept : KeptValue) (old new part : List ℕ)
    → IsKept id kept → OnOk result ((new ≡ old ++ log_text kept first) × (part ≡ []))
    → OnOk result ((text : List ℕ) × TellsLog id first text × (new ≡ old ++ text))
tells_log (Ok done) id first kept old new part valid h =
    (log_text kept first, record { kept = kept; valid = valid; says = refl }, h.0)
tells_log (Err fault) id first kept old new part valid h = tt
