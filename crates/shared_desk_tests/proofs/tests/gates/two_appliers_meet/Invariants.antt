use Rattle.apply_lanes.specs.Names.{id_of}
use Rattle.shared_desk_tests.proofs.tests.gates.two_appliers_meet.Given as goal

abbrev pub ghosts-two_appliers : goal.ghosts-two_appliers
ghosts-two_appliers g a = record { id = id_of a.desk a.blanks }
