use Rattle.apply_lanes.specs.Names.{id_of}
use Rattle.shared_desk_tests.proofs.tests.seats.twenty_spends_of_ten_rights.Given as goal

abbrev pub ghosts-twenty_spends : goal.ghosts-twenty_spends
ghosts-twenty_spends g a = record { id = id_of a.desk a.blanks }
