use Rattle.apply_lanes.specs.Names.{id_of}
use Rattle.shared_desk_tests.proofs.tests.growths.tried.Given as goal

abbrev pub ghosts-make_each_call : goal.ghosts-make_each_call
ghosts-make_each_call g a = record { id = id_of a.desk a.blanks }
