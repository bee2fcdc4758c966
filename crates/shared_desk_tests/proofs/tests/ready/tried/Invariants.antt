use Rattle.apply_lanes.specs.Names.{id_of}
use Rattle.shared_desk_tests.proofs.tests.ready.tried.Given as goal

abbrev pub ghosts-tried_at : goal.ghosts-tried_at
ghosts-tried_at g a = record { id = id_of a.desk a.blanks }
