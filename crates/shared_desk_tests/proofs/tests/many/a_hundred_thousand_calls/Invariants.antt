use Rattle.apply_lanes.specs.Names.{id_of}
use Rattle.shared_desk_tests.proofs.tests.many.a_hundred_thousand_calls.Given as goal

abbrev pub ghosts-a_game : goal.ghosts-a_game
ghosts-a_game g a = record { id = id_of a.desk a.blanks }
