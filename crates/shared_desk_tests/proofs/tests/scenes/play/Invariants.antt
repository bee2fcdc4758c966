use Rattle.apply_lanes.specs.Names.{id_of}
use Rattle.shared_desk_tests.proofs.tests.scenes.play.Given as goal

abbrev pub ghosts-play_with : goal.ghosts-play_with
ghosts-play_with g a = record { id = id_of a.desk a.blanks }
