use Rattle.apply_lanes.specs.Names.{id_of}
use Rattle.shared_desk_tests.proofs.tests.replays.plays.Given as goal

abbrev pub ghosts-play_on_two-D-DeskNames : goal.ghosts-play_on_two-D-DeskNames
ghosts-play_on_two-D-DeskNames g a = record { id = id_of a.desk a.blanks }

abbrev pub ghosts-play_on_two-E-DeskNames : goal.ghosts-play_on_two-E-DeskNames
ghosts-play_on_two-E-DeskNames g a = record { id = id_of a.other_desk a.other_blanks }
