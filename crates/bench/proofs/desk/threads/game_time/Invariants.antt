use Rattle.apply_lanes.specs.Names.{id_of}
use Rattle.bench.proofs.desk.threads.game_time.Given as goal

abbrev pub ghosts-game : goal.ghosts-game
ghosts-game g a = record { id = id_of a.desk a.blanks }
