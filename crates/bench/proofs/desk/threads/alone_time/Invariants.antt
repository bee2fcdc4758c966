use Rattle.apply_lanes.specs.Names.{id_of}
use Rattle.bench.proofs.desk.threads.alone_time.Given as goal

abbrev pub ghosts-alone : goal.ghosts-alone
ghosts-alone g a = record { id = id_of a.desk a.blanks }
