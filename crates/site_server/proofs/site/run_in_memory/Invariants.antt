use Rattle.apply_lanes.specs.Names.{id_of}
use Rattle.site_server.proofs.site.run_in_memory.Given as goal

abbrev pub ghosts-serve : goal.ghosts-serve
ghosts-serve g a = record { id = id_of a.desk a.blanks }
