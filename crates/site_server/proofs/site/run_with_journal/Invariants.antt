use Rattle.apply_lanes.specs.Names.{id_of}
use Rattle.site_server.proofs.site.run_with_journal.Given as goal

abbrev pub ghosts-serve_again : goal.ghosts-serve_again
ghosts-serve_again g a = record { id = id_of a.desk a.blanks }
