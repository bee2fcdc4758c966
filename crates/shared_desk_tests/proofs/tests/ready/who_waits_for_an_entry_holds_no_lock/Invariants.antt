use Rattle.apply_lanes.specs.Names.{id_of}
use Rattle.shared_desk_tests.proofs.tests.ready.who_waits_for_an_entry_holds_no_lock.Given as goal

abbrev pub ghosts-beside : goal.ghosts-beside
ghosts-beside g a = record { id = id_of a.desk a.blanks }
