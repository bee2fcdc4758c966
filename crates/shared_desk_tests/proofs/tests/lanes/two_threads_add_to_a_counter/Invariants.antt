use Rattle.shared_desk_tests.proofs.tests.lanes.two_threads_add_to_a_counter.Given as goal

abbrev pub ghosts-two_shards : goal.ghosts-two_shards
ghosts-two_shards g a = record { name = a.blank.name; parts = a.blank.parts }
