use Rattle.vtl_join_filter.proofs.partners.found_behind.Given as goal

abbrev pub ghosts-found_in_steps : goal.ghosts-found_in_steps
ghosts-found_in_steps a = record { name = a.blank.name; parts = a.blank.parts }
