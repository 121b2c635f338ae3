use Rattle.vtl_combine.proofs.retaining.retained.Given as goal

abbrev pub ghosts-retained_in : goal.ghosts-retained_in
ghosts-retained_in a = record { name = a.blank.name; parts = a.blank.parts }
