use Rattle.vtl_combine.proofs.existence.exists_in.Given as goal

abbrev pub ghosts-existence_table : goal.ghosts-existence_table
ghosts-existence_table a = record { name = a.blank.name; parts = a.blank.parts }
