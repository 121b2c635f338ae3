use Rattle.vtl_combine.proofs.pivoting.pivot.Given as goal

abbrev pub ghosts-pivot_table : goal.ghosts-pivot_table
ghosts-pivot_table a = record { name = a.blank.name; parts = a.blank.parts }
