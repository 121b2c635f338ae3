use Rattle.vtl_join.proofs.closing.joined_table.Given as goal

abbrev pub ghosts-full_table : goal.ghosts-full_table
ghosts-full_table a = record { name = a.blank.name; parts = a.blank.parts }
