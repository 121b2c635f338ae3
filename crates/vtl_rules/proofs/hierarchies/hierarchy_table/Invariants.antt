use Rattle.vtl_rules.proofs.hierarchies.hierarchy_table.Given as goal

abbrev pub ghosts-computed_table : goal.ghosts-computed_table
ghosts-computed_table a = record { name = a.blank.name; parts = a.blank.parts }
