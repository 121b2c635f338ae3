use Rattle.vtl_rules.proofs.hierarchy_checks.check_hierarchy.Given as goal

abbrev pub ghosts-checked_table : goal.ghosts-checked_table
ghosts-checked_table a = record { name = a.blank.name; parts = a.blank.parts }
