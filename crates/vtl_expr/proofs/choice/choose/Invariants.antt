use Rattle.vtl_expr.proofs.choice.choose.Given as goal

abbrev pub ghosts-choice_table : goal.ghosts-choice_table
ghosts-choice_table a = record { name = a.blank.name; parts = a.blank.parts }
