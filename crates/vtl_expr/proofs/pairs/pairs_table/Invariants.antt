use Rattle.vtl_expr.proofs.pairs.pairs_table.Given as goal

abbrev pub ghosts-each_pair : goal.ghosts-each_pair
ghosts-each_pair a = record { name = a.blank.name; parts = a.blank.parts }
