use Rattle.vtl_times.proofs.fill.filled_table.Given as goal

abbrev pub ghosts-partners : goal.ghosts-partners
ghosts-partners a = record { name = a.blank.name; parts = a.blank.parts }
