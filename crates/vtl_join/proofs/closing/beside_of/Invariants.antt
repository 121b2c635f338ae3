use Rattle.vtl_join.proofs.closing.beside_of.Given as goal

abbrev pub ghosts-beside_lead : goal.ghosts-beside_lead
ghosts-beside_lead a = record { name = a.blank.name; parts = a.blank.parts }
