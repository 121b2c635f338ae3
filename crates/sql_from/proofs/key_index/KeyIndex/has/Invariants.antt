use Rattle.sql_from.proofs.key_index.KeyIndex.has.Given as goal

abbrev pub ghosts-is_found : goal.ghosts-is_found
ghosts-is_found a = record { name = a.blank.name; parts = a.blank.parts }
