use Rattle.vtl_join_filter.proofs.partners.partner_of.Given as goal

abbrev pub ghosts-index_by : goal.ghosts-index_by
ghosts-index_by a = record { name = a.blank.name; parts = a.blank.parts }
