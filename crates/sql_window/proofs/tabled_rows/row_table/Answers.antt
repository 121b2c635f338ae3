use Rattle.std.proofs.Common.{length, ap, sym, ◌∙◌}
use Rattle.std.proofs.lemmas.List.{length-map}
use Rattle.sql_from.specs.Sources.{scope_held}
use Rattle.sql_window.proofs.PutLemmas.{columns_many}
use Rattle.sql_window.proofs.tabled_rows.row_table.Goals as goal

pub returns-in_ok-table-in-None-clause-wide : goal.returns-in_ok-table-in-None-clause-wide
returns-in_ok-table-in-None-clause-wide c = ap length c.in_ok-table-in-None.ensures.columns ∙ columns_many (scope_held c.args.rows.now.sources.sources)

pub returns-in-Some-clause-wide : goal.returns-in-Some-clause-wide
returns-in-Some-clause-wide c = sym (length-map c.in-Some.table.now.columns (λ x. x.kind)) ∙ ap length c.in-Some.ensures.kinds
