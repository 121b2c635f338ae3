use Rattle.std.proofs.Common.{◌∙◌}
use Rattle.vtl_rows.specs.Tables.{listed}
use Rattle.sql_from.specs.Sources.{parts_of}
use Rattle.sql_from.proofs.Alone.{one_source, rows_alone}
use Rattle.sql_from.proofs.lent_table.are_all.Goals as goal

pub counts_up-requires : goal.counts_up-requires
counts_up-requires c = c.requires.width ∙ one_source c.args.sources.now.sources (listed c.args.table.now) c.requires.only

pub returns : goal.returns
returns c = λ all.
    rows_alone (parts_of c.args.sources.now.sources) (listed c.args.table.now) c.args.tuples.now.tuples c.len.result c.requires.only c.columns-columns.ensures.wide c.len.ensures.rows (c.counts_up.ensures all)
