use Rattle.vtl_sets.proofs.ColumnLemmas.{some_table_columns}
use Rattle.vtl_sets.proofs.columns.new_table.Goals as goal

pub new-requires : goal.new-requires
new-requires c = some_table_columns c.args.structure.now c.in_ok-table_columns.field-0.items c.requires.some c.in_ok-table_columns.ensures
