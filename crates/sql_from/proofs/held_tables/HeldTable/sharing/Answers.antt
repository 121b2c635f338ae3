use Rattle.std.proofs.Common.{◌∙◌, List, ap, map, subst}
use Rattle.vtl_rows.specs.declared.column.Column.{Column}
use Rattle.sql_meaning.specs.Tables.{column_entry}
use Rattle.sql_from.specs.Columns.{AreFound}
use Rattle.sql_from.proofs.held_tables.HeldTable.sharing.Goals as goal

pub invariant_of-result : goal.invariant_of-result
invariant_of-result c =
    subst (λ (cs : List Column). AreFound (map column_entry cs) c.in_ok-columns.columns) (c.columns.ensures.columns ∙ ap (λ t. t.columns) c.table.ensures) c.in_ok-columns.ensures
