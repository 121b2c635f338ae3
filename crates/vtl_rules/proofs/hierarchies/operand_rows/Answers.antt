use Rattle.std.proofs.Common.{◌≡◌, ap, ◌∙◌, length, map}
use Rattle.std.proofs.lemmas.Result.{IfOk-weaker}
use Rattle.std.proofs.lemmas.List.{length-map}
use Rattle.vtl_rows.specs.Tables.{column_at}
use Rattle.vtl_sets.specs.TableOf.{column_for, table_columns}
use Rattle.vtl_tree.specs.Structure.{columns_of}
use Rattle.vtl_expr.proofs.ColumnPlaces.{all_within, some_places}
use Rattle.vtl_rules.proofs.HierarchyLemmas.{operand_columns}
use Rattle.vtl_rules.proofs.hierarchies.operand_rows.Goals as goal

pub project-requires-clause-some : goal.project-requires-clause-some
project-requires-clause-some c = some_places c.args.a.now.structure c.args.made.now c.deref.result.now c.requires.made.some (c.deref.ensures.value ∙ c.in_ok-places.ensures)

pub project-requires-clause-within : goal.project-requires-clause-within
project-requires-clause-within c =
    let a = c.args.a.now.structure in
    all_within (columns_of a) (columns_of c.args.made.now) c.deref.result.now (length c.table.result.now.columns) c.requires.columns (c.deref.ensures.value ∙ c.in_ok-places.ensures)
    (ap length c.table.ensures.table.columns ∙ length-map (columns_of a) column_for)

pub returns-clause-columns : goal.returns-clause-columns
returns-clause-columns c =
    let a = c.args.a.now.structure in
    let s = c.args.made.now in
    let columns = c.table.result.now.columns in
    let places = c.deref.result.now in
    IfOk-weaker c.project.result (λ t. t.columns ≡ map (column_at columns) places) (λ t. t.columns ≡ table_columns s)
    (λ t e. e ∙ operand_columns s a columns places c.requires.columns c.table.ensures.table.columns (c.deref.ensures.value ∙ c.in_ok-places.ensures)) c.project.ensures.columns
