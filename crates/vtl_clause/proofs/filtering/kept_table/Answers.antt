use Rattle.std.proofs.Common.{◌≡◌, List, ◌++◌, ap, sym, subst, ◌∙◌}
use Rattle.vtl_cell.specs.Row.{Row}
use Rattle.vtl_rows.specs.Tables.{Tabled}
use Rattle.vtl_tree.specs.Clauses.{filter_of, kept}
use Rattle.vtl_tree.specs.DataSet.{IsDataSet}
use Rattle.vtl_tree.specs.Structure.{IsStructure}
use Rattle.vtl_tree.specs.View.{comp_exp_of}
use Rattle.vtl_sets.specs.TableOf.{table_columns}
use Rattle.vtl_sets.proofs.TableLemmas.{answered_is_table}
use Rattle.vtl_meaning.proofs.Kept.{filtered_kept}
use Rattle.vtl_scalar.specs.Seen.{seen_of}
use Rattle.vtl_expr.specs.Prepared.{prepared_exp}
use Rattle.vtl_expr.proofs.PointLemmas.{answered_keeps, finished}
use Rattle.vtl_clause.specs.Walks.{fault_over}
use Rattle.vtl_clause.proofs.WalkLemmas.{fault_prepared, kept_prepared}
use Rattle.vtl_clause.proofs.filtering.kept_table.Goals as goal

pub new_table-requires : goal.new_table-requires
new_table-requires c = subst IsStructure (sym c.requires.same) c.table-table.ensures.table.points.well_formed

pub keep_rows-requires : goal.keep_rows-requires
keep_rows-requires c = c.table-table.ensures.table.columns ∙ ap table_columns (sym c.requires.same) ∙ sym c.in_ok-kept.ensures.columns

pub returns-clause-rows : goal.returns-clause-rows
returns-clause-rows c =
    let p = c.args.p.now in
    let e = comp_exp_of c.args.condition.now in
    let x = prepared_exp c.in_ok-prepared.prepared in
    let same = c.in_ok-prepared.ensures in
    let all = c.table-table.ensures.points in
    let now = c.in_ok-seen.ensures in
    finished (λ (t : Tabled). t.rows) c.unless.result (seen_of c.in_ok-seen.seen) (fault_over p e c.args.a.now.points) c.keep_rows.new.kept (kept p e c.args.a.now.points) c.unless.ensures
    (now.seen ∙ fault_prepared p x e same c.table-table.result.now.rows ∙ ap (fault_over p e) all)
    (now.rows ∙ ap (λ l. l ++ kept p x c.table-table.result.now.rows) c.in_ok-kept.ensures.rows ∙ kept_prepared p x e same c.table-table.result.now.rows ∙ ap (kept p e) all)

pub returns-clause-table : goal.returns-clause-table
returns-clause-table c =
    let p = c.args.p.now in
    let e = comp_exp_of c.args.condition.now in
    let a = c.args.a.now in
    let s = c.args.made.now in
    let columns = answered_keeps (λ (t : Tabled). t.columns ≡ table_columns s) c.unless.result (seen_of c.in_ok-seen.seen) c.keep_rows.new.kept c.unless.ensures (c.keep_rows.ensures.columns ∙ c.in_ok-kept.ensures.columns) in
    let own = subst (λ (l : List Row). IsDataSet a.structure l) c.table-table.ensures.points c.table-table.ensures.table.points in
    answered_is_table s c.unless.result (filter_of p e a.points) columns (returns-clause-rows c) (λ out q. filtered_kept p e a.structure s a.points out c.requires own q)
