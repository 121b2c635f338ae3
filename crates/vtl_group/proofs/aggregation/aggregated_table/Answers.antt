use Rattle.std.proofs.Common.{◌≡◌, ◌<◌, ◌≤◌, ◌++◌, ◌∷◌, [], true, List, length, map, filter, cond, ap, sym, subst, ◌∙◌, arith}
use Rattle.std.specs.Prelude.{IfOk}
use Rattle.std.specs.List.{AllByRecursion}
use Rattle.std.proofs.lemmas.List.{take_all}
use Rattle.vtl_lists.proofs.Alls.{all_get}
use Rattle.vtl_cell.specs.Outcome.{faults_by, join}
use Rattle.vtl_cell.specs.Row.{Row}
use Rattle.vtl_rows.specs.Places.{row_at}
use Rattle.vtl_rows.specs.Tables.{Tabled, fits}
use Rattle.vtl_tree.specs.DataSet.{IsDataSet, is_point}
use Rattle.vtl_tree.specs.Structure.{columns_of}
use Rattle.vtl_tree.specs.NodeView.{agg_tree}
use Rattle.vtl_tree.specs.Columns.{identifiers_of, others_of}
use Rattle.vtl_scalar.specs.Seen.{seen_of}
use Rattle.vtl_sets.specs.TableOf.{table_columns}
use Rattle.vtl_expr.proofs.PointLemmas.{answered_keeps, finished}
use Rattle.vtl_sets.proofs.TableLemmas.{answered_is_table, point_fits}
use Rattle.vtl_index.specs.Groups.{firsts}
use Rattle.vtl_meaning.specs.Aggregates.{aggregate_of, condition_fault, condition_of, group_fault, made_of}
use Rattle.vtl_meaning.proofs.GroupPoints.{keys_are, point_is, result_is}
use Rattle.vtl_group.proofs.Found.{Stands, fault_found, found_within, kept_found, many_groups, row_found, some_found, stands_by}
use Rattle.vtl_group.proofs.GroupWalks.{faults_apart, faults_more, rows_more}
use Rattle.vtl_group.proofs.Recipes.{fault_at, kept, keys, point}
use Rattle.vtl_group.proofs.aggregation.aggregated_table.Goals as goal

pub push-requires : goal.push-requires
push-requires c =
    let p = c.args.p.now in
    let spec = agg_tree c.args.spec.now in
    let a = c.args.a.now in
    let xs = columns_of a.structure in
    let made = c.args.made.now in
    let ys = others_of made in
    let recipe = c.in_ok-recipe.recipe in
    let groups = c.in_ok-groups.groups in
    let stands = stands_by spec xs ys a.points recipe groups c.table-table.result.now c.deref.result.now
    c.in_ok-recipe.ensures.table c.table-table.ensures.points c.table-table.ensures.table.columns c.in_ok-recipe.ensures.names c.in_ok-recipe.ensures.places c.in_ok-recipe.ensures.having c.in_ok-recipe.ensures.calls c.deref.ensures.value c.in_ok-groups.ensures in
    let i = c.loop-group.group in
    let within : i < length (firsts groups) = omega (arith, c.len-group-end.ensures, c.loop-group-test.true) in
    let own = subst (λ (l : List Row). IsDataSet a.structure l) c.table-table.ensures.points c.table-table.ensures.table.points in
    let ks = keys p spec xs ys a.points in
    let many = many_groups p spec xs ys a.points recipe groups stands in
    let inside : i < length ks = omega (arith, within, many) in
    let key = row_at ks i in
    let is_key = all_get (λ k. is_point (identifiers_of made) k ≡ true) ks i [] inside (keys_are p spec a made c.requires own) in
    record {
      some = some_found p spec xs ys a.points recipe groups stands i within c.rows.result.now c.rows.ensures;
      within = found_within p spec xs ys a.points recipe groups stands i within c.rows.result.now c.rows.ensures;
      fits =
          ap (fits c.loop-group.points.table.columns) (row_found p spec xs ys a.points recipe groups stands i within c.rows.result.now c.rows.ensures)
          ∙ ap (λ cs. fits cs (point p spec xs ys a.points key)) c.loop-group.invariant.columns
          ∙ point_fits (columns_of made) (point p spec xs ys a.points key) (point_is p spec a made c.requires own key is_key);
    }

pub loop-group-preserved : goal.loop-group-preserved
loop-group-preserved c =
    let p = c.args.p.now in
    let spec = agg_tree c.args.spec.now in
    let a = c.args.a.now in
    let xs = columns_of a.structure in
    let ys = others_of c.args.made.now in
    let d = a.points in
    let recipe = c.in_ok-recipe.recipe in
    let groups = c.in_ok-groups.groups in
    let stands = stands_by spec xs ys d recipe groups c.table-table.result.now c.deref.result.now
    c.in_ok-recipe.ensures.table c.table-table.ensures.points c.table-table.ensures.table.columns c.in_ok-recipe.ensures.names c.in_ok-recipe.ensures.places c.in_ok-recipe.ensures.having c.in_ok-recipe.ensures.calls c.deref.ensures.value c.in_ok-groups.ensures in
    let i = c.loop-group.group in
    let within : i < length (firsts groups) = omega (arith, c.len-group-end.ensures, c.loop-group-test.true) in
    let many = many_groups p spec xs ys d recipe groups stands in
    let ks = keys p spec xs ys d in
    let inside : i < length ks = omega (arith, within, many) in
    let now = c.loop-group.points.table.rows in
    let row = row_found p spec xs ys d recipe groups stands i within c.rows.result.now c.rows.ensures in
    let is_kept = kept_found p spec xs ys d recipe groups stands i within c.rows.result.now c.rows.ensures in
    let fault = fault_found p spec xs ys d recipe groups stands i within c.rows.result.now c.rows.ensures in
    record {
      columns = c.push.ensures.columns ∙ c.loop-group.invariant.columns;
      rows =
          rows_more (point p spec xs ys d) (kept p spec xs ys d) ks i inside now c.push.new.points.table.rows c.loop-group.invariant.rows
          (c.in_ok-push.ensures.rows ∙ (λ n. now ++ cond (is_kept n) (row n ∷ []) []));
      seen =
          faults_more (fault_at p spec xs ys d) ks i inside (seen_of c.loop-group.points.seen) (seen_of c.push.new.points.seen) c.loop-group.invariant.seen
          (c.in_ok-push.ensures.seen ∙ ap (join (seen_of c.loop-group.points.seen)) fault);
    }

pub returns-clause-rows : goal.returns-clause-rows
returns-clause-rows c =
    let p = c.args.p.now in
    let spec = agg_tree c.args.spec.now in
    let a = c.args.a.now in
    let xs = columns_of a.structure in
    let ys = others_of c.args.made.now in
    let d = a.points in
    let recipe = c.in_ok-recipe.recipe in
    let groups = c.in_ok-groups.groups in
    let stands = stands_by spec xs ys d recipe groups c.table-table.result.now c.deref.result.now
    c.in_ok-recipe.ensures.table c.table-table.ensures.points c.table-table.ensures.table.columns c.in_ok-recipe.ensures.names c.in_ok-recipe.ensures.places c.in_ok-recipe.ensures.having c.in_ok-recipe.ensures.calls c.deref.ensures.value c.in_ok-groups.ensures in
    let many = many_groups p spec xs ys d recipe groups stands in
    let ks = keys p spec xs ys d in
    let past : length ks ≤ c.loop-group.group = omega (arith, c.len-group-end.ensures, c.loop-group-test.false, many) in
    let all = take_all c.loop-group.group ks past in
    let at = condition_of p spec xs d in
    finished (λ (t : Tabled). t.rows) c.finish.result (seen_of c.loop-group.points.seen)
    (join (faults_by (condition_fault at spec.having) ks) (faults_by (group_fault (made_of p spec xs d) ys) (filter (kept p spec xs ys d) ks)))
    c.loop-group.points.table (map (point p spec xs ys d) (filter (kept p spec xs ys d) ks)) c.finish.ensures
    (c.loop-group.invariant.seen ∙ ap (faults_by (fault_at p spec xs ys d)) all ∙ faults_apart (condition_fault at spec.having) (group_fault (made_of p spec xs d) ys) (kept p spec xs ys d) ks)
    (c.loop-group.invariant.rows ∙ ap (λ l. map (point p spec xs ys d) (filter (kept p spec xs ys d) l)) all)

pub returns-clause-table : goal.returns-clause-table
returns-clause-table c =
    let p = c.args.p.now in
    let spec = agg_tree c.args.spec.now in
    let a = c.args.a.now in
    let s = c.args.made.now in
    let columns = answered_keeps (λ (t : Tabled). t.columns ≡ table_columns s) c.finish.result (seen_of c.loop-group.points.seen) c.loop-group.points.table c.finish.ensures c.loop-group.invariant.columns in
    let own = subst (λ (l : List Row). IsDataSet a.structure l) c.table-table.ensures.points c.table-table.ensures.table.points in
    answered_is_table s c.finish.result (aggregate_of p spec a s) columns (returns-clause-rows c) (λ out q. subst (λ m. IfOk m (IsDataSet s)) q (result_is p spec a s c.requires own))
