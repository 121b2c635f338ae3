use Rattle.std.proofs.Common.{◌≡◌, ◌≤◌, ◌∙◌, ap, sym, subst, length, List}
use Rattle.std.specs.List.{AllByRecursion}
use Rattle.std.proofs.lemmas.Result.{IfOk-weaker}
use Rattle.vtl_cell.specs.Row.{Row, same_key}
use Rattle.vtl_rows.specs.Tables.{Tabled}
use Rattle.vtl_tree.specs.Shown.{shown}
use Rattle.vtl_tree.specs.Structure.{key_width}
use Rattle.vtl_sets.specs.TableOf.{table_columns}
use Rattle.vtl_sets.proofs.TableLemmas.{made_is_table}
use Rattle.vtl_tuples.specs.Keys.{each_once}
use Rattle.vtl_meaning.specs.Sets.{union_of}
use Rattle.vtl_meaning.proofs.SetsKept.{union_kept}
use Rattle.vtl_combine.proofs.OperandLemmas.{all_are_sets, all_points_are, all_points_wide, combined_have, combined_made}
use Rattle.vtl_meaning.specs.Joined.{structures_of}
use Rattle.vtl_combine.proofs.unions.united_by_keys.Goals as goal

pub all_points-requires-clause-made : goal.all_points-requires-clause-made
all_points-requires-clause-made c = combined_made (structures_of (shown c.args.operands.now)) c.args.made.now c.requires

pub all_points-requires-clause-columns : goal.all_points-requires-clause-columns
all_points-requires-clause-columns c = combined_have c.args.operands.now c.args.made.now c.requires

pub once_by_key-requires : goal.once_by_key-requires
once_by_key-requires c =
    let ds = c.args.operands.now in
    let s = c.args.made.now in
    subst (λ n. AllByRecursion (λ (r : Row). n ≤ length r) c.in_ok-all.all.rows) (sym c.key_width.ensures)
    (subst (λ (l : List Row). AllByRecursion (λ (r : Row). key_width s ≤ length r) l) (sym c.in_ok-all.ensures.rows) (all_points_wide ds s))

pub returns-clause-rows : goal.returns-clause-rows
returns-clause-rows c =
    let ds = c.args.operands.now in
    let s = c.args.made.now in
    let all = c.in_ok-all.all.rows in
    IfOk-weaker c.once_by_key.result (λ (t : Tabled). t.rows ≡ each_once (same_key c.key_width.result) all) (λ (t : Tabled). t.rows ≡ union_of (shown ds) s)
    (λ t e. e ∙ ap (λ n. each_once (same_key n) all) c.key_width.ensures ∙ ap (each_once (same_key (key_width s))) (c.in_ok-all.ensures.rows ∙ all_points_are ds s)) c.once_by_key.ensures.rows

pub returns-clause-table : goal.returns-clause-table
returns-clause-table c =
    let ds = c.args.operands.now in
    let s = c.args.made.now in
    made_is_table s c.once_by_key.result (union_of (shown ds) s)
    (IfOk-weaker c.once_by_key.result (λ (t : Tabled). t.columns ≡ c.in_ok-all.all.columns) (λ (t : Tabled). t.columns ≡ table_columns s) (λ t e. e ∙ c.in_ok-all.ensures.columns) c.once_by_key.ensures.columns)
    (returns-clause-rows c)
    (union_kept (shown ds) s c.requires (all_are_sets ds c.are_data_sets.ensures))
