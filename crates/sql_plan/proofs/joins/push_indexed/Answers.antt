use Rattle.std.proofs.Common.{◌∙◌, ◌++◌, List, map, ap, refl, sym}
use Rattle.sql_tree.specs.View.{join_tree, select_tree}
use Rattle.sql_tree.specs.declared.statements.Join.{Join}
use Rattle.sql_tree.specs.declared.statements.Select.{Select}
use Rattle.sql_plan.specs.Chosen.{equality_joins, equality_joins_behind, equality_joins_from}
use Rattle.sql_plan.proofs.Pushed.{pushed_next}
use Rattle.sql_plan.proofs.joins.push_indexed.Goals as goal

pub loop-select-preserved : goal.loop-select-preserved
loop-select-preserved c =
    let items = c.loop-select.indexed.items in
    let x = c.index-selects-select.result in
    pushed_next (λ n (s : Select). equality_joins_from n 0 (map join_tree s.joins)) (λ n (ss : List Select). equality_joins_behind n (map select_tree ss)) (λ n s ss. refl)
    c.loop-select.select c.args.selects.now x items c.push_joins.new.indexed.items (c.args.indexed.now.items ++ equality_joins (map select_tree c.args.selects.now)) c.loop-select-test.true c.index-selects-select.is c.loop-select.invariant
    (c.in_ok-push_joins.ensures ∙ ap (λ (joins : List Join). items ++ equality_joins_from c.loop-select.select 0 (map join_tree joins)) (c.as_slice.ensures ∙ ap (λ (y : Select). y.joins) (sym c.index-selects-select.is)))
