use Rattle.std.proofs.Common.{◌++◌, List, ap, ◌∙◌}
use Rattle.vtl_tree.specs.Shown.{shown}
use Rattle.vtl_tree.specs.Structure.{columns_of}
use Rattle.vtl_tree.specs.declared.structure.Component.{Component}
use Rattle.vtl_tree.specs.Columns.{identifiers_of, measures_of}
use Rattle.vtl_tree.specs.NodeView.{measure_tree}
use Rattle.sql_tree.specs.Trees.{ItemTree}
use Rattle.selects_to_sql.specs.Items.{for_each_two, measured_item, renamed_item}
use Rattle.selects_to_sql.proofs.items.measured_items.Goals as goal

pub returns : goal.returns
returns c =
    let f = measured_item c.args.writer.now (measure_tree c.args.op.now) in
    let a = c.args.a.now in
    let s = c.args.s.now in
    let front = for_each_two renamed_item (identifiers_of s) (identifiers_of s) in
    let columns = ap shown c.deref.ensures.value ∙ c.in_ok-columns.ensures in
    let ours = ap shown c.deref-2.ensures.value ∙ c.in_ok-ours.ensures in
    let made = ap shown c.deref-3.ensures.value ∙ c.in_ok-made.ensures in
    c.in_ok-push_all_measured.ensures
    ∙ ap (λ (l : List ItemTree). l ++ for_each_two (f (shown c.deref.result.now)) (shown c.deref-2.result.now) (shown c.deref-3.result.now)) c.in_ok-items.ensures
    ∙ ap (λ (xs : List Component). front ++ for_each_two (f xs) (shown c.deref-2.result.now) (shown c.deref-3.result.now)) columns
    ∙ ap (λ (xs : List Component). front ++ for_each_two (f (columns_of a)) xs (shown c.deref-3.result.now)) ours
    ∙ ap (λ (xs : List Component). front ++ for_each_two (f (columns_of a)) (measures_of a) xs) made
