use Rattle.std.proofs.Common.{◌≤◌, length, map, ap, ◌∙◌, arith}
use Rattle.std.proofs.lemmas.List.{take_all}
use Rattle.vtl_cell.specs.Outcome.{Outcome}
use Rattle.vtl_cell.specs.declared.cell.Cell.{Cell}
use Rattle.vtl_rows.specs.Places.{row_at}
use Rattle.vtl_tree.specs.Shown.{shown}
use Rattle.vtl_tree.specs.declared.structure.Component.{Component}
use Rattle.vtl_times.specs.Columns.{column_value}
use Rattle.vtl_times.specs.Flows.{flow_by}
use Rattle.vtl_times.proofs.RowLemmas.{made_more}
use Rattle.vtl_times.proofs.flows.made_columns.Goals as goal

pub loop-component-preserved : goal.loop-component-preserved
loop-component-preserved c i h =
    let d = c.args.a.now in
    let p = c.args.p.now in
    let r = row_at d.points i in
    made_more (column_value p r i) (λ y. flow_by c.args.along p d y r) c.loop-component.out.items c.push.new.self.items c.in_ok-made_column.field-0 c.deref-component-items.result.now c.loop-component.component-index c.component-item.result
    c.in_ok-push.ensures.items (c.loop-component.invariant i h) (c.in_ok-made_column.ensures i h) c.loop-component-test.true c.component-item.is

pub returns : goal.returns
returns c i h =
    let d = c.args.a.now in
    let p = c.args.p.now in
    let g : Component → Outcome Cell = λ y. flow_by c.args.along p d y (row_at d.points i) in
    let items = c.deref-component-items.result.now in
    let past : length items ≤ c.loop-component.component-index = omega (arith, c.loop-component-test.false) in
    c.loop-component.invariant i h ∙ ap (λ l. map g (shown l)) (take_all c.loop-component.component-index items past ∙ c.deref-component-items.ensures.value) ∙ ap (map g) c.in_ok-wanted.ensures
