use Rattle.std.proofs.Common.{◌≡◌, ◌≤◌, ℤ, List, length, map, ap, ◌∙◌, arith, to_z, of_z, w64}
use Rattle.std.proofs.lemmas.Int.{to_z-of_z}
use Rattle.std.proofs.lemmas.List.{take_all}
use Rattle.vtl_cell.specs.Outcome.{Outcome}
use Rattle.vtl_cell.specs.declared.cell.Cell.{Cell}
use Rattle.vtl_tree.specs.Shown.{shown}
use Rattle.vtl_tree.specs.Structure.{columns_of}
use Rattle.vtl_tree.specs.declared.structure.Component.{Component}
use Rattle.vtl_timing.specs.Times.{shifted_value}
use Rattle.vtl_times.specs.Columns.{column_value}
use Rattle.vtl_times.proofs.RowLemmas.{made_more}
use Rattle.vtl_times.proofs.shift.shifted_columns.Goals as goal

pub loop-column-preserved : goal.loop-column-preserved
loop-column-preserved c p r i =
    let n = c.args.n in
    let m : ℤ = to_z w64 (of_z w64 n) in
    let xs = columns_of c.args.a.now in
    let y = c.column-item.result in
    let one = c.shifted_column.ensures p r i ∙ ap (λ (l : List Component). shifted_value m l y.now r) (ap shown c.deref.ensures.value ∙ c.in_ok-columns.ensures) in
    made_more (column_value p r i) (λ z. shifted_value m xs z r) c.loop-column.shifted.items c.push.new.self.items c.shifted_column.result c.deref-column-items.result.now c.loop-column.column-index y
    c.in_ok-push.ensures.items (c.loop-column.invariant p r i) one c.loop-column-test.true c.column-item.is

pub returns : goal.returns
returns c p r i =
    let n = c.args.n in
    let m : ℤ = to_z w64 (of_z w64 n) in
    let e : m ≡ n = grind (arith, to_z-of_z, c.ranges.n.sfits) in
    let xs = columns_of c.args.a.now in
    let g : Component → Outcome Cell = λ z. shifted_value m xs z r in
    let items = c.deref-column-items.result.now in
    let past : length items ≤ c.loop-column.column-index = omega (arith, c.loop-column-test.false) in
    c.loop-column.invariant p r i ∙ ap (λ l. map g (shown l)) (take_all c.loop-column.column-index items past ∙ c.deref-column-items.ensures.value) ∙ ap (map g) c.in_ok-columns.ensures
    ∙ ap (λ k. map (λ z. shifted_value k xs z r) xs) e
