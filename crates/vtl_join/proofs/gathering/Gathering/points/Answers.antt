use Rattle.std.proofs.Common.{◌≡◌, ◌<◌, List, length, ap, sym, subst, ◌∙◌}
use Rattle.std.specs.Prelude.{IfOk}
use Rattle.vtl_cell.specs.Row.{Row}
use Rattle.vtl_rows.specs.declared.column.Column.{Column}
use Rattle.vtl_join.specs.Gatherings.{Gathers}
use Rattle.vtl_join.proofs.Gatherings.{kinds_of_parts, points_are, within_parts}
use Rattle.vtl_join.proofs.gathering.Gathering.points.Goals as goal

pub gather_beside-requires-clause-some : goal.gather_beside-requires-clause-some
gather_beside-requires-clause-some c = subst (λ (l : List Column). 0 < length l) (sym c.in_ok-columns.ensures) c.self.invariant.some

pub gather_beside-requires-clause-within : goal.gather_beside-requires-clause-within
gather_beside-requires-clause-within c = within_parts c.deref.result.now _ c.deref-2.result.now _ c.self.inside.made.now c.deref.ensures.value c.deref-2.ensures.value c.self.invariant

pub gather_beside-requires-clause-kinds : goal.gather_beside-requires-clause-kinds
gather_beside-requires-clause-kinds c = kinds_of_parts c.deref.result.now _ c.deref-2.result.now _ c.self.inside.made.now c.deref.ensures.value c.deref-2.ensures.value c.in_ok-columns.columns.items c.in_ok-columns.ensures c.self.invariant

pub returns-clause-columns : goal.returns-clause-columns
returns-clause-columns c = subst (λ (l : List Column). IfOk c.gather_beside.result (λ t. t.columns ≡ l)) (c.in_ok-columns.ensures ∙ ap (λ (g : Gathers). g.columns) c.self.view_is) c.gather_beside.ensures.columns

pub returns-clause-rows : goal.returns-clause-rows
returns-clause-rows c =
    subst (λ (l : List Row). IfOk c.gather_beside.result (λ t. t.rows ≡ l)) (points_are c.deref.result.now _ c.deref-2.result.now _ c.self.inside.made.now c.deref.ensures.value c.deref-2.ensures.value c.args.self.now c.args.tuples.now c.self.view_is) c.gather_beside.ensures.rows
