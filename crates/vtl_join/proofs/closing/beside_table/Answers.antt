use Rattle.std.proofs.Common.{◌≡◌, List, ap, subst, ◌∙◌}
use Rattle.std.specs.Prelude.{IfOk}
use Rattle.vtl_cell.specs.Row.{Row}
use Rattle.vtl_rows.specs.declared.column.Column.{Column}
use Rattle.vtl_join.specs.Gatherings.{points_of}
use Rattle.vtl_join.proofs.closing.beside_table.Goals as goal

pub returns-clause-columns : goal.returns-clause-columns
returns-clause-columns c = subst (λ (l : List Column). IfOk c.points.result (λ t. t.columns ≡ l)) c.in_ok-parts.ensures.columns c.points.ensures.columns

pub returns-clause-rows : goal.returns-clause-rows
returns-clause-rows c =
    subst (λ (l : List Row). IfOk c.points.result (λ t. t.rows ≡ l)) (ap (points_of c.in_ok-parts.parts.gathering) c.deref.ensures.value ∙ c.in_ok-parts.ensures.points) c.points.ensures.rows
