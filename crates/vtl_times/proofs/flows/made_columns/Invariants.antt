use Rattle.std.proofs.Common.{◌≡◌, ◌<◌, ℕ, length, map, take}
use Rattle.vtl_rows.specs.Places.{row_at}
use Rattle.vtl_tree.specs.Shown.{shown}
use Rattle.vtl_times.specs.Columns.{row_values}
use Rattle.vtl_times.specs.Flows.{flow_by}
use Rattle.vtl_times.proofs.flows.made_columns.Given as goal

abbrev pub invariant-loop-component : goal.invariant-loop-component
invariant-loop-component l = (i : ℕ) → i < length l.a.points → row_values l.p l.out.items l.a.points i ≡ map (λ y. flow_by l.along l.p l.a y (row_at l.a.points i)) (shown (take l.component-index l.component-items))
