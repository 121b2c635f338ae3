-- The point that is made of a group, with places in place of names.
use Rattle.std.specs.Prelude.{◌≡◌, ℕ, Bool, true, false, List, ◌++◌, map, Option, Some, None, Ok, Err, if◌then◌else◌}
use Rattle.vtl_decimal.specs.declared.number.Fault.{Fault}
use Rattle.vtl_cell.specs.Outcome.{Outcome, after, fault_in, faults_by, join}
use Rattle.vtl_cell.specs.Outcomes.{is_true}
use Rattle.vtl_cell.specs.Row.{Row}
use Rattle.vtl_decimal.specs.Settings.{Settings}
use Rattle.vtl_cell.specs.declared.cell.Cell.{Cell}
use Rattle.vtl_rows.specs.declared.column.Column.{Column}
use Rattle.vtl_tree.specs.CompExp.{CompExp}
use Rattle.vtl_tree.specs.declared.expression.AggCall.{AggCall}
use Rattle.vtl_meaning.specs.Points.{cell_or_null}
use Rattle.vtl_meaning.specs.GroupExpressions.{grouped_cell, value_over}
use Rattle.vtl_group.specs.Calls.{call_value, placed_call}
use Rattle.vtl_group.specs.declared.calls.Call.{Call}

-- a group: the names of the grouping identifiers, their values, the columns of the table, and the points
pub record Group : Type 0 where
  pub names : List (List ℕ)
  pub key : Row
  pub columns : List Column
  pub points : List Row

-- ---- expressions

abbrev pub called_in : Settings → Group → AggCall → Outcome Cell
called_in p g a = call_value p (placed_call g.columns a) g.points

abbrev pub value_in : Settings → Group → CompExp → Outcome Cell
value_in p g e = value_over p (grouped_cell g.names g.key) (called_in p g) e

-- ---- the condition

-- whether the group is kept; without a condition each group is
abbrev pub tested : Settings → Group → Option CompExp → Outcome Bool
tested p g None = Ok true
tested p g (Some e) = after (value_in p g e) (λ v. Ok (is_true (Ok v)))

-- the same test at each group
abbrev pub SameCondition : Option CompExp → Option CompExp → Type 0
SameCondition x y = (p : Settings) (g : Group) → tested p g x ≡ tested p g y

abbrev pub passes : Outcome Bool → Bool
passes (Ok b) = b
passes (Err f) = false

-- ---- the values

abbrev pub values_of_calls : Settings → List Call → List Row → Row
values_of_calls p calls points = map (λ a. cell_or_null (call_value p a points)) calls

abbrev pub faults_of_calls : Settings → List Call → List Row → Option Fault
faults_of_calls p calls points = faults_by (λ a. fault_in (call_value p a points)) calls

abbrev pub row_for : Settings → List Call → Group → Row
row_for p calls g = g.key ++ values_of_calls p calls g.points

-- the fault of the condition, and of the values where the group is kept
abbrev pub fault_for : Settings → Option CompExp → List Call → Group → Option Fault
fault_for p having calls g =
    let test = tested p g having in
    join (fault_in test) (if passes test then faults_of_calls p calls g.points else None)
