-- What typing tells of the operands and the results of time operators.
use Rattle.std.specs.Prelude.{◌≡◌, ◌≤◌, true, IfSome, IsTrue, List, length}
use Rattle.std.specs.List.{AllByRecursion}
use Rattle.vtl_cell.specs.AggregateKinds.{is_number}
use Rattle.vtl_cell.specs.Held.{IsHeld}
use Rattle.vtl_cell.specs.Row.{Row}
use Rattle.vtl_cell.specs.declared.cell.Cell.{Cell}
use Rattle.vtl_series.specs.Series.{period_in}
use Rattle.vtl_time.specs.Periods.{is_year_part}
use Rattle.vtl_tree.specs.Measures.{measures}
use Rattle.vtl_tree.specs.Structure.{IsStructure}
use Rattle.vtl_tree.specs.Times.{flow_components}
use Rattle.vtl_tree.specs.declared.structure.Structure.{Structure}
use Rattle.vtl_timing.specs.Times.{HasTime}

-- a time, some measure, and no measure but numbers and integers
pub record IsFlowed (a s : Structure) : Type 0 where
  pub operand : IsStructure a
  pub well_formed : IsStructure s
  pub time : HasTime a
  pub some : 1 ≤ length (measures a.components)
  pub numbers : AllByRecursion (λ x. is_number x.kind ≡ true) (measures a.components)
  pub shape : s.components ≡ flow_components a.components

-- each cell is one that a program holds: its time a period of the years 0 to 9999, its numbers in their range
abbrev pub AreHeld : List Row → Type 0
AreHeld points = AllByRecursion (λ r. AllByRecursion IsHeld r) points

-- a period that a cell holds is one of the years 0 to 9999
abbrev pub IsDated : Cell → Type 0
IsDated v = IfSome (period_in v) (λ q. IsTrue (is_year_part q.frequency q.year q.part))

abbrev pub AreDated : List Row → Type 0
AreDated points = AllByRecursion (λ r. AllByRecursion IsDated r) points
