-- The rows of a query with each cell made one of the kind at its place.
use Rattle.std.specs.Prelude.{List, map, zip, Option}
use Rattle.vtl_cell.specs.Conversion.{as_kind}
use Rattle.vtl_decimal.specs.declared.number.Fault.{Fault}
use Rattle.vtl_cell.specs.Outcome.{Outcome, fault_in, faults_by, unless}
use Rattle.vtl_cell.specs.Row.{Row}
use Rattle.vtl_decimal.specs.Settings.{Settings}
use Rattle.vtl_cell.specs.declared.cell.Cell.{Cell}
use Rattle.vtl_cell.specs.declared.kind.Kind.{Kind}
use Rattle.sql_meaning.specs.Outcomes.{cell_or_null}

-- a cell beside the kind at its place
abbrev pub cell_as : Settings → Cell × Kind → Outcome Cell
cell_as p x = as_kind p x.1 x.0

abbrev pub row_as : Settings → List Kind → Row → Row
row_as p kinds r = map (λ x. cell_or_null (cell_as p x)) (zip r kinds)

abbrev pub row_as_fault : Settings → List Kind → Row → Option Fault
row_as_fault p kinds r = faults_by (λ x. fault_in (cell_as p x)) (zip r kinds)

-- all rows, or the fault of a cell
abbrev pub rows_as : Settings → List Kind → List Row → Outcome (List Row)
rows_as p kinds rows = unless (faults_by (row_as_fault p kinds) rows) (map (row_as p kinds) rows)
