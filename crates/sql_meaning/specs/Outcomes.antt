-- Values of operators whose operands may have faults, and values at many places.
use Rattle.std.specs.Prelude.{List, map, Option, Ok, Err}
use Rattle.vtl_decimal.specs.declared.number.Fault.{Fault}
use Rattle.vtl_cell.specs.Outcome.{Outcome, after, fault_in, faults_by, unless}
use Rattle.vtl_cell.specs.Outcomes.{all_of, result_of}
use Rattle.vtl_cell.specs.Row.{Row}
use Rattle.vtl_decimal.specs.Settings.{Settings}
use Rattle.vtl_cell.specs.declared.cell.Cell.{Cell}
use Rattle.vtl_cell.specs.declared.cell.Cell.TheVariants as c
use Rattle.vtl_cell.specs.declared.kind.Kind.{Kind}
use Rattle.vtl_cell.specs.declared.operator.ScalarOp.{ScalarOp}

-- the value of an operator whose operands have these values or faults
abbrev pub operated : Settings → Kind → List (Outcome Cell) → ScalarOp → Outcome Cell
operated p kind operands o = after (all_of operands) (result_of p o kind)

-- ---- values at many places

-- what has a fault counts as null where its fault is told beside
abbrev pub cell_or_null : Outcome Cell → Cell
cell_or_null (Ok v) = v
cell_or_null (Err f) = c.Null

-- the values of one expression at many places, unless it has a fault at one of them
abbrev pub all_values : {X : Type 0} → (X → Outcome Cell) → List X → Outcome (List Cell)
all_values f xs = unless (faults_by (λ x. fault_in (f x)) xs) (map (λ x. cell_or_null (f x)) xs)

-- the values of some items at one place, and their fault
abbrev pub row_at : {I X : Type 0} → (I → X → Outcome Cell) → List I → X → Row
row_at f items x = map (λ i. cell_or_null (f i x)) items

abbrev pub row_fault : {I X : Type 0} → (I → X → Outcome Cell) → List I → X → Option Fault
row_fault f items x = faults_by (λ i. fault_in (f i x)) items
