-- What `if` takes its points from.
use Rattle.std.specs.Prelude.{◌≡◌, ℕ, true, ◌++◌, List, Ok, Some, cond}
use Rattle.vtl_cell.specs.Outcomes.{is_true}
use Rattle.vtl_cell.specs.Row.{Row, column_of}
use Rattle.vtl_rows.specs.Tables.{cells_at, fits}
use Rattle.vtl_rows.specs.declared.column.Column.{Column}
use Rattle.vtl_tree.specs.DataSet.{IsDataSet}
use Rattle.vtl_tree.specs.Environment.{DataSet}
use Rattle.vtl_tree.specs.Structure.{columns_of, key_width}
use Rattle.vtl_tree.specs.declared.structure.Structure.{Structure}
use Rattle.vtl_tree.specs.Columns.{identifiers_of, measures_of, places_in}
use Rattle.vtl_expr.specs.Partners.{found, sought_by, with_found}
use Rattle.vtl_expr.specs.declared.choice.Alternative.{Alternative}
use Rattle.vtl_expr.specs.declared.choice.Choice.{Choice}

-- the identifiers of a point of the condition, and the measures of the operand's point with these identifiers
abbrev pub joined : List ℕ → Alternative → Row → Row → Row
joined identifiers a r q = cells_at identifiers r ++ cells_at a.measures.items q

-- where the operand has such a point
abbrev pub taken : List ℕ → Alternative → Row → List Row
taken identifiers a = with_found (joined identifiers a) a.partners

-- what is taken at a point of the condition
abbrev pub chosen : Choice → Row → List Row
chosen x r = cond (is_true (Ok (column_of x.test r))) (taken x.identifiers.items x.first r) (taken x.identifiers.items x.second r)

-- what is taken from an operand at a point fits the columns
abbrev pub Fits : List Column → List ℕ → Alternative → Row → Type 0
Fits columns identifiers a r = (q : Row) → found a.partners r ≡ Some q → fits columns (joined identifiers a r q) ≡ true

-- an operand as the points of a condition see it
pub record IsAsked (t : Structure) (d : DataSet) (s : Structure) (a : Alternative) : Type 0 where
  pub partners : a.partners ≡ sought_by t d
  pub measures : a.measures.items ≡ places_in (columns_of d.structure) (measures_of s)
  pub points : IsDataSet d.structure d.points

-- the choice between two data sets by a condition of a structure
pub record IsBetween (t : Structure) (d e : DataSet) (s : Structure) (x : Choice) : Type 0 where
  pub test : x.test ≡ key_width t
  pub identifiers : x.identifiers.items ≡ places_in (columns_of t) (identifiers_of s)
  pub first : IsAsked t d s x.first
  pub second : IsAsked t e s x.second
