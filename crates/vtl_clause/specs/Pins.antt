-- Values that the points of a `sub` have at the places of identifiers.
use Rattle.std.specs.Prelude.{ℕ, Bool, List}
use Rattle.std.specs.List.{list_all}
use Rattle.vtl_cell.specs.Order.{same_cell}
use Rattle.vtl_cell.specs.Row.{Row, column_of}
use Rattle.vtl_cell.specs.declared.cell.Cell.{Cell}
use Rattle.vtl_tree.specs.declared.structure.Component.{Component}
use Rattle.vtl_tree.specs.declared.clauses.SubItem.{SubItem}
use Rattle.vtl_tree.specs.Columns.{place_of}
use Rattle.vtl_clause.specs.declared.subspace.Pin.{Pin}

-- a place and the value that is wanted there
abbrev pub Wanted : Type 0
Wanted = ℕ × Cell

abbrev pub wanted_by : Pin → Wanted
wanted_by pin = (pin.place, pin.value.now)

-- what an item wants of the rows below these columns
abbrev pub wanted_in : List Component → SubItem → Wanted
wanted_in xs i = (place_of i.id xs, i.value)

abbrev pub is_met : Row → Wanted → Bool
is_met r w = same_cell (column_of w.0 r) w.1

abbrev pub are_met : List Wanted → Row → Bool
are_met ws r = list_all (is_met r) ws
