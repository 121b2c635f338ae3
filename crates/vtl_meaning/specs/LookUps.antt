-- The operators in the words of look-up: at each tuple of identifiers, which point the result has and with which values.
use Rattle.std.specs.Prelude.{ℕ, Bool, List, [], ◌∷◌, ◌++◌, map, Option, option_map, Ok}
use Rattle.std.specs.List.{list_all}
use Rattle.std.specs.Option.{option_and_then, option_map_or}
use Rattle.vtl_decimal.specs.Settings.{Settings}
use Rattle.vtl_cell.specs.Order.{same_cell}
use Rattle.vtl_cell.specs.Outcome.{Outcome}
use Rattle.vtl_cell.specs.Row.{Row, column_of}
use Rattle.vtl_cell.specs.declared.cell.Cell.{Cell}
use Rattle.vtl_cell.specs.declared.kind.Kind.{Kind}
use Rattle.vtl_cell.specs.declared.operator.ScalarOp.{ScalarOp}
use Rattle.vtl_tree.specs.DataSet.{look}
use Rattle.vtl_tree.specs.Environment.{DataSet}
use Rattle.vtl_tree.specs.Structure.{columns_of, key_width}
use Rattle.vtl_tree.specs.Value.{called, value}
use Rattle.vtl_tree.specs.declared.structure.Component.{Component}
use Rattle.vtl_tree.specs.declared.structure.Structure.{Structure}
use Rattle.vtl_tree.specs.Trees.{ItemTree, MeasureTree}
use Rattle.vtl_tree.specs.declared.clauses.SubItem.{SubItem}
use Rattle.vtl_tree.specs.Columns.{identifiers_of, measures_of, place_of}
use Rattle.vtl_meaning.specs.Operators.{target_named, value_exp}
use Rattle.vtl_meaning.specs.Points.{cell_or_null}

-- the value of the column of this name, and those of other columns' names
abbrev pub value_named : List Component → Row → List ℕ → Cell
value_named xs r name = column_of (place_of name xs) r

abbrev pub values_named : List Component → List Component → Row → Row
values_named xs ys r = map (λ y. value_named xs r y.name) ys

-- the part of a tuple of one structure's identifiers that another has
abbrev pub part_for : Structure → Structure → Row → Row
part_for s other k = values_named (identifiers_of s) (identifiers_of other) k

-- a value for each measure of an operand and the one of the result that it becomes
abbrev pub values_for : (Component → Component → Cell) → List Component → List Component → Row
values_for f (x ∷ xs) (y ∷ ys) = f x y ∷ values_for f xs ys
values_for f xs ys = []

-- The value of an operator whose operands have these values or faults. An operator that gives points has no fault at any of them.
abbrev pub result_at : Settings → ScalarOp → Kind → List (Outcome Cell) → Cell
result_at p o kind operands = cell_or_null (called p kind operands o)

-- an operator on each measure at a point: the measure's value between the values that are written before and behind it
abbrev pub measured_at : Settings → MeasureTree → Structure → Structure → Row → Row
measured_at p m a s r = values_for (λ x y. result_at p m.op y.kind (map (λ e. value p e r) m.before ++ Ok (value_named (columns_of a) r x.name) ∷ map (λ e. value p e r) m.after)) (measures_of a) (measures_of s)

-- an operator on each pair of namesakes at two points
abbrev pub paired_at : Settings → ScalarOp → Structure → Structure → Structure → Row → Row → Row
paired_at p o a b s r q = values_for (λ x y. result_at p o y.kind (Ok (value_named (columns_of a) r x.name) ∷ Ok (value_named (columns_of b) q x.name) ∷ [])) (measures_of a) (measures_of s)

-- of two points, where both are there
abbrev pub of_both : (Row → Row → Row) → Option Row → Option Row → Option Row
of_both f r q = option_and_then (λ x. option_map (f x) q) r

-- `if`: at a tuple of the condition's identifiers the measures of the chosen operand, where it has a point there
abbrev pub chosen_at : Structure → DataSet → Structure → Row → Option Row
chosen_at t other s k = option_map (λ q. k ++ values_named (columns_of other.structure) (measures_of s) q) (look (key_width other.structure) other.points (part_for t other.structure k))

-- `calc`: the value of the target of this name, or of the column as it was
abbrev pub calculated_at : Settings → List ItemTree → Structure → Row → Component → Cell
calculated_at p items a r y = option_map_or (λ i. cell_or_null (value p (value_exp i.value) r)) (target_named items y.name) (value_named (columns_of a) r y.name)

-- `sub`: a tuple of the operand's identifiers has these values
abbrev pub has_key_values : Structure → List SubItem → Row → Bool
has_key_values a items k = list_all (λ i. same_cell (value_named (identifiers_of a) k i.id) i.value) items
