-- The components that names stand for.
use Rattle.std.specs.Prelude.{ℕ, suc, List, [], ◌∷◌, Result, Ok, Err, if◌then◌else◌}
use Rattle.vtl_tree.specs.CompExp.{CompExp, column}
use Rattle.vtl_tree.specs.Structure.{same_name}
use Rattle.vtl_tree.specs.declared.structure.Component.{Component}
use Rattle.check_faults.specs.declared.rules.Rule.{Rule}
use Rattle.check_faults.specs.declared.rules.Rule.TheVariants as rule

-- a component by its place among the columns, of which the first has this place; an unknown one breaks `UnknownComponent`
abbrev pub column_from : List ℕ → ℕ → List Component → Result CompExp Rule
column_from name place [] = Err rule.UnknownComponent
column_from name place (x ∷ xs) = if same_name x.name name then Ok (column place x.name x.kind) else column_from name (suc place) xs

abbrev pub column_typed : List ℕ → List Component → Result CompExp Rule
column_typed name columns = column_from name 0 columns
