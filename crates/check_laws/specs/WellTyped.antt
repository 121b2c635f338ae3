-- What typing gives at a place: values that are typed over its columns or its groups, and nodes that are made.
use Rattle.std.specs.Prelude.{ℕ, List, [], Option, Some, None}
use Rattle.std.specs.List.{AllByRecursion}
use Rattle.vtl_decimal.specs.Settings.{Settings}
use Rattle.vtl_tree.specs.CompExp.{CompExp}
use Rattle.vtl_tree.specs.Structures.{Named}
use Rattle.vtl_tree.specs.declared.structure.Component.{Component}
use Rattle.check_operators.specs.Places.{Env}
use Rattle.check_operators.specs.Typed.{TypedTree, value, dataset}
use Rattle.check_operators.specs.declared.places.Place.{Place}
use Rattle.check_operators.specs.declared.places.Place.TheVariants as place
use Rattle.vtl_meaning.specs.Made.{IsTyped, IsTypedInGroups}
use Rattle.vtl_scripts.specs.Made.{IsMade}
use Rattle.vtl_meaning.specs.Shapes.{IsShaped}

-- typed over points with these columns, or over their groups by these identifiers
abbrev pub IsTypedIn : Settings → (grouping : Option (List (List ℕ))) → List Component → CompExp → Type 0
IsTypedIn p None xs e = IsTyped p xs e
IsTypedIn p (Some names) xs e = IsTypedInGroups p names xs e

abbrev pub IsValueAt : Settings → Place → CompExp → Type 0
IsValueAt p place.Outside e = IsTyped p [] e
IsValueAt p (place.Inside i) e = IsTypedIn p i.grouping i.components e

abbrev pub IsWellTyped : Env → Place → TypedTree → Type 0
IsWellTyped env at (value e) = IsValueAt env.settings at e
IsWellTyped env at (dataset n) = IsMade env.settings env.known n

-- the structures that are known
abbrev pub AreShaped : Named → Type 0
AreShaped known = AllByRecursion (λ e. IsShaped e.1) known
