-- Columns by their names, and the expressions that they are.
use Rattle.std.specs.Prelude.{ℕ, ◌+◌, ◌++◌, Bool, List, filter, map}
use Rattle.std.specs.List.{position_or_len}
use Rattle.std.specs.Option.{option_map_or}
use Rattle.vtl_cell.specs.declared.kind.Kind.{Kind}
use Rattle.vtl_cell.specs.declared.kind.Kind.TheVariants as k
use Rattle.vtl_tree.specs.CompExp.{CompExp, column}
use Rattle.vtl_tree.specs.Structure.{names_of, of_role, same_name}
use Rattle.vtl_tree.specs.declared.structure.Component.{Component}
use Rattle.vtl_tree.specs.declared.structure.Role.TheVariants as role
use Rattle.vtl_tree.specs.declared.structure.Structure.{Structure}
use Rattle.vtl_tree.specs.Names.{component_of, is_among}

abbrev pub identifiers_of : Structure → List Component
identifiers_of s = of_role role.Identifier s

abbrev pub measures_of : Structure → List Component
measures_of s = of_role role.Measure s

-- the columns behind the identifiers: measures, then attributes
abbrev pub others_of : Structure → List Component
others_of s = of_role role.Measure s ++ of_role role.Attribute s

-- the place of the column of this name
abbrev pub place_of : List ℕ → List Component → ℕ
place_of name xs = position_or_len (λ x. same_name x.name name) xs

-- the places of other columns' names
abbrev pub places_in : List Component → List Component → List ℕ
places_in xs ys = map (λ y. place_of y.name xs) ys

abbrev pub kind_named : List ℕ → List Component → Kind
kind_named name xs = option_map_or (λ x. x.kind) (component_of name xs) k.Null

-- the column of this name as an expression
abbrev pub column_named : List Component → List ℕ → CompExp
column_named xs name = column (place_of name xs) name (kind_named name xs)

-- the same where so many cells stand before these columns
abbrev pub column_behind : ℕ → List Component → List ℕ → CompExp
column_behind n xs name = column (n + place_of name xs) name (kind_named name xs)

-- the columns of the names of other columns
abbrev pub columns_named : List Component → List Component → List CompExp
columns_named xs ys = map (λ y. column_named xs y.name) ys

abbrev pub has_identifier : Structure → List ℕ → Bool
has_identifier a name = is_among name (names_of (identifiers_of a))

-- the identifiers of the second operand that the first one has too
abbrev pub common_identifiers : Structure → Structure → List Component
common_identifiers a b = filter (λ i. has_identifier a i.name) (identifiers_of b)
