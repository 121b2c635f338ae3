-- Data sets. A data set is a structure and the list of its points up to order; a point is a row of cells in column order.
use Rattle.std.specs.Prelude.{◌≡◌, ℕ, Bool, true, false, cond, not, ◌&&◌, List, [], ◌∷◌, take, Option, Some, None}
use Rattle.std.specs.List.{AllByRecursion}
use Rattle.vtl_lists.specs.Apart.{all_apart}
use Rattle.vtl_lists.specs.Perm.{Perm}
use Rattle.vtl_cell.specs.Kinds.{is_null, is_of}
use Rattle.vtl_cell.specs.Profile.{IsOfProfile}
use Rattle.vtl_cell.specs.Row.{Row, same_key, same_row}
use Rattle.vtl_decimal.specs.Settings.{Settings}
use Rattle.vtl_tree.specs.declared.structure.Role.TheVariants as role
use Rattle.vtl_tree.specs.declared.structure.Component.{Component}
use Rattle.vtl_tree.specs.declared.structure.Structure.{Structure}
use Rattle.vtl_tree.specs.Structure.{IsStructure, columns_of, key_width, same_role}

-- a row has a cell for each column, of its kind, and no identifier is null
abbrev pub is_point : List Component → Row → Bool
is_point [] [] = true
is_point [] (v ∷ vs) = false
is_point (x ∷ xs) [] = false
is_point (x ∷ xs) (v ∷ vs) = is_of x.kind v && not (same_role x.role role.Identifier && is_null v) && is_point xs vs

-- no two points have the same identifiers, which are their first n cells
abbrev pub Distinct : ℕ → List Row → Type 0
Distinct n points = all_apart (same_key n) points ≡ true

-- the points are those of a data set of the structure
pub record IsDataSet (s : Structure) (points : List Row) : Type 0 where
  pub well_formed : IsStructure s
  pub typed : AllByRecursion (λ r. is_point (columns_of s) r ≡ true) points
  pub distinct : Distinct (key_width s) points

-- each integer is one of the profile, as those of files and of results are
abbrev pub AreOfProfile : Settings → List Row → Type 0
AreOfProfile p points = AllByRecursion (λ r. AllByRecursion (IsOfProfile p) r) points

-- a table's rows stand for a data set: they are its points, each once, in any order
abbrev pub StandsFor : List Row → List Row → Type 0
StandsFor rows points = Perm rows points

-- the point with these identifiers, of which there are n
abbrev pub look : ℕ → List Row → Row → Option Row
look n [] k = None
look n (r ∷ d) k = cond (same_row (take n r) k) (Some r) (look n d k)
