-- What is read again of the text of a data set.
use Rattle.std.specs.Prelude.{◌≡◌, ◌≤◌, true, List, [], ◌∷◌, length, encode_utf8_all}
use Rattle.std.specs.List.{AllByRecursion}
use Rattle.csv.specs.Reading.{strip_bom}
use Rattle.vtl_decimal.specs.Settings.{Settings}
use Rattle.vtl_cell.specs.declared.cell.Cell.{Cell}
use Rattle.vtl_cell.specs.declared.cell.Cell.TheVariants as c
use Rattle.vtl_cell.specs.Held.{IsHeld}
use Rattle.vtl_cell.specs.Profile.{IsOfProfile}
use Rattle.vtl_cell.specs.Row.{Row}
use Rattle.vtl_tree.specs.declared.structure.Component.{Component}
use Rattle.vtl_tree.specs.declared.structure.Structure.{Structure}
use Rattle.vtl_tree.specs.Structure.{columns_of}
use Rattle.vtl_csv.specs.InputFields.{is_coded, most_points}

-- the value is not the empty text, which is written as null is
abbrev pub IsShown : Cell → Type 0
IsShown (c.Text []) = ⊥
IsShown other = Unit {0}

-- a value of a component that its field tells: one that a program can hold, of the profile, not the empty text, and a text
-- among the codes
pub record IsTold (p : Settings) (x : Component) (v : Cell) : Type 0 where
  pub held : IsHeld v
  pub fits : IsOfProfile p v
  pub shown : IsShown v
  pub coded : is_coded x v ≡ true

-- each value of a row is told, in its column
abbrev pub AreTold : Settings → List Component → Row → Type 0
AreTold p [] vs = Unit {0}
AreTold p (x ∷ xs) [] = Unit {0}
AreTold p (x ∷ xs) (v ∷ vs) = IsTold p x v × AreTold p xs vs

-- the first of these names does not begin with a byte order mark
abbrev pub IsUnmarked : List Component → Type 0
IsUnmarked [] = Unit {0}
IsUnmarked (x ∷ xs) = strip_bom (encode_utf8_all x.name) ≡ encode_utf8_all x.name

-- the points can be read again in a profile: its scale has one digit, and they are no more than a file may hold, under a header with no mark, each value by its field
pub record IsReadable (p : Settings) (s : Structure) (rows : List Row) : Type 0 where
  pub scale : p.scale ≤ 9
  pub few : length rows ≤ most_points
  pub unmarked : IsUnmarked (columns_of s)
  pub values : AllByRecursion (AreTold p (columns_of s)) rows
