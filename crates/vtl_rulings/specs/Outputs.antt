-- What checks show of points with a truth value: which points, and the errors where it is false.
use Rattle.std.specs.Prelude.{ℕ, ℤ, Bool, true, false, List, [], ◌∷◌, Option}
use Rattle.std.specs.Option.{option_map_or}
use Rattle.vtl_cell.specs.Row.{Row}
use Rattle.vtl_cell.specs.declared.cell.Cell.{Cell}
use Rattle.vtl_cell.specs.declared.cell.Cell.TheVariants as c
use Rattle.vtl_syntax.specs.declared.word_groups.BasicOut.{BasicOut}
use Rattle.vtl_syntax.specs.declared.word_groups.BasicOut.TheVariants as basic
use Rattle.vtl_syntax.specs.declared.word_groups.CheckOut.{CheckOut}
use Rattle.vtl_syntax.specs.declared.word_groups.CheckOut.TheVariants as out

-- ---- errors
-- the text and the level of an error, null where none is written
abbrev pub code_cell : Option (List ℕ) → Cell
code_cell code = option_map_or c.Text code c.Null

abbrev pub level_cell : Option ℤ → Cell
level_cell level = option_map_or c.Int level c.Null

-- they stand where the truth value is false
abbrev pub errors_at : (code level : Cell) → (truth : Cell) → Row
errors_at code level (c.Bool false) = code ∷ level ∷ []
errors_at code level truth = c.Null ∷ c.Null ∷ []

-- ---- outputs
abbrev pub is_false : Cell → Bool
is_false (c.Bool false) = true
is_false truth = false

-- whether an output shows a point with this truth value
abbrev pub is_shown : CheckOut → (truth : Cell) → Bool
is_shown out.Invalid truth = is_false truth
is_shown out.All truth = true
is_shown out.AllMeasures truth = true

abbrev pub is_basic_shown : BasicOut → (truth : Cell) → Bool
is_basic_shown basic.Invalid truth = is_false truth
is_basic_shown basic.All truth = true
