-- The rows of one key, as a list.
use Rattle.std.specs.Prelude.{ℕ, List, [], ◌∷◌}
use Rattle.vtl_index.specs.declared.row_numbers.Numbers.{Numbers}
use Rattle.vtl_index.specs.declared.row_numbers.Numbers.TheVariants.{Many, One}

abbrev pub listed : Numbers → List ℕ
listed (One row) = row ∷ []
listed (Many rows) = rows.items
