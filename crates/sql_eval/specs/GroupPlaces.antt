-- Where the columns of GROUP BY are found by name.
use Rattle.std.specs.Prelude.{◌≡◌, ℕ, suc, Bool, List, [], ◌∷◌, Option, Some, None, if◌then◌else◌}
use Rattle.sql_tree.specs.declared.parts.Column.{Column}
use Rattle.sql_check_parts.specs.Scopes.{Sources, found}
use Rattle.sql_meaning.specs.Values.{same_column}

-- the place of the first column that passes, where the list begins at this place
abbrev pub place_from : (Column → Bool) → ℕ → List Column → Option ℕ
place_from p i [] = None
place_from p i (c ∷ cs) = if p c then Some i else place_from p (suc i) cs

-- each column is found at the place of the first that is the same
abbrev pub FindsColumns : List Column → Sources ℕ → Type 0
FindsColumns columns places = (x : Column) → found places x ≡ place_from (same_column x) 0 columns
