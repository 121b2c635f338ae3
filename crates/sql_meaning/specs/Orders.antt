-- Tables up to the order of their rows.
use Rattle.std.specs.Prelude.{◌≡◌, List, [], ◌∷◌}
use Rattle.vtl_lists.specs.Perm.{Perm}
use Rattle.vtl_cell.specs.Row.{Row}
use Rattle.sql_tree.specs.Trees.{Text}
use Rattle.sql_meaning.specs.Scripts.{Inputs}
use Rattle.sql_meaning.specs.Tables.{Base}

-- the same rows of each table in any order
abbrev pub SameRows : (Text → List Row) → (Text → List Row) → Type 0
SameRows rows other = (name : Text) → Perm (rows name) (other name)

-- the same settings and tables, with other rows
abbrev pub with_rows : Base → (Text → List Row) → Base
with_rows b other = record { settings = b.settings; tables = b.tables; rows = other }

-- the same names in the same order, the rows of each in any order
abbrev pub SameInputs : Inputs → Inputs → Type 0
SameInputs [] [] = Unit {0}
SameInputs [] (e ∷ es) = ⊥
SameInputs (d ∷ ds) [] = ⊥
SameInputs (d ∷ ds) (e ∷ es) = (d.0 ≡ e.0) × Perm d.1 e.1 × SameInputs ds es
