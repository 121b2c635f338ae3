-- The tables of data sets that are written.
use Rattle.std.specs.Prelude.{◌≡◌, ℕ, Bool, List, [], ◌∷◌, ◌++◌, MatchBool}
use Rattle.vtl_rows.specs.Named.{NamedTables}
use Rattle.vtl_rows.specs.Tables.{Listed}
use Rattle.vtl_tree.specs.Environment.{DataSet}
use Rattle.vtl_backend.specs.Tables.{Shows}

-- a table of the data set stands behind those before it
pub record IsBehind (name : List ℕ) (d : DataSet) (before now : NamedTables) : Type 0 where
  pub table : Listed
  pub shows : Shows d table
  pub behind : now ≡ before ++ (name, table) ∷ []

-- the same, where the data set is written; else nothing changes
abbrev pub IsWritten : Bool → List ℕ → DataSet → (before now : NamedTables) → Type 0
IsWritten written name d before now = MatchBool written (IsBehind name d before now) (now ≡ before)
