-- Answers of back ends that tell the same.
use Rattle.std.specs.Prelude.{◌≡◌, [], ◌∷◌, Result, Ok, Err}
use Rattle.vtl_lists.specs.Perm.{Perm}
use Rattle.vtl_rows.specs.Named.{NamedTables}
use Rattle.vtl_scalar.specs.declared.run_error.RunErr.{RunErr}
use Rattle.vtl_scalar.specs.declared.run_error.RunErr.TheVariants as err

-- the same names in the same order, each with the same columns and, up to order, the same rows
abbrev pub SameTables : NamedTables → NamedTables → Type 0
SameTables [] [] = Unit {0}
SameTables [] (u ∷ us) = ⊥
SameTables (t ∷ ts) [] = ⊥
SameTables (t ∷ ts) (u ∷ us) = (t.0 ≡ u.0) × (t.1.columns ≡ u.1.columns) × Perm t.1.rows u.1.rows × SameTables ts us

-- the same tables, or the same fault; want of memory says nothing
abbrev pub Agree : Result (Unit {0}) RunErr → NamedTables → Result (Unit {0}) RunErr → NamedTables → Type 0
Agree (Ok a) now (Ok b) other = SameTables now other
Agree (Ok a) now (Err (err.DivZero name)) other = ⊥
Agree (Ok a) now (Err (err.Range name)) other = ⊥
Agree (Ok a) now (Err err.OutOfMemory) other = Unit {0}
Agree (Err (err.DivZero name)) now (Ok b) other = ⊥
Agree (Err (err.DivZero name)) now (Err (err.DivZero n)) other = name ≡ n
Agree (Err (err.DivZero name)) now (Err (err.Range n)) other = ⊥
Agree (Err (err.DivZero name)) now (Err err.OutOfMemory) other = Unit {0}
Agree (Err (err.Range name)) now (Ok b) other = ⊥
Agree (Err (err.Range name)) now (Err (err.DivZero n)) other = ⊥
Agree (Err (err.Range name)) now (Err (err.Range n)) other = name ≡ n
Agree (Err (err.Range name)) now (Err err.OutOfMemory) other = Unit {0}
Agree (Err err.OutOfMemory) now answer other = Unit {0}
