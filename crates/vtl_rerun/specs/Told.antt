-- What a run of a part gives.
use Rattle.std.specs.Prelude.{◌≡◌, ℕ, List, [], ◌∷◌, length, Result, Ok, Err}
use Rattle.vtl_cell.specs.Outcome.{Outcome}
use Rattle.vtl_decimal.specs.declared.number.Fault.TheVariants.{DivZero, Range}
use Rattle.vtl_decimal.specs.declared.number.Fault.{Fault}
use Rattle.vtl_rows.specs.Tables.{Listed}
use Rattle.vtl_scalar.specs.declared.run_error.RunErr.{RunErr}
use Rattle.vtl_scalar.specs.declared.run_error.RunErr.TheVariants as err
use Rattle.vtl_tree.specs.Environment.{DataSet}
use Rattle.vtl_scripts.specs.Meaning.{Outputs, Statement}
use Rattle.vtl_check.specs.Checked.{TypedScript, tree_of}
use Rattle.vtl_check.specs.Transformations.{transformations}
use Rattle.vtl_backend.specs.Statements.{statements_of}
use Rattle.vtl_backend.specs.Tables.{Shows}
use Rattle.rerun_laws.specs.Values.{alone}

-- ---- a script of one output
-- it has one transformation, which is written
pub record HasOneOutput (t : TypedScript) : Type 0 where
  pub one : length (transformations (tree_of t)) ≡ 1
  pub written : (s : Statement) × (statements_of t ≡ alone s ∷ [])

abbrev pub ShowsOne : Outputs → Listed → Type 0
ShowsOne (d ∷ []) table = Shows d.1 table
ShowsOne outputs table = ⊥

abbrev pub GivesOne : Result Outputs (Fault × List ℕ) → Result Listed RunErr → Type 0
GivesOne (Ok outputs) (Ok table) = ShowsOne outputs table
GivesOne (Err fault) (Ok table) = ⊥
GivesOne meant (Err (err.DivZero name)) = meant ≡ Err (DivZero, name)
GivesOne meant (Err (err.Range name)) = meant ≡ Err (Range, name)
GivesOne meant (Err err.OutOfMemory) = Unit {0}

-- ---- a statement
-- the table is that of the data set, or the fault is its own, with the name of its result
abbrev pub Tells : List ℕ → Outcome DataSet → Result Listed RunErr → Type 0
Tells name (Ok d) (Ok table) = Shows d table
Tells name (Err fault) (Ok table) = ⊥
Tells name v (Err (err.DivZero n)) = (v ≡ Err DivZero) × (n ≡ name)
Tells name v (Err (err.Range n)) = (v ≡ Err Range) × (n ≡ name)
Tells name v (Err err.OutOfMemory) = Unit {0}
