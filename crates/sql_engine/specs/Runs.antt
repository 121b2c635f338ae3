-- What a run of a script gives.
use Rattle.std.specs.Prelude.{◌≡◌, List, [], ◌∷◌, map, Result, Ok, Err}
use Rattle.vtl_decimal.specs.declared.number.Fault.TheVariants.{DivZero, Range}
use Rattle.vtl_lists.specs.Perm.{Perm}
use Rattle.vtl_rows.specs.Named.{NamedTables}
use Rattle.sql_tree.specs.Trees.{ScriptTree, Text}
use Rattle.vtl_scalar.specs.declared.error.ScalarErr.{ScalarErr}
use Rattle.vtl_scalar.specs.declared.error.ScalarErr.TheVariants as scalar
use Rattle.sql_meaning.specs.Scripts.{Export, NamedFault, fault_name, script_value}
use Rattle.sql_engine.specs.Exported.{entry_column, shown}
use Rattle.sql_engine.specs.InputTables.{rows_given}
use Rattle.vtl_scalar.specs.declared.run_error.RunErr.{RunErr}
use Rattle.vtl_scalar.specs.declared.run_error.RunErr.TheVariants as run
use Rattle.sql_engine.specs.declared.orders.RowOrder.{RowOrder}
use Rattle.sql_engine.specs.declared.orders.RowOrder.TheVariants as by

-- the tables are those of the exports, in order, and there is no fault
abbrev pub ShowsExports : Result (List Export) NamedFault → NamedTables → Type 0
ShowsExports (Ok exports) tables = tables ≡ map shown exports
ShowsExports (Err fault) tables = ⊥

-- a table for each export, in order, of its name, its columns, and its rows in any order
abbrev pub ShowsAs : List Export → NamedTables → Type 0
ShowsAs [] [] = Unit {0}
ShowsAs [] (t ∷ ts) = ⊥
ShowsAs (e ∷ es) [] = ⊥
ShowsAs (e ∷ es) (t ∷ ts) = (t.0 ≡ e.name) × (t.1.columns ≡ map entry_column e.columns) × Perm t.1.rows e.rows × ShowsAs es ts

-- the tables are those of the exports but for the order of their rows, and there is no fault
abbrev pub ShowsMeaning : Result (List Export) NamedFault → NamedTables → Type 0
ShowsMeaning (Ok exports) tables = ShowsAs exports tables
ShowsMeaning (Err fault) tables = ⊥

-- the tables show the exports: rows that are sorted stand in order, and those that are as they were made in any
abbrev pub Shows : RowOrder → Result (List Export) NamedFault → NamedTables → Type 0
Shows by.Sorted meant tables = ShowsExports meant tables
Shows by.AsMade meant tables = ShowsMeaning meant tables

-- the fault is the one that is told; of want of memory nothing is said
abbrev pub FaultIs : {A : Type 0} → Result A NamedFault → RunErr → Type 0
FaultIs meant (run.DivZero name) = meant ≡ Err (DivZero, name)
FaultIs meant (run.Range name) = meant ≡ Err (Range, name)
FaultIs meant run.OutOfMemory = Unit {0}

abbrev pub TellsExports : RowOrder → Result (List Export) NamedFault → Result NamedTables RunErr → Type 0
TellsExports how meant (Ok tables) = Shows how meant tables
TellsExports how meant (Err e) = FaultIs meant e

-- The answer tells the meaning: the tables are the exports, or the fault is the one that it says, with the name of its table up to the
-- first `$`. Where there is a fault or want of memory the tables are as before.
abbrev pub Tells : RowOrder → Result (List Export) NamedFault → (before now : NamedTables) → Result (Unit {0}) RunErr → Type 0
Tells how meant before now (Ok done) = Shows how meant now
Tells how meant before now (Err e) = FaultIs meant e × (now ≡ before)

-- a run of a script over the tables of its inputs, with the tables before it and behind it
abbrev pub Runs : ScriptTree → NamedTables → (before now : NamedTables) → Result (Unit {0}) RunErr → Type 0
Runs s inputs before now result = Tells by.Sorted (script_value s (rows_given inputs)) before now result

-- the same, of tables whose rows may stand in any order
abbrev pub RunsAsMade : ScriptTree → NamedTables → (before now : NamedTables) → Result (Unit {0}) RunErr → Type 0
RunsAsMade s inputs before now result = Tells by.AsMade (script_value s (rows_given inputs)) before now result

-- the fault of a table's query, or want of memory
abbrev pub Faults : Text → ScalarErr → RunErr → Type 0
Faults name e (run.DivZero n) = (n ≡ fault_name name) × (e ≡ scalar.DivZero)
Faults name e (run.Range n) = (n ≡ fault_name name) × (e ≡ scalar.Range)
Faults name e run.OutOfMemory = Unit {0}
