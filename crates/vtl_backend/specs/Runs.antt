-- What a run of a script gives, of every back end.
use Rattle.std.specs.Prelude.{◌≡◌, ℕ, List, [], ◌∷◌, Result, Ok, Err}
use Rattle.vtl_decimal.specs.declared.number.Fault.TheVariants.{DivZero, Range}
use Rattle.vtl_decimal.specs.declared.number.Fault.{Fault}
use Rattle.vtl_rows.specs.Named.{NamedTables}
use Rattle.vtl_scripts.specs.Meaning.{Outputs, meaning}
use Rattle.vtl_check.specs.Checked.{TypedScript}
use Rattle.vtl_backend.specs.Inputs.{environment_of}
use Rattle.vtl_backend.specs.Statements.{statements_of}
use Rattle.vtl_backend.specs.Tables.{Shows}
use Rattle.vtl_scalar.specs.declared.run_error.RunErr.{RunErr}
use Rattle.vtl_scalar.specs.declared.run_error.RunErr.TheVariants as err

-- the outputs of a script over the tables of its inputs, or its fault
abbrev pub script_meaning : TypedScript → NamedTables → Result Outputs (Fault × List ℕ)
script_meaning t inputs = meaning t.settings (statements_of t) (environment_of t inputs)

-- a table for each output, in order, under its name
abbrev pub ShowAll : Outputs → NamedTables → Type 0
ShowAll [] [] = Unit {0}
ShowAll [] (t ∷ ts) = ⊥
ShowAll (d ∷ ds) [] = ⊥
ShowAll (d ∷ ds) (t ∷ ts) = (t.0 ≡ d.0) × Shows d.1 t.1 × ShowAll ds ts

-- the tables are those of the outputs, and there is no fault
abbrev pub ShowMeaning : Result Outputs (Fault × List ℕ) → NamedTables → Type 0
ShowMeaning (Ok outputs) tables = ShowAll outputs tables
ShowMeaning (Err fault) tables = ⊥

-- The answer tells the meaning: the tables are the outputs, or the fault is the one that it says, with the name of its statement's
-- result. Where there is a fault or want of memory the tables are as before.
abbrev pub Tells : Result Outputs (Fault × List ℕ) → (before now : NamedTables) → Result (Unit {0}) RunErr → Type 0
Tells meant before now (Ok done) = ShowMeaning meant now
Tells meant before now (Err (err.DivZero name)) = (meant ≡ Err (DivZero, name)) × (now ≡ before)
Tells meant before now (Err (err.Range name)) = (meant ≡ Err (Range, name)) × (now ≡ before)
Tells meant before now (Err err.OutOfMemory) = now ≡ before

-- a run of a script over the tables of its inputs, with the tables before it and behind it
abbrev pub Runs : TypedScript → NamedTables → (before now : NamedTables) → Result (Unit {0}) RunErr → Type 0
Runs t inputs before now result = Tells (script_meaning t inputs) before now result
