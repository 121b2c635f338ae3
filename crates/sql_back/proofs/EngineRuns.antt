-- What the engine tells of a run is what a run of a text tells.
use Rattle.std.proofs.Common.{Result, Ok, Err}
use Rattle.vtl_rows.specs.Named.{NamedTables}
use Rattle.sql_tree.specs.Trees.{ScriptTree}
use Rattle.sql_engine.specs.InputTables.{rows_given}
use Rattle.sql_engine.specs.Runs.{RunsAsMade}
use Rattle.sql_meaning.specs.Scripts.{script_value}
use Rattle.vtl_scalar.specs.declared.run_error.RunErr.{RunErr}
use Rattle.vtl_scalar.specs.declared.run_error.RunErr.TheVariants as err
use Rattle.sql_back.specs.TextRuns.{TellsText}

pub run_told : (s : ScriptTree) (inputs before now : NamedTables) (r : Result (Unit {0}) RunErr) → RunsAsMade s inputs before now r → TellsText (script_value s (rows_given inputs)) before now r
run_told s inputs before now (Ok done) h = h
run_told s inputs before now (Err (err.DivZero name)) h = h
run_told s inputs before now (Err (err.Range name)) h = h
run_told s inputs before now (Err err.OutOfMemory) h = h.1
