-- The results of statements, over the data sets that are held.
use Rattle.std.specs.Prelude.{◌≡◌, ℕ, false, List, [], ◌∷◌, ◌++◌, Result, Ok, Err}
use Rattle.std.specs.List.{list_any}
use Rattle.vtl_decimal.specs.Settings.{Settings}
use Rattle.vtl_decimal.specs.declared.number.Fault.TheVariants.{DivZero, Range}
use Rattle.vtl_decimal.specs.declared.number.Fault.{Fault}
use Rattle.vtl_scalar.specs.declared.error.ScalarErr.{ScalarErr}
use Rattle.vtl_scalar.specs.declared.error.ScalarErr.TheVariants as scalar
use Rattle.vtl_syntax.specs.declared.word_groups.AssignKind.{AssignKind}
use Rattle.vtl_tree.specs.Environment.{DataSet, Environment, known_in}
use Rattle.vtl_tree.specs.Structure.{same_name}
use Rattle.vtl_tree.specs.Trees.{NodeTree}
use Rattle.vtl_scripts.specs.Made.{AreMadeStatements}
use Rattle.vtl_scripts.specs.Meaning.{Outputs, Statement, node_value}
use Rattle.vtl_rows.specs.Named.{NamedTables}
use Rattle.vtl_backend.specs.Runs.{ShowAll, ShowMeaning}
use Rattle.vtl_backend.specs.Statements.{is_written}
use Rattle.vtl_scalar.specs.declared.run_error.RunErr.{RunErr}
use Rattle.vtl_scalar.specs.declared.run_error.RunErr.TheVariants as run
use Rattle.vtl_interp.specs.Evaluated.{Gives}
use Rattle.vtl_interp.specs.Held.{HoldSame}
use Rattle.vtl_interp.specs.Written.{IsWritten}
use Rattle.vtl_interp.specs.declared.held.Held.{Held}

abbrev pub result_named : List ℕ → AssignKind → NodeTree → Statement
result_named name kind n = record { result = name; persistent = is_written kind; node = n }

-- the statements' results have names that none of these is, nor an earlier result
abbrev pub AreNew : List (List ℕ) → List Statement → Type 0
AreNew names [] = Unit {0}
AreNew names (s ∷ rest) = (list_any (same_name s.result) names ≡ false) × AreNew (names ++ s.result ∷ []) rest

-- the statements can be evaluated one after the other from these data sets on, and none gives a result one of these names
pub record AreReady (p : Settings) (env : Environment) (names : List (List ℕ)) (ss : List Statement) : Type 0 where
  pub made : AreMadeStatements p (known_in env) ss
  pub new_names : AreNew names ss

-- the statement's data set is held with those before it, and its table stands behind those before it where it is written
pub record IsAdded (p : Settings) (before now : Environment) (tables more : NamedTables) (s : Statement) : Type 0 where
  pub made : DataSet
  pub gives : Gives p before s.node made
  pub held : HoldSame now ((s.result, made) ∷ before)
  pub written : IsWritten s.persistent s.result made tables more

-- the fault of a statement, or want of memory
abbrev pub Faults : List ℕ → ScalarErr → RunErr → Type 0
Faults name e (run.DivZero n) = (n ≡ name) × (e ≡ scalar.DivZero)
Faults name e (run.Range n) = (n ≡ name) × (e ≡ scalar.Range)
Faults name e run.OutOfMemory = Unit {0}

-- a statement adds its data set, or has the fault that is told
abbrev pub Adds : Settings → (before now : Held) → Statement → Result (Unit {0}) RunErr → Type 0
Adds p before now s (Ok done) = IsAdded p before.known.entries now.known.entries before.outputs now.outputs s
Adds p before now s (Err (run.DivZero name)) = (name ≡ s.result) × (node_value p before.known.entries s.node ≡ Err DivZero)
Adds p before now s (Err (run.Range name)) = (name ≡ s.result) × (node_value p before.known.entries s.node ≡ Err Range)
Adds p before now s (Err run.OutOfMemory) = Unit {0}

-- outputs behind others
abbrev pub behind : Outputs → Result Outputs (Fault × List ℕ) → Result Outputs (Fault × List ℕ)
behind front (Ok outputs) = Ok (front ++ outputs)
behind front (Err fault) = Err fault

-- the tables show the outputs that stand before those to come
pub record Remain (all rest : Result Outputs (Fault × List ℕ)) (tables : NamedTables) : Type 0 where
  pub front : Outputs
  pub shows : ShowAll front tables
  pub whole : behind front rest ≡ all

-- the fault is the one that is told
abbrev pub FaultIs : Result Outputs (Fault × List ℕ) → RunErr → Type 0
FaultIs meant (run.DivZero name) = meant ≡ Err (DivZero, name)
FaultIs meant (run.Range name) = meant ≡ Err (Range, name)
FaultIs meant run.OutOfMemory = Unit {0}

-- the tables are the outputs, or the fault is the one that is told
abbrev pub ShownBy : Result Outputs (Fault × List ℕ) → Result NamedTables RunErr → Type 0
ShownBy meant (Ok tables) = ShowMeaning meant tables
ShownBy meant (Err e) = FaultIs meant e
