-- What is asked of the script and its inputs, and what it means, of any script that is the demonstration's.
use Rattle.std.proofs.Common.{◌≡◌, ◌≤◌, ◌∙◌, ℕ, Result, Ok, Err, List, map, ap, ap₂, refl, subst, sym}
use Rattle.std.specs.List.{AllByRecursion}
use Rattle.vtl_decimal.specs.declared.number.Fault.{Fault}
use Rattle.vtl_decimal.specs.declared.number.Fault.TheVariants.{DivZero, Range}
use Rattle.vtl_scripts.specs.Meaning.{Outputs, meaning}
use Rattle.vtl_meaning.specs.Profiles.{AllAreOfProfile}
use Rattle.vtl_check.specs.Checked.{TypedScript, known_of, nodes_of, tree_of}
use Rattle.vtl_check.specs.Transformations.{transformations}
use Rattle.vtl_check.specs.Uses.{reads, results_behind}
use Rattle.vtl_rows.specs.Named.{NamedTables, table_of}
use Rattle.vtl_backend.specs.Inputs.{AreInRange, AreInputs, Holds, environment_of, input_of, inputs_of}
use Rattle.vtl_backend.specs.Runs.{ShowMeaning, Tells, script_meaning}
use Rattle.vtl_backend.specs.Statements.{statements_of, with_nodes}
use Rattle.vtl_scalar.specs.declared.run_error.RunErr.{RunErr}
use Rattle.vtl_scalar.specs.declared.run_error.RunErr.TheVariants as err
use Rattle.vtl_demo.specs.DataSets.{declared, environment, tables}
use Rattle.vtl_demo.specs.Nodes.{results, results_with, statements}
use Rattle.vtl_demo.specs.Script.{settings}
use Rattle.vtl_demo.specs.Typed.{IsDemonstration}
use Rattle.vtl_demo.proofs.Meant.{meant}
use Rattle.vtl_demo.proofs.Points.{left_is, left_ranged, right_is, right_ranged}
use Rattle.vtl_demo.proofs.Shown.{known}

module _ (t : TypedScript) (is : IsDemonstration t) where
  reads_are : inputs_of t ≡ declared
  reads_are = ap₂ reads is.over is.gives

  statements_are : statements_of t ≡ statements
  statements_are = ap₂ (λ s ns. with_nodes (transformations s) ns) is.spells is.gives

  environment_is : (n : ℕ) → environment_of t (tables n) ≡ environment n
  environment_is n = ap (map (input_of (tables n))) reads_are

  pub known_are : known_of t ≡ known
  known_are =
      ap (λ s. results_behind (reads s (nodes_of t)) (transformations (tree_of t)) (nodes_of t)) is.over
      ∙ ap₂ (λ s ns. results_behind (reads declared ns) (transformations s) ns) is.spells is.gives

  pub inputs_are : (n : ℕ) → AreInputs t (tables n)
  inputs_are n =
      subst (AllByRecursion (λ e. Holds e.1 (table_of e.0 (tables n)))) (sym reads_are)
      (record { columns = refl; points = left_is n }, (record { columns = refl; points = right_is n }, tt))

  pub in_range : (n : ℕ) → n ≤ 1000000 → AreInRange t (tables n)
  in_range n few =
      subst (λ p. AllAreOfProfile p (environment_of t (tables n))) (sym is.by)
      (subst (AllAreOfProfile settings) (sym (environment_is n)) (left_ranged n few, (right_ranged n few, tt)))

  pub means : (n : ℕ) → script_meaning t (tables n) ≡ results n
  means n =
      ap (λ p. meaning p (statements_of t) (environment_of t (tables n))) is.by
      ∙ ap₂ (meaning settings) statements_are (environment_is n)

-- a run has no fault
faultless : (m : Result Outputs (Fault × List ℕ)) (outputs : Outputs) → m ≡ Ok outputs → (before now : NamedTables) (e : RunErr) → Tells m before now (Err e) → e ≡ err.OutOfMemory
faultless m outputs is before now (err.DivZero name) told = let f : m ≡ Err (DivZero, name) = told.0 in cc
faultless m outputs is before now (err.Range name) told = let f : m ≡ Err (Range, name) = told.0 in cc
faultless m outputs is before now err.OutOfMemory told = refl

-- over these inputs
module _ (t : TypedScript) (is : IsDemonstration t) (n : ℕ) (few : n ≤ 1000000) (inputs : NamedTables) (given : inputs ≡ tables n) where
  means_results : script_meaning t inputs ≡ results n
  means_results = ap (script_meaning t) given ∙ means t is n

  pub only_memory : (before now : NamedTables) (e : RunErr) → Tells (script_meaning t inputs) before now (Err e) → e ≡ err.OutOfMemory
  only_memory = faultless (script_meaning t inputs) (results_with n (meant n few).totals) (means_results ∙ (meant n few).are)

  pub shows_results : (now : NamedTables) → ShowMeaning (script_meaning t inputs) now → ShowMeaning (results n) now
  shows_results now shows = subst (λ m. ShowMeaning m now) means_results shows
