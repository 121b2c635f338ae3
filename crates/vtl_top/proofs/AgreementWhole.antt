-- Interpreting a script and running its text in SQL come to the same.
use Rattle.std.proofs.Common.{◌≡◌, ℕ, List, [], ◌∷◌, ◌++◌, append_assoc, map, Some, Result, Ok, Err, refl, sym, ap, subst, ◌∙◌}
use Rattle.std.specs.Prelude.{codes, encode_utf8_all}
use Rattle.std.specs.List.{AllByRecursion}
use Rattle.vtl_decimal.specs.Settings.{Settings}
use Rattle.vtl_decimal.specs.declared.number.Fault.{Fault as EvaluationFault}
use Rattle.vtl_meaning.specs.Profiles.{AllAreOfProfile}
use Rattle.vtl_tree.specs.Environment.{Environment}
use Rattle.vtl_tree.specs.NotNull.{NotNull}
use Rattle.vtl_tree.specs.Structures.{AreStructures, Named}
use Rattle.sql_tree.specs.Trees.{ScriptTree}
use Rattle.sql_meaning.specs.Scripts.{Inputs, script_value}
use Rattle.sql_check_parts.specs.Statements.{script_settings}
use Rattle.vtl_scripts.specs.Meaning.{Outputs, meaning}
use Rattle.vtl_check.specs.Transformations.{transformations}
use Rattle.vtl_check.specs.Uses.{reads}
use Rattle.vtl_csv.specs.CsvText.{csv_of}
use Rattle.vtl_to_sql.specs.Inputs.{AreTaken, sets_read}
use Rattle.vtl_top.specs.Agreement.{AreSameFiles, AreSameMade, AreTwins, ComeToSame, GivesOne, IsOutcomeOf, behind}
use Rattle.vtl_top.specs.Forms.{asked_step}
use Rattle.vtl_top.specs.Expected.{IsTextOf, Typed, file_in, folder_step, meant, output_of, outputs_of, run_step, statements_in, wanted_step}
use Rattle.vtl_top.specs.Meant.{IsTextMeant}
use Rattle.vtl_top.specs.ScriptFile.{whole}
use Rattle.vtl_top.specs.SqlInputs.{inputs_wanted, rows_by_name}
use Rattle.vtl_top.specs.SqlRun.{engine_step, exports_of, present, sql_checked_step, sql_typing}
use Rattle.vtl_top.specs.Steps.{File, Held, Made, Name, Path, Step, Text, as_files, only_files, settled}
use Rattle.vtl_top.specs.Wanted.{Wanted, all_wanted_with}
use Rattle.vtl_top.specs.Words.{Engine, Run, Source, engine, run}
use Rattle.vtl_status.specs.declared.status.Status.{Status}
use Rattle.vtl_top.proofs.AgreementDeclared.{all_declared, step_declares}
use Rattle.vtl_top.proofs.AgreementExports.{exports_are_outputs}
use Rattle.vtl_top.proofs.AgreementInputs.{IsDeclared, SameRows, all_as_inputs, inputs_are_wanted, sets_again, sets_alike, sets_are, sets_given, sets_in, sets_ranged, sets_taken, then_gives, then_on}
use Rattle.vtl_top.proofs.AgreementStructures.{HaveStructures, nodes_have_structures, outputs_have_structures, results_have_structures}
use Rattle.vtl_top.proofs.InputLemmas.{inputs_are}
use Rattle.vtl_top.proofs.MeantLemmas.{accepted_always}
use Rattle.vtl_top.proofs.Sure.{engine_sure, files_sure, run_sure}

-- ---- what is written in two folders
file_behind : (folder : Path) (name : Name) → file_in folder name ≡ folder ++ file_in [] name
file_behind folder name = ap (λ l. l ++ codes ".csv") (append_assoc folder (codes "/") (encode_utf8_all name)) ∙ append_assoc folder (codes "/" ++ encode_utf8_all name) (codes ".csv")

outputs_behind : (folder : Path) (p : Settings) (results : Outputs) → map (output_of folder p) results ≡ map (behind folder) (map (output_of [] p) results)
outputs_behind folder p [] = refl
outputs_behind folder p (d ∷ ds) =
    ap {B = List File} (λ path. (path, csv_of p d.1.structure d.1.points) ∷ map (output_of folder p) ds) (file_behind folder d.0)
    ∙ ap (λ l. behind folder (output_of [] p d) ∷ l) (outputs_behind folder p ds)

outputs_same : (first second : Path) (p : Settings) (m : Result Outputs (EvaluationFault × List ℕ)) → ComeToSame (AreSameFiles first second) (outputs_of first p m) (outputs_of second p m)
outputs_same first second p (Ok results) = record {
  files = map (output_of [] p) results;
  in_first = outputs_behind first p results;
  in_second = outputs_behind second p results;
}
outputs_same first second p (Err fault) = refl

-- ---- a step that makes files gives one result, where its command does
abbrev made_of : Result (List File) Status → Result Made Status
made_of (Ok files) = Ok (only_files files)
made_of (Err status) = Err status

made_given : (step : Step (List File)) (held : Held) (given : Result (List File) Status) → step.gives held given → (as_files step).gives held (made_of given)
made_given step held (Ok files) is = (Ok files, is, refl)
made_given step held (Err status) is = (Err status, is, refl)

made_same : (first second : Path) (given found : Result (List File) Status) → ComeToSame (AreSameFiles first second) given found → ComeToSame (AreSameMade first second) (made_of given) (made_of found)
made_same first second (Ok here) (Ok there) same = record { made = same; said = refl }
made_same first second (Ok here) (Err status) same = absurd same
made_same first second (Err status) (Ok there) same = absurd same
made_same first second (Err status) (Err other) same = same

-- ---- what a text exports is what its script's outputs are, whatever rows of the profile its INPUTs take
module _ (s : Source) (held : Held) (text : Text) (is : IsTextMeant s held text) where
  declared : AreStructures is.typed.structures
  declared = subst AreStructures (sym is.script.structures) (step_declares s.structures held is.script.declared is.script.source.declared)

  shaped : HaveStructures is.typed.nodes
  shaped = nodes_have_structures is.typed.settings is.typed.structures is.typed.tree is.typed.nodes declared is.script.fits

  pub writes_alike : (folder : Path) (inputs : Inputs) → AreTaken inputs is.typed.not_null (reads is.typed.structures is.typed.nodes) → AllAreOfProfile is.typed.settings (sets_read inputs (reads is.typed.structures is.typed.nodes))
      → exports_of folder is.typed.settings (script_value is.text_of.script inputs) ≡ outputs_of folder is.typed.settings (meant is.typed (sets_read inputs (reads is.typed.structures is.typed.nodes)))
  writes_alike folder inputs taken ranged =
      let t = is.typed in
      let sets = sets_read inputs (reads t.structures t.nodes) in
      ap (exports_of folder t.settings) (is.text_of.means inputs taken ranged)
      ∙ exports_are_outputs folder t.settings (meaning t.settings (statements_in t) sets) (λ outputs i. outputs_have_structures t.settings (statements_in t) sets outputs i (results_have_structures (transformations t.tree) t.nodes shaped))

module _ (r : Run) (e : Engine) (held other : Held) (twins : AreTwins r e held other) where
  -- ---- the script, and its text
  abbrev t : Typed
  t = twins.script.typed

  abbrev es : Named
  es = reads t.structures t.nodes

  abbrev ls : NotNull
  ls = t.not_null

  abbrev wanted : List Wanted
  wanted = all_wanted_with ls es

  abbrev its_text : IsTextOf t twins.text
  its_text = twins.script.text_of

  abbrev tree : ScriptTree
  tree = its_text.script

  read : AreStructures es
  read = inputs_are t.structures t.nodes (declared r.source held twins.text twins.script)

  each : AllByRecursion IsDeclared es
  each = all_declared es read

  -- ---- what the run gives, in a folder
  abbrev result_in : Path → Result (List File) Status
  result_in folder = then_on (sets_in r.input t.settings held [] wanted) (λ env. outputs_of folder t.settings (meant t env))

  run_there : (run_step r).gives held (result_in r.output)
  run_there = (
    Ok t,
    accepted_always r.source held t twins.script.script,
    then_gives (folder_step r.input t.settings ls es) (λ env. settled (outputs_of r.output t.settings (meant t env))) held (sets_in r.input t.settings held [] wanted) (λ env. outputs_of r.output t.settings (meant t env))
        (sets_given r.input t.settings held [] wanted) (λ env. refl),
  )

  -- ---- what the engine gives
  abbrev result_by : Path → Settings → List Wanted → Result (List File) Status
  result_by input p inputs = then_on (sets_in input p other [] inputs) (λ env. exports_of e.output p (script_value tree (rows_by_name env)))

  checked : (sql_checked_step e.sql).gives other (Ok tree)
  checked = (
    Ok tree,
    (Ok twins.text, sym (ap (present e.sql) twins.sql_file), (whole tree, (its_text.utf8, its_text.spelled), refl)),
    (Ok tt, sym (ap sql_typing its_text.typed), refl),
  )

  engine_there : (engine_step e).gives other (result_by e.input (script_settings tree) (inputs_wanted tree))
  engine_there = (
    Ok tree,
    checked,
    then_gives (wanted_step e.input (script_settings tree) (inputs_wanted tree)) (λ env. settled (exports_of e.output (script_settings tree) (script_value tree (rows_by_name env)))) other
        (sets_in e.input (script_settings tree) other [] (inputs_wanted tree)) (λ env. exports_of e.output (script_settings tree) (script_value tree (rows_by_name env)))
        (sets_given e.input (script_settings tree) other [] (inputs_wanted tree)) (λ env. refl),
  )

  -- ---- it is what the run gives in the engine's folder
  value_same : (env : Environment) → sets_in r.input t.settings held [] wanted ≡ Ok env → exports_of e.output t.settings (script_value tree (rows_by_name env)) ≡ outputs_of e.output t.settings (meant t env)
  value_same env q =
      let are = sets_are ls t.settings r.input held es env q in
      writes_alike r.source held twins.text twins.script e.output (rows_by_name env) (sets_taken ls t.settings es env each read.distinct are) (sets_ranged ls t.settings es env each read.distinct are)
      ∙ ap (λ sets. outputs_of e.output t.settings (meant t sets)) (sets_again ls t.settings es env read.distinct are)

  result_same : result_by r.input t.settings (all_as_inputs ls es) ≡ result_in e.output
  result_same = go (sets_in r.input t.settings held [] wanted) refl (sets_in r.input t.settings other [] (all_as_inputs ls es)) (sets_alike ls r.input t.settings held other [] [] es refl twins.same each)
    where
      go : (a : Result Environment Status) → sets_in r.input t.settings held [] wanted ≡ a → (b : Result Environment Status) → SameRows a b
          → then_on b (λ env. exports_of e.output t.settings (script_value tree (rows_by_name env))) ≡ then_on a (λ env. outputs_of e.output t.settings (meant t env))
      go (Ok env) q (Ok now) rows = ap (λ inputs. exports_of e.output t.settings (script_value tree inputs)) (sym rows) ∙ value_same env q
      go (Ok env) q (Err status) rows = absurd rows
      go (Err status) q (Ok now) rows = absurd rows
      go (Err status) q (Err found) same = ap Err (sym same)

  one_result : result_by e.input (script_settings tree) (inputs_wanted tree) ≡ result_in e.output
  one_result =
      ap (λ folder. result_by folder (script_settings tree) (inputs_wanted tree)) twins.input
      ∙ ap (λ p. result_by r.input p (inputs_wanted tree)) its_text.settings
      ∙ ap (result_by r.input t.settings) (inputs_are_wanted ls tree es its_text.inputs)
      ∙ result_same

  engine_gives : (engine_step e).gives other (result_in e.output)
  engine_gives = subst (λ x. (engine_step e).gives other x) one_result engine_there

  both_same : ComeToSame (AreSameFiles r.output e.output) (result_in r.output) (result_in e.output)
  both_same = by_sets (sets_in r.input t.settings held [] wanted)
    where
      by_sets : (a : Result Environment Status) → ComeToSame (AreSameFiles r.output e.output) (then_on a (λ env. outputs_of r.output t.settings (meant t env))) (then_on a (λ env. outputs_of e.output t.settings (meant t env)))
      by_sets (Ok env) = outputs_same r.output e.output t.settings (meant t env)
      by_sets (Err status) = refl

  pub engine_agrees : (given : Result (List File) Status) → (run_step r).gives held given → GivesOne (engine_step e) other (λ found. ComeToSame (AreSameFiles r.output e.output) given found)
  engine_agrees given gives = record {
    given = result_in e.output;
    there = engine_gives;
    is = subst (λ x. ComeToSame (AreSameFiles r.output e.output) x (result_in e.output)) ((run_sure r).one held (result_in r.output) given run_there gives) both_same;
  }

  pub run_agrees : (found : Result (List File) Status) → (engine_step e).gives other found → GivesOne (run_step r) held (λ given. ComeToSame (AreSameFiles r.output e.output) given found)
  run_agrees found gives = record {
    given = result_in r.output;
    there = run_there;
    is = subst (λ x. ComeToSame (AreSameFiles r.output e.output) (result_in r.output) x) ((engine_sure e).one other (result_in e.output) found engine_gives gives) both_same;
  }

  -- ---- and so are the commands
  run_makes : (asked_step (Some (run r))).gives held (made_of (result_in r.output))
  run_makes = made_given (run_step r) held (result_in r.output) run_there

  engine_makes : (asked_step (Some (engine e))).gives other (made_of (result_in e.output))
  engine_makes = made_given (engine_step e) other (result_in e.output) engine_gives

  both_made : ComeToSame (AreSameMade r.output e.output) (made_of (result_in r.output)) (made_of (result_in e.output))
  both_made = made_same r.output e.output (result_in r.output) (result_in e.output) both_same

  pub outcome_there : IsOutcomeOf r e held other
  outcome_there = record { given = made_of (result_in r.output); found = made_of (result_in e.output); of_run = run_makes; of_engine = engine_makes; alike = both_made }

  pub outcomes_agree : (given found : Result Made Status) → (asked_step (Some (run r))).gives held given → (asked_step (Some (engine e))).gives other found → ComeToSame (AreSameMade r.output e.output) given found
  outcomes_agree given found p q =
      subst (λ y. ComeToSame (AreSameMade r.output e.output) given y) ((files_sure (engine_step e) (engine_sure e)).one other (made_of (result_in e.output)) found engine_makes q)
      (subst (λ x. ComeToSame (AreSameMade r.output e.output) x (made_of (result_in e.output))) ((files_sure (run_step r) (run_sure r)).one held (made_of (result_in r.output)) given run_makes p) both_made)
