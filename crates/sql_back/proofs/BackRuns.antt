-- What a run of a script's text tells is what the script means.
use Rattle.std.proofs.Common.{◌≡◌, ℕ, List, [], ◌∷◌, map, Result, Ok, Err, refl, sym, ap, ◌∙◌, subst}
use Rattle.vtl_decimal.specs.declared.number.Fault.TheVariants.{DivZero, Range}
use Rattle.vtl_decimal.specs.declared.number.Fault.{Fault}
use Rattle.vtl_lists.specs.Perm.{Perm, chain}
use Rattle.vtl_cell.proofs.Keys.{window_order}
use Rattle.vtl_lists.proofs.Sorts.{Perm-sorted_by}
use Rattle.vtl_rows.specs.Named.{NamedTables}
use Rattle.vtl_rows.specs.Tables.{Listed}
use Rattle.vtl_tree.specs.Environment.{DataSet, known_in}
use Rattle.vtl_tree.specs.Structure.{columns_of}
use Rattle.vtl_tree.specs.declared.structure.Component.{Component}
use Rattle.sql_tree.specs.Texts.{IsScript as IsSpelled}
use Rattle.sql_engine.specs.Exported.{entry_column}
use Rattle.sql_engine.specs.InputTables.{rows_given}
use Rattle.sql_meaning.specs.Scripts.{script_value}
use Rattle.vtl_check.specs.Checked.{TypedScript}
use Rattle.vtl_backend.specs.Inputs.{AreInRange, AreInputs, environment_of, inputs_of}
use Rattle.vtl_scripts.specs.Made.{AreMadeStatements}
use Rattle.vtl_scripts.specs.Meaning.{AreDataSets, Outputs}
use Rattle.vtl_backend.specs.Runs.{Runs, ShowAll, ShowMeaning, Tells, script_meaning}
use Rattle.vtl_backend.specs.Statements.{statements_of}
use Rattle.vtl_sets.specs.TableOf.{column_for}
use Rattle.vtl_backend.specs.Tables.{Shows}
use Rattle.vtl_scalar.specs.declared.run_error.RunErr.{RunErr}
use Rattle.vtl_scalar.specs.declared.run_error.RunErr.TheVariants as err
use Rattle.vtl_to_sql.specs.Conditions.{IsScript}
use Rattle.vtl_to_sql.specs.Exports.{exported, exported_as}
use Rattle.selects_to_sql.specs.Runs.{entries}
use Rattle.vtl_to_sql.specs.Scripts.{script_for}
use Rattle.selects_to_sql.proofs.Exact.{set_turned}
use Rattle.vtl_to_sql.proofs.TranslatedScripts.{all_made, script_means}
use Rattle.vtl_scripts.proofs.ScriptsKept.{meaning_kept}
use Rattle.sql_engine.specs.Runs.{ShowsAs}
use Rattle.sql_back.specs.TextRuns.{CanRun, RunsText, TellsText}
use Rattle.sql_back.specs.Texts.{IsTextOf}
use Rattle.sql_back.proofs.InputTables.{are_read, are_sets, inputs_ranged, inputs_there, sets_known}

-- ---- what a text is asked for

pub text_can_run : (t : TypedScript) (text : List ℕ) (tables : NamedTables) → IsTextOf t text → AreInputs t tables → AreInRange t tables → CanRun text tables
text_can_run t text tables is there ranged = record {
  script = is.script;
  spelled = is.spelled;
  typed = is.typed;
  there = inputs_there tables t.not_null (inputs_of t) is.script is.inputs there;
  in_range = inputs_ranged tables t.not_null t.settings _ (inputs_of t) is.script is.settings is.inputs ranged;
}

-- ---- tables of exports are tables of outputs

columns_are : (xs : List Component) → map entry_column (entries xs) ≡ map column_for xs
columns_are [] = refl
columns_are (x ∷ xs) = ap (λ l. column_for x ∷ l) (columns_are xs)

shows_output : (o : List ℕ × DataSet) (t : Listed) → AreDataSets (o ∷ []) → t.columns ≡ map entry_column (entries (columns_of o.1.structure)) → Perm t.rows (exported o).rows → Shows o.1 t
shows_output o t set columns rows =
    let same : Perm t.rows o.1.points = chain rows (Perm-sorted_by (window_order _ []) o.1.points) in
    record {
      table = record { columns = columns ∙ columns_are (columns_of o.1.structure); points = set_turned o.1.structure o.1.points t.rows same set.0 };
      same = same;
    }

shows_outputs : (os : Outputs) (tables : NamedTables) → AreDataSets os → ShowsAs (map exported os) tables → ShowAll os tables
shows_outputs [] [] sets h = tt
shows_outputs [] (t ∷ ts) sets h = h
shows_outputs (o ∷ os) [] sets h = h
shows_outputs (o ∷ os) (t ∷ ts) sets h = (h.0, shows_output o t.1 (sets.0, tt) h.1 h.2, shows_outputs os ts sets.1 h.3)

module _ (meant : Result Outputs (Fault × List ℕ)) (sets : (os : Outputs) → meant ≡ Ok os → AreDataSets os) where
  shows_meaning : (m : Result Outputs (Fault × List ℕ)) → meant ≡ m → (tables : NamedTables) (before : NamedTables) → TellsText (exported_as m) before tables (Ok tt) → ShowMeaning m tables
  shows_meaning (Ok os) e tables before h = shows_outputs os tables (sets os e) h
  shows_meaning (Err f) e tables before h = h

  same_fault : (m : Result Outputs (Fault × List ℕ)) (f : Fault × List ℕ) → exported_as m ≡ Err f → m ≡ Err f
  same_fault (Ok os) f e = cc
  same_fault (Err g) f e = let same : g ≡ f = cc in ap (λ x. Err x) same

  tells_so : (before now : NamedTables) (r : Result (Unit {0}) RunErr) → TellsText (exported_as meant) before now r → Tells meant before now r
  tells_so before now (Ok done) h = shows_meaning meant refl now before h
  tells_so before now (Err (err.DivZero name)) h = (same_fault meant (DivZero, name) h.0, h.1)
  tells_so before now (Err (err.Range name)) h = (same_fault meant (Range, name) h.0, h.1)
  tells_so before now (Err err.OutOfMemory) h = h

-- ---- the statements of a script

module _ (t : TypedScript) (tables : NamedTables) (script : IsScript t.settings (inputs_of t) (statements_of t)) (there : AreInputs t tables) (ranged : AreInRange t tables) where
  known : known_in (environment_of t tables) ≡ inputs_of t
  known = sets_known tables (inputs_of t)

  sets : AreDataSets (environment_of t tables)
  sets = are_sets tables (inputs_of t) there

  made : AreMadeStatements t.settings (known_in (environment_of t tables)) (statements_of t)
  made = subst (λ k. AreMadeStatements t.settings k (statements_of t)) (sym known) (all_made t.settings (inputs_of t) (statements_of t) script.translated)

  outputs_are_sets : (os : Outputs) → script_meaning t tables ≡ Ok os → AreDataSets os
  outputs_are_sets os e = meaning_kept t.settings (statements_of t) (environment_of t tables) os made sets e

  value_is : script_value (script_for t.settings t.not_null (inputs_of t) (statements_of t)) (rows_given tables) ≡ exported_as (script_meaning t tables)
  value_is = script_means t.settings t.not_null (inputs_of t) (statements_of t) script (environment_of t tables) known sets ranged (rows_given tables) (are_read tables (inputs_of t))

  pub text_runs : (text : List ℕ) → IsSpelled text (script_for t.settings t.not_null (inputs_of t) (statements_of t)) → (before now : NamedTables) (r : Result (Unit {0}) RunErr) → RunsText text tables before now r → Runs t tables before now r
  text_runs text spelled before now r h =
      tells_so (script_meaning t tables) outputs_are_sets before now r (subst (λ m. TellsText m before now r) value_is (h (script_for t.settings t.not_null (inputs_of t) (statements_of t)) spelled))
