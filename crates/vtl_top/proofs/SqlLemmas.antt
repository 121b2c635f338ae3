-- The steps of an engine, by what its parts answer.
use Rattle.std.proofs.Common.{◌≡◌, inl, inr, ℕ, List, map, Option, Some, None, Result, Ok, Err, refl, sym, ap, subst, ◌∙◌, chars}
use Rattle.std.specs.Option.{option_map}
use Rattle.vtl_files.specs.declared.files.Files.{Ghosts}
use Rattle.vtl_decimal.specs.declared.number.Fault.TheVariants.{DivZero, Range}
use Rattle.vtl_decimal.specs.declared.number.Fault.{Fault as EvaluationFault}
use Rattle.vtl_decimal.specs.Settings.{Settings}
use Rattle.vtl_rows.specs.Named.{NamedTables}
use Rattle.vtl_tree.specs.Environment.{Environment}
use Rattle.sql_tree.specs.Trees.{ScriptTree}
use Rattle.sql_tree.specs.View.{script_tree}
use Rattle.sql_tree.specs.declared.statements.SqlScript.{SqlScript}
use Rattle.sql_check.specs.Answers.{CheckedScript, Checks, told}
use Rattle.sql_check.specs.declared.error.SqlTypeErr.{SqlTypeErr}
use Rattle.sql_check.specs.declared.error.SqlTypeErr.TheVariants as typed
use Rattle.sql_check_parts.specs.Rules.{number_of}
use Rattle.sql_check_parts.specs.Statements.{Fault, script_fault, script_settings}
use Rattle.sql_meaning.specs.Scripts.{Export, NamedFault, script_value}
use Rattle.sql_engine.specs.Exported.{shown}
use Rattle.sql_engine.specs.Runs.{FaultIs, ShowsExports}
use Rattle.vtl_scalar.specs.declared.run_error.RunErr.{RunErr}
use Rattle.vtl_scalar.specs.declared.run_error.RunErr.TheVariants as engine
use Rattle.vtl_top.specs.Answered.{Came, Misses, Takes}
use Rattle.vtl_top.specs.Expected.{fault_status, wanted_step}
use Rattle.vtl_top.specs.Kinds.{refused, told_by}
use Rattle.vtl_top.specs.Refusal.{IsSqlOf, SettlesBy, faulted, sql_mistyped}
use Rattle.vtl_top.specs.ScriptFile.{faulty, no_text, whole}
use Rattle.vtl_top.specs.SqlInputs.{inputs_wanted, rows_by_name}
use Rattle.vtl_top.specs.SqlRun.{engine_step, exports_of, sql_checked_step, sql_of, sql_step, sql_typing, table_file}
use Rattle.vtl_top.specs.Steps.{File, Path, settled, status_of}
use Rattle.vtl_top.specs.Words.{Engine}
use Rattle.vtl_status.specs.declared.status.Status.{Status}
use Rattle.vtl_status.specs.declared.status.Status.TheVariants as st
use Rattle.std.proofs.lemmas.Simd.{map-map}
use Rattle.vtl_top.proofs.ReadScripts.{if_some_all, settled_given}
use Rattle.vtl_top.proofs.RunLemmas.{settled_ok}
use Rattle.vtl_top.proofs.SqlSteps.{after_checked, after_sql}
use Rattle.vtl_top.proofs.StepLemmas.{misses_none, nothing_read, takes_onward, takes_stopped}

-- ---- the bytes of an SQL file
module _ {F : Type 0} (g : Ghosts F) (a : F) (path bytes : List ℕ) where
  sql_came : (result : Result SqlScript Status) → IsSqlOf path bytes result → Came g a a (sql_of path bytes) script_tree result
  sql_came (Ok script) is = if_some_all (g.held a) (λ held. (sql_of path bytes).gives held (Ok (script_tree script))) (λ held. (whole (script_tree script), is, refl))
  sql_came (Err status) (inl e) = subst (λ (s : Status). Came g a a (sql_of path bytes) script_tree (Err s)) (sym e) tt
  sql_came (Err status) (inr (inl other)) =
      subst (λ (s : Status). Came g a a (sql_of path bytes) script_tree (Err s)) (sym other.1)
      (if_some_all (g.held a) (λ held. (sql_of path bytes).gives held (Err (st.NotText (chars path)))) (λ held. (no_text, other.0, refl)))
  sql_came (Err status) (inr (inr f)) =
      subst (λ (s : Status). Came g a a (sql_of path bytes) script_tree (Err s)) (sym f.4)
      (if_some_all (g.held a) (λ held. (sql_of path bytes).gives held (Err (st.SqlSyntax f.0 f.1))) (λ held. (faulty f.0 f.1, (f.2, f.3), refl)))

  sql_misses : (result : Result SqlScript Status) → IsSqlOf path bytes result → Misses g a a (told_by (status_of result))
  sql_misses (Ok script) is = refl
  sql_misses (Err status) (inl e) = misses_none g a status st.Memory e refl
  sql_misses (Err status) (inr (inl other)) = misses_none g a status (st.NotText (chars path)) other.1 refl
  sql_misses (Err status) (inr (inr f)) = misses_none g a status (st.SqlSyntax f.0 f.1) f.4 refl

  pub sql_given : (result : Result SqlScript Status) → IsSqlOf path bytes result → Takes g a a (sql_of path bytes) script_tree result
  sql_given result is = record { reads = nothing_read g a; came = sql_came result is; misses = sql_misses result is }

-- ---- its typing
-- a script that is typed has no fault
sql_fits : (o : Option Fault) → o ≡ None → sql_typing o ≡ Ok tt
sql_fits o e = ap sql_typing e

sql_refuses : (o : Option Fault) (status : Status) → sql_typing o ≡ Err status → told_by status ≡ refused
sql_refuses None status e = cc
sql_refuses (Some fault) status e = let same : st.SqlType fault.0 (number_of fault.1) ≡ status = cc in ap told_by (sym same)

fault_told : (o : Option Fault) (statement number : ℕ) → option_map told o ≡ Some (statement, number) → sql_typing o ≡ Err (st.SqlType statement number)
fault_told None statement number e = cc
fault_told (Some fault) statement number e = ap (λ (x : ℕ × ℕ). Err (st.SqlType x.0 x.1)) (some_same (told fault) (statement, number) e)
  where
    some_same : (a b : ℕ × ℕ) → Some a ≡ Some b → a ≡ b
    some_same a b e = cc

-- the tree of the script that is told to be typed
abbrev pub checked_tree : CheckedScript → ScriptTree
checked_tree c = script_tree c.script

module _ {F : Type 0} (g : Ghosts F) (a : F) (script : SqlScript) where
  pub sql_typed : (c : CheckedScript) → Checks script (Ok c) → Takes g a a (after_sql (script_tree script)) checked_tree (Ok c)
  sql_typed c is =
      let fits = ap script_fault (ap script_tree is.0) ∙ refl in
      takes_onward g (settled (sql_typing (script_fault (script_tree script)))) (λ typed. settled (Ok (script_tree script))) a a a (λ (u : Unit {0}). u) checked_tree tt (Ok c)
      (settled_ok g a (λ (u : Unit {0}). u) tt (sql_typing (script_fault (script_tree script))) (sql_fits (script_fault (script_tree script)) is.1))
      (settled_ok g a checked_tree c (Ok (script_tree script)) (ap Ok (ap script_tree (sym is.0))))

  pub sql_untyped : (error : SqlTypeErr) (status : Status) → Checks script (Err error) → status ≡ sql_mistyped error → Takes g a a (after_sql (script_tree script)) checked_tree (Err status)
  sql_untyped error status is e =
      takes_stopped g (settled (sql_typing (script_fault (script_tree script)))) (λ typed. settled (Ok (script_tree script))) a a (λ (u : Unit {0}). u) checked_tree status
      (settled_given g a (λ (u : Unit {0}). u) (sql_typing (script_fault (script_tree script))) (sql_refuses (script_fault (script_tree script))) (Err status) (by error is e))
    where
      by : (error : SqlTypeErr) → Checks script (Err error) → status ≡ sql_mistyped error → SettlesBy (λ (u : Unit {0}). u) (sql_typing (script_fault (script_tree script))) (Err status)
      by (typed.Mistyped statement number) is e = inr (fault_told (script_fault (script_tree script)) statement number is ∙ ap Err (sym e))
      by typed.OutOfMemory is e = inl e

-- ---- up to a script that is typed
module _ {F X : Type 0} (g : Ghosts F) (path : Path) (view : X → ScriptTree) (a b : F) where
  pub sql_unread : (status : Status) → Takes g a b (sql_step path) script_tree (Err status) → Takes g a b (sql_checked_step path) view (Err status)
  sql_unread status t = takes_stopped g (sql_step path) after_sql a b script_tree view status t

  module _ (script : SqlScript) (t : Takes g a b (sql_step path) script_tree (Ok script)) where
    pub then_checked : (result : Result X Status) → Takes g b b (after_sql (script_tree script)) view result → Takes g a b (sql_checked_step path) view result
    then_checked result rest = takes_onward g (sql_step path) after_sql a b b script_tree view script result t rest

-- ---- the exports
exports_refuse : (folder : Path) (p : Settings) (m : Result (List Export) NamedFault) (status : Status) → exports_of folder p m ≡ Err status → told_by status ≡ refused
exports_refuse folder p (Ok exports) status e = cc
exports_refuse folder p (Err fault) status e = let same : fault_status fault.0 fault.1 ≡ status = cc in ap told_by (sym same) ∙ go fault.0
  where
    go : (f : EvaluationFault) → told_by (fault_status f fault.1) ≡ refused
    go DivZero = refl
    go Range = refl

pub exports_shown : {Y : Type 0} (folder : Path) (p : Settings) (view : Y → List File) (m : Result (List Export) NamedFault) (now : NamedTables) (outputs : Y) → ShowsExports m now → view outputs ≡ map (table_file folder p) now → SettlesBy view (exports_of folder p m) (Ok outputs)
exports_shown folder p view (Ok exports) now outputs shows e = ap Ok (sym (e ∙ ap (map (table_file folder p)) shows ∙ map-map (table_file folder p) shown exports))
exports_shown folder p view (Err fault) now outputs shows e = absurd shows

pub exports_faulted : {Y : Type 0} (folder : Path) (p : Settings) (view : Y → List File) (m : Result (List Export) NamedFault) (error : RunErr) (status : Status) → FaultIs m error → status ≡ faulted error → SettlesBy view (exports_of folder p m) (Err status)
exports_faulted folder p view m (engine.DivZero name) status is e = inr (ap (exports_of folder p) is ∙ ap Err (sym e))
exports_faulted folder p view m (engine.Range name) status is e = inr (ap (exports_of folder p) is ∙ ap Err (sym e))
exports_faulted folder p view m engine.OutOfMemory status is e = inl e

-- ---- the whole
module _ {F X : Type 0} (g : Ghosts F) (e : Engine) (view : X → List File) (a b : F) where
  pub sql_unchecked : (status : Status) → Takes g a b (sql_checked_step e.sql) checked_tree (Err status) → Takes g a b (engine_step e) view (Err status)
  sql_unchecked status t = takes_stopped g (sql_checked_step e.sql) (after_checked e) a b checked_tree view status t

  module _ (c : CheckedScript) (checked : Takes g a b (sql_checked_step e.sql) checked_tree (Ok c)) (env : NamedTables → Environment) where
    pub sql_inputs_refused : (d : F) (status : Status) → Takes g b d (wanted_step e.input (script_settings (checked_tree c)) (inputs_wanted (checked_tree c))) env (Err status) → Takes g a d (engine_step e) view (Err status)
    sql_inputs_refused d status u =
        takes_onward g (sql_checked_step e.sql) (after_checked e) a b d checked_tree view c (Err status) checked
        (takes_stopped g (wanted_step e.input (script_settings (checked_tree c)) (inputs_wanted (checked_tree c))) (λ env. settled (exports_of e.output (script_settings (checked_tree c)) (script_value (checked_tree c) (rows_by_name env)))) b d env view status u)

    pub then_exports : (d : F) (inputs : NamedTables) (result : Result X Status) → Takes g b d (wanted_step e.input (script_settings (checked_tree c)) (inputs_wanted (checked_tree c))) env (Ok inputs)
        → SettlesBy view (exports_of e.output (script_settings (checked_tree c)) (script_value (checked_tree c) (rows_by_name (env inputs)))) result → Takes g a d (engine_step e) view result
    then_exports d inputs result u is =
        let m = script_value (checked_tree c) (rows_by_name (env inputs)) in
        takes_onward g (sql_checked_step e.sql) (after_checked e) a b d checked_tree view c result checked
        (takes_onward g (wanted_step e.input (script_settings (checked_tree c)) (inputs_wanted (checked_tree c))) (λ env. settled (exports_of e.output (script_settings (checked_tree c)) (script_value (checked_tree c) (rows_by_name env)))) b d d env view inputs result u
        (settled_given g d view (exports_of e.output (script_settings (checked_tree c)) m) (exports_refuse e.output (script_settings (checked_tree c)) m) result is))
