-- Steps of a run: what they settle, and the data sets that they read.
use Rattle.std.proofs.Common.{◌≡◌, inl, inr, ℕ, List, Result, Ok, Err, refl, sym, ap, subst, ◌∙◌}
use Rattle.vtl_files.specs.declared.files.Files.{Ghosts}
use Rattle.vtl_decimal.specs.declared.number.Fault.TheVariants.{DivZero, Range}
use Rattle.vtl_decimal.specs.declared.number.Fault.{Fault as EvaluationFault}
use Rattle.vtl_cell.specs.Row.{Row}
use Rattle.vtl_rows.specs.Named.{NamedTables}
use Rattle.vtl_rows.specs.Tables.{Tabled}
use Rattle.vtl_tree.specs.declared.structure.Structure.{Structure}
use Rattle.vtl_csv.specs.declared.structures.Declared.{Declared as Whole}
use Rattle.vtl_csv.specs.InputFile.{Fault, Reads}
use Rattle.vtl_csv.specs.declared.input.InputErr.{InputErr}
use Rattle.vtl_csv.specs.declared.input.InputErr.TheVariants as input
use Rattle.vtl_scripts.specs.Meaning.{Outputs}
use Rattle.vtl_backend.specs.Runs.{Tells, script_meaning}
use Rattle.vtl_scalar.specs.declared.run_error.RunErr.{RunErr}
use Rattle.vtl_scalar.specs.declared.run_error.RunErr.TheVariants as run
use Rattle.vtl_top.specs.Answered.{Came, Takes}
use Rattle.std.specs.Prelude.{IfOk, IsErrAnd, map}
use Rattle.vtl_syntax.specs.declared.statements.Statement.{Statement}
use Rattle.vtl_decimal.specs.Settings.{Settings}
use Rattle.vtl_syntax.specs.Trees.{ScriptTree}
use Rattle.vtl_syntax.specs.View.{script_tree, statement_tree}
use Rattle.vtl_syntax.specs.declared.statements.Script.{Script}
use Rattle.vtl_tree.specs.NotNull.{NotNull}
use Rattle.vtl_tree.specs.Structures.{Named}
use Rattle.vtl_check.specs.Checked.{TypedScript, nodes_of, tree_of}
use Rattle.vtl_backend.specs.Inputs.{environment_of, inputs_of}
use Rattle.vtl_top.specs.Expected.{IsTextOf, Typed, fault_status, folder_step, meant, outputs_of, points_or_fault, run_step, script_step, settings_of, structures_step, text_for, text_step, typed_by, typed_step, typing_of}
use Rattle.vtl_top.specs.InputsRead.{rows_in}
use Rattle.vtl_top.specs.Kinds.{refused, told_by}
use Rattle.vtl_top.specs.Linked.{lineage_step, lineage_text}
use Rattle.vtl_top.specs.Migrated.{migrate_step, migrated}
use Rattle.vtl_top.specs.Refusal.{IsOrMemory, IsTableRead, SettlesBy, faulted, input_refusal}
use Rattle.vtl_top.specs.Steps.{File, Made, Path, Step, ◌>>=◌, settled}
use Rattle.vtl_top.specs.Informed.{HasRun, typed_view}
use Rattle.vtl_top.specs.Words.{Migration, Run, Source}
use Rattle.vtl_status.specs.declared.status.Status.{Status}
use Rattle.vtl_status.specs.declared.status.Status.TheVariants as st
use Rattle.vtl_top.proofs.ReadScripts.{if_some_all, settled_given, typing_given}
use Rattle.vtl_top.proofs.StepLemmas.{misses_none, nothing_read, takes_onward, takes_stopped}
use Rattle.vtl_top.proofs.MeantLemmas.{after_typing, after_script, after_structures}

module _ {F : Type 0} (g : Ghosts F) (a : F) where
  pub settled_ok : {A X : Type 0} (view : X → A) (x : X) (wanted : Result A Status) → wanted ≡ Ok (view x) → Takes g a a (settled wanted) view (Ok x)
  settled_ok view x wanted e = record { reads = nothing_read g a; came = if_some_all (g.held a) (λ held. (settled wanted).gives held (Ok (view x))) (λ held. sym e); misses = refl }

  pub memory_takes : {A X : Type 0} (view : X → A) (step : Step A) (status : Status) → status ≡ st.Memory → Takes g a a step view (Err status)
  memory_takes view step status e = record { reads = nothing_read g a; came = subst (λ (s : Status). Came g a a step view (Err s)) (sym e) tt; misses = misses_none g a status st.Memory e refl }

-- ---- a data set that is read
pub input_refused : (name : List ℕ) (s : Structure) (read : Result (List Row) Fault) (error : InputErr) (status : Status) → Reads s (Err error) read → IsOrMemory (input_refusal name error) status → IsTableRead name s read (Err status)
input_refused name s read (input.Fault line column kind) status is (inl e) = inl e
input_refused name s read (input.Fault line column kind) status is (inr e) = inr (ap (points_or_fault name) is ∙ ap Err (sym e))
input_refused name s read input.OutOfMemory status is (inl e) = inl e
input_refused name s read input.OutOfMemory status is (inr e) = inl e

pub input_settles : (name : List ℕ) (s : Structure) (read : Result (List Row) Fault) (result : Result Tabled Status) → IsTableRead name s read result → SettlesBy rows_in (points_or_fault name read) result
input_settles name s read (Ok t) is = is.1
input_settles name s read (Err status) is = is

pub input_refuses : (name : List ℕ) (read : Result (List Row) Fault) (status : Status) → points_or_fault name read ≡ Err status → told_by status ≡ refused
input_refuses name (Ok points) status e = cc
input_refuses name (Err fault) status e = let same : st.Input name fault.0 fault.1.0 fault.1.1 ≡ status = cc in ap told_by (sym same)

-- ---- results
pub run_faulted : {Y : Type 0} (folder : Path) (p : Settings) (view : Y → List File) (m : Result Outputs (EvaluationFault × List ℕ)) (before now : NamedTables) (error : RunErr) (status : Status) → Tells m before now (Err error) → status ≡ faulted error
    → SettlesBy view (outputs_of folder p m) (Err status)
run_faulted folder p view m before now (run.DivZero name) status tells e = inr (ap (outputs_of folder p) tells.0 ∙ ap Err (sym e))
run_faulted folder p view m before now (run.Range name) status tells e = inr (ap (outputs_of folder p) tells.0 ∙ ap Err (sym e))
run_faulted folder p view m before now run.OutOfMemory status tells e = inl e

pub results_refuse : (folder : Path) (p : Settings) (m : Result Outputs (EvaluationFault × List ℕ)) (status : Status) → outputs_of folder p m ≡ Err status → told_by status ≡ refused
results_refuse folder p (Ok results) status e = cc
results_refuse folder p (Err fault) status e = let same : fault_status fault.0 fault.1 ≡ status = cc in ap told_by (sym same) ∙ go fault.0
  where
    go : (f : EvaluationFault) → told_by (fault_status f fault.1) ≡ refused
    go DivZero = refl
    go Range = refl

-- ---- what a run that ended with a status was told
pub told_of_run : (T : Type 0) (error : RunErr) (status : Status) → status ≡ faulted error → (((error ≡ run.OutOfMemory) → ⊥) → T) → HasRun status → T
told_of_run T (run.DivZero name) status e f h = f (λ q. cc)
told_of_run T (run.Range name) status e f h = f (λ q. cc)
told_of_run T run.OutOfMemory status e f h = absurd (subst HasRun e h)

-- ---- the steps that lead to a typed script
module _ {F X : Type 0} (g : Ghosts F) (s : Source) (view : X → Typed) (a b : F) where
  pub script_refused : (status : Status) → Takes g a b (script_step s.script) script_tree (Err status) → Takes g a b (typed_step s) view (Err status)
  script_refused status t = takes_stopped g (script_step s.script) (after_script s) a b script_tree view status t

  module _ (script : Script) (t : Takes g a b (script_step s.script) script_tree (Ok script)) where
    onward : (c : F) (result : Result X Status) → Takes g b c (after_script s (script_tree script)) view result → Takes g a c (typed_step s) view result
    onward c result rest = takes_onward g (script_step s.script) (after_script s) a b c script_tree view script result t rest

    pub structures_refused : (c : F) (status : Status) → Takes g b c (structures_step s.structures) (λ (d : Whole). d) (Err status) → Takes g a c (typed_step s) view (Err status)
    structures_refused c status u =
        onward c (Err status) (takes_stopped g (structures_step s.structures) (after_structures s (script_tree script)) b c (λ (d : Whole). d) view status u)

    pub then_typed : (c : F) (declared : Whole) (result : Result X Status) → Takes g b c (structures_step s.structures) (λ (d : Whole). d) (Ok declared)
        → Takes g c c (after_structures s (script_tree script) declared) view result → Takes g a c (typed_step s) view result
    then_typed c declared result u rest =
        onward c result (takes_onward g (structures_step s.structures) (after_structures s (script_tree script)) b c c (λ (d : Whole). d) view declared result u rest)

module _ {F : Type 0} (g : Ghosts F) (s : Source) (a : F) (tree : ScriptTree) (declared : Whole) where
  abbrev p : Settings
  p = settings_of s declared

  abbrev structures : Named
  structures = declared.structures.sets

  typed_same : (t : TypedScript) → tree_of t ≡ tree → t.declared ≡ structures → t.not_null ≡ declared.structures.not_null → t.settings ≡ p → typed_by tree declared.structures p (nodes_of t) ≡ typed_view t
  typed_same t is q l u =
      ap (λ (x : ScriptTree). typed_by x declared.structures p (nodes_of t)) (sym is)
      ∙ ap (λ (x : Named). typed_by (tree_of t) (record { sets = x; not_null = declared.structures.not_null }) p (nodes_of t)) (sym q)
      ∙ ap (λ (x : NotNull). typed_by (tree_of t) (record { sets = t.declared; not_null = x }) p (nodes_of t)) (sym l)
      ∙ ap (λ (x : Settings). typed_by (tree_of t) (record { sets = t.declared; not_null = t.not_null }) x (nodes_of t)) (sym u)

  pub typed_takes : (result : Result TypedScript Status) → SettlesBy nodes_of (typing_of p tree structures) result → IfOk result (λ t. tree_of t ≡ tree) → IfOk result (λ t. t.declared ≡ structures)
      → IfOk result (λ t. t.not_null ≡ declared.structures.not_null) → IfOk result (λ t. t.settings ≡ p) → Takes g a a (after_structures s tree declared) typed_view result
  typed_takes (Ok t) is e q l u =
      takes_onward g (settled (typing_of p tree structures)) (λ nodes. settled (Ok (typed_by tree declared.structures p nodes))) a a a nodes_of typed_view t (Ok t)
      (settled_ok g a nodes_of t (typing_of p tree structures) is) (settled_ok g a typed_view t (Ok (typed_by tree declared.structures p (nodes_of t))) (ap Ok (typed_same t e q l u)))
  typed_takes (Err status) is e q l u =
      takes_stopped g (settled (typing_of p tree structures)) (λ nodes. settled (Ok (typed_by tree declared.structures p nodes))) a a nodes_of typed_view status
      (typing_given g a p tree structures nodes_of (Err status) is)

-- ---- the steps of a run
module _ {F X : Type 0} (g : Ghosts F) (r : Run) (view : X → List File) (a b : F) where
  pub typing_refused : (status : Status) → Takes g a b (typed_step r.source) typed_view (Err status) → Takes g a b (run_step r) view (Err status)
  typing_refused status t = takes_stopped g (typed_step r.source) (after_typing r) a b typed_view view status t

  module _ (t : TypedScript) (typed : Takes g a b (typed_step r.source) typed_view (Ok t)) where
    typed_on : (c : F) (result : Result X Status) → Takes g b c (after_typing r (typed_view t)) view result → Takes g a c (run_step r) view result
    typed_on c result rest = takes_onward g (typed_step r.source) (after_typing r) a b c typed_view view t result typed rest

    pub inputs_refused : (c : F) (status : Status) → Takes g b c (folder_step r.input t.settings t.not_null (inputs_of t)) (environment_of t) (Err status) → Takes g a c (run_step r) view (Err status)
    inputs_refused c status u =
        typed_on c (Err status) (takes_stopped g (folder_step r.input t.settings t.not_null (inputs_of t)) (λ env. settled (outputs_of r.output t.settings (meant (typed_view t) env))) b c (environment_of t) view status u)

    pub then_results : (c : F) (inputs : NamedTables) (result : Result X Status) → Takes g b c (folder_step r.input t.settings t.not_null (inputs_of t)) (environment_of t) (Ok inputs)
        → SettlesBy view (outputs_of r.output t.settings (script_meaning t inputs)) result → Takes g a c (run_step r) view result
    then_results c inputs result u is =
        let m = script_meaning t inputs in
        typed_on c result
        (takes_onward g (folder_step r.input t.settings t.not_null (inputs_of t)) (λ env. settled (outputs_of r.output t.settings (meant (typed_view t) env))) b c c (environment_of t) view inputs result u
        (settled_given g c view (outputs_of r.output t.settings m) (results_refuse r.output t.settings m) result is))

-- ---- the steps that lead to a text in SQL
module _ {F X : Type 0} (g : Ghosts F) (s : Source) (view : X → List ℕ) (a b : F) where
  pub text_refused : (status : Status) → Takes g a b (typed_step s) typed_view (Err status) → Takes g a b (text_step s) view (Err status)
  text_refused status t = takes_stopped g (typed_step s) text_for a b typed_view view status t

  module _ (t : TypedScript) (typed : Takes g a b (typed_step s) typed_view (Ok t)) where
    pub text_unmade : (status : Status) → status ≡ st.Memory → Takes g a b (text_step s) view (Err status)
    text_unmade status e = takes_onward g (typed_step s) text_for a b b typed_view view t (Err status) typed (memory_takes g b view (text_for (typed_view t)) status e)

    pub text_made : (x : X) → IsTextOf (typed_view t) (view x) → Takes g a b (text_step s) view (Ok x)
    text_made x is =
        takes_onward g (typed_step s) text_for a b b typed_view view t (Ok x) typed
        (record { reads = nothing_read g b; came = if_some_all (g.held b) (λ held. (text_for (typed_view t)).gives held (Ok (view x))) (λ held. (view x, is, refl)); misses = refl })

-- ---- the links of a script
module _ {F X : Type 0} (g : Ghosts F) (s : Source) (view : X → List ℕ) (a b : F) where
  pub links_refused : (status : Status) → Takes g a b (typed_step s) typed_view (Err status) → Takes g a b (lineage_step s) view (Err status)
  links_refused status t = takes_stopped g (typed_step s) (λ t. settled (Ok (lineage_text t))) a b typed_view view status t

  pub links_made : (t : TypedScript) → Takes g a b (typed_step s) typed_view (Ok t) → (x : X) → view x ≡ lineage_text (typed_view t) → Takes g a b (lineage_step s) view (Ok x)
  links_made t typed x is =
      takes_onward g (typed_step s) (λ t. settled (Ok (lineage_text t))) a b b typed_view view t (Ok x) typed
      (settled_given g b view (Ok (lineage_text (typed_view t))) (λ status e. cc) (Ok x) (ap Ok (sym is)))

-- ---- the text of version 2 of a structures file
module _ {F X : Type 0} (g : Ghosts F) (m : Migration) (view : X → List ℕ) (a b : F) where
  pub migration_refused : (status : Status) → Takes g a b (structures_step m.structures) (λ (d : Whole). d) (Err status) → Takes g a b (migrate_step m) view (Err status)
  migration_refused status t = takes_stopped g (structures_step m.structures) (λ d. settled (Ok (migrated m d))) a b (λ (d : Whole). d) view status t

  module _ (declared : Whole) (read : Takes g a b (structures_step m.structures) (λ (d : Whole). d) (Ok declared)) where
    pub migration_unmade : (status : Status) → status ≡ st.Memory → Takes g a b (migrate_step m) view (Err status)
    migration_unmade status e =
        takes_onward g (structures_step m.structures) (λ d. settled (Ok (migrated m d))) a b b (λ (d : Whole). d) view declared (Err status) read (memory_takes g b view (settled (Ok (migrated m declared))) status e)

    pub migration_made : (x : X) → view x ≡ migrated m declared → Takes g a b (migrate_step m) view (Ok x)
    migration_made x is =
        takes_onward g (structures_step m.structures) (λ d. settled (Ok (migrated m d))) a b b (λ (d : Whole). d) view declared (Ok x) read
        (settled_given g b view (Ok (migrated m declared)) (λ status e. cc) (Ok x) (ap Ok (sym is)))

-- ---- what is made of files, or of a text
module _ {F A X : Type 0} (g : Ghosts F) (a b : F) (step : Step A) (wrap : A → Made) (view : X → A) where
  pub wrapped : {Y : Type 0} (whole : Y → Made) (x : X) (result : Result Y Status) → Takes g a b step view (Ok x) → SettlesBy whole (Ok (wrap (view x))) result → Takes g a b (step >>= λ y. settled (Ok (wrap y))) whole result
  wrapped whole x result t is =
      takes_onward g step (λ y. settled (Ok (wrap y))) a b b view whole x result t
      (settled_given g b whole (Ok (wrap (view x))) (λ status e. cc) result is)

  pub wrapped_refusal : {Y : Type 0} (whole : Y → Made) (status : Status) → Takes g a b step view (Err status) → Takes g a b (step >>= λ y. settled (Ok (wrap y))) whole (Err status)
  wrapped_refusal whole status t = takes_stopped g step (λ y. settled (Ok (wrap y))) a b view whole status t

-- ---- what `?` hands on
pub passed_on : {T : Type 0} (r : Result T Status) (e : Status) → IsErrAnd r (λ y. y ≡ e) → r ≡ Err e
passed_on (Ok x) e is = absurd is
passed_on (Err y) e is = ap Err is

pub same_tree : (result : Result TypedScript Status) (statements : List Statement) → IfOk result (λ t. t.script ≡ statements) → IfOk result (λ t. tree_of t ≡ map statement_tree statements)
same_tree (Ok t) statements e = ap (map statement_tree) e
same_tree (Err status) statements e = tt
