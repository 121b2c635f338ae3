-- What an engine gives is what its script means, and the other way round.
use Rattle.std.proofs.Common.{◌≡◌, ◌⊎◌, inl, inr, ℕ, List, map, Option, Some, None, Result, Ok, Err, refl, sym, ap, subst, ◌∙◌, chars}
use Rattle.std.specs.Prelude.{IsUtf8}
use Rattle.vtl_files.specs.Outside.{bytes_at}
use Rattle.vtl_decimal.specs.declared.number.Fault.TheVariants.{DivZero, Range}
use Rattle.vtl_decimal.specs.declared.number.Fault.{Fault as EvaluationFault}
use Rattle.vtl_decimal.specs.Settings.{Settings}
use Rattle.vtl_tree.specs.Environment.{Environment}
use Rattle.sql_tree.specs.Texts.{IsScript}
use Rattle.sql_tree.specs.Trees.{ScriptTree}
use Rattle.sql_check_parts.specs.Rules.{number_of}
use Rattle.sql_check_parts.specs.Statements.{Fault, script_fault, script_settings}
use Rattle.sql_meaning.specs.Scripts.{Export, NamedFault, script_value}
use Rattle.vtl_top.specs.Expected.{fault_status, wanted_step}
use Rattle.vtl_top.specs.ScriptFile.{IsSqlParsed, Parsed, faulty, no_text, whole}
use Rattle.vtl_top.specs.SqlInputs.{inputs_wanted, rows_by_name}
use Rattle.vtl_top.specs.SqlMeant.{IsExported, IsSqlFaulted, IsSqlMistyped, IsSqlRead, IsSqlReady}
use Rattle.vtl_top.specs.SqlRun.{engine_step, export_file, exports_of, present, read_whole, sql_checked_step, sql_in, sql_of, sql_step, sql_typing}
use Rattle.vtl_top.specs.Steps.{File, Held, Path, settled}
use Rattle.vtl_top.specs.Words.{Engine}
use Rattle.vtl_status.specs.declared.status.Status.{Status}
use Rattle.vtl_status.specs.declared.status.Status.TheVariants as st
use Rattle.vtl_top.proofs.MeantLemmas.{went_on}
use Rattle.vtl_top.proofs.RefusedLemmas.{never_onward, never_wanted, other, own_values, refused_at}
use Rattle.vtl_top.proofs.SqlSteps.{after_checked, after_sql}

-- ---- the script
record IsSqlTextOf (text : List ℕ) (tree : ScriptTree) : Type 0 where
  utf8 : IsUtf8 text
  parsed : IsScript text tree

sql_from : (path text : List ℕ) (parsed : Parsed ScriptTree) (tree : ScriptTree) → IsSqlParsed text parsed → Ok tree ≡ sql_in path parsed → IsSqlTextOf text tree
sql_from path text no_text tree is e = cc
sql_from path text (faulty done byte) tree is e = cc
sql_from path text (whole t) tree is e = let same : tree ≡ t = cc in record { utf8 = is.0; parsed = subst (λ x. IsScript text x) (sym same) is.1 }

there_from : (path : Path) (o : Option (List ℕ)) (text : List ℕ) → Ok text ≡ present path o → o ≡ Some text
there_from path None text e = cc
there_from path (Some bytes) text e = cc

sql_read_from : (e : Engine) (held : Held) (tree : ScriptTree) → (sql_step e.sql).gives held (Ok tree) → IsSqlRead e held tree
sql_read_from e held tree is =
    let x = went_on (read_whole e.sql) (sql_of e.sql) held tree is in
    let script = sql_from e.sql x.0 x.2.0 tree x.2.1 x.2.2 in
    record { text = x.0; file = there_from e.sql (bytes_at e.sql held) x.0 x.1; utf8 = script.utf8; parsed = script.parsed }

sql_there : (e : Engine) (held : Held) (tree : ScriptTree) → IsSqlRead e held tree → (sql_step e.sql).gives held (Ok tree)
sql_there e held tree is = (Ok is.text, sym (ap (present e.sql) is.file), (whole tree, (is.utf8, is.parsed), refl))

typed_from : (o : Option Fault) (u : Unit {0}) → Ok u ≡ sql_typing o → o ≡ None
typed_from None u e = refl
typed_from (Some fault) u e = cc

record IsSqlAccepted (e : Engine) (held : Held) (tree : ScriptTree) : Type 0 where
  source : IsSqlRead e held tree
  typed : script_fault tree ≡ None

sql_accepted_only : (e : Engine) (held : Held) (tree : ScriptTree) → (sql_checked_step e.sql).gives held (Ok tree) → IsSqlAccepted e held tree
sql_accepted_only e held tree g =
    let a = went_on (sql_step e.sql) after_sql held tree g in
    let b = went_on (settled (sql_typing (script_fault a.0))) (λ typed. settled (Ok a.0)) held tree a.2 in
    let same : a.0 ≡ tree = cc (b.2) in
    subst (IsSqlAccepted e held) same (record { source = sql_read_from e held a.0 a.1; typed = typed_from (script_fault a.0) b.0 b.1 })

sql_accepted_always : (e : Engine) (held : Held) (tree : ScriptTree) → IsSqlRead e held tree → script_fault tree ≡ None → (sql_checked_step e.sql).gives held (Ok tree)
sql_accepted_always e held tree source typed =
    (Ok tree, sql_there e held tree source, (Ok tt, sym (ap sql_typing typed), refl))

-- ---- its exports
exports_from : (folder : Path) (p : Settings) (m : Result (List Export) NamedFault) (files : List File) → Ok files ≡ exports_of folder p m → (exports : List Export) × (m ≡ Ok exports) × (files ≡ map (export_file folder p) exports)
exports_from folder p (Ok exports) files e = (exports, refl, cc)
exports_from folder p (Err fault) files e = cc

sql_ready_gives : (e : Engine) (held : Held) (tree : ScriptTree) (env : Environment) (given : Result (List File) Status) → IsSqlReady e held tree env → given ≡ exports_of e.output (script_settings tree) (script_value tree (rows_by_name env)) → (engine_step e).gives held given
sql_ready_gives e held tree env given is q = (Ok tree, sql_accepted_always e held tree is.source is.typed, (Ok env, is.read, q))

pub exported_only : (e : Engine) (held : Held) (files : List File) → (engine_step e).gives held (Ok files) → IsExported e held files
exported_only e held files g =
    let a = went_on (sql_checked_step e.sql) (after_checked e) held files g in
    let b = went_on (wanted_step e.input (script_settings a.0) (inputs_wanted a.0)) (λ env. settled (exports_of e.output (script_settings a.0) (script_value a.0 (rows_by_name env)))) held files a.2 in
    let accepted = sql_accepted_only e held a.0 a.1 in
    let w = exports_from e.output (script_settings a.0) (script_value a.0 (rows_by_name b.0)) files b.2 in
    record { script = a.0; inputs = b.0; exports = w.0; ready = record { source = accepted.source; typed = accepted.typed; read = b.1 }; means = w.1; written = w.2 }

pub exported_always : (e : Engine) (held : Held) (files : List File) → IsExported e held files → (engine_step e).gives held (Ok files)
exported_always e held files is = sql_ready_gives e held is.script is.inputs (Ok files) is.ready (ap Ok is.written ∙ sym (ap (exports_of e.output (script_settings is.script)) is.means))

-- ---- its faults
pub sql_faulted_always : (e : Engine) (held : Held) (f : EvaluationFault) (name : List ℕ) → IsSqlFaulted e held f name → (engine_step e).gives held (Err (fault_status f name))
sql_faulted_always e held f name is = sql_ready_gives e held is.script is.inputs (Err (fault_status f name)) is.ready (sym (ap (exports_of e.output (script_settings is.script)) is.means))

pub sql_mistyped_always : (e : Engine) (held : Held) (fault : Fault) → IsSqlMistyped e held fault → (engine_step e).gives held (Err (st.SqlType fault.0 (number_of fault.1)))
sql_mistyped_always e held fault is =
    let typing = sym (ap sql_typing is.fault) in
    let checked : (sql_checked_step e.sql).gives held (Err (st.SqlType fault.0 (number_of fault.1))) =
    (Ok is.script, sql_there e held is.script is.source, (Err (st.SqlType fault.0 (number_of fault.1)), typing, refl)) in
    (Err (st.SqlType fault.0 (number_of fault.1)), checked, refl)

-- a fault of a meaning comes from the meaning alone
value_from : (f : EvaluationFault) (name : List ℕ) (folder : Path) (p : Settings) (m : Result (List Export) NamedFault) → Err (fault_status f name) ≡ exports_of folder p m → m ≡ Err (f, name)
value_from f name folder p (Ok exports) e = cc
value_from f name folder p (Err fault) e = ap Err (go f fault.0 e)
  where
    go : (a b : EvaluationFault) → ◌≡◌ {A = Result (List (List ℕ × List ℕ)) Status} (Err (fault_status a name)) (Err (fault_status b fault.1)) → ◌≡◌ {A = EvaluationFault × List ℕ} (b, fault.1) (a, name)
    go DivZero DivZero e = let same : name ≡ fault.1 = cc in ap (λ (n : List ℕ). (DivZero, n)) (sym same)
    go DivZero Range e = cc
    go Range DivZero e = cc
    go Range Range e = let same : name ≡ fault.1 = cc in ap (λ (n : List ℕ). (Range, n)) (sym same)

module _ (f : EvaluationFault) (name : List ℕ) (held : Held) where
  abbrev status : Status
  status = fault_status f name

  never_present : (path : Path) (o : Option (List ℕ)) → ◌≡◌ {A = Result (List ℕ) Status} (Err status) (present path o) → ⊥
  never_present path None e = other status (own_values f name) held (st.NoFile (chars path)) refl e
  never_present path (Some bytes) e = cc

  never_sql : (path bytes : List ℕ) → (sql_of path bytes).gives held (Err status) → ⊥
  never_sql path bytes (parsed, is, e) = go parsed e
    where
      go : (parsed : Parsed ScriptTree) → ◌≡◌ {A = Result ScriptTree Status} (Err status) (sql_in path parsed) → ⊥
      go no_text e = other status (own_values f name) held (st.NotText (chars path)) refl e
      go (faulty done byte) e = other status (own_values f name) held (st.SqlSyntax done byte) refl e
      go (whole script) e = cc

  never_typing : (o : Option Fault) → ◌≡◌ {A = Result (Unit {0}) Status} (Err status) (sql_typing o) → ⊥
  never_typing None e = cc
  never_typing (Some fault) e = other status (own_values f name) held (st.SqlType fault.0 (number_of fault.1)) refl e

  never_checked : (path : Path) → (sql_checked_step path).gives held (Err status) → ⊥
  never_checked path =
      never_onward status (own_values f name) held (sql_step path) after_sql
      (never_onward status (own_values f name) held (read_whole path) (sql_of path) (never_present path (bytes_at path held)) (never_sql path)) (λ tree.
      never_onward status (own_values f name) held (settled (sql_typing (script_fault tree))) (λ typed. settled (Ok tree)) (never_typing (script_fault tree)) (λ typed q. cc))

  pub sql_faulted_only : (e : Engine) → (engine_step e).gives held (Err status) → IsSqlFaulted e held f name
  sql_faulted_only e gives = at_checked (refused_at (sql_checked_step e.sql) (after_checked e) held status gives)
    where
      at_inputs : (tree : ScriptTree) → (sql_checked_step e.sql).gives held (Ok tree) → (wanted_step e.input (script_settings tree) (inputs_wanted tree)).gives held (Err status)
          ⊎ ((env : Environment) × (wanted_step e.input (script_settings tree) (inputs_wanted tree)).gives held (Ok env) × (settled (exports_of e.output (script_settings tree) (script_value tree (rows_by_name env)))).gives held (Err status)) → IsSqlFaulted e held f name
      at_inputs tree is (inl q) = absurd (never_wanted status (own_values f name) held e.input (script_settings tree) (inputs_wanted tree) q)
      at_inputs tree is (inr (env, read, q)) =
          let accepted = sql_accepted_only e held tree is in
          record { script = tree; inputs = env; ready = record { source = accepted.source; typed = accepted.typed; read = read }; means = value_from f name e.output (script_settings tree) (script_value tree (rows_by_name env)) q }

      at_checked : (sql_checked_step e.sql).gives held (Err status) ⊎ ((tree : ScriptTree) × (sql_checked_step e.sql).gives held (Ok tree) × (after_checked e tree).gives held (Err status)) → IsSqlFaulted e held f name
      at_checked (inl q) = absurd (never_checked e.sql q)
      at_checked (inr (tree, is, rest)) = at_inputs tree is (refused_at (wanted_step e.input (script_settings tree) (inputs_wanted tree)) (λ env. settled (exports_of e.output (script_settings tree) (script_value tree (rows_by_name env)))) held status rest)
