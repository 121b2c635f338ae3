-- Refusals by typing and by evaluation come from these steps alone: no other step refuses by such a status.
use Rattle.std.proofs.Common.{◌≡◌, ◌⊎◌, inl, inr, ℕ, Bool, true, false, cond, List, [], ◌∷◌, length, nat_lt, Option, Some, None, Result, Ok, Err, refl, sym, ap, subst}
use Rattle.std.specs.Prelude.{chars}
use Rattle.std.specs.Str.{is_utf8}
use Rattle.vtl_files.specs.Outside.{bytes_at}
use Rattle.vtl_decimal.specs.declared.number.Fault.TheVariants.{DivZero, Range}
use Rattle.vtl_decimal.specs.declared.number.Fault.{Fault as EvaluationFault}
use Rattle.vtl_cell.specs.Row.{Row}
use Rattle.vtl_decimal.specs.Settings.{Settings}
use Rattle.vtl_syntax.specs.Trees.{ScriptTree}
use Rattle.vtl_tree.specs.Environment.{Environment}
use Rattle.vtl_tree.specs.NotNull.{NotNull}
use Rattle.vtl_tree.specs.Structures.{Named}
use Rattle.vtl_csv.specs.declared.structures.Declared.{Declared as Whole}
use Rattle.vtl_csv.specs.InputFile.{Fault, dataset_rows}
use Rattle.vtl_csv.specs.Opening.{Fault as StructuresFault}
use Rattle.vtl_csv.specs.StructuresFile.{structures_of_file}
use Rattle.vtl_tree.specs.Trees.{NodeTree}
use Rattle.vtl_scripts.specs.Meaning.{Outputs}
use Rattle.vtl_check.specs.Checked.{env_over, TypedScript}
use Rattle.vtl_check.specs.Script.{script_typed}
use Rattle.vtl_check.specs.Uses.{reads}
use Rattle.vtl_top.specs.Expected.{Typed, csv_limit, dataset_step, fault_status, file_in, folder_step, inputs_step, meant, one_more_step, outputs_of, points_or_fault, read, run_step, script_in, script_limit, script_of, script_step, settings_of, sized, structures_limit, structures_step, text_for, text_step, typed_by, typed_or_fault, typed_step, typing_of, wanted_step, with_points}
use Rattle.vtl_top.specs.Meant.{IsFaulted, IsMistyped, IsRead, IsReady}
use Rattle.std.specs.Option.{IfSome}
use Rattle.vtl_files.specs.declared.files.Files.{Ghosts}
use Rattle.vtl_top.specs.Answered.{Takes}
use Rattle.vtl_top.specs.Informed.{HasRun, IsTold, TellsRun}
use Rattle.vtl_top.proofs.StepLemmas.{if_some_map}
use Rattle.vtl_top.specs.ScriptFile.{Parsed, faulty, no_text, whole}
use Rattle.vtl_top.specs.Steps.{Behind, Held, Path, Step, ◌>>=◌, settled}
use Rattle.vtl_top.specs.Structures.{declared, structures_in}
use Rattle.vtl_top.specs.Wanted.{Placed, Wanted, all_in, all_wanted_with, entry_of}
use Rattle.vtl_top.specs.Words.{Run, Source}
use Rattle.vtl_status.specs.declared.status.Status.{Status}
use Rattle.vtl_status.specs.declared.status.Status.TheVariants as st
use Rattle.vtl_top.proofs.MeantLemmas.{after_typing, after_script, after_structures, ready_from, ready_gives, script_there, source_from}

-- where a status comes from: typing, evaluation, or the files and the form of the script
pub data Cause : Type 0 where
  by_types : Cause
  by_values : Cause
  otherwise : Cause

abbrev pub cause : Status → Cause
cause (st.Mistyped statement rule) = by_types
cause (st.DivZero name) = by_values
cause (st.Range name) = by_values
cause status = otherwise

abbrev pub is_other : Cause → Bool
is_other otherwise = true
is_other by_types = false
is_other by_values = false

abbrev same_cause : Cause → Cause → Bool
same_cause by_types by_types = true
same_cause by_values by_values = true
same_cause otherwise otherwise = true
same_cause a b = false

-- statuses of two sources are two
apart : {A : Type 0} (a b : Status) → same_cause (cause a) (cause b) ≡ false → ◌≡◌ {A = Result A Status} (Err a) (Err b) → ⊥
apart a b differ e =
    let same : a ≡ b = cc in
    let one : same_cause (cause b) (cause b) ≡ false = subst (λ x. same_cause (cause x) (cause b) ≡ false) same differ in
    go (cause b) one
  where
    go : (s : Cause) → same_cause s s ≡ false → ⊥
    go by_types e = cc
    go by_values e = cc
    go otherwise e = cc

-- a refusal of two steps is one of the first, or one of the second behind a value of the first
pub refused_at : {A B : Type 0} (step : Step A) (next : A → Step B) (held : Held) (status : Status) → (step >>= next).gives held (Err status) → step.gives held (Err status) ⊎ ((x : A) × step.gives held (Ok x) × (next x).gives held (Err status))
refused_at {A} {B} step next held status (first, is, rest) = by_first first is rest
  where
    by_first : (first : Result A Status) → step.gives held first → Behind first (λ x. (next x).gives held) (Err status) → step.gives held (Err status) ⊎ ((x : A) × step.gives held (Ok x) × (next x).gives held (Err status))
    by_first (Ok x) is rest = inr (x, is, rest)
    by_first (Err other) is rest = let same : other ≡ status = cc in inl (subst (λ (s : Status). step.gives held (Err s)) same is)

-- ---- steps that do not refuse by a status of typing or of evaluation
module _ (status : Status) (own : is_other (cause status) ≡ false) (held : Held) where
  abbrev pub Never : {A : Type 0} → Step A → Type 0
  Never step = step.gives held (Err status) → ⊥

  pub other : {A : Type 0} (b : Status) → cause b ≡ otherwise → ◌≡◌ {A = Result A Status} (Err status) (Err b) → ⊥
  other b is e = apart status b (go (cause status) own (cause b) is) e
    where
      go : (s : Cause) → is_other s ≡ false → (t : Cause) → t ≡ otherwise → same_cause s t ≡ false
      go by_types o t is = ap (same_cause by_types) is
      go by_values o t is = ap (same_cause by_values) is
      go otherwise o t is = cc

  pub never_onward : {A B : Type 0} (step : Step A) (next : A → Step B) → Never step → ((x : A) → Never (next x)) → Never (step >>= next)
  never_onward {A} {B} step next here there gives = by_step (refused_at step next held status gives)
    where
      by_step : step.gives held (Err status) ⊎ ((x : A) × step.gives held (Ok x) × (next x).gives held (Err status)) → ⊥
      by_step (inl first) = here first
      by_step (inr (x, is, rest)) = there x rest

  never_read : (path : List ℕ) (limit : ℕ) → Never (read path limit)
  never_read path limit gives = by_bytes (bytes_at path held) gives
    where
      by_length : (bytes : List ℕ) (b : Bool) → ◌≡◌ {A = Result (List ℕ) Status} (Err status) (cond b (Err (st.TooLong (chars path))) (Ok bytes)) → ⊥
      by_length bytes true e = other (st.TooLong (chars path)) refl e
      by_length bytes false e = cc

      by_bytes : (o : Option (List ℕ)) → Err status ≡ sized path limit o → ⊥
      by_bytes None e = other (st.NoFile (chars path)) refl e
      by_bytes (Some bytes) e = by_length bytes (nat_lt limit (length bytes)) e

  never_script : (path bytes : List ℕ) → Never (script_of path bytes)
  never_script path bytes (parsed, is, e) = by_parsed parsed e
    where
      by_parsed : (parsed : Parsed ScriptTree) → Err status ≡ script_in path parsed → ⊥
      by_parsed no_text e = other (st.NotText (chars path)) refl e
      by_parsed (faulty done byte) e = other (st.Syntax done byte) refl e
      by_parsed (whole script) e = cc

  never_structures : (path bytes : List ℕ) → Never (settled (structures_in path bytes))
  never_structures path bytes gives = by_text (is_utf8 bytes) (structures_of_file bytes) gives
    where
      by_text : (b : Bool) (read : Result Whole StructuresFault) → Err status ≡ cond b (declared read) (Err (st.NotText (chars path))) → ⊥
      by_text true (Ok d) e = cc
      by_text true (Err fault) e = other (st.Structure fault.0 fault.1) refl e
      by_text false read e = other (st.NotText (chars path)) refl e

  never_points : (name : List ℕ) (read : Result (List Row) Fault) → Never (settled (points_or_fault name read))
  never_points name (Ok points) e = cc
  never_points name (Err fault) e = other (st.Input name fault.0 fault.1.0 fault.1.1) refl e

  never_ok : {A : Type 0} (x : A) → Never (settled (Ok x))
  never_ok x e = cc

  never_dataset : (p : Settings) (w : Placed) → Never (dataset_step p w)
  never_dataset p w =
      never_onward (read (file_in w.0 w.1.name) csv_limit) (λ bytes. settled (points_or_fault w.1.name (dataset_rows p w.1.structure w.1.not_null bytes))) (never_read (file_in w.0 w.1.name) csv_limit)
      (λ bytes. never_points w.1.name (dataset_rows p w.1.structure w.1.not_null bytes))

  never_inputs : (p : Settings) (before : Environment) (inputs : List Placed) → Never (inputs_step p before inputs)
  never_inputs p before [] = never_ok before
  never_inputs p before (w ∷ rest) =
      never_onward (one_more_step p before w) (λ more. inputs_step p more rest)
      (never_onward (dataset_step p w) (λ points. settled (Ok (with_points before (entry_of w) points))) (never_dataset p w) (λ points. never_ok (with_points before (entry_of w) points)))
      (λ more. never_inputs p more rest)

  pub never_wanted : (folder : Path) (p : Settings) (ws : List Wanted) → Never (wanted_step folder p ws)
  never_wanted folder p ws = never_inputs p [] (all_in folder ws)

  pub never_folder : (folder : Path) (p : Settings) (lists : NotNull) (es : Named) → Never (folder_step folder p lists es)
  never_folder folder p lists es = never_wanted folder p (all_wanted_with lists es)

  -- ---- a source is refused so by its typing alone
  record ByTypes (s : Source) : Type 0 where
    tree : ScriptTree
    declared_by : Whole
    is_read : IsRead s held tree declared_by
    typing : Err status ≡ typing_of (settings_of s declared_by) tree declared_by.structures.sets

  by_typing : (s : Source) → (typed_step s).gives held (Err status) → ByTypes s
  by_typing s gives = at_script (refused_at (script_step s.script) (after_script s) held status gives)
    where
      at_typing : (tree : ScriptTree) (d : Whole) → IsRead s held tree d
          → (settled (typing_of (settings_of s d) tree d.structures.sets)).gives held (Err status)
          ⊎ ((nodes : List NodeTree) × (settled (typing_of (settings_of s d) tree d.structures.sets)).gives held (Ok nodes) × (settled (Ok (typed_by tree d.structures (settings_of s d) nodes))).gives held (Err status)) → ByTypes s
      at_typing tree d is (inl e) = record { tree = tree; declared_by = d; is_read = is; typing = e }
      at_typing tree d is (inr (nodes, given, e)) = absurd (never_ok (typed_by tree d.structures (settings_of s d) nodes) e)

      at_structures : (tree : ScriptTree) → (script_step s.script).gives held (Ok tree)
          → (structures_step s.structures).gives held (Err status) ⊎ ((d : Whole) × (structures_step s.structures).gives held (Ok d) × (after_structures s tree d).gives held (Err status)) → ByTypes s
      at_structures tree script (inl e) =
          absurd (never_onward (read s.structures structures_limit) (λ bytes. settled (structures_in s.structures bytes)) (never_read s.structures structures_limit) (never_structures s.structures) e)
      at_structures tree script (inr (d, is, rest)) =
          at_typing tree d (source_from s held tree d script is)
          (refused_at (settled (typing_of (settings_of s d) tree d.structures.sets)) (λ nodes. settled (Ok (typed_by tree d.structures (settings_of s d) nodes))) held status rest)

      at_script : (script_step s.script).gives held (Err status) ⊎ ((tree : ScriptTree) × (script_step s.script).gives held (Ok tree) × (after_script s tree).gives held (Err status)) → ByTypes s
      at_script (inl e) = absurd (never_onward (read s.script script_limit) (script_of s.script) (never_read s.script script_limit) (never_script s.script) e)
      at_script (inr (tree, is, rest)) = at_structures tree is (refused_at (structures_step s.structures) (after_structures s tree) held status rest)

  -- ---- a text by the typing of its script, and a run by that, or by what it means
  by_text : (s : Source) → (text_step s).gives held (Err status) → ByTypes s
  by_text s gives = at_typed (refused_at (typed_step s) text_for held status gives)
    where
      at_typed : (typed_step s).gives held (Err status) ⊎ ((t : Typed) × (typed_step s).gives held (Ok t) × (text_for t).gives held (Err status)) → ByTypes s
      at_typed (inl e) = by_typing s e
      at_typed (inr (t, is, rest)) = absurd (never_ok rest.0 rest.2)

  record ByValues (r : Run) : Type 0 where
    typed : Typed
    inputs : Environment
    ready : IsReady r held typed inputs
    values : Err status ≡ outputs_of r.output typed.settings (meant typed inputs)

  by_run : (r : Run) → (run_step r).gives held (Err status) → ByTypes r.source ⊎ ByValues r
  by_run r gives = at_typed (refused_at (typed_step r.source) (after_typing r) held status gives)
    where
      at_values : (t : Typed) → (typed_step r.source).gives held (Ok t)
          → (folder_step r.input t.settings t.not_null (reads t.structures t.nodes)).gives held (Err status)
          ⊎ ((env : Environment) × (folder_step r.input t.settings t.not_null (reads t.structures t.nodes)).gives held (Ok env) × (settled (outputs_of r.output t.settings (meant t env))).gives held (Err status)) → ByTypes r.source ⊎ ByValues r
      at_values t typed (inl e) = absurd (never_folder r.input t.settings t.not_null (reads t.structures t.nodes) e)
      at_values t typed (inr (env, is, rest)) = inr (record { typed = t; inputs = env; ready = ready_from r held t env typed is; values = rest })

      at_typed : (typed_step r.source).gives held (Err status) ⊎ ((t : Typed) × (typed_step r.source).gives held (Ok t) × (after_typing r t).gives held (Err status)) → ByTypes r.source ⊎ ByValues r
      at_typed (inl e) = inl (by_typing r.source e)
      at_typed (inr (t, is, rest)) = at_values t is (refused_at (folder_step r.input t.settings t.not_null (reads t.structures t.nodes)) (λ env. settled (outputs_of r.output t.settings (meant t env))) held status rest)

-- ---- by types
typing_fault : (i rule : ℕ) (typing : Result (List NodeTree) (ℕ × ℕ)) → Err (st.Mistyped i rule) ≡ typed_or_fault typing → typing ≡ Err (i, rule)
typing_fault i rule (Ok nodes) e = cc
typing_fault i rule (Err fault) e = let one : i ≡ fault.0 = cc in let two : rule ≡ fault.1 = cc in ap Err (sym (ap2 one two))
  where
    ap2 : {a b c d : ℕ} → a ≡ b → c ≡ d → ◌≡◌ {A = ℕ × ℕ} (a, c) (b, d)
    ap2 p q = cc

values_give_no_type : (i rule : ℕ) (folder : Path) (p : Settings) (m : Result Outputs (EvaluationFault × List ℕ)) → Err (st.Mistyped i rule) ≡ outputs_of folder p m → ⊥
values_give_no_type i rule folder p (Ok results) e = cc
values_give_no_type i rule folder p (Err fault) e = go fault.0 e
  where
    go : (f : EvaluationFault) → ◌≡◌ {A = Result (List (List ℕ × List ℕ)) Status} (Err (st.Mistyped i rule)) (Err (fault_status f fault.1)) → ⊥
    go DivZero e = cc
    go Range e = cc

mistyped_by : (s : Source) (held : Held) (i rule : ℕ) → ByTypes (st.Mistyped i rule) refl held s → IsMistyped s held i rule
mistyped_by s held i rule b = record {
  tree = b.tree;
  declared = b.declared_by;
  source = b.is_read;
  fault = typing_fault i rule (script_typed (env_over (settings_of s b.declared_by) b.declared_by.structures.sets) b.tree) b.typing;
}

pub mistyped_only : (r : Run) (held : Held) (i rule : ℕ) → (run_step r).gives held (Err (st.Mistyped i rule)) → IsMistyped r.source held i rule
mistyped_only r held i rule gives = go (by_run (st.Mistyped i rule) refl held r gives)
  where
    go : ByTypes (st.Mistyped i rule) refl held r.source ⊎ ByValues (st.Mistyped i rule) refl held r → IsMistyped r.source held i rule
    go (inl b) = mistyped_by r.source held i rule b
    go (inr b) = absurd (values_give_no_type i rule r.output b.typed.settings (meant b.typed b.inputs) b.values)

pub mistyped_text_only : (s : Source) (held : Held) (i rule : ℕ) → (text_step s).gives held (Err (st.Mistyped i rule)) → IsMistyped s held i rule
mistyped_text_only s held i rule gives = mistyped_by s held i rule (by_text (st.Mistyped i rule) refl held s gives)

refused_by_typing : (s : Source) (held : Held) (i rule : ℕ) → IsMistyped s held i rule → (typed_step s).gives held (Err (st.Mistyped i rule))
refused_by_typing s held i rule is =
    let typing : (settled (typing_of (settings_of s is.declared) is.tree is.declared.structures.sets)).gives held (Err (st.Mistyped i rule)) = sym (ap typed_or_fault is.fault) in
    (Ok is.tree, script_there s held is.tree is.declared is.source, (Ok is.declared, is.source.declared, (Err (st.Mistyped i rule), typing, refl)))

pub mistyped_always : (r : Run) (held : Held) (i rule : ℕ) → IsMistyped r.source held i rule → (run_step r).gives held (Err (st.Mistyped i rule))
mistyped_always r held i rule is = (Err (st.Mistyped i rule), refused_by_typing r.source held i rule is, refl)

pub mistyped_text_always : (s : Source) (held : Held) (i rule : ℕ) → IsMistyped s held i rule → (text_step s).gives held (Err (st.Mistyped i rule))
mistyped_text_always s held i rule is = (Err (st.Mistyped i rule), refused_by_typing s held i rule is, refl)

-- ---- by values
pub own_values : (f : EvaluationFault) (name : List ℕ) → is_other (cause (fault_status f name)) ≡ false
own_values DivZero name = refl
own_values Range name = refl

types_give_no_value : (f : EvaluationFault) (name : List ℕ) (typing : Result (List NodeTree) (ℕ × ℕ)) → Err (fault_status f name) ≡ typed_or_fault typing → ⊥
types_give_no_value f name (Ok nodes) e = cc
types_give_no_value DivZero name (Err fault) e = cc
types_give_no_value Range name (Err fault) e = cc

value_fault : (f : EvaluationFault) (name : List ℕ) (folder : Path) (p : Settings) (m : Result Outputs (EvaluationFault × List ℕ)) → Err (fault_status f name) ≡ outputs_of folder p m → m ≡ Err (f, name)
value_fault f name folder p (Ok results) e = cc
value_fault f name folder p (Err fault) e = ap Err (go f fault.0 e)
  where
    go : (a b : EvaluationFault) → ◌≡◌ {A = Result (List (List ℕ × List ℕ)) Status} (Err (fault_status a name)) (Err (fault_status b fault.1)) → ◌≡◌ {A = EvaluationFault × List ℕ} (b, fault.1) (a, name)
    go DivZero DivZero e = let same : name ≡ fault.1 = cc in ap (λ (n : List ℕ). (DivZero, n)) (sym same)
    go DivZero Range e = cc
    go Range DivZero e = cc
    go Range Range e = let same : name ≡ fault.1 = cc in ap (λ (n : List ℕ). (Range, n)) (sym same)

pub faulted_only : (r : Run) (held : Held) (f : EvaluationFault) (name : List ℕ) → (run_step r).gives held (Err (fault_status f name)) → IsFaulted r held f name
faulted_only r held f name gives = go (by_run (fault_status f name) (own_values f name) held r gives)
  where
    go : ByTypes (fault_status f name) (own_values f name) held r.source ⊎ ByValues (fault_status f name) (own_values f name) held r → IsFaulted r held f name
    go (inl b) = absurd (types_give_no_value f name (script_typed (env_over (settings_of r.source b.declared_by) b.declared_by.structures.sets) b.tree) b.typing)
    go (inr b) = record { typed = b.typed; inputs = b.inputs; ready = b.ready; means = value_fault f name r.output b.typed.settings (meant b.typed b.inputs) b.values }

pub faulted_always : (r : Run) (held : Held) (f : EvaluationFault) (name : List ℕ) → IsFaulted r held f name → (run_step r).gives held (Err (fault_status f name))
faulted_always r held f name is = ready_gives r held is.typed is.inputs (Err (fault_status f name)) is.ready (sym (ap (outputs_of r.output is.typed.settings) is.means))

-- ---- what is refused before the script is run, is refused by no fault of it
module _ {F A X : Type 0} (g : Ghosts F) (a b : F) (step : Step A) (never : (f : EvaluationFault) (name : List ℕ) (held : Held) → step.gives held (Err (fault_status f name)) → ⊥) (view : X → A) (Q : Held → Type 0) where
  no_run : (status : Status) → Takes g a b step view (Err status) → HasRun status → IfSome (g.held a) Q
  no_run st.Done t h = absurd t.came
  no_run (st.DivZero name) t h = if_some_map (g.held a) (λ held. step.gives held (Err (st.DivZero name))) Q (λ held p. absurd (never DivZero name held p)) t.came
  no_run (st.Range name) t h = if_some_map (g.held a) (λ held. step.gives held (Err (st.Range name))) Q (λ held p. absurd (never Range name held p)) t.came
  no_run status t h = absurd h

pub typing_tells : {F X : Type 0} (g : Ghosts F) (a b : F) (s : Source) (view : X → Typed) (told : TypedScript → Type 0) (status : Status) → Takes g a b (typed_step s) view (Err status) → TellsRun g a (typed_step s) told status
typing_tells g a b s view told status = no_run g a b (typed_step s) never view (λ held. IsTold held (typed_step s) told) status
  where
    never : (f : EvaluationFault) (name : List ℕ) (held : Held) → (typed_step s).gives held (Err (fault_status f name)) → ⊥
    never f name held gives =
        let b = by_typing (fault_status f name) (own_values f name) held s gives in
        types_give_no_value f name (script_typed (env_over (settings_of s b.declared_by) b.declared_by.structures.sets) b.tree) b.typing

pub inputs_tell : {F X : Type 0} (g : Ghosts F) (a b c : F) (step : Step Typed) (folder : Path) (p : Settings) (lists : NotNull) (inputs : Named) (view : X → Environment) (told : TypedScript → Type 0) (status : Status) → g.held b ≡ g.held a → Takes g b c (folder_step folder p lists inputs) view (Err status) → TellsRun g a step told status
inputs_tell g a b c step folder p lists inputs view told status same t h =
    subst (λ o. IfSome o (λ held. IsTold held step told)) same
    (no_run g b c (folder_step folder p lists inputs) (λ f name held. never_folder (fault_status f name) (own_values f name) held folder p lists inputs) view (λ held. IsTold held step told) status t h)
