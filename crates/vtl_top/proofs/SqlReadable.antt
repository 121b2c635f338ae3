-- The INPUTs of a script that is formed and typed can be read, and tables of their data sets are what the engine asks for.
use Rattle.std.proofs.Common.{◌≡◌, ℕ, true, false, List, [], ◌∷◌, ◌++◌, map, Option, Some, None, refl, sym, ap, subst, ◌∙◌, Result, Ok, Err, IfOk}
use Rattle.std.specs.Cmp.Lexicographic.{nat_list_eq_equiv}
use Rattle.std.specs.List.{AllByRecursion, list_any}
use Rattle.std.specs.Map.{keys_of}
use Rattle.std.proofs.lemmas.List.Folds.{list_any-append}
use Rattle.std.proofs.lemmas.List.{map-append}
use Rattle.std.proofs.lemmas.Bool.{or_parts}
use Rattle.vtl_lists.specs.Apart.{all_apart}
use Rattle.vtl_cell.specs.Row.{Row}
use Rattle.vtl_decimal.specs.Settings.{Settings}
use Rattle.vtl_text.specs.Texts.{same_text}
use Rattle.vtl_lists.proofs.Aparts.{apart_more, apart_parts}
use Rattle.vtl_rows.specs.Named.{NamedTables, table_of}
use Rattle.vtl_rows.specs.Tables.{Listed}
use Rattle.vtl_tree.specs.DataSet.{AreOfProfile}
use Rattle.vtl_tree.specs.Structure.{IsStructure, same_name}
use Rattle.vtl_tree.specs.Structures.{Named}
use Rattle.sql_tree.specs.Formed.{FormedScript, IsStatement}
use Rattle.sql_tree.specs.Grammar.{most_levels}
use Rattle.sql_tree.specs.Trees as tree
use Rattle.sql_tree.specs.Trees.{StatementTree, ScriptTree}
use Rattle.sql_check_parts.specs.Scopes.{Columns, Tables}
use Rattle.sql_check_parts.specs.Statements.{Given, IsTypedScript, after, input_columns, is_taken, nothing, settings_of}
use Rattle.sql_check_laws.specs.Statements.{AreTyped}
use Rattle.sql_check_laws.proofs.TypedStatements.{script_typed}
use Rattle.grammar_forms.specs.Written.{Each}
use Rattle.sql_tree.specs.View.{script_tree, statement_tree}
use Rattle.sql_tree.specs.declared.statements.SqlScript.{SqlScript}
use Rattle.vtl_top.specs.InputsRead.{AreReadable}
use Rattle.vtl_status.specs.declared.status.Status.{Status}
use Rattle.sql_check_laws.proofs.GivenColumns.{inputs_declared}
use Rattle.sql_engine.specs.InputTables.{AreInputsInRange, HaveInputTables, IsInputTable, rows_given}
use Rattle.sql_engine.specs.Structures.{structure_of}
use Rattle.vtl_backend.specs.Inputs.{Holds, input_of, rows_named}
use Rattle.vtl_meaning.specs.Profiles.{AllAreOfProfile}
use Rattle.vtl_top.specs.Wanted.{entry_wanted}
use Rattle.vtl_top.specs.SqlInputs.{input_structures, inputs_wanted, rows_by_name}
use Rattle.sql_engine.proofs.DeclaredInputs.{lawful_structure, table_is_input}
use Rattle.sql_back.proofs.InputTables.{same_rows}

-- ---- the structures of INPUTs
pub structures_wanted : (ss : ScriptTree) → map entry_wanted (inputs_wanted ss) ≡ input_structures ss
structures_wanted [] = refl
structures_wanted (tree.setting digits rounding ∷ ss) = structures_wanted ss
structures_wanted (tree.input s ∷ ss) = ap (λ (l : Named). (s.name, structure_of s) ∷ l) (structures_wanted ss)
structures_wanted (tree.create name q ∷ ss) = structures_wanted ss
structures_wanted (tree.export s ∷ ss) = structures_wanted ss

-- ---- each INPUT has a structure
pub inputs_are_structures : (p : Settings) (given : Given) (ss : List StatementTree) → AllByRecursion (IsStatement most_levels) ss → AreTyped p given ss → AllByRecursion (λ e. IsStructure e.1) (input_structures ss)
inputs_are_structures p given [] formed typed = tt
inputs_are_structures p given (tree.setting digits rounding ∷ ss) formed typed = inputs_are_structures p given ss formed.1 typed.1
inputs_are_structures p given (tree.input s ∷ ss) formed typed = (lawful_structure s (inputs_declared given.tables s formed.0 typed.0), inputs_are_structures p (after given (tree.input s)) ss formed.1 typed.1)
inputs_are_structures p given (tree.create name q ∷ ss) formed typed = inputs_are_structures p (after given (tree.create name q)) ss formed.1 typed.1
inputs_are_structures p given (tree.export s ∷ ss) formed typed = inputs_are_structures p (after given (tree.export s)) ss formed.1 typed.1

-- ---- and a name of its own
abbrev AreFree : Tables → Named → Type 0
AreFree tables inputs = AllByRecursion (λ e. is_taken tables e.0 ≡ false) inputs

record Apart (tables : Tables) (name : List ℕ) (columns : Columns) (inputs : Named) : Type 0 where
  free : AreFree tables inputs
  other : AllByRecursion (λ x. same_text name x ≡ false) (keys_of inputs)

taken_parts : (tables : Tables) (name other : List ℕ) (columns : Columns) → is_taken (tables ++ (name, columns) ∷ []) other ≡ false → (is_taken tables other ≡ false) × (same_text name other ≡ false)
taken_parts tables name other columns e =
    let both = or_parts (list_any (same_text other) (keys_of tables)) (list_any (same_text other) (name ∷ [])) (sym (list_any-append (same_text other) (keys_of tables) (name ∷ [])) ∙ ap (list_any (same_text other)) (sym (map-append (λ (t : List ℕ × Columns). t.0) tables ((name, columns) ∷ []))) ∙ e) in
    (both.0, nat_list_eq_equiv.symm name other ∙ (or_parts (same_text other name) false both.1).0)

apart_from : (tables : Tables) (name : List ℕ) (columns : Columns) (inputs : Named) → AreFree (tables ++ (name, columns) ∷ []) inputs → Apart tables name columns inputs
apart_from tables name columns [] free = record { free = tt; other = tt }
apart_from tables name columns (e ∷ es) free =
    let one = taken_parts tables name e.0 columns free.0 in
    let rest = apart_from tables name columns es free.1 in
    record { free = (one.0, rest.free); other = (one.1, rest.other) }

pub inputs_are_apart : (p : Settings) (given : Given) (ss : List StatementTree) → AreTyped p given ss → AreFree given.tables (input_structures ss) × (all_apart same_name (keys_of (input_structures ss)) ≡ true)
inputs_are_apart p given [] typed = (tt, refl)
inputs_are_apart p given (tree.setting digits rounding ∷ ss) typed = inputs_are_apart p given ss typed.1
inputs_are_apart p given (tree.input s ∷ ss) typed =
    let rest = inputs_are_apart p (after given (tree.input s)) ss typed.1 in
    let apart = apart_from given.tables s.name (input_columns s) (input_structures ss) rest.0 in
    ((typed.0.free, apart.free), apart_more same_text s.name (keys_of (input_structures ss)) apart.other rest.1)
inputs_are_apart p given (tree.create name q ∷ ss) typed =
    let rest = inputs_are_apart p (after given (tree.create name q)) ss typed.1 in
    ((apart_from given.tables name _ (input_structures ss) rest.0).free, rest.1)
inputs_are_apart p given (tree.export s ∷ ss) typed = inputs_are_apart p (after given (tree.export s)) ss typed.1

-- ---- tables of them
abbrev AllHeld : NamedTables → Named → Type 0
AllHeld tables inputs = AllByRecursion (λ e. Holds e.1 (table_of e.0 tables)) inputs

pub inputs_have_tables : (tables : NamedTables) (ss : List StatementTree) → AllHeld tables (input_structures ss) → HaveInputTables tables ss
inputs_have_tables tables [] held = tt
inputs_have_tables tables (tree.setting digits rounding ∷ ss) held = (tt, inputs_have_tables tables ss held)
inputs_have_tables tables (tree.input s ∷ ss) held = (one (table_of s.name tables) refl held.0, inputs_have_tables tables ss held.1)
  where
    one : (o : Option Listed) → table_of s.name tables ≡ o → Holds (structure_of s) o → IsInputTable tables s
    one None e h = absurd h
    one (Some t) e h = table_is_input s tables t e h
inputs_have_tables tables (tree.create name q ∷ ss) held = (tt, inputs_have_tables tables ss held)
inputs_have_tables tables (tree.export s ∷ ss) held = (tt, inputs_have_tables tables ss held)

pub inputs_are_in_range : (p : Settings) (tables : NamedTables) (ss : List StatementTree) → AllAreOfProfile p (map (input_of tables) (input_structures ss)) → AreInputsInRange p tables ss
inputs_are_in_range p tables [] all = tt
inputs_are_in_range p tables (tree.setting digits rounding ∷ ss) all = (tt, inputs_are_in_range p tables ss all)
inputs_are_in_range p tables (tree.input s ∷ ss) all = (subst (AreOfProfile p) (same_rows (table_of s.name tables)) all.0, inputs_are_in_range p tables ss all.1)
inputs_are_in_range p tables (tree.create name q ∷ ss) all = (tt, inputs_are_in_range p tables ss all)
inputs_are_in_range p tables (tree.export s ∷ ss) all = (tt, inputs_are_in_range p tables ss all)

-- ---- their rows by name
-- the rows of the table of each name
abbrev Found : Type 0
Found = List ℕ × List Row

abbrev found_in : NamedTables → List ℕ → Found
found_in ts n = (n, rows_named n ts)

-- a name that is none of the first table's is looked up behind it
rows_behind : (t : List ℕ × Listed) (ts : NamedTables) (names : List (List ℕ)) → AllByRecursion (λ n. same_text t.0 n ≡ false) names → map (found_in (t ∷ ts)) names ≡ map (found_in ts) names
rows_behind t ts [] all = refl
rows_behind t ts (n ∷ ns) all = ap (λ (l : List Found). found_in (t ∷ ts) n ∷ l) (rows_behind t ts ns all.1) ∙ ap {B = List Found} (λ r. (n, r) ∷ map (found_in ts) ns) (rw (nat_list_eq_equiv.symm n t.0 ∙ all.0) refl)

rows_are_those : (ts : NamedTables) → all_apart same_text (keys_of ts) ≡ true → map (found_in ts) (keys_of ts) ≡ rows_given ts
rows_are_those [] apart = refl
rows_are_those (t ∷ ts) apart =
    let parts = apart_parts same_text t.0 (keys_of ts) apart in
    let first : rows_named t.0 (t ∷ ts) ≡ t.1.rows = rw (nat_list_eq_equiv.refl t.0) refl in
    ap {B = List Found} (λ r. (t.0, r) ∷ map (found_in (t ∷ ts)) (keys_of ts)) first ∙ ap {B = List Found} (λ l. (t.0, t.1.rows) ∷ l) (rows_behind t ts (keys_of ts) parts.0 ∙ rows_are_those ts parts.1)

by_keys : (ts : NamedTables) (ins : Named) → rows_by_name (map (input_of ts) ins) ≡ map (found_in ts) (keys_of ins)
by_keys ts [] = refl
by_keys ts (e ∷ es) = ap (λ (l : List Found). found_in ts e.0 ∷ l) (by_keys ts es)

pub rows_are_by_name : (ts : NamedTables) (ins : Named) → keys_of ts ≡ keys_of ins → all_apart same_name (keys_of ins) ≡ true → rows_given ts ≡ rows_by_name (map (input_of ts) ins)
rows_are_by_name ts ins same apart = sym (rows_are_those ts (ap (all_apart same_text) same ∙ apart)) ∙ ap (map (found_in ts)) same ∙ sym (by_keys ts ins)

-- ---- whole scripts
abbrev AllFormed : List StatementTree → Type 0
AllFormed ss = AllByRecursion (IsStatement most_levels) ss

pub script_readable : (s : SqlScript) → FormedScript (script_tree s) → IsTypedScript (script_tree s) → AreReadable (input_structures (script_tree s))
script_readable s formed typed =
    let are = (script_typed s.scale s.rounding (map statement_tree s.statements)).to typed in
    record {
      structures = inputs_are_structures (settings_of s.scale s.rounding) nothing (map statement_tree s.statements) (all_of_each (map statement_tree s.statements) formed.1) are.1;
      distinct = (inputs_are_apart (settings_of s.scale s.rounding) nothing (map statement_tree s.statements) are.1).1;
    }
  where
    all_of_each : (ss : List StatementTree) → Each (IsStatement most_levels) ss → AllFormed ss
    all_of_each [] all = tt
    all_of_each (t ∷ ts) all = (all.0, all_of_each ts all.1)

-- ---- of what was read, or not
module _ (s : ScriptTree) (ins : Named) (is : ins ≡ input_structures s) where
  pub all_by_name : (r : Result NamedTables Status) → all_apart same_name (keys_of ins) ≡ true → IfOk r (λ t. keys_of t ≡ keys_of ins) → IfOk r (λ t. rows_given t ≡ rows_by_name (map (input_of t) (input_structures s)))
  all_by_name (Ok t) apart names = rows_are_by_name t ins names apart ∙ ap (λ es. rows_by_name (map (input_of t) es)) is
  all_by_name (Err e) apart names = tt

  pub all_have_tables : (r : Result NamedTables Status) → IfOk r (λ t. AllByRecursion (λ e. Holds e.1 (table_of e.0 t)) ins) → IfOk r (λ t. HaveInputTables t s)
  all_have_tables (Ok t) held = inputs_have_tables t s (subst (λ es. AllByRecursion (λ e. Holds e.1 (table_of e.0 t)) es) is held)
  all_have_tables (Err e) held = tt

  pub all_in_range : (p q : Settings) (r : Result NamedTables Status) → p ≡ q → IfOk r (λ t. AllAreOfProfile p (map (input_of t) ins)) → IfOk r (λ t. AreInputsInRange q t s)
  all_in_range p q (Ok t) e all = inputs_are_in_range q t s (subst (λ x. AllAreOfProfile x (map (input_of t) (input_structures s))) e (subst (λ es. AllAreOfProfile p (map (input_of t) es)) is all))
  all_in_range p q (Err x) e all = tt
