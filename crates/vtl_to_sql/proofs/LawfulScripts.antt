-- The script in SQL breaks no rule and can be printed, whatever its inputs are.
use Rattle.std.proofs.Common.{◌≡◌, ◌≤◌, ◌<◌, ◌+◌, ◌&&◌, ℕ, pos, Bool, true, false, cond, List, [], ◌∷◌, ◌++◌, length, map, Some, Ok, refl, ap, sym, ◌∙◌, subst, arith}
use Rattle.std.specs.Char.{is_ascii_digit}
use Rattle.std.specs.Fmt.{decimal}
use Rattle.std.specs.List.{AllByRecursion, list_all}
use Rattle.std.specs.Map.{keys_of}
use Rattle.std.proofs.lemmas.Bool.Decides.{nat_tests}
use Rattle.std.proofs.lemmas.Fmt.{decimal_digit}
use Rattle.std.proofs.lemmas.List.{length-map}
use Rattle.grammar_forms.specs.Written.{Each}
use Rattle.vtl_lists.specs.Apart.{all_apart}
use Rattle.vtl_decimal.specs.Settings.{Settings}
use Rattle.vtl_text.specs.Texts.{same_text}
use Rattle.vtl_text.specs.Words.{is_word}
use Rattle.vtl_cell.specs.declared.kind.Kind.{Kind}
use Rattle.vtl_cell.specs.declared.kind.Kind.TheVariants as k
use Rattle.vtl_lists.proofs.Aparts.{apart_more}
use Rattle.vtl_lists.proofs.Alls.{all_each, all_front, all_more}
use Rattle.vtl_cell.specs.Literals.{lies_between}
use Rattle.vtl_tree.specs.Structure.{IsStructure, columns_of, names_of, same_name}
use Rattle.vtl_tree.specs.Structures as structures
use Rattle.vtl_tree.specs.NotNull.{NotNull, not_null_of}
use Rattle.vtl_tree.specs.Structures.{Named}
use Rattle.vtl_tree.specs.declared.structure.Component.{Component}
use Rattle.vtl_tree.specs.declared.structure.Structure.{Structure}
use Rattle.vtl_tree.specs.Columns.{identifiers_of, others_of}
use Rattle.vtl_scripts.specs.Meaning.{Outputs, Statement, meaning}
use Rattle.vtl_tree.specs.Trees.{structure_of}
use Rattle.vtl_meaning.proofs.Places.{columns_split, same_name-sym}
use Rattle.vtl_meaning.proofs.FoundColumns.{of-columns}
use Rattle.check_laws.proofs.Inner.{made-shaped}
use Rattle.sql_tree.specs.Formed.{IsInputColumn, IsName, IsStatement, PrintableScript, is_column_kind}
use Rattle.sql_check_laws.specs.Statements.{AreTyped}
use Rattle.sql_check_laws.proofs.TypedStatements.{script_typed, typed_behind}
use Rattle.sql_check_parts.specs.Queries.{query_columns}
use Rattle.sql_check_parts.specs.Scopes.{Tables, columns_of as table_columns, is_among}
use Rattle.sql_check_parts.specs.Statements.{IsTypedScript, is_taken, nothing}
use Rattle.sql_meaning.specs.Scripts.{Data, tables_in}
use Rattle.vtl_to_sql.specs.Conditions.{AreTranslated, IsScript}
use Rattle.selects_to_sql.specs.Writable.{HaveNames}
use Rattle.vtl_to_sql.specs.Exports.{tables_read}
use Rattle.vtl_to_sql.specs.Means.{AreStored, ScriptGives, Stores}
use Rattle.selects_to_sql.specs.Runs.{AreLawful, entries, given_behind, held, printable_depth}
use Rattle.selects_to_sql.specs.Tables.{create_for, Table}
use Rattle.vtl_to_sql.specs.Scripts.{export_for, input_column, input_for, script_for, statements_for, written_of}
use Rattle.vtl_to_sql.specs.Tables.{script_tables}
use Rattle.vtl_to_sql.proofs.EmptyData.{empty_are_sets, empty_empty, empty_known, empty_ranged, empty_read, empty_sets, meaning_there}
use Rattle.selects_to_sql.proofs.Names.{word_is_name}
use Rattle.vtl_to_sql.proofs.Nodes.{names_in}
use Rattle.selects_to_sql.proofs.Running.{columns_there, given_is}
use Rattle.selects_to_sql.proofs.Givens.{columns_count}
use Rattle.times_to_sql.proofs.FillKeys.{names_each}
use Rattle.vtl_to_sql.proofs.TranslatedScripts.{all_apart_from, all_translated, tables_give}
use Rattle.vtl_to_sql.proofs.TypedScripts.{IsReadable, IsWritten, all_readable, creates_fit, creates_give, exports_fit, giving, inputs_fit, inputs_give}
use Rattle.vtl_to_sql.proofs.WholeScript.{scale_read, set_is, written_are}

-- ---- results that are written

-- what is known of one
pub record IsResult (e : List ℕ × Structure) : Type 0 where
  pub word : is_word e.0 ≡ true
  pub well_formed : IsStructure e.1
  pub named : HaveNames (columns_of e.1)

pub all_results : (p : Settings) (known : Named) (ss : List Statement) → AreTranslated p known ss → AllByRecursion IsResult (written_of ss)
all_results p known [] h = tt
all_results p known (s ∷ ss) h = go s.persistent (all_results p ((s.result, structure_of s.node) ∷ known) ss h.1)
  where
    go : (b : Bool) → AllByRecursion IsResult (written_of ss) → AllByRecursion IsResult (cond b ((s.result, structure_of s.node) ∷ written_of ss) (written_of ss))
    go true ih = (record { word = h.0.word; well_formed = (made-shaped p known s.node h.0.made).well_formed; named = names_in p s.node h.0.translated }, ih)
    go false ih = ih

pub results_apart : (p : Settings) (known : Named) (ss : List Statement) → AreTranslated p known ss → all_apart same_name (keys_of (written_of ss)) ≡ true
results_apart p known [] h = refl
results_apart p known (s ∷ ss) h = go s.persistent (results_apart p ((s.result, structure_of s.node) ∷ known) ss h.1)
  where
    others : (us : List Statement) → AllByRecursion (λ t. same_text t.result s.result ≡ false) us → AllByRecursion (λ n. same_name s.result n ≡ false) (keys_of (written_of us))
    others [] all = tt
    others (u ∷ us) all = put u.persistent (others us all.1)
      where
        put : (b : Bool) → AllByRecursion (λ n. same_name s.result n ≡ false) (keys_of (written_of us)) → AllByRecursion (λ n. same_name s.result n ≡ false) (keys_of (cond b ((u.result, structure_of u.node) ∷ written_of us) (written_of us)))
        put true ih = (same_name-sym s.result u.result ∙ all.0, ih)
        put false ih = ih

    go : (b : Bool) → all_apart same_name (keys_of (written_of ss)) ≡ true → all_apart same_name (keys_of (cond b ((s.result, structure_of s.node) ∷ written_of ss) (written_of ss))) ≡ true
    go true ih = apart_more same_name s.result (keys_of (written_of ss)) (others ss (all_apart_from p known s ss h.1)) ih
    go false ih = ih

-- ---- parts that can be printed

each_both : {X : Type 0} (P : X → Type 0) (xs ys : List X) → Each P xs → Each P ys → Each P (xs ++ ys)
each_both P [] ys f g = g
each_both P (x ∷ xs) ys f g = (f.0, each_both P xs ys f.1 g)

column_kind : (kind : Kind) → structures.is_null_kind kind ≡ false → is_column_kind kind ≡ true
column_kind k.Null h = cc
column_kind k.Bool h = refl
column_kind k.Int h = refl
column_kind k.Num h = refl
column_kind k.Text h = refl
column_kind k.Day h = refl
column_kind k.Period h = refl

columns_printed : (l : List (List ℕ)) (xs : List Component) → HaveNames xs → AllByRecursion (λ x. structures.is_null_kind x.kind ≡ false) xs → Each IsInputColumn (map (input_column l) xs)
columns_printed l [] n h = tt
columns_printed l (x ∷ xs) n h = ((n.0, column_kind x.kind h.0), columns_printed l xs n.1 h.1)

identifiers_printed : (s : Structure) → HaveNames (columns_of s) → Each IsName (names_of (identifiers_of s))
identifiers_printed s n = names_each (identifiers_of s) (all_front (λ x. IsName x.name) (identifiers_of s) (others_of s) (subst HaveNames (columns_split s) n))

inputs_printed : (ls : NotNull) (reads : Named) → AllByRecursion IsReadable reads → Each (IsStatement printable_depth) (map (input_for ls) reads)
inputs_printed ls [] h = tt
inputs_printed ls (e ∷ es) h =
    let size = columns_count e.1 in
    let many = length-map (columns_of e.1) (input_column (not_null_of e.0 ls)) in
    let some = h.0.shaped.well_formed.some in (
      (word_is_name e.0 h.0.word, omega (arith, size, many, some), columns_printed (not_null_of e.0 ls) (columns_of e.1) h.0.named (of-columns (λ x. structures.is_null_kind x.kind ≡ false) e.1 h.0.shaped.kinds), identifiers_printed e.1 h.0.named),
      inputs_printed ls es h.1,
    )

creates_printed : (p : Settings) (given : Tables) (ts : List Table) → AreLawful p given ts → Each (IsStatement printable_depth) (map create_for ts)
creates_printed p given [] h = tt
creates_printed p given (t ∷ ts) h = (h.0, creates_printed p (given ++ (t.name, query_columns given t.query) ∷ []) ts h.2)

exports_printed : (ws : Named) → AllByRecursion IsResult ws → Each (IsStatement printable_depth) (map export_for ws)
exports_printed [] h = tt
exports_printed (w ∷ ws) h = ((word_is_name w.0 h.0.word, identifiers_printed w.1 h.0.named), exports_printed ws h.1)

-- ---- SET

a_digit : (n : ℕ) → n ≤ 9 → is_ascii_digit (48 + n) ≡ true
a_digit n h = grind (arith, nat_tests, h)

digits_printed : (n : ℕ) → n ≤ 9 → (0 < length (decimal n)) × (list_all is_ascii_digit (decimal n) ≡ true)
digits_printed n h =
    let one : decimal n ≡ (48 + n) ∷ [] = decimal_digit n (omega (arith, h)) in
    subst (λ ds. (0 < length ds) × (list_all is_ascii_digit ds ≡ true)) (sym one) (omega arith, ap (λ b. b && true) (a_digit n h))

scale_between : (n : ℕ) → n ≤ 9 → lies_between (pos 0) (pos 9) (Some (pos n)) ≡ true
scale_between n h = grind (arith, nat_tests, h)

-- ---- the script

module _ (p : Settings) (ls : NotNull) (reads : Named) (ss : List Statement) (script : IsScript p reads ss) where
  abbrev before : Data
  before = tables_read [] ls reads

  readable : AllByRecursion IsReadable reads
  readable = all_readable reads script.readable

  -- over inputs without rows it has outputs
  outputs : (out : Outputs) × (meaning p ss (empty_sets reads) ≡ Ok out)
  outputs = meaning_there p ss (empty_sets reads) (empty_empty reads) (all_translated p reads ss script.translated)

  stores : Stores p before (script_tables p ss) outputs.0
  stores =
      subst (ScriptGives p before (script_tables p ss)) outputs.1
      (tables_give p ls reads ss script (empty_sets reads) (empty_known reads) (empty_are_sets reads (all_more IsReadable (λ e. IsStructure e.1) (λ e h. h.shaped.well_formed) reads readable)) (empty_ranged p reads) [] (empty_read reads))

  abbrev now : Tables
  now = tables_in (before ++ stores.more)

  given : given_behind (tables_in before) (script_tables p ss) ≡ now
  given = given_is p before (before ++ stores.more) (script_tables p ss) stores.ran

  results : AllByRecursion IsResult (written_of ss)
  results = all_results p reads ss script.translated

  abbrev IsThere : List ℕ × Structure → Type 0
  IsThere e = table_columns now e.0 ≡ Some (entries (columns_of e.1))

  known : (out : Outputs) → AreStored (before ++ stores.more) out → AllByRecursion IsThere (map (λ o. (o.0, o.1.structure)) out)
  known [] h = tt
  known (o ∷ os) h = (columns_there (before ++ stores.more) o.0 (held o.1.structure h.0.rows) h.0.table, known os h.1)

  all_there : AllByRecursion IsThere (written_of ss)
  all_there = subst (AllByRecursion IsThere) (written_are p ss (empty_sets reads) outputs.0 outputs.1) (known outputs.0 stores.stored)

  written : (ws : Named) → AllByRecursion IsResult ws → AllByRecursion IsThere ws → AllByRecursion (IsWritten now) ws
  written [] r t = tt
  written (w ∷ ws) r t = (record { word = r.0.word; well_formed = r.0.well_formed; there = t.0 }, written ws r.1 t.1)

  typed : AreTyped p nothing (statements_for p ls reads ss)
  typed =
      (typed_behind p (giving [] []) (map (input_for ls) reads) (map create_for (script_tables p ss) ++ map export_for (written_of ss))).from (
        inputs_fit p ls [] reads readable script.readable.structures.distinct (all_each (λ e. is_taken [] e.0 ≡ false) (λ e. refl) reads),
        subst (λ g. AreTyped p g (map create_for (script_tables p ss) ++ map export_for (written_of ss))) (sym (inputs_give [] ls [] reads))
            ((typed_behind p (giving (tables_in before) []) (map create_for (script_tables p ss)) (map export_for (written_of ss))).from (
              creates_fit p (tables_in before) [] (script_tables p ss) stores.lawful,
              subst (λ g. AreTyped p g (map export_for (written_of ss))) (sym (creates_give (tables_in before) [] (script_tables p ss) ∙ ap (λ t. giving t []) given))
                  (exports_fit p now [] (written_of ss) (written (written_of ss) results all_there) (results_apart p reads ss script.translated) (all_each (λ w. is_among w.0 [] ≡ false) (λ w. refl) (written_of ss))),
            )),
      )

  pub script_is_typed : IsTypedScript (script_for p ls reads ss)
  script_is_typed =
      (script_typed (decimal p.scale) p.rounding (statements_for p ls reads ss)).from
      (ap (lies_between (pos 0) (pos 9)) (scale_read p.scale script.low) ∙ scale_between p.scale script.low, subst (λ q. AreTyped q nothing (statements_for p ls reads ss)) (sym (set_is p script.low)) typed)

  pub script_is_printable : PrintableScript (script_for p ls reads ss)
  script_is_printable = (
    digits_printed p.scale script.low,
    each_both (IsStatement printable_depth) (map (input_for ls) reads) (map create_for (script_tables p ss) ++ map export_for (written_of ss)) (inputs_printed ls reads readable)
        (each_both (IsStatement printable_depth) (map create_for (script_tables p ss)) (map export_for (written_of ss)) (creates_printed p (tables_in before) (script_tables p ss) stores.lawful) (exports_printed (written_of ss) results)),
  )
