-- The exports of a script, over the tables that its statements have made.
use Rattle.std.proofs.Common.{◌≡◌, Bool, true, false, cond, List, [], ◌∷◌, ◌++◌, map, Option, Some, None, IsSome, Result, Ok, Err, refl, sym, ap, ◌∙◌, subst, append_assoc}
use Rattle.std.specs.Prelude.{fold, is_some, option_map, unwrap_or}
use Rattle.std.specs.List.{AllByRecursion}
use Rattle.std.specs.Map.{lookup}
use Rattle.std.proofs.lemmas.List.{append-nil, map-append}
use Rattle.vtl_lists.proofs.Perms.{Perm-sym}
use Rattle.vtl_lists.proofs.Sorts.{Perm-sorted_by, sorted_by-Perm}
use Rattle.vtl_cell.specs.Outcome.{Outcome}
use Rattle.vtl_lists.specs.Perm.{Perm, chain}
use Rattle.vtl_lists.specs.Results.{◌>>=◌}
use Rattle.vtl_cell.specs.Row.{Row}
use Rattle.vtl_decimal.specs.Settings.{Settings}
use Rattle.vtl_cell.specs.Sorted.{in_order}
use Rattle.vtl_text.specs.Texts.{same_text}
use Rattle.vtl_cell.proofs.Keys.{window_order}
use Rattle.vtl_rows.specs.Named.{NamedTables, table_of}
use Rattle.vtl_rows.specs.Tables.{Listed}
use Rattle.vtl_rows.specs.declared.column.Column.{Column}
use Rattle.sql_tree.specs.Trees as tree
use Rattle.sql_tree.specs.Trees.{QueryTree, StatementTree, Text}
use Rattle.sql_tree.specs.declared.statements.SqlExport.{SqlExport}
use Rattle.sql_check_parts.specs.Queries.{query_columns}
use Rattle.sql_check_parts.specs.Scopes.{Columns, Tables, columns_of}
use Rattle.sql_check_parts.specs.Statements.{Given, after, input_columns, nothing}
use Rattle.sql_check_laws.specs.Statements.{AreTyped, IsOrder}
use Rattle.sql_meaning.specs.Scripts.{Data, Export, Inputs, Made, NamedFault, Table, and_table, base_of, created, export_of, input_table, no_table, nothing_made, or_named, sort_key, statement_made, statements_made, table_named, tables_in}
use Rattle.sql_meaning.specs.Selects.{query_value}
use Rattle.sql_meaning.specs.Tables.{column_entry, rows_of}
use Rattle.sql_from.specs.Held.{tables_held}
use Rattle.sql_engine.specs.Exported.{AreExported, entry_column, exported_of, exports_in, no_listed, ordered_by, shown}
use Rattle.sql_engine.specs.Held.{HaveMade}
use Rattle.sql_engine.specs.InputTables.{rows_given}
use Rattle.sql_engine.specs.Runs.{FaultIs, Shows, ShowsAs, ShowsExports, ShowsMeaning}
use Rattle.vtl_scalar.specs.declared.run_error.RunErr.{RunErr}
use Rattle.vtl_scalar.specs.declared.run_error.RunErr.TheVariants as run
use Rattle.sql_engine.specs.declared.orders.RowOrder.{RowOrder}
use Rattle.sql_engine.specs.declared.orders.RowOrder.TheVariants as by
use Rattle.sql_engine.proofs.Standing.{both_there, columns_named, named_behind}
use Rattle.sql_engine.proofs.TableLookups.{columns_in, columns_looked, or_else}

-- ---- typing: exports name tables that there are in the end

tables_behind : (name : Text) (tables more : Tables) (columns : Columns) → columns_of tables name ≡ Some columns → columns_of (tables ++ more) name ≡ Some columns
tables_behind name [] more columns e = cc
tables_behind name (t ∷ tables) more columns e = go (same_text name t.0) (tables_behind name tables more columns) e
  where
    go : (b : Bool) → (columns_of tables name ≡ Some columns → columns_of (tables ++ more) name ≡ Some columns) → cond b (Some t.1) (columns_of tables name) ≡ Some columns → cond b (Some t.1) (columns_of (tables ++ more) name) ≡ Some columns
    go true ih q = q
    go false ih q = ih q

columns_kept : (ss : List StatementTree) (given : Given) (name : Text) (columns : Columns) → columns_of given.tables name ≡ Some columns → columns_of (fold after given ss).tables name ≡ Some columns
columns_kept [] given name columns e = e
columns_kept (tree.setting digits rounding ∷ ss) given name columns e = columns_kept ss given name columns e
columns_kept (tree.input s ∷ ss) given name columns e = columns_kept ss (after given (tree.input s)) name columns (tables_behind name given.tables ((s.name, input_columns s) ∷ []) columns e)
columns_kept (tree.create n q ∷ ss) given name columns e = columns_kept ss (after given (tree.create n q)) name columns (tables_behind name given.tables ((n, query_columns given.tables q) ∷ []) columns e)
columns_kept (tree.export s ∷ ss) given name columns e = columns_kept ss (after given (tree.export s)) name columns e

pub exports_typed : (p : Settings) (ss : List StatementTree) (given : Given) → AreTyped p given ss → AreExported (fold after given ss).tables given.exported (exports_in ss)
exports_typed p [] given h = tt
exports_typed p (tree.setting digits rounding ∷ ss) given h = exports_typed p ss given h.1
exports_typed p (tree.input s ∷ ss) given h = exports_typed p ss (after given (tree.input s)) h.1
exports_typed p (tree.create n q ∷ ss) given h = exports_typed p ss (after given (tree.create n q)) h.1
exports_typed p (tree.export s ∷ ss) given h = go (columns_of given.tables s.name) refl h.0.table h.0.order (exports_typed p ss (after given (tree.export s)) h.1)
  where
    final : Tables
    final = (fold after given (tree.export s ∷ ss)).tables

    go : (o : Option Columns) → columns_of given.tables s.name ≡ o → IsSome o → IsOrder o s.order → AreExported final (given.exported ++ s.name ∷ []) (exports_in ss) → AreExported final given.exported (s ∷ exports_in ss)
    go None e some order rest = cc
    go (Some columns) e some order rest =
        let here : columns_of final s.name ≡ Some columns = columns_kept (tree.export s ∷ ss) given s.name columns e in
        (ap is_some here, h.0.new, subst (λ o. IsOrder o s.order) (sym here) order, rest)

-- ---- meaning: exports are of the tables that there are in the end

module _ (p : Settings) (inputs : Inputs) where
  then_is : (r : Result Made NamedFault) (f : Made → Result Made NamedFault) (n : Made) (X : Type 0) → (r >>= f) ≡ Ok n → ((k : Made) → r ≡ Ok k → f k ≡ Ok n → X) → X
  then_is (Ok k) f n X e g = g k refl e
  then_is (Err d) f n X e g = cc

  made_of : (m : Made) (name : Text) (q : QueryTree) (v : Outcome (List Row)) (k : Made) → (or_named name v >>= (λ rows. Ok (and_table m name (created m.tables q rows)))) ≡ Ok k → (t : Table) × (k ≡ and_table m name t)
  made_of m name q (Ok rows) k e = (created m.tables q rows, cc)
  made_of m name q (Err f) k e = cc

  front_named : (name : Text) (tables : Data) (n : Text) (u t : Table) → lookup (same_text name) tables ≡ Some t → lookup (same_text name) (tables ++ (n, u) ∷ []) ≡ Some t
  front_named name tables n u t e = named_behind name tables ((n, u) ∷ []) ∙ ap (λ o. or_else o (lookup (same_text name) ((n, u) ∷ []))) e

  step_keeps : (m k : Made) (s : StatementTree) (name : Text) (t : Table) → statement_made p inputs m s ≡ Ok k → lookup (same_text name) m.tables ≡ Some t → lookup (same_text name) k.tables ≡ Some t
  step_keeps m k (tree.setting digits rounding) name t e h = let same : m ≡ k = cc in subst (λ (x : Made). lookup (same_text name) x.tables ≡ Some t) same h
  step_keeps m k (tree.input s) name t e h =
      let same : and_table m s.name (input_table inputs s) ≡ k = cc in
      subst (λ (x : Made). lookup (same_text name) x.tables ≡ Some t) same (front_named name m.tables s.name (input_table inputs s) t h)
  step_keeps m k (tree.create n q) name t e h =
      let it = made_of m n q (query_value (base_of p m.tables) q) k e in
      subst (λ (x : Made). lookup (same_text name) x.tables ≡ Some t) (sym it.1) (front_named name m.tables n it.0 t h)
  step_keeps m k (tree.export s) name t e h =
      let same : record { tables = m.tables; exports = m.exports ++ export_of s (table_named m.tables s.name) ∷ [] } ≡ k = cc in
      subst (λ (x : Made). lookup (same_text name) x.tables ≡ Some t) same h

  all_keep : (ss : List StatementTree) (m n : Made) (name : Text) (t : Table) → statements_made p inputs m ss ≡ Ok n → lookup (same_text name) m.tables ≡ Some t → lookup (same_text name) n.tables ≡ Some t
  all_keep [] m n name t e h = let same : m ≡ n = cc in subst (λ (x : Made). lookup (same_text name) x.tables ≡ Some t) same h
  all_keep (s ∷ ss) m n name t e h =
      then_is (statement_made p inputs m s) (λ k. statements_made p inputs k ss) n (lookup (same_text name) n.tables ≡ Some t) e (λ k made rest. all_keep ss k n name t rest (step_keeps m k s name t made h))

  abbrev exported_in : Made → List StatementTree → List Export
  exported_in n ss = map (λ s. export_of s (table_named n.tables s.name)) (exports_in ss)

  -- what typing knows of the tables so far, behind a statement
  known_behind : (given : Given) (m k : Made) (s : StatementTree) → given.tables ≡ tables_in m.tables → statement_made p inputs m s ≡ Ok k → (after given s).tables ≡ tables_in k.tables
  known_behind given m k (tree.setting digits rounding) h e = let same : m ≡ k = cc in h ∙ ap (λ (x : Made). tables_in x.tables) same
  known_behind given m k (tree.input s) h e =
      let same : and_table m s.name (input_table inputs s) ≡ k = cc in
      (λ i. h i ++ (s.name, input_columns s) ∷ []) ∙ sym (map-append (λ (x : Text × Table). (x.0, x.1.columns)) m.tables ((s.name, input_table inputs s) ∷ [])) ∙ ap (λ (x : Made). tables_in x.tables) same
  known_behind given m k (tree.create n q) h e = go (query_value (base_of p m.tables) q) e
    where
      go : (v : Outcome (List Row)) → (or_named n v >>= (λ rows. Ok (and_table m n (created m.tables q rows)))) ≡ Ok k → given.tables ++ (n, query_columns given.tables q) ∷ [] ≡ tables_in k.tables
      go (Ok rows) e =
          let same : and_table m n (created m.tables q rows) ≡ k = cc in
          (λ i. h i ++ (n, query_columns (h i) q) ∷ []) ∙ sym (map-append (λ (x : Text × Table). (x.0, x.1.columns)) m.tables ((n, created m.tables q rows) ∷ [])) ∙ ap (λ (x : Made). tables_in x.tables) same
      go (Err f) e = cc
  known_behind given m k (tree.export s) h e =
      let same : record { tables = m.tables; exports = m.exports ++ export_of s (table_named m.tables s.name) ∷ [] } ≡ k = cc in
      h ∙ ap (λ (x : Made). tables_in x.tables) same

  -- a statement that is no EXPORT exports nothing
  exports_stay : (m k : Made) (s : StatementTree) → exports_in (s ∷ []) ≡ [] → statement_made p inputs m s ≡ Ok k → m.exports ≡ k.exports
  exports_stay m k (tree.setting digits rounding) none e = let same : m ≡ k = cc in ap (λ (x : Made). x.exports) same
  exports_stay m k (tree.input s) none e = let same : and_table m s.name (input_table inputs s) ≡ k = cc in ap (λ (x : Made). x.exports) same
  exports_stay m k (tree.create n q) none e = let it = made_of m n q (query_value (base_of p m.tables) q) k e in ap (λ (x : Made). x.exports) (sym it.1)
  exports_stay m k (tree.export s) none e = cc

  pub exports_are : (ss : List StatementTree) (given : Given) (m n : Made) → AreTyped p given ss → given.tables ≡ tables_in m.tables → statements_made p inputs m ss ≡ Ok n → n.exports ≡ m.exports ++ exported_in n ss
  exports_are [] given m n h known e = let same : m ≡ n = cc in ap (λ (x : Made). x.exports) (sym same) ∙ sym (append-nil m.exports)
  exports_are (tree.setting digits rounding ∷ ss) given m n h known e = exports_are ss given m n h.1 known e
  exports_are (tree.input s ∷ ss) given m n h known e =
      let k = and_table m s.name (input_table inputs s) in
      exports_are ss (after given (tree.input s)) k n h.1 (known_behind given m k (tree.input s) known refl) e
  exports_are (tree.create x q ∷ ss) given m n h known e =
      then_is (statement_made p inputs m (tree.create x q)) (λ k. statements_made p inputs k ss) n (n.exports ≡ m.exports ++ exported_in n ss) e
      (λ k made rest. exports_are ss (after given (tree.create x q)) k n h.1 (known_behind given m k (tree.create x q) known made) rest ∙ ap (λ l. l ++ exported_in n ss) (sym (exports_stay m k (tree.create x q) refl made)))
  exports_are (tree.export s ∷ ss) given m n h known e =
      let k : Made = record { tables = m.tables; exports = m.exports ++ export_of s (table_named m.tables s.name) ∷ [] } in
      exports_are ss (after given (tree.export s)) k n h.1 known e
      ∙ append_assoc m.exports (export_of s (table_named m.tables s.name) ∷ []) (exported_in n ss)
      ∙ ap (λ t. m.exports ++ (export_of s t ∷ exported_in n ss)) (same_named (lookup (same_text s.name) m.tables) refl h.0.table)
    where
      same_named : (o : Option Table) → lookup (same_text s.name) m.tables ≡ o → IsSome (columns_of given.tables s.name) → table_named m.tables s.name ≡ table_named n.tables s.name
      same_named None q some =
          let none : columns_of given.tables s.name ≡ None = ap (λ l. columns_of l s.name) known ∙ columns_named s.name m.tables ∙ ap (option_map (λ t. t.columns)) q in cc
      same_named (Some t) q some = ap (λ o. unwrap_or o no_table) (q ∙ sym (all_keep ss (record { tables = m.tables; exports = m.exports ++ export_of s (table_named m.tables s.name) ∷ [] }) n s.name t e q))

-- ---- the program's tables show them

entries_back : (columns : List Column) → map entry_column (map column_entry columns) ≡ columns
entries_back [] = refl
entries_back (x ∷ columns) = ap (λ l. x ∷ l) (entries_back columns)

-- the table of one export, with its rows in any order
abbrev ShowsOne : Export → Text × Listed → Type 0
ShowsOne e t = (t.0 ≡ e.name) × (t.1.columns ≡ map entry_column e.columns) × Perm t.1.rows e.rows

module _ (tables : Data) (held : NamedTables) (same : tables_in tables ≡ tables_held held) where
  one_shown : (s : SqlExport) → IsSome (columns_of (tables_held held) s.name) → Perm (table_named tables s.name).rows (rows_of (table_of s.name held)) → exported_of by.Sorted held s ≡ shown (export_of s (table_named tables s.name))
  one_shown s some q = go (lookup (same_text s.name) tables) (table_of s.name held) (both_there tables held same s.name) (subst IsSome (columns_looked s.name held) some) q
    where
      go : (a : Option Table) (b : Option Listed) → option_map (λ t. t.columns) a ≡ option_map columns_in b → IsSome (option_map columns_in b) → Perm (unwrap_or a no_table).rows (rows_of b)
          → ◌≡◌ {A = Text × Listed} (s.name, ordered_by s.order (unwrap_or b no_listed)) (shown (export_of s (unwrap_or a no_table)))
      go (Some t) (Some u) e some q =
          let columns : t.columns ≡ columns_in u = cc in
          let keys = map (sort_key (columns_in u)) s.order in
          let back : u.columns ≡ map entry_column t.columns = sym (entries_back u.columns) ∙ ap (map entry_column) (sym columns) in
          let rows : in_order keys [] u.rows ≡ in_order (map (sort_key t.columns) s.order) [] t.rows =
          sym (sorted_by-Perm (window_order keys []) q) ∙ ap (λ (l : Columns). in_order (map (sort_key l) s.order) [] t.rows) (sym columns) in
          λ i. (s.name, record { columns = back i; rows = rows i })
      go (Some t) None e some q = cc
      go None (Some u) e some q = cc
      go None None e some q = cc

  pub all_shown : (ss : List SqlExport) (exported : List Text) → AreExported (tables_held held) exported ss → AllByRecursion (λ s. Perm (table_named tables s.name).rows (rows_of (table_of s.name held))) ss
      → map (exported_of by.Sorted held) ss ≡ map shown (map (λ s. export_of s (table_named tables s.name)) ss)
  all_shown [] exported h q = refl
  all_shown (s ∷ ss) exported h q = λ i. one_shown s h.0 q.0 i ∷ all_shown ss (exported ++ s.name ∷ []) h.3 q.1 i

  -- with rows as they were made

  one_as_made : (s : SqlExport) → IsSome (columns_of (tables_held held) s.name) → Perm (table_named tables s.name).rows (rows_of (table_of s.name held)) → ShowsOne (export_of s (table_named tables s.name)) (exported_of by.AsMade held s)
  one_as_made s some q = go (lookup (same_text s.name) tables) (table_of s.name held) (both_there tables held same s.name) (subst IsSome (columns_looked s.name held) some) q
    where
      go : (a : Option Table) (b : Option Listed) → option_map (λ t. t.columns) a ≡ option_map columns_in b → IsSome (option_map columns_in b) → Perm (unwrap_or a no_table).rows (rows_of b) → ShowsOne (export_of s (unwrap_or a no_table)) (s.name, unwrap_or b no_listed)
      go (Some t) (Some u) e some q =
          let columns : t.columns ≡ columns_in u = cc in
          let back : u.columns ≡ map entry_column t.columns = sym (entries_back u.columns) ∙ ap (map entry_column) (sym columns) in
          (refl, back, Perm-sym (chain (Perm-sorted_by (window_order (map (sort_key t.columns) s.order) []) t.rows) q))
      go (Some t) None e some q = cc
      go None (Some u) e some q = cc
      go None None e some q = cc

  pub all_as_made : (ss : List SqlExport) (exported : List Text) → AreExported (tables_held held) exported ss → AllByRecursion (λ s. Perm (table_named tables s.name).rows (rows_of (table_of s.name held))) ss
      → ShowsAs (map (λ s. export_of s (table_named tables s.name)) ss) (map (exported_of by.AsMade held) ss)
  all_as_made [] exported h q = tt
  all_as_made (s ∷ ss) exported h q = let one = one_as_made s h.0 q.0 in (one.0, one.1, one.2, all_as_made ss (exported ++ s.name ∷ []) h.3 q.1)

-- ---- a script

abbrev pub exports_of : Settings → NamedTables → List StatementTree → Result (List Export) NamedFault
exports_of p inputs ss = statements_made p (rows_given inputs) nothing_made ss >>= (λ m. Ok m.exports)

module _ (p : Settings) (inputs : NamedTables) (ss : List StatementTree) (typed : AreTyped p nothing ss) where
  pub are_exported : (held : NamedTables) → HaveMade p inputs ss held → AreExported (tables_held held) [] (exports_in ss)
  are_exported held h = subst (λ (l : Tables). AreExported l [] (exports_in ss)) h.given (exports_typed p ss nothing typed)

  pub exports_shown : (how : RowOrder) (held : NamedTables) → HaveMade p inputs ss held → Shows how (exports_of p inputs ss) (map (exported_of how held) (exports_in ss))
  exports_shown by.Sorted held h =
      subst (λ (r : Result Made NamedFault). ShowsExports (r >>= (λ m. Ok m.exports)) (map (exported_of by.Sorted held) (exports_in ss))) (sym h.made_is)
      (all_shown h.made.tables held h.same (exports_in ss) [] (are_exported held h) h.rows ∙ ap (map shown) (sym (exports_are p (rows_given inputs) ss nothing nothing_made h.made typed refl h.made_is)))
  exports_shown by.AsMade held h =
      subst (λ (r : Result Made NamedFault). ShowsMeaning (r >>= (λ m. Ok m.exports)) (map (exported_of by.AsMade held) (exports_in ss))) (sym h.made_is)
      (subst (λ (es : List Export). ShowsAs es (map (exported_of by.AsMade held) (exports_in ss))) (sym (exports_are p (rows_given inputs) ss nothing nothing_made h.made typed refl h.made_is))
      (all_as_made h.made.tables held h.same (exports_in ss) [] (are_exported held h) h.rows))

  pub fault_told : (e : RunErr) → FaultIs (statements_made p (rows_given inputs) nothing_made ss) e → FaultIs (exports_of p inputs ss) e
  fault_told (run.DivZero name) h = ap (λ (r : Result Made NamedFault). r >>= (λ m. Ok m.exports)) h
  fault_told (run.Range name) h = ap (λ (r : Result Made NamedFault). r >>= (λ m. Ok m.exports)) h
  fault_told run.OutOfMemory h = tt
