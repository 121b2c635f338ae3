-- The tables that a script of VTL reads are tables for the INPUTs of its text, and its data sets are those of their rows.
use Rattle.std.proofs.Common.{◌≡◌, ℕ, Bool, true, false, cond, List, [], ◌∷◌, map, Option, Some, None, refl, sym, ap, ◌∙◌, subst}
use Rattle.std.specs.Prelude.{unwrap_or}
use Rattle.std.specs.List.{AllByRecursion}
use Rattle.std.specs.Map.{lookup}
use Rattle.std.specs.Option.{option_map_or}
use Rattle.vtl_cell.specs.Row.{Row}
use Rattle.vtl_decimal.specs.Settings.{Settings}
use Rattle.vtl_text.specs.Texts.{same_text}
use Rattle.vtl_cell.specs.declared.kind.Kind.{Kind}
use Rattle.vtl_lists.proofs.Perms.{Perm-same}
use Rattle.vtl_rows.specs.Named.{NamedTables, table_of}
use Rattle.vtl_rows.specs.Tables.{Listed, column_kinds}
use Rattle.vtl_tree.specs.DataSet.{AreOfProfile, IsDataSet, is_point}
use Rattle.vtl_tree.specs.Structure.{columns_of}
use Rattle.vtl_tree.specs.NotNull.{NotNull}
use Rattle.vtl_tree.specs.Structures.{Named}
use Rattle.vtl_tree.specs.declared.structure.Component.{Component}
use Rattle.vtl_tree.specs.declared.structure.Structure.{Structure}
use Rattle.sql_tree.specs.Trees as tree
use Rattle.sql_tree.specs.Trees.{StatementTree, Text}
use Rattle.sql_tree.specs.declared.statements.SqlInput.{SqlInput}
use Rattle.sql_engine.specs.InputTables.{AreInputsInRange, HaveInputTables, IsInputTable, rows_given}
use Rattle.sql_meaning.specs.Scripts.{rows_read}
use Rattle.sql_meaning.specs.Tables.{HasTable, RowsFit, column_entry, kinds_of, rows_of}
use Rattle.sql_check_parts.specs.Statements.{input_columns}
use Rattle.vtl_backend.specs.Inputs.{Holds, input_of as data_set_in, rows_named}
use Rattle.vtl_scripts.specs.Meaning.{AreDataSets}
use Rattle.vtl_tree.specs.Environment.{known_in}
use Rattle.vtl_meaning.specs.Profiles.{AllAreOfProfile}
use Rattle.vtl_sets.specs.TableOf.{column_for}
use Rattle.vtl_sets.proofs.TableLemmas.{point_fits}
use Rattle.vtl_to_sql.specs.Exports.{AreRead}
use Rattle.selects_to_sql.specs.Runs.{entries}
use Rattle.vtl_to_sql.specs.Scripts.{input_of}
use Rattle.vtl_to_sql.proofs.ReadTables.{columns_read}
use Rattle.sql_back.specs.Texts.{inputs_in}

-- ---- what is asked for each statement is asked for each INPUT

tables_there : (tables : NamedTables) (ss : List StatementTree) → AllByRecursion (IsInputTable tables) (inputs_in ss) → HaveInputTables tables ss
tables_there tables [] h = tt
tables_there tables (tree.setting digits rounding ∷ ss) h = (tt, tables_there tables ss h)
tables_there tables (tree.input s ∷ ss) h = (h.0, tables_there tables ss h.1)
tables_there tables (tree.create name q ∷ ss) h = (tt, tables_there tables ss h)
tables_there tables (tree.export s ∷ ss) h = (tt, tables_there tables ss h)

abbrev IsRanged : Settings → NamedTables → SqlInput → Type 0
IsRanged p tables s = AreOfProfile p (rows_of (table_of s.name tables))

tables_ranged : (p : Settings) (tables : NamedTables) (ss : List StatementTree) → AllByRecursion (IsRanged p tables) (inputs_in ss) → AreInputsInRange p tables ss
tables_ranged p tables [] h = tt
tables_ranged p tables (tree.setting digits rounding ∷ ss) h = (tt, tables_ranged p tables ss h)
tables_ranged p tables (tree.input s ∷ ss) h = (h.0, tables_ranged p tables ss h.1)
tables_ranged p tables (tree.create name q ∷ ss) h = (tt, tables_ranged p tables ss h)
tables_ranged p tables (tree.export s ∷ ss) h = (tt, tables_ranged p tables ss h)

-- ---- the table of a data set

entries_are : (xs : List Component) → map column_entry (map column_for xs) ≡ entries xs
entries_are [] = refl
entries_are (x ∷ xs) = ap (λ l. (x.name, x.kind) ∷ l) (entries_are xs)

kinds_are : (xs : List Component) → column_kinds (map column_for xs) ≡ kinds_of (entries xs)
kinds_are [] = refl
kinds_are (x ∷ xs) = ap (λ (l : List Kind). x.kind ∷ l) (kinds_are xs)

points_fit : (xs : List Component) (rows : List Row) → AllByRecursion (λ r. is_point xs r ≡ true) rows → RowsFit (column_kinds (map column_for xs)) rows
points_fit xs [] h = tt
points_fit xs (r ∷ rs) h = (point_fits xs r h.0, points_fit xs rs h.1)

is_input_table : (ls : NotNull) (tables : NamedTables) (e : List ℕ × Structure) (o : Option Listed) → table_of e.0 tables ≡ o → Holds e.1 o → IsInputTable tables (input_of ls e)
is_input_table ls tables e None there h = absurd h
is_input_table ls tables e (Some t) there h =
    let columns : entries (columns_of e.1) ≡ input_columns (input_of ls e) = sym (columns_read ls e h.points.well_formed) in
    record {
      columns = subst (HasTable (input_columns (input_of ls e))) (sym there) (ap (map column_entry) h.columns ∙ entries_are (columns_of e.1) ∙ columns);
      fit = subst (λ (u : Option Listed). RowsFit (kinds_of (input_columns (input_of ls e))) (rows_of u)) (sym there) (subst (λ ks. RowsFit ks t.rows) (kinds_are (columns_of e.1) ∙ ap kinds_of columns) (points_fit (columns_of e.1) t.rows h.points.typed));
    }

pub same_rows : (o : Option Listed) → option_map_or (λ t. t.rows) o [] ≡ rows_of o
same_rows None = refl
same_rows (Some t) = refl

module _ (tables : NamedTables) where
  abbrev AreHeld : Named → Type 0
  AreHeld reads = AllByRecursion (λ e. Holds e.1 (table_of e.0 tables)) reads

  are_input_tables : (ls : NotNull) (reads : Named) → AreHeld reads → AllByRecursion (IsInputTable tables) (map (input_of ls) reads)
  are_input_tables ls [] h = tt
  are_input_tables ls (e ∷ es) h = (is_input_table ls tables e (table_of e.0 tables) refl h.0, are_input_tables ls es h.1)

  are_ranged : (ls : NotNull) (p : Settings) (reads : Named) → AllAreOfProfile p (map (data_set_in tables) reads) → AllByRecursion (IsRanged p tables) (map (input_of ls) reads)
  are_ranged ls p [] h = tt
  are_ranged ls p (e ∷ es) h = (subst (AreOfProfile p) (same_rows (table_of e.0 tables)) h.0, are_ranged ls p es h.1)

  pub inputs_there : (ls : NotNull) (reads : Named) (ss : List StatementTree) → inputs_in ss ≡ map (input_of ls) reads → AreHeld reads → HaveInputTables tables ss
  inputs_there ls reads ss same h = tables_there tables ss (subst (AllByRecursion (IsInputTable tables)) (sym same) (are_input_tables ls reads h))

  pub inputs_ranged : (ls : NotNull) (p q : Settings) (reads : Named) (ss : List StatementTree) → q ≡ p → inputs_in ss ≡ map (input_of ls) reads → AllAreOfProfile p (map (data_set_in tables) reads) → AreInputsInRange q tables ss
  inputs_ranged ls p q reads ss e same h = subst (λ s. AreInputsInRange s tables ss) (sym e) (tables_ranged p tables ss (subst (AllByRecursion (IsRanged p tables)) (sym same) (are_ranged ls p reads h)))

  -- ---- the data sets of the rows

  pub sets_known : (reads : Named) → known_in (map (data_set_in tables) reads) ≡ reads
  sets_known [] = refl
  sets_known (e ∷ es) = ap (λ l. e ∷ l) (sets_known es)

  is_set : (s : Structure) (o : Option Listed) → Holds s o → IsDataSet s (option_map_or (λ t. t.rows) o [])
  is_set s None h = absurd h
  is_set s (Some t) h = h.points

  pub are_sets : (reads : Named) → AreHeld reads → AreDataSets (map (data_set_in tables) reads)
  are_sets [] h = tt
  are_sets (e ∷ es) h = (is_set e.1 (table_of e.0 tables) h.0, are_sets es h.1)

rows_are : (name : Text) (tables : NamedTables) → rows_read (rows_given tables) name ≡ rows_named name tables
rows_are name [] = refl
rows_are name (t ∷ ts) = go (same_text name t.0) (rows_are name ts)
  where
    go : (b : Bool) → unwrap_or (lookup (same_text name) (rows_given ts)) [] ≡ option_map_or (λ (u : Listed). u.rows) (table_of name ts) []
        → unwrap_or (cond b (Some t.1.rows) (lookup (same_text name) (rows_given ts))) [] ≡ option_map_or (λ (u : Listed). u.rows) (cond b (Some t.1) (table_of name ts)) []
    go true ih = refl
    go false ih = ih

pub are_read : (tables : NamedTables) (reads : Named) → AreRead (rows_given tables) (map (data_set_in tables) reads)
are_read tables [] = tt
are_read tables (e ∷ es) = (Perm-same (rows_read (rows_given tables) e.0) (rows_named e.0 tables) (rows_are e.0 tables), are_read tables es)
