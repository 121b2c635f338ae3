-- What typed statements make fits: tables are those of typing, and rows of tables and exports fit their columns.
use Rattle.std.proofs.Common.{◌≡◌, List, [], ◌∷◌, ◌++◌, map, Bool, true, false, cond, Result, Some, Ok, Err, refl, sym, ap, ◌∙◌, subst}
use Rattle.std.specs.Prelude.{IfOk, fold, unwrap_or}
use Rattle.std.specs.List.{AllByRecursion}
use Rattle.std.specs.Map.{lookup}
use Rattle.std.proofs.lemmas.List.{map-append}
use Rattle.vtl_lists.proofs.Perms.{AllByRecursion-Perm, Perm-sym}
use Rattle.vtl_lists.proofs.Sorts.{Perm-sorted_by}
use Rattle.vtl_cell.specs.Outcome.{Outcome}
use Rattle.vtl_lists.specs.Results.{◌>>=◌}
use Rattle.vtl_cell.specs.Row.{Row}
use Rattle.vtl_decimal.specs.Settings.{Settings}
use Rattle.vtl_decimal.specs.declared.settings.Rounding.{Rounding}
use Rattle.vtl_text.specs.Texts.{same_text}
use Rattle.vtl_cell.proofs.Keys.{window_order}
use Rattle.vtl_rows.specs.Tables.{fits_kinds}
use Rattle.sql_tree.specs.Trees as tree
use Rattle.sql_tree.specs.Trees.{QueryTree, StatementTree, Text}
use Rattle.sql_tree.specs.declared.statements.SqlExport.{SqlExport}
use Rattle.sql_check_parts.specs.Queries.{query_columns}
use Rattle.sql_check_parts.specs.Scopes.{Columns, Tables, columns_of}
use Rattle.sql_check_parts.specs.Statements.{Given, IsTypedScript, after, input_columns, nothing, settings_of}
use Rattle.sql_check_laws.specs.Selects.{IsQueryTyped}
use Rattle.sql_check_laws.specs.Statements.{AreTyped, IsStatementTyped}
use Rattle.sql_meaning.specs.Fitting.{HasInput, HeldFit, InputsFit, IsExportFit, IsFit}
use Rattle.sql_meaning.specs.Scripts.{Data, Export, Inputs, Made, NamedFault, Table, and_table, base_of, created, export_of, input_table, no_table, nothing_made, or_named, script_value, sort_key, statement_made, statements_made, table_named, tables_in}
use Rattle.sql_meaning.specs.Selects.{query_value}
use Rattle.sql_meaning.specs.Tables.{RowsFit, TablesFit, kinds_of}
use Rattle.sql_check_laws.proofs.TypedStatements.{script_typed}
use Rattle.sql_meaning.proofs.QueryKinds.{query_fit}

-- ---- tables

table_fits : (held : Data) → HeldFit held → (name : Text) → RowsFit (kinds_of (table_named held name).columns) (table_named held name).rows
table_fits [] fit name = tt
table_fits (t ∷ held) fit name = go (same_text name t.0) (table_fits held fit.1 name)
  where
    fits : Table → Type 0
    fits u = RowsFit (kinds_of u.columns) u.rows

    go : (b : Bool) → RowsFit (kinds_of (table_named held name).columns) (table_named held name).rows → (let u = unwrap_or (cond b (Some t.1) (lookup (same_text name) held)) no_table in RowsFit (kinds_of u.columns) u.rows)
    go true ih = fit.0
    go false ih = ih

named_fits : (held : Data) → HeldFit held → (name : Text) (columns : Columns) → columns_of (tables_in held) name ≡ Some columns → RowsFit (kinds_of columns) (table_named held name).rows
named_fits [] fit name columns e = cc
named_fits (t ∷ held) fit name columns e = go (same_text name t.0) (named_fits held fit.1 name columns) e
  where
    go : (b : Bool) → (columns_of (tables_in held) name ≡ Some columns → RowsFit (kinds_of columns) (table_named held name).rows)
        → cond b (Some t.1.columns) (columns_of (tables_in held) name) ≡ Some columns → RowsFit (kinds_of columns) (unwrap_or (cond b (Some t.1) (lookup (same_text name) held)) no_table).rows
    go true ih h = subst (λ cs. RowsFit (kinds_of cs) t.1.rows) (same h) fit.0
      where
        same : Some t.1.columns ≡ Some columns → t.1.columns ≡ columns
        same q = cc
    go false ih h = ih h

pub base_fits : (p : Settings) (held : Data) → HeldFit held → TablesFit (base_of p held)
base_fits p held fit name columns e = named_fits held fit name columns e

one_more : (held : Data) (name : Text) (t : Table) → HeldFit held → RowsFit (kinds_of t.columns) t.rows → HeldFit (held ++ (name, t) ∷ [])
one_more [] name t fit h = (h, tt)
one_more (u ∷ held) name t fit h = (fit.0, one_more held name t fit.1 h)

-- sorted rows fit as they did
export_fits : (s : SqlExport) (t : Table) → RowsFit (kinds_of t.columns) t.rows → IsExportFit (export_of s t)
export_fits s t fit = AllByRecursion-Perm (λ r. fits_kinds (kinds_of t.columns) r ≡ true) (Perm-sym (Perm-sorted_by (window_order (map (sort_key t.columns) s.order) []) t.rows)) fit

and_export_fits : (es : List Export) (e : Export) → AllByRecursion IsExportFit es → IsExportFit e → AllByRecursion IsExportFit (es ++ e ∷ [])
and_export_fits [] e all h = (h, tt)
and_export_fits (x ∷ es) e all h = (all.0, and_export_fits es e all.1 h)

-- one more table of these columns
with_one : (tables : Tables) (m : Made) (name : Text) (t : Table) (columns : Columns) → IsFit tables m → t.columns ≡ columns → RowsFit (kinds_of t.columns) t.rows → IsFit (tables ++ (name, columns) ∷ []) (and_table m name t)
with_one tables m name t columns fit e h =
    record {
      named = map-append (λ u. (u.0, u.1.columns)) m.tables ((name, t) ∷ []) ∙ (λ i. fit.named i ++ (name, e i) ∷ []);
      held = one_more m.tables name t fit.held h;
      exports = fit.exports;
    }

-- ---- statements

then_fits : (r : Result Made NamedFault) (f : Made → Result Made NamedFault) (P Q : Made → Type 0) → IfOk r P → ((m : Made) → P m → IfOk (f m) Q) → IfOk (r >>= f) Q
then_fits (Ok m) f P Q h g = g m h
then_fits (Err e) f P Q h g = tt

module _ (p : Settings) (inputs : Inputs) where
  created_fits : (tables : Tables) (m : Made) (name : Text) (q : QueryTree) → IsFit tables m → IsQueryTyped p tables q → (r : Outcome (List Row)) → query_value (base_of p m.tables) q ≡ r
      → IfOk (or_named name r >>= (λ rows. Ok (and_table m name (created m.tables q rows)))) (IsFit (tables ++ (name, query_columns tables q) ∷ []))
  created_fits tables m name q fit h (Err f) e = tt
  created_fits tables m name q fit h (Ok rows) e =
      with_one tables m name (created m.tables q rows) (query_columns tables q) fit (ap (λ ts. query_columns ts q) fit.named)
      (query_fit (base_of p m.tables) (base_fits p m.tables fit.held) q rows (subst (λ ts. IsQueryTyped p ts q) (λ i. back i) h) e)
    where
      back : tables ≡ tables_in m.tables
      back = sym fit.named

  pub statement_fits : (given : Given) (m : Made) (s : StatementTree) → IsStatementTyped p given s → HasInput inputs s → IsFit given.tables m → IfOk (statement_made p inputs m s) (IsFit (after given s).tables)
  statement_fits given m (tree.setting digits rounding) h has fit = fit
  statement_fits given m (tree.input s) h has fit = with_one given.tables m s.name (input_table inputs s) (input_columns s) fit refl has
  statement_fits given m (tree.create name q) h has fit = created_fits given.tables m name q fit h.1.0 (query_value (base_of p m.tables) q) refl
  statement_fits given m (tree.export s) h has fit =
      record {
        named = fit.named;
        held = fit.held;
        exports = and_export_fits m.exports (export_of s (table_named m.tables s.name)) fit.exports (export_fits s (table_named m.tables s.name) (table_fits m.tables fit.held s.name));
      }

  pub statements_fit : (ss : List StatementTree) (given : Given) (m : Made) → AreTyped p given ss → InputsFit inputs ss → IsFit given.tables m → IfOk (statements_made p inputs m ss) (IsFit (fold after given ss).tables)
  statements_fit [] given m typed has fit = fit
  statements_fit (s ∷ ss) given m typed has fit =
      then_fits (statement_made p inputs m s) (λ n. statements_made p inputs n ss) (IsFit (after given s).tables) (IsFit (fold after (after given s) ss).tables) (statement_fits given m s typed.0 has.0 fit)
      (λ n h. statements_fit ss (after given s) n typed.1 has.1 h)

-- ---- exports

exports_fit : (tables : Tables) (r : Result Made NamedFault) → IfOk r (IsFit tables) → IfOk {T = List Export} (r >>= (λ m. Ok m.exports)) (AllByRecursion IsExportFit)
exports_fit tables (Ok m) h = h.exports
exports_fit tables (Err f) h = tt

pub script_fits : (digits : Text) (rounding : Rounding) (ss : List StatementTree) (inputs : Inputs) → IsTypedScript (tree.setting digits rounding ∷ ss) → InputsFit inputs ss → IfOk (script_value (tree.setting digits rounding ∷ ss) inputs) (AllByRecursion IsExportFit)
script_fits digits rounding ss inputs typed has =
    let p = settings_of digits rounding in
    exports_fit (fold after nothing ss).tables (statements_made p inputs nothing_made ss)
    (statements_fit p inputs ss nothing nothing_made ((script_typed digits rounding ss).to typed).1 has (record { named = refl; held = tt; exports = tt }))
