-- What a script gives does not see the order of its inputs' rows.
use Rattle.std.proofs.Common.{◌≡◌, List, [], ◌∷◌, ◌++◌, map, Bool, true, false, cond, Result, Some, Ok, Err, refl, ap, ◌∙◌, subst}
use Rattle.std.specs.Map.{lookup}
use Rattle.std.specs.Prelude.{unwrap_or}
use Rattle.vtl_lists.specs.Perm.{Perm}
use Rattle.vtl_lists.proofs.Perms.{Perm-refl}
use Rattle.vtl_lists.proofs.Sorts.{sorted_by-Perm}
use Rattle.vtl_decimal.specs.declared.number.Fault.{Fault}
use Rattle.vtl_cell.specs.Outcome.{Outcome}
use Rattle.vtl_cell.specs.Outcomes.{Same}
use Rattle.vtl_lists.specs.Results.{◌>>=◌}
use Rattle.vtl_cell.specs.Row.{Row}
use Rattle.vtl_decimal.specs.Settings.{Settings}
use Rattle.vtl_text.specs.Texts.{same_text}
use Rattle.vtl_cell.proofs.Keys.{window_order}
use Rattle.sql_tree.specs.Trees as tree
use Rattle.sql_tree.specs.Trees.{QueryTree, ScriptTree, StatementTree, Text}
use Rattle.sql_tree.specs.declared.statements.SqlExport.{SqlExport}
use Rattle.sql_check_parts.specs.Queries.{query_columns}
use Rattle.sql_check_parts.specs.Scopes.{Columns, Tables}
use Rattle.sql_check_parts.specs.Statements.{script_settings}
use Rattle.sql_meaning.specs.Orders.{SameInputs}
use Rattle.sql_meaning.specs.Scripts.{Data, Export, Inputs, Made, NamedFault, Table, and_table, base_of, created, export_of, fault_name, input_table, no_table, nothing_made, or_named, rows_read, script_made, script_value, sort_key, statement_made, statements_made, table_named, tables_in}
use Rattle.sql_meaning.specs.Selects.{query_value}
use Rattle.sql_meaning.proofs.Orders.{query_same}

record SameTable (t u : Table) : Type 0 where
  columns : t.columns ≡ u.columns
  rows : Perm t.rows u.rows

-- the same names and columns in the same order, the rows of each table in any order
abbrev SameData : Data → Data → Type 0
SameData [] [] = Unit {0}
SameData [] (e ∷ es) = ⊥
SameData (d ∷ ds) [] = ⊥
SameData (d ∷ ds) (e ∷ es) = (d.0 ≡ e.0) × SameTable d.1 e.1 × SameData ds es

record SameMade (m n : Made) : Type 0 where
  tables : SameData m.tables n.tables
  exports : m.exports ≡ n.exports

-- the same is made, or the same fault is told
abbrev SameResult : Result Made NamedFault → Result Made NamedFault → Type 0
SameResult (Ok m) (Ok n) = SameMade m n
SameResult (Err f) (Err g) = f ≡ g
SameResult (Ok m) (Err g) = ⊥
SameResult (Err f) (Ok n) = ⊥

-- ---- tables

tables_same : (d e : Data) → SameData d e → tables_in d ≡ tables_in e
tables_same [] [] s = refl
tables_same [] (y ∷ e) s = absurd s
tables_same (x ∷ d) [] s = absurd s
tables_same (x ∷ d) (y ∷ e) s = λ i. (s.0 i, s.1.columns i) ∷ tables_same d e s.2 i

table_same : (name : Text) (d e : Data) → SameData d e → SameTable (table_named d name) (table_named e name)
table_same name [] [] s = record { columns = refl; rows = Perm-refl [] }
table_same name [] (y ∷ e) s = absurd s
table_same name (x ∷ d) [] s = absurd s
table_same name (x ∷ d) (y ∷ e) s =
    subst (λ n. SameTable (table_named (x ∷ d) name) (unwrap_or (cond (same_text name n) (Some y.1) (lookup (same_text name) e)) no_table)) s.0 (go (same_text name x.0) (table_same name d e s.2))
  where
    go : (t : Bool) → SameTable (unwrap_or (lookup (same_text name) d) no_table) (unwrap_or (lookup (same_text name) e) no_table) → SameTable (unwrap_or (cond t (Some x.1) (lookup (same_text name) d)) no_table) (unwrap_or (cond t (Some y.1) (lookup (same_text name) e)) no_table)
    go true ih = s.1
    go false ih = ih

data_append : (name : Text) (t u : Table) (d e : Data) → SameTable t u → SameData d e → SameData (d ++ (name, t) ∷ []) (e ++ (name, u) ∷ [])
data_append name t u [] [] q s = (refl, q, tt)
data_append name t u [] (y ∷ e) q s = absurd s
data_append name t u (x ∷ d) [] q s = absurd s
data_append name t u (x ∷ d) (y ∷ e) q s = (s.0, s.1, data_append name t u d e q s.2)

query_of_same : (p : Settings) (d e : Data) (q : QueryTree) → SameData d e → Same (query_value (base_of p d) q) (query_value (base_of p e) q)
query_of_same p d e q s =
    let rows : Text → List Row = λ name. (table_named e name).rows in
    subst (λ (t : Tables). Same (query_value (base_of p d) q) (query_value (record { settings = p; tables = t; rows = rows }) q)) (tables_same d e s)
    (query_same (base_of p d) rows (λ name. (table_same name d e s).rows) q)

inputs_same : (name : Text) (x y : Inputs) → SameInputs x y → Perm (rows_read x name) (rows_read y name)
inputs_same name [] [] s = Perm-refl []
inputs_same name [] (b ∷ y) s = absurd s
inputs_same name (a ∷ x) [] s = absurd s
inputs_same name (a ∷ x) (b ∷ y) s =
    subst (λ n. Perm (rows_read (a ∷ x) name) (unwrap_or (cond (same_text name n) (Some b.1) (lookup (same_text name) y)) [])) s.0 (go (same_text name a.0) (inputs_same name x y s.2))
  where
    go : (t : Bool) → Perm (rows_read x name) (rows_read y name) → Perm (unwrap_or (cond t (Some a.1) (lookup (same_text name) x)) []) (unwrap_or (cond t (Some b.1) (lookup (same_text name) y)) [])
    go true ih = s.1
    go false ih = ih

-- a sorted list does not see the order that it came in
export_same : (s : SqlExport) (t u : Table) → SameTable t u → export_of s t ≡ export_of s u
export_same s t u q =
    ap (λ (rows : List Row). record { name = s.name; columns = t.columns; rows = rows }) (sorted_by-Perm (window_order (map (sort_key t.columns) s.order) []) q.rows)
    ∙ ap (λ (columns : Columns). export_of s (record { columns = columns; rows = u.rows })) q.columns

-- ---- statements

module _ (p : Settings) (x y : Inputs) (h : SameInputs x y) where
  created_same : (name : Text) (q : QueryTree) (m n : Made) → SameMade m n → (a b : Outcome (List Row)) → Same a b → SameResult (or_named name a >>= (λ rows. Ok (and_table m name (created m.tables q rows)))) (or_named name b >>= (λ rows. Ok (and_table n name (created n.tables q rows))))
  created_same name q m n s (Ok d) (Ok e) r =
      record {
        tables = data_append name (created m.tables q d) (created n.tables q e) m.tables n.tables (record { columns = ap (λ t. query_columns t q) (tables_same m.tables n.tables s.tables); rows = r }) s.tables;
        exports = s.exports;
      }
  created_same name q m n s (Err f) (Err g) r = ap (λ (z : Fault). (z, fault_name name)) r
  created_same name q m n s (Ok d) (Err g) r = absurd r
  created_same name q m n s (Err f) (Ok e) r = absurd r

  statement_same : (s : StatementTree) (m n : Made) → SameMade m n → SameResult (statement_made p x m s) (statement_made p y n s)
  statement_same (tree.setting digits rounding) m n same = same
  statement_same (tree.input i) m n same =
      record {
        tables = data_append i.name (input_table x i) (input_table y i) m.tables n.tables (record { columns = refl; rows = inputs_same i.name x y h }) same.tables;
        exports = same.exports;
      }
  statement_same (tree.create name q) m n same =
      created_same name q m n same (query_value (base_of p m.tables) q) (query_value (base_of p n.tables) q) (query_of_same p m.tables n.tables q same.tables)
  statement_same (tree.export e) m n same =
      record {
        tables = same.tables;
        exports = λ i. same.exports i ++ export_same e (table_named m.tables e.name) (table_named n.tables e.name) (table_same e.name m.tables n.tables same.tables) i ∷ [];
      }

  then_same : (a b : Result Made NamedFault) (f g : Made → Result Made NamedFault) → SameResult a b → ((m n : Made) → SameMade m n → SameResult (f m) (g n)) → SameResult (a >>= f) (b >>= g)
  then_same (Ok m) (Ok n) f g s k = k m n s
  then_same (Err d) (Err e) f g s k = s
  then_same (Ok m) (Err e) f g s k = absurd s
  then_same (Err d) (Ok n) f g s k = absurd s

  statements_same : (ss : List StatementTree) (m n : Made) → SameMade m n → SameResult (statements_made p x m ss) (statements_made p y n ss)
  statements_same [] m n same = same
  statements_same (s ∷ ss) m n same =
      then_same (statement_made p x m s) (statement_made p y n s) (λ k. statements_made p x k ss) (λ k. statements_made p y k ss) (statement_same s m n same)
      (λ k l next. statements_same ss k l next)

exports_same : (a b : Result Made NamedFault) → SameResult a b → ◌≡◌ {A = Result (List Export) NamedFault} (a >>= (λ m. Ok m.exports)) (b >>= (λ m. Ok m.exports))
exports_same (Ok m) (Ok n) s = ap Ok s.exports
exports_same (Err f) (Err g) s = ap Err s
exports_same (Ok m) (Err g) s = absurd s
exports_same (Err f) (Ok n) s = absurd s

pub script_same : (s : ScriptTree) (x y : Inputs) → SameInputs x y → script_value s x ≡ script_value s y
script_same s x y h =
    exports_same (script_made s x) (script_made s y) (statements_same (script_settings s) x y h s nothing_made nothing_made (record { tables = tt; exports = refl }))
