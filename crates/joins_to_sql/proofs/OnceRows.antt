-- A grouped select by all columns of a table gives each of its rows once.
use Rattle.std.proofs.Common.{◌≡◌, ◌≤◌, ℕ, true, List, [], ◌∷◌, map, None, Ok, refl, ap, sym, ◌∙◌, arith}
use Rattle.std.specs.Prelude.{length}
use Rattle.std.specs.List.{AllByRecursion}
use Rattle.vtl_cell.specs.Outcome.{faults_by, join, unless}
use Rattle.vtl_cell.specs.Row.{Row, column_of, same_row}
use Rattle.vtl_decimal.specs.Settings.{Settings}
use Rattle.vtl_rows.specs.Tables.{cells_at}
use Rattle.vtl_tree.specs.DataSet.{is_point}
use Rattle.vtl_tree.specs.Structure.{IsStructure, columns_of, names_of}
use Rattle.vtl_tree.specs.declared.structure.Component.{Component}
use Rattle.vtl_tree.specs.declared.structure.Structure.{Structure}
use Rattle.vtl_tuples.specs.Keys.{each_once}
use Rattle.vtl_tree.specs.Columns.{columns_named, place_of, places_in}
use Rattle.vtl_tuples.proofs.Onces.{once_hold}
use Rattle.vtl_meaning.proofs.OwnColumns.{columns_apart, own_columns}
use Rattle.sql_tree.specs.Formed.{IsName}
use Rattle.sql_tree.specs.Trees.{Text}
use Rattle.sql_tree.specs.declared.parts.Column.{Column}
use Rattle.sql_check_parts.specs.Queries.{is_grouped}
use Rattle.sql_check_parts.specs.Scopes.{Scope}
use Rattle.sql_meaning.specs.Groups.{keys_by, rows_with}
use Rattle.sql_meaning.specs.Scripts.{Data, base_of}
use Rattle.sql_meaning.specs.Tables.{Base}
use Rattle.expressions_to_sql.specs.ToSql.{group_columns}
use Rattle.joins_to_sql.specs.FullJoins.{once_query}
use Rattle.selects_to_sql.specs.Queries.{all_to_sql, first_alias, items_as, of_one, source_as}
use Rattle.selects_to_sql.specs.Runs.{IsTable}
use Rattle.selects_to_sql.specs.Groups.{grouped_as}
use Rattle.selects_to_sql.proofs.Exact.{IsExactly, exactly_same}
use Rattle.selects_to_sql.proofs.Expressions.{Translates}
use Rattle.selects_to_sql.proofs.Givens.{AreGiven}
use Rattle.selects_to_sql.proofs.GroupItems.{groups_give}
use Rattle.selects_to_sql.proofs.GroupKeys.{IsIn, group_printed, group_seen, key_cell, key_items, placed_in}
use Rattle.selects_to_sql.proofs.OneOperand.{one_from, own_cells, rows_there}
use Rattle.selects_to_sql.proofs.SelectItems.{Valued, each_by, values_at, values_fault}
use Rattle.selects_to_sql.proofs.Sources.{one_scope}
use Rattle.selects_to_sql.proofs.Unions.{one_exactly}

module _ (p : Settings) (law : Translates p) (before : Data) (name : Text) (t : Structure) (d : List Row) (there : IsTable before name t d) (named : IsName name) (w : IsStructure t) (given : AreGiven (columns_of t)) (typed : AllByRecursion (λ r. is_point (columns_of t) r ≡ true) d) where
  abbrev xs : List Component
  xs = columns_of t

  abbrev b : Base
  b = base_of p before

  abbrev scope : Scope
  scope = one_scope xs

  abbrev group : List Column
  group = group_columns first_alias (names_of xs)

  abbrev members : Row → List Row
  members = rows_with (places_in xs xs) d

  abbrev IsKey : Row → Type 0
  IsKey key = is_point xs key ≡ true

  abbrev cells : List Valued
  cells = map (key_cell xs) xs

  -- ---- items

  all_quiet : (keys : List Row) → faults_by (values_fault cells) keys ≡ None
  all_quiet [] = refl
  all_quiet (key ∷ keys) = ap (λ f. join f (faults_by (values_fault cells) keys)) (quiet xs key) ∙ all_quiet keys
    where
      quiet : (ys : List Component) (z : Row) → values_fault (map (key_cell xs) ys) z ≡ None
      quiet [] z = refl
      quiet (y ∷ ys) z = quiet ys z

  own_values : (ys : List Component) (key : Row) → values_at (map (key_cell xs) ys) key ≡ cells_at (places_in xs ys) key
  own_values [] key = refl
  own_values (y ∷ ys) key = ap (λ l. column_of (place_of y.name xs) key ∷ l) (own_values ys key)

  each_own : (keys : List Row) → AllByRecursion IsKey keys → map (values_at cells) keys ≡ keys
  each_own [] all = refl
  each_own (key ∷ keys) all = ap (λ r. r ∷ map (values_at cells) keys) (own_values xs key ∙ own_cells xs key (columns_apart t w) all.0) ∙ ap (λ l. key ∷ l) (each_own keys all.1)

  rows_are : (keys : List Row) → AllByRecursion IsKey keys → each_by cells keys ≡ Ok keys
  rows_are keys all = ap (λ f. unless f (map (values_at cells) keys)) (all_quiet keys) ∙ ap Ok (each_own keys all)

  -- ---- groups

  own : AllByRecursion (IsIn xs) xs
  own = own_columns t w

  cells_same : (rows : List Row) → AllByRecursion IsKey rows → map (cells_at (places_in xs xs)) rows ≡ rows
  cells_same [] all = refl
  cells_same (r ∷ rows) all = ap (λ q. q ∷ map (cells_at (places_in xs xs)) rows) (own_cells xs r (columns_apart t w) all.0) ∙ ap (λ l. r ∷ l) (cells_same rows all.1)

  keys_are : keys_by (places_in xs xs) d ≡ each_once same_row d
  keys_are = go (places_in xs xs) refl (some_places xs given.some)
    where
      some_places : (zs : List Component) → 1 ≤ length zs → 1 ≤ length (places_in xs zs)
      some_places [] h = h
      some_places (z ∷ zs) h = omega arith

      go : (is : List ℕ) → places_in xs xs ≡ is → 1 ≤ length is → keys_by is d ≡ each_once same_row d
      go [] e h = absurd (omega (arith, h))
      go (i ∷ is) e h = ap (λ l. each_once same_row (map (cells_at l) d)) (sym e) ∙ ap (each_once same_row) (cells_same d typed)

  grouped_by : (zs : List Component) → 1 ≤ length zs → is_grouped (grouped_as (items_as (all_to_sql p of_one (columns_named xs xs)) xs) (source_as first_alias name) (group_columns first_alias (names_of zs)) None) ≡ true
  grouped_by [] h = absurd (omega (arith, h))
  grouped_by (z ∷ zs) h = refl

  pub once_exactly : IsExactly p before (once_query p t name) t (Ok (each_once same_row d))
  once_exactly =
      let es = all_to_sql p of_one (columns_named xs xs) in
      let all = once_hold IsKey same_row d typed in
      let apart = columns_apart t w in
      let from = one_from p law before name t d there named w given.named (items_as es xs) None tt tt in
      exactly_same p before (once_query p t name) t (each_by cells (each_once same_row d)) (Ok (each_once same_row d)) (rows_are (each_once same_row d) all)
      (one_exactly p before t given (grouped_as (items_as es xs) (source_as first_alias name) group None) (each_by cells (each_once same_row d))
      (groups_give p before scope group (places_in xs xs) (placed_in p law before xs apart given.named xs own) d IsKey cells es t (key_items p law before xs apart given.named xs members xs own own) given (source_as first_alias name) None
      (record {
        grouped = grouped_by xs given.some;
        scope = from.scope;
        source = from.source;
        group = (group_seen p law before xs apart given.named xs own, group_printed p law before xs apart given.named xs own);
        having = (tt, tt);
      })
      (ap Ok (rows_there p law before name t d there named w given.named)) (each_once same_row d) None keys_are refl all))
