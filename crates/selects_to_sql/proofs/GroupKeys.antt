-- The columns of GROUP BY as items, and whether a group has rows.
use Rattle.std.proofs.Common.{◌≡◌, ℕ, ◌+◌, true, ◌||◌, not, cond, List, [], ◌∷◌, ◌++◌, map, None, Ok, refl, ap, ◌∙◌, arith}
use Rattle.std.specs.Prelude.{is_some}
use Rattle.std.specs.List.{AllByRecursion, list_any, position_or_len}
use Rattle.vtl_lists.proofs.Alls.{all_each}
use Rattle.grammar_forms.specs.Written.{Each}
use Rattle.vtl_cell.specs.Groups.{group_value}
use Rattle.vtl_cell.specs.Outcome.{after}
use Rattle.vtl_cell.specs.Row.{Row, column_of}
use Rattle.vtl_decimal.specs.Settings.{Settings}
use Rattle.vtl_text.specs.Texts.{same_text}
use Rattle.vtl_cell.specs.declared.cell.Cell.TheVariants as c
use Rattle.vtl_cell.specs.declared.operator.AggKind.TheVariants as agg
use Rattle.vtl_rows.specs.Tables.{cells_at}
use Rattle.vtl_tree.specs.CompExp.{column}
use Rattle.vtl_tree.specs.DataSet.{is_point}
use Rattle.vtl_tree.specs.Structure.{names_of, same_name}
use Rattle.vtl_tree.specs.declared.structure.Component.{Component}
use Rattle.vtl_tree.specs.Columns.{columns_named, place_of, places_in}
use Rattle.vtl_meaning.specs.Made.{IsColumnAt}
use Rattle.vtl_meaning.proofs.OwnColumns.{column_any}
use Rattle.vtl_meaning.proofs.Places.{same_name-sym}
use Rattle.vtl_meaning.proofs.ValueKinds.{cell_is_of}
use Rattle.sql_tree.specs.Formed.{IsColumn}
use Rattle.sql_tree.specs.declared.parts.Column.{Column}
use Rattle.sql_check_laws.specs.Fits.{IsSeen}
use Rattle.expressions_to_sql.specs.Names.{Names}
use Rattle.sql_check_parts.specs.Scopes.{Scope, or_null}
use Rattle.sql_meaning.specs.Scripts.{Data, base_of}
use Rattle.sql_meaning.specs.Tables.{Base}
use Rattle.expressions_to_sql.specs.ToSql.{group_columns}
use Rattle.sql_meaning.specs.Values.{at_groups, place_in, value as sql_value}
use Rattle.expressions_to_sql.proofs.OverGroups.{group_fits, group_value_is}
use Rattle.selects_to_sql.specs.Writable.{HaveNames}
use Rattle.selects_to_sql.specs.Queries.{all_to_sql, first_alias, of_one}
use Rattle.selects_to_sql.specs.Groups.{has_rows}
use Rattle.selects_to_sql.specs.Items.{first_column}
use Rattle.selects_to_sql.proofs.Coded.{all_there, least_truth, truth_of}
use Rattle.selects_to_sql.proofs.Expressions.{Translates}
use Rattle.selects_to_sql.proofs.GroupItems.{AreGroupItems, IsGroupItem}
use Rattle.selects_to_sql.proofs.SelectItems.{Valued, values_at, values_fault}
use Rattle.selects_to_sql.proofs.Sources.{AreApart, one_formed, one_names, one_scope}

-- ---- names

among_names : (name : List ℕ) (zs : List Component) → list_any (same_text name) (names_of zs) ≡ list_any (λ z. same_name z.name name) zs
among_names name [] = refl
among_names name (z ∷ zs) = ap (λ b. b || list_any (same_text name) (names_of zs)) (same_name-sym name z.name) ∙ ap (λ b. same_name z.name name || b) (among_names name zs)

place_by_names : (name : List ℕ) (zs : List Component) → position_or_len (same_text name) (names_of zs) ≡ place_of name zs
place_by_names name [] = refl
place_by_names name (z ∷ zs) = ap (λ b. cond (not b) (1 + position_or_len (same_text name) (names_of zs)) 0) (same_name-sym name z.name) ∙ ap (λ n. cond (not (same_name z.name name)) (1 + n) 0) (place_by_names name zs)

-- ---- values at a key

-- the value of a column of GROUP BY
abbrev pub key_cell : List Component → Component → Valued
key_cell zs y key = Ok (column_of (place_of y.name zs) key)

-- columns of GROUP BY have no fault, and stand before other values
pub keys_quiet : (zs us : List Component) (fs : List Valued) (key : Row) → values_fault (map (key_cell zs) us ++ fs) key ≡ values_fault fs key
keys_quiet zs [] fs key = refl
keys_quiet zs (u ∷ us) fs key = keys_quiet zs us fs key

pub keys_before : (zs us : List Component) (fs : List Valued) (key : Row) → values_at (map (key_cell zs) us ++ fs) key ≡ cells_at (places_in zs us) key ++ values_at fs key
keys_before zs [] fs key = refl
keys_before zs (u ∷ us) fs key = ap (λ l. column_of (place_of u.name zs) key ∷ l) (keys_before zs us fs key)

-- ---- columns

-- a column of this name and kind
abbrev pub IsIn : List Component → Component → Type 0
IsIn xs y = IsColumnAt (place_of y.name xs) y.name y.kind xs

module _ (p : Settings) (law : Translates p) (before : Data) (xs : List Component) (apart : AreApart xs) (na : HaveNames xs) where
  abbrev b : Base
  b = base_of p before

  abbrev scope : Scope
  scope = one_scope xs

  names : Names of_one (one_scope xs) xs
  names = one_names xs apart

  -- ---- GROUP BY

  pub placed_in : (zs : List Component) → AllByRecursion (IsIn xs) zs → map (place_in scope) (group_columns first_alias (names_of zs)) ≡ places_in xs zs
  placed_in [] all = refl
  placed_in (z ∷ zs) all =
      ap (λ n. n ∷ map (place_in scope) (group_columns first_alias (names_of zs))) (names.placed (place_of z.name xs) z.name z.kind all.0)
      ∙ ap (λ l. place_of z.name xs ∷ l) (placed_in zs all.1)

  pub group_seen : (zs : List Component) → AllByRecursion (IsIn xs) zs → AllByRecursion (IsSeen scope None) (group_columns first_alias (names_of zs))
  group_seen [] all = tt
  group_seen (z ∷ zs) all = ((ap is_some (names.known (place_of z.name xs) z.name z.kind all.0), refl), group_seen zs all.1)

  pub group_printed : (zs : List Component) → AllByRecursion (IsIn xs) zs → Each IsColumn (group_columns first_alias (names_of zs))
  group_printed [] all = tt
  group_printed (z ∷ zs) all = (one_formed xs na (place_of z.name xs) z.name z.kind all.0, group_printed zs all.1)

  -- ---- its columns as items

  module _ (zs : List Component) (members : Row → List Row) where
    abbrev group : List Column
    group = group_columns first_alias (names_of zs)

    abbrev IsKey : Row → Type 0
    IsKey key = is_point zs key ≡ true

    key_item : (y : Component) → IsIn xs y → IsIn zs y → IsGroupItem b scope group members IsKey (key_cell zs y) (first_column y.name) y
    key_item y at own =
        let e = column (place_of y.name xs) y.name y.kind in
        let among : list_any (same_text y.name) (names_of zs) ≡ true = among_names y.name zs ∙ column_any (place_of y.name zs) y.name y.kind zs own in
        record {
          kind = ap or_null (names.known (place_of y.name xs) y.name y.kind at);
          fits = group_fits first_alias (names_of zs) xs scope names p b.tables law.low e (at, among) tt;
          printed = (one_formed xs na (place_of y.name xs) y.name y.kind at, omega arith);
          value_is = λ key h. group_value_is first_alias (names_of zs) xs scope names b key (members key) law.low e (at, among) tt ∙ ap (λ n. Ok (column_of n key)) (place_by_names y.name zs);
          of_kind = λ key h. cell_is_of (place_of y.name zs) y.name y.kind zs key own h;
        }

    pub key_items : (ys : List Component) → AllByRecursion (IsIn xs) ys → AllByRecursion (IsIn zs) ys → AreGroupItems b scope group members IsKey (map (key_cell zs) ys) (all_to_sql p of_one (columns_named xs ys)) ys
    key_items [] at own = tt
    key_items (y ∷ ys) at own = (key_item y at.0 own.0, key_items ys at.1 own.1)

  -- ---- whether a group has rows

  pub truth_is : (columns : List Column) (key : Row) (rows : List Row) → sql_value (at_groups b scope columns) has_rows key rows ≡ Ok (truth_of rows)
  truth_is columns key rows = ap (λ o. after o (group_value p agg.Min)) (all_there (λ r. Unit {0}) (λ r. Ok (c.Bool true)) (λ r. c.Bool true) (λ r h. refl) rows (all_each (λ r. Unit {0}) (λ r. tt) rows)) ∙ least_truth p rows
