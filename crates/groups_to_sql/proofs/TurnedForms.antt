-- The queries of `unpivot` and `pivot`, as they are written.
use Rattle.std.proofs.Common.{◌≡◌, List, [], ◌∷◌, ◌++◌, map, refl, ap, ◌∙◌, Some}
use Rattle.vtl_decimal.specs.Settings.{Settings}
use Rattle.vtl_tree.specs.Structure.{columns_of, names_of}
use Rattle.vtl_tree.specs.declared.structure.Component.{Component}
use Rattle.vtl_tree.specs.declared.structure.Structure.{Structure}
use Rattle.vtl_tree.specs.Columns.{identifiers_of, measures_of}
use Rattle.vtl_meaning.specs.Turned.{codes_of, other_identifiers}
use Rattle.sql_tree.specs.Trees.{Exp, Text}
use Rattle.expressions_to_sql.specs.ToSql.{group_columns}
use Rattle.selects_to_sql.specs.Items.{first_column, from_one}
use Rattle.selects_to_sql.specs.Queries.{first_alias, items_as, source_as}
use Rattle.groups_to_sql.specs.Turned.{coded_item, is_filled, kept_groups, pivot_query, text_constant, unpivot_query, unpivoted_select}
use Rattle.selects_to_sql.specs.Groups.{grouped_as}
use Rattle.selects_to_sql.specs.NamedItems.{own_columns}
use Rattle.groups_to_sql.specs.TurnedItems.{coded_values, grouped_by, measure_select}
use Rattle.selects_to_sql.proofs.NamedItems.{own_written}
use Rattle.selects_to_sql.proofs.GroupForms.{group_written}

-- ---- `unpivot`

one_measure : (p : Settings) (a s : Structure) (table : Text) (x : Component) → unpivoted_select p a s table x ≡ measure_select (identifiers_of a) (columns_of s) table x
one_measure p a s table x = ap (λ l. from_one (items_as (l ++ text_constant x.name ∷ first_column x.name ∷ []) (columns_of s)) (Some (is_filled x.name)) table) (own_written p (columns_of a) (identifiers_of a))

each_measure : (p : Settings) (a s : Structure) (table : Text) (xs : List Component) → map (unpivoted_select p a s table) xs ≡ map (measure_select (identifiers_of a) (columns_of s) table) xs
each_measure p a s table [] = refl
each_measure p a s table (x ∷ xs) =
    ap (λ q. q ∷ map (unpivoted_select p a s table) xs) (one_measure p a s table x) ∙ ap (λ l. measure_select (identifiers_of a) (columns_of s) table x ∷ l) (each_measure p a s table xs)

pub unpivot_written : (p : Settings) (a s : Structure) (table : Text) → unpivot_query p a s table ≡ map (measure_select (identifiers_of a) (columns_of s) table) (measures_of a)
unpivot_written p a s table = each_measure p a s table (measures_of a)

-- ---- `pivot`

pub pivot_written : (p : Settings) (id measure : Text) (a s : Structure) (table : Text)
    → pivot_query p id measure a s table ≡ grouped_by (other_identifiers id a) (items_as (coded_values (other_identifiers id a) id measure (codes_of id a)) (columns_of s)) table ∷ []
pivot_written p id measure a s table =
    let xs = other_identifiers id a in
    let at = λ (es : List Exp). items_as (es ++ map (coded_item id measure) (codes_of id a)) (columns_of s) in
    ap (λ l. grouped_as (at l) (source_as first_alias table) (group_columns first_alias (names_of xs)) (kept_groups xs) ∷ []) (own_written p (columns_of a) xs)
    ∙ ap (λ g. grouped_as (at (own_columns xs)) (source_as first_alias table) g (kept_groups xs) ∷ []) (group_written xs)
