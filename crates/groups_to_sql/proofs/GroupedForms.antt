-- The query of an aggregate, as it is written.
use Rattle.std.proofs.Common.{◌≡◌, Bool, cond, List, [], ◌∷◌, ◌++◌, map, Option, None, Some, refl, sym, ap, ◌∙◌}
use Rattle.std.proofs.lemmas.List.{map-append}
use Rattle.std.specs.List.{AllByRecursion}
use Rattle.std.specs.Option.{option_map_or}
use Rattle.vtl_decimal.specs.Settings.{Settings}
use Rattle.vtl_cell.specs.declared.cell.Cell.TheVariants as c
use Rattle.vtl_tree.specs.CompExp.{aggregate, const}
use Rattle.vtl_tree.specs.Structure.{columns_of}
use Rattle.vtl_tree.specs.declared.expression.AggCall.{AggCall}
use Rattle.vtl_tree.specs.declared.structure.Component.{Component}
use Rattle.vtl_tree.specs.declared.structure.Structure.{Structure}
use Rattle.vtl_meaning.specs.Aggregates.{call_for}
use Rattle.vtl_tree.specs.Columns.{columns_named, identifiers_of, others_of}
use Rattle.expressions_to_sql.specs.ToSql.{group_columns, to_sql}
use Rattle.vtl_tree.specs.Trees.{AggTree}
use Rattle.vtl_tree.specs.declared.specifications.AggItems.{AggItems}
use Rattle.vtl_meaning.proofs.Places.{IsIdentifier, IsOther, are_identifiers, are_others, columns_split}
use Rattle.sql_tree.specs.Trees.{Exp, Text, constant}
use Rattle.sql_tree.specs.declared.parts.Constant.TheVariants as constants
use Rattle.groups_to_sql.specs.Grouped.{aggregate_query, aggregated_exps, kept_where, made_exp}
use Rattle.groups_to_sql.specs.GroupedItems.{aggregated_item, aggregated_items, call_value, made_value}
use Rattle.selects_to_sql.specs.Items.{first_column}
use Rattle.selects_to_sql.specs.NamedItems.{own_columns}
use Rattle.selects_to_sql.specs.Queries.{all_to_sql, first_alias, item_as, items_as, of_one, source_as}
use Rattle.selects_to_sql.specs.Groups.{grouped_as}
use Rattle.selects_to_sql.proofs.NamedItems.{own_written}

-- ---- expressions

made_written : (p : Settings) (i : AggItems) (y : Component) → to_sql p of_one (made_exp i y) ≡ made_value i y.name
made_written p i y = go (call_for i y.name)
  where
    go : (a : Option AggCall) → to_sql p of_one (option_map_or (λ f. aggregate f y.kind) a (const c.Null)) ≡ option_map_or call_value a (constant constants.Null)
    go None = refl
    go (Some f) = refl

abbrev made_values : AggItems → List Component → List Exp
made_values i ys = map (λ y. made_value i y.name) ys

all_made_written : (p : Settings) (i : AggItems) (ys : List Component) → all_to_sql p of_one (map (made_exp i) ys) ≡ made_values i ys
all_made_written p i [] = refl
all_made_written p i (y ∷ ys) = ap (λ e. e ∷ all_to_sql p of_one (map (made_exp i) ys)) (made_written p i y) ∙ ap (λ l. made_value i y.name ∷ l) (all_made_written p i ys)

values_written : (p : Settings) (spec : AggTree) (a s : Structure) → all_to_sql p of_one (aggregated_exps spec a s) ≡ own_columns (identifiers_of s) ++ made_values spec.items (others_of s)
values_written p spec a s =
    map-append (to_sql p of_one) (columns_named (columns_of a) (identifiers_of s)) (map (made_exp spec.items) (others_of s))
    ∙ ap (λ l. l ++ all_to_sql p of_one (map (made_exp spec.items) (others_of s))) (own_written p (columns_of a) (identifiers_of s))
    ∙ ap (λ l. own_columns (identifiers_of s) ++ l) (all_made_written p spec.items (others_of s))

-- ---- items

others_written : (i : AggItems) (ys : List Component) → AllByRecursion IsOther ys → items_as (made_values i ys) ys ≡ aggregated_items i ys
others_written i [] h = refl
others_written i (y ∷ ys) h =
    ap (λ (b : Bool). item_as y.name (cond b (first_column y.name) (made_value i y.name)) ∷ items_as (made_values i ys) ys) (sym h.0) ∙ ap (λ l. aggregated_item i y ∷ l) (others_written i ys h.1)

all_written : (i : AggItems) (xs ys : List Component) → AllByRecursion IsIdentifier xs → AllByRecursion IsOther ys → items_as (own_columns xs ++ made_values i ys) (xs ++ ys) ≡ aggregated_items i (xs ++ ys)
all_written i [] ys h k = others_written i ys k
all_written i (x ∷ xs) ys h k =
    ap (λ (b : Bool). item_as x.name (cond b (first_column x.name) (made_value i x.name)) ∷ items_as (own_columns xs ++ made_values i ys) (xs ++ ys)) (sym h.0)
    ∙ ap (λ l. aggregated_item i x ∷ l) (all_written i xs ys h.1 k)

items_written : (p : Settings) (spec : AggTree) (a s : Structure) → items_as (all_to_sql p of_one (aggregated_exps spec a s)) (columns_of s) ≡ aggregated_items spec.items (columns_of s)
items_written p spec a s =
    let values = own_columns (identifiers_of s) ++ made_values spec.items (others_of s) in
    ap (λ es. items_as es (columns_of s)) (values_written p spec a s)
    ∙ ap (items_as values) (columns_split s)
    ∙ all_written spec.items (identifiers_of s) (others_of s) (are_identifiers s) (are_others s)
    ∙ ap (aggregated_items spec.items) (sym (columns_split s))

-- ---- queries

pub aggregate_written : (p : Settings) (spec : AggTree) (a s : Structure) (table : Text)
    → aggregate_query p spec a s table ≡ grouped_as (aggregated_items spec.items (columns_of s)) (source_as first_alias table) (group_columns first_alias spec.grouping) (kept_where p spec.grouping spec.having) ∷ []
aggregate_written p spec a s table =
    ap (λ l. grouped_as l (source_as first_alias table) (group_columns first_alias spec.grouping) (kept_where p spec.grouping spec.having) ∷ []) (items_written p spec a s)
