-- The queries of a full join's tables of identifiers, as they are written.
use Rattle.std.proofs.Common.{◌≡◌, List, [], ◌∷◌, length, map, None, refl, ap, ◌∙◌, arith}
use Rattle.vtl_decimal.specs.Settings.{Settings}
use Rattle.vtl_tree.specs.Structure.{columns_of, names_of}
use Rattle.vtl_tree.specs.declared.structure.Component.{Component}
use Rattle.vtl_tree.specs.declared.structure.Structure.{Structure}
use Rattle.vtl_tree.specs.Columns.{identifiers_of}
use Rattle.expressions_to_sql.specs.ToSql.{group_columns}
use Rattle.vtl_meaning.proofs.Places.{are_identifiers}
use Rattle.sql_tree.specs.Trees.{Text}
use Rattle.joins_to_sql.specs.FullJoins.{key_exps, key_select, keys_query, once_query, or_spare}
use Rattle.selects_to_sql.specs.Items.{for_each_two, from_one, renamed_item, own_item, own_items}
use Rattle.joins_to_sql.specs.KeyItems.{identifiers_select, key_items, once_select}
use Rattle.selects_to_sql.specs.Queries.{all_to_sql, first_alias, items_as, of_one, source_as}
use Rattle.selects_to_sql.specs.Groups.{grouped_as}
use Rattle.selects_to_sql.proofs.Forms.{columns_renamed}
use Rattle.joins_to_sql.proofs.KeyColumns.{key_columns}
use Rattle.selects_to_sql.proofs.GroupForms.{group_written}

each_own : (ys : List Component) → for_each_two renamed_item ys ys ≡ own_items ys
each_own [] = refl
each_own (y ∷ ys) = ap (λ l. own_item y ∷ l) (each_own ys)

items_written : (p : Settings) (a : Structure) (ids : List Component) → items_as (all_to_sql p of_one (key_exps ids a)) (or_spare ids) ≡ key_items ids
items_written p a [] = refl
items_written p a (x ∷ xs) = columns_renamed p (columns_of a) (x ∷ xs) (x ∷ xs) ∙ each_own (x ∷ xs)

select_written : (p : Settings) (r a : Structure) (x : Text) → key_select p r a x ≡ identifiers_select (identifiers_of r) x
select_written p r a x =
    let ids = identifiers_of r in
    ap (λ ys. from_one (items_as (all_to_sql p of_one (key_exps ids a)) ys) None x) (key_columns ids (are_identifiers r)) ∙ ap (λ l. from_one l None x) (items_written p a ids)

pub keys_written : (p : Settings) (r : Structure) (ss : List Structure) (xs : List Text) → length xs ≡ length ss → keys_query p r ss xs ≡ map (identifiers_select (identifiers_of r)) xs
keys_written p r [] [] e = refl
keys_written p r [] (x ∷ xs) e = absurd (omega (arith, e))
keys_written p r (a ∷ ss) [] e = refl
keys_written p r (a ∷ ss) (x ∷ xs) e = ap (λ q. q ∷ keys_query p r ss xs) (select_written p r a x) ∙ ap (λ l. identifiers_select (identifiers_of r) x ∷ l) (keys_written p r ss xs (omega (arith, e)))

pub once_written : (p : Settings) (t : Structure) (x : Text) → once_query p t x ≡ once_select (columns_of t) x ∷ []
once_written p t x =
    let ys = columns_of t in
    ap (λ l. grouped_as l (source_as first_alias x) (group_columns first_alias (names_of ys)) None ∷ []) (columns_renamed p ys ys ys ∙ each_own ys)
    ∙ ap (λ g. grouped_as (own_items ys) (source_as first_alias x) g None ∷ []) (group_written ys)
