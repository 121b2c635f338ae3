-- The queries of forms, as they are written.
use Rattle.std.proofs.Common.{append_assoc, ◌≡◌, List, [], ◌∷◌, ◌++◌, map, Option, None, Some, refl, ap, ◌∙◌}
use Rattle.std.specs.Option.{option_map_or}
use Rattle.vtl_decimal.specs.Settings.{Settings}
use Rattle.vtl_tree.specs.CompExp.{CompExp}
use Rattle.vtl_tree.specs.Structure.{columns_of, of_role}
use Rattle.vtl_tree.specs.declared.structure.Component.{Component}
use Rattle.vtl_tree.specs.declared.structure.Role.TheVariants as role
use Rattle.vtl_tree.specs.declared.structure.Structure.{Structure}
use Rattle.vtl_tree.specs.Columns.{column_named, columns_named, identifiers_of, measures_of}
use Rattle.vtl_meaning.specs.Operators.{calculated_exp, for_measures, measured_exps, target_named, value_exp, with_measure}
use Rattle.vtl_tree.specs.Trees.{ItemTree as Target, MeasureTree}
use Rattle.vtl_tree.specs.declared.clauses.SubItem.{SubItem}
use Rattle.sql_tree.specs.Trees.{Text}
use Rattle.expressions_to_sql.specs.ToSql.{to_sql}
use Rattle.selects_to_sql.specs.Items.{all_of, calculated_item, first_column, for_each_two, from_table, items_for, measured_item, renamed_item, value_equality}
use Rattle.selects_to_sql.specs.Queries.{calc_query, conjunction, filter_query, has_value, item_as, left_query, measures_query, of_one, rename_query, sub_query}
use Rattle.selects_to_sql.proofs.Conjunctions.{conjunction_to_sql}

-- columns go by their names
pub columns_renamed : (p : Settings) (xs ys zs : List Component) → items_for p of_one (columns_named xs ys) zs ≡ for_each_two renamed_item ys zs
columns_renamed p xs [] zs = refl
columns_renamed p xs (y ∷ ys) [] = refl
columns_renamed p xs (y ∷ ys) (z ∷ zs) = ap (λ l. renamed_item y z ∷ l) (columns_renamed p xs ys zs)

pub left_written : (p : Settings) (a s : Structure) (table : Text) → left_query p a s table ≡ from_table (for_each_two renamed_item (columns_of s) (columns_of s)) None table
left_written p a s table = ap (λ l. from_table l None table) (columns_renamed p (columns_of a) (columns_of s) (columns_of s))

pub filter_written : (p : Settings) (e : CompExp) (s : Structure) (table : Text) → filter_query p e s table ≡ from_table (for_each_two renamed_item (columns_of s) (columns_of s)) (Some (to_sql p of_one e)) table
filter_written p e s table = ap (λ l. from_table l (Some (to_sql p of_one e)) table) (columns_renamed p (columns_of s) (columns_of s) (columns_of s))

pub rename_written : (p : Settings) (a s : Structure) (table : Text) → rename_query p a s table ≡ from_table (for_each_two renamed_item (columns_of a) (columns_of s)) None table
rename_written p a s table = ap (λ l. from_table l None table) (columns_renamed p (columns_of a) (columns_of a) (columns_of s))

-- ---- `sub`

equalities : (p : Settings) (xs : List Component) (items : List SubItem) → to_sql p of_one (conjunction (map (has_value xs) items)) ≡ all_of (map (value_equality p) items)
equalities p xs items = conjunction_to_sql p of_one (map (has_value xs) items) ∙ ap all_of (each_written items)
  where
    each_written : (items : List SubItem) → map (to_sql p of_one) (map (has_value xs) items) ≡ map (value_equality p) items
    each_written [] = refl
    each_written (i ∷ items) = ap (λ l. value_equality p i ∷ l) (each_written items)

pub sub_written : (p : Settings) (items : List SubItem) (a s : Structure) (table : Text) → sub_query p items a s table ≡ from_table (for_each_two renamed_item (columns_of s) (columns_of s)) (Some (all_of (map (value_equality p) items))) table
sub_written p items a s table =
    ap (λ l. from_table l (Some (to_sql p of_one (conjunction (map (has_value (columns_of a)) items)))) table) (columns_renamed p (columns_of a) (columns_of s) (columns_of s))
    ∙ ap (λ e. from_table (for_each_two renamed_item (columns_of s) (columns_of s)) (Some e) table) (equalities p (columns_of a) items)

-- ---- `calc`

target_written : (p : Settings) (o : Option Target) (xs : List Component) (name : Text)
    → to_sql p of_one (option_map_or (λ i. value_exp i.value) o (column_named xs name)) ≡ option_map_or (λ i. to_sql p of_one (value_exp i.value)) o (first_column name)
target_written p None xs name = refl
target_written p (Some i) xs name = refl

calculated : (p : Settings) (items : List Target) (xs ys : List Component) → items_for p of_one (map (calculated_exp items xs) ys) ys ≡ map (calculated_item p items) ys
calculated p items xs [] = refl
calculated p items xs (y ∷ ys) =
    ap (λ e. item_as y.name e ∷ items_for p of_one (map (calculated_exp items xs) ys) ys) (target_written p (target_named items y.name) xs y.name)
    ∙ ap (λ l. calculated_item p items y ∷ l) (calculated p items xs ys)

pub calc_written : (p : Settings) (items : List Target) (a s : Structure) (table : Text) → calc_query p items a s table ≡ from_table (map (calculated_item p items) (columns_of s)) None table
calc_written p items a s table = ap (λ l. from_table l None table) (calculated p items (columns_of a) (columns_of s))

-- ---- an operator on each measure

measured : (p : Settings) (m : MeasureTree) (xs us ms rest : List Component) → items_for p of_one (for_measures (with_measure m xs) us ms) (ms ++ rest) ≡ for_each_two (measured_item p m xs) us ms
measured p m xs [] ms rest = refl
measured p m xs (u ∷ us) [] rest = refl
measured p m xs (u ∷ us) (y ∷ ms) rest = ap (λ l. measured_item p m xs u y ∷ l) (measured p m xs us ms rest)

-- columns under their own names, and other items
behind_columns : (p : Settings) (xs ys zs : List Component) (es : List CompExp) → items_for p of_one (columns_named xs ys ++ es) (ys ++ zs) ≡ for_each_two renamed_item ys ys ++ items_for p of_one es zs
behind_columns p xs [] zs es = refl
behind_columns p xs (y ∷ ys) zs es = ap (λ l. renamed_item y y ∷ l) (behind_columns p xs ys zs es)

pub measures_written : (p : Settings) (m : MeasureTree) (a s : Structure) (table : Text)
    → measures_query p m a s table ≡ from_table (for_each_two renamed_item (identifiers_of s) (identifiers_of s) ++ for_each_two (measured_item p m (columns_of a)) (measures_of a) (measures_of s)) None table
measures_written p m a s table =
    ap (λ l. from_table (items_for p of_one (measured_exps m a s) l) None table) (append_assoc (identifiers_of s) (measures_of s) (of_role role.Attribute s))
    ∙ ap (λ l. from_table l None table)
    (behind_columns p (columns_of a) (identifiers_of s) (measures_of s ++ of_role role.Attribute s) (for_measures (with_measure m (columns_of a)) (measures_of a) (measures_of s))
    ∙ ap (λ l. for_each_two renamed_item (identifiers_of s) (identifiers_of s) ++ l) (measured p m (columns_of a) (measures_of a) (measures_of s) (of_role role.Attribute s)))
