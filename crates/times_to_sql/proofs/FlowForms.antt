-- The query of totals at the points of an operand, as it is written.
use Rattle.std.proofs.Common.{◌≡◌, false, List, [], ◌∷◌, ◌++◌, length, map, None, append_assoc, refl, ap, ◌∙◌}
use Rattle.vtl_decimal.specs.Settings.{Settings}
use Rattle.vtl_tree.specs.Columns.{identifiers_of, measures_of, place_of}
use Rattle.vtl_tree.specs.Structure.{columns_of, of_role}
use Rattle.vtl_tree.specs.declared.structure.Component.{Component}
use Rattle.vtl_tree.specs.declared.structure.Role.TheVariants as role
use Rattle.vtl_tree.specs.declared.structure.Structure.{Structure}
use Rattle.vtl_meaning.specs.Operators.{for_measures}
use Rattle.sql_tree.specs.Trees as tree
use Rattle.sql_tree.specs.Trees.{Exp, ItemTree, SelectTree, Text}
use Rattle.sql_tree.specs.declared.parts.Column.{Column}
use Rattle.sql_tree.specs.declared.parts.Constant.TheVariants as constants
use Rattle.sql_tree.specs.declared.word_groups.JoinKind.TheVariants as joining
use Rattle.expressions_to_sql.specs.ToSql.{to_sql}
use Rattle.selects_to_sql.specs.Items.{for_each_two, items_for}
use Rattle.selects_to_sql.specs.PairItems.{from_two, lead_column, lead_item}
use Rattle.selects_to_sql.specs.Queries.{agree, item_as, of_two, second_alias, source_as}
use Rattle.selects_to_sql.proofs.PairForms.{agreements, second_of, lead_first}
use Rattle.times_to_sql.specs.Flows.{stock_query}
use Rattle.times_to_sql.specs.Frequencies.{stock_exp, stock_exps}
use Rattle.times_to_sql.specs.StockItems.{stock_item, stock_select}

-- a measure beside a column
abbrev beside_null : List Component → Component → Column → Exp
beside_null xs u total = tree.case_when (tree.branch (tree.is_null (lead_column xs u.name) false) (tree.constant constants.Null) tree.no_branches) (tree.column total)

stock_items : (p : Settings) (a s : Structure) (us ms rest : List Component) → items_for p (of_two (length (columns_of a))) (for_measures (stock_exp a s) us ms) (ms ++ rest) ≡ for_each_two (stock_item (columns_of a)) us ms
stock_items p a s [] ms rest = refl
stock_items p a s (u ∷ us) [] rest = refl
stock_items p a s (u ∷ us) (m ∷ ms) rest =
    let n = length (columns_of a) in
    ap (λ c. item_as m.name (beside_null (columns_of a) u c) ∷ items_for p (of_two n) (for_measures (stock_exp a s) us ms) (ms ++ rest)) (second_of n (place_of u.name (columns_of s)) u.name)
    ∙ ap (λ l. stock_item (columns_of a) u m ∷ l) (stock_items p a s us ms rest)

pub stock_written : (p : Settings) (a s : Structure) (table parts : Text) → stock_query p a s table parts ≡ stock_select a s table parts ∷ []
stock_written p a s table parts =
    let n = length (columns_of a) in
    let xs = columns_of a in
    let from : List ItemTree → Exp → SelectTree = λ items tie. from_two items table (tree.on joining.Inner (source_as second_alias parts) tie) None in
    let tie = to_sql p (of_two n) (agree a s) in
    ap (λ l. from (items_for p (of_two n) (stock_exps a s) l) tie ∷ []) (append_assoc (identifiers_of s) (measures_of s) (of_role role.Attribute s))
    ∙ ap (λ l. from l tie ∷ []) (lead_first p xs (identifiers_of s) (measures_of s ++ of_role role.Attribute s) (for_measures (stock_exp a s) (measures_of a) (measures_of s)))
    ∙ ap (λ l. from (map (lead_item xs) (identifiers_of s) ++ l) tie ∷ []) (stock_items p a s (measures_of a) (measures_of s) (of_role role.Attribute s))
    ∙ ap (λ e. from (map (lead_item xs) (identifiers_of s) ++ for_each_two (stock_item xs) (measures_of a) (measures_of s)) e ∷ []) (agreements p xs (columns_of s) (identifiers_of s))
