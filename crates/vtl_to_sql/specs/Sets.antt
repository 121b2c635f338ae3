-- The queries of set operators and of `exists_in`.
use Rattle.std.specs.Prelude.{Bool, map, true, false, List, [], ◌∷◌, ◌++◌, Option, Some, None}
use Rattle.vtl_decimal.specs.Settings.{Settings}
use Rattle.vtl_cell.specs.declared.operator.ScalarOp.TheVariants as op
use Rattle.vtl_tree.specs.Structure.{columns_of}
use Rattle.vtl_tree.specs.declared.structure.Component.{Component}
use Rattle.vtl_tree.specs.declared.structure.Structure.{Structure}
use Rattle.vtl_syntax.specs.declared.word_groups.Retain.{Retain}
use Rattle.vtl_syntax.specs.declared.word_groups.Retain.TheVariants as retain
use Rattle.vtl_tree.specs.Columns.{common_identifiers, columns_named, identifiers_of}
use Rattle.sql_tree.specs.Trees as tree
use Rattle.sql_tree.specs.Trees.{Text, Exp, QueryTree, SelectTree, exists, unary}
use Rattle.sql_tree.specs.declared.parts.Constant.TheVariants as constant
use Rattle.sql_tree.specs.declared.parts.Equality.{Equality}
use Rattle.expressions_to_sql.specs.ToSql.{column_of}
use Rattle.selects_to_sql.specs.Queries.{first_alias, second_alias, source_as, of_one, items_as, select_as, all_to_sql, select_of}

-- ---- set operators: points for which another operand has a point with the same identifiers, or has none

-- an identifier has the same value in the inner table as in the outer one
abbrev pub tied : Component → Equality
tied y = record { left = column_of second_alias y.name; right = column_of first_alias y.name }

-- whether the answer is to be yes
abbrev pub answered : Bool → Exp → Exp
answered true e = e
answered false e = unary op.Not e

abbrev pub is_matched : Bool → List Component → (other : Text) → Exp
is_matched wanted ids other = answered wanted (exists (source_as second_alias other) (map tied ids))

-- the points of an operand in the columns of the result
abbrev pub shown_select : Settings → (a s : Structure) → (table : Text) → Option Exp → SelectTree
shown_select p a s table condition = select_of p of_one (columns_named (columns_of a) (columns_of s)) s (source_as first_alias table) [] condition

-- those for which another operand has a point, or has none
abbrev pub matched_select : Settings → Bool → (a s : Structure) → (table other : Text) → SelectTree
matched_select p wanted a s table other = shown_select p a s table (Some (is_matched wanted (identifiers_of s) other))

abbrev pub union_query : Settings → (a b s : Structure) → (first second : Text) → QueryTree
union_query p a b s x y = shown_select p a s x None ∷ matched_select p false b s y x ∷ []

abbrev pub intersection_query : Settings → (a b s : Structure) → (first second : Text) → QueryTree
intersection_query p a b s x y = matched_select p true a s x y ∷ []

abbrev pub difference_query : Settings → (a b s : Structure) → (first second : Text) → QueryTree
difference_query p a b s x y = matched_select p false a s x y ∷ []

abbrev pub symmetric_difference_query : Settings → (a b s : Structure) → (first second : Text) → QueryTree
symmetric_difference_query p a b s x y = matched_select p false a s x y ∷ matched_select p false b s y x ∷ []

-- one operand alone
abbrev pub shown_query : Settings → (a s : Structure) → (table : Text) → QueryTree
shown_query p a s table = shown_select p a s table None ∷ []

-- ---- `exists_in`: for each point whether the second operand has one that agrees on the identifiers that both have

abbrev pub retained : Retain → (answer : Exp) → Option Exp
retained retain.All e = None
retained retain.True e = Some e
retained retain.False e = Some (answered false e)

-- the answer as a column: where the points of one answer alone are retained, it is that answer
abbrev pub answer_shown : Retain → (answer : Exp) → Exp
answer_shown retain.All e = e
answer_shown retain.True e = tree.constant constant.True
answer_shown retain.False e = tree.constant constant.False

abbrev pub existence_query : Settings → Retain → (a b s : Structure) → (first second : Text) → QueryTree
existence_query p kept a b s x y =
    let answer = is_matched true (common_identifiers a b) y in
    select_as (items_as (all_to_sql p of_one (columns_named (columns_of a) (identifiers_of s)) ++ answer_shown kept answer ∷ []) (columns_of s)) (source_as first_alias x) [] (retained kept answer) ∷ []
