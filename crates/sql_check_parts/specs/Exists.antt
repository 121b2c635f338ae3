-- The equalities of EXISTS.
use Rattle.std.specs.Prelude.{Bool, true, false, not, ◌&&◌, ◌||◌, List, [], ◌∷◌, ◌++◌, Option}
use Rattle.std.specs.List.{flat_map}
use Rattle.std.specs.Option.{is_none}
use Rattle.vtl_cell.specs.Kinds.{same_kind}
use Rattle.vtl_cell.specs.Literals.{is_null_kind}
use Rattle.vtl_cell.specs.declared.kind.Kind.{Kind}
use Rattle.sql_tree.specs.Trees.{Text}
use Rattle.sql_tree.specs.declared.parts.Column.{Column}
use Rattle.sql_tree.specs.declared.parts.Equality.{Equality}
use Rattle.sql_tree.specs.declared.parts.Source.{Source}
use Rattle.sql_check_parts.specs.Rules.{broken}
use Rattle.vtl_text.specs.Texts.{same_text}
use Rattle.sql_check_parts.specs.Scopes.{Columns, Grouping, Scope, Tables, columns_from, columns_of, found, inside, misnames_series, or_null}
use Rattle.sql_check_parts.specs.Windows.{is_ungrouped}
use Rattle.sql_check_parts.specs.declared.rules.SqlRule.{SqlRule}
use Rattle.sql_check_parts.specs.declared.rules.SqlRule.TheVariants as rule

-- the inner source
pub record Inner : Type 0 where
  pub alias : Text
  pub columns : Option Columns

abbrev pub inner_of : Tables → Source → Inner
inner_of tables s = record { alias = s.alias; columns = columns_from tables s }

abbrev pub is_inner : Inner → Column → Bool
is_inner i c = same_text c.source i.alias

abbrev pub kind_inside : Scope → Inner → Column → Option Kind
kind_inside s i c = found (inside s i.alias i.columns) c

-- a column of the inner source is known; one of an outer source besides is one of GROUP BY in a group
abbrev pub side_breaks : Scope → Option Grouping → Inner → Column → List SqlRule
side_breaks s g i c = broken ((rule.UnknownColumn, is_none (kind_inside s i c)) ∷ (rule.OutsideGroup, not (is_inner i c) && is_ungrouped g c) ∷ [])

abbrev pub same_side : Bool → Bool → Bool
same_side true b = b
same_side false b = not b

-- the same kind; a column that has none is told by another rule, and goes with any
abbrev pub kinds_tie : Kind → Kind → Bool
kinds_tie a b = same_kind a b || (is_null_kind a || is_null_kind b)

-- one side is of the inner source and the other one of an outer source, and their kinds are the same
abbrev pub is_tie : Scope → Inner → Equality → Bool
is_tie s i e = not (same_side (is_inner i e.left) (is_inner i e.right)) && kinds_tie (or_null (kind_inside s i e.left)) (or_null (kind_inside s i e.right))

-- an equality ties the inner source to an outer one
abbrev pub equality_breaks : Scope → Option Grouping → Inner → Equality → List SqlRule
equality_breaks s g i e = side_breaks s g i e.left ++ side_breaks s g i e.right ++ broken ((rule.UntiedEquality, not (is_tie s i e)) ∷ [])

-- the table of EXISTS is known, and a SERIES over it fits it
abbrev pub exists_breaks : Tables → Scope → Option Grouping → Source → List Equality → List SqlRule
exists_breaks tables s g source es =
    broken ((rule.UnknownTable, is_none (columns_of tables source.table)) ∷ (rule.MisnamedSeries, misnames_series tables source) ∷ [])
    ++ flat_map (equality_breaks s g (inner_of tables source)) es
