-- The sides of a hierarchical rule, as they are written.
use Rattle.std.specs.Prelude.{true, false, List, [], ◌∷◌, fold, map, Option, Some, None}
use Rattle.vtl_decimal.specs.Settings.{Settings}
use Rattle.vtl_cell.specs.declared.kind.Kind.{Kind}
use Rattle.vtl_cell.specs.declared.operator.ScalarOp.TheVariants as op
use Rattle.vtl_syntax.specs.declared.parts.SignedComp.{SignedComp}
use Rattle.vtl_syntax.specs.declared.statements.HierRule.{HierRule}
use Rattle.vtl_syntax.specs.declared.word_groups.Addition.{Addition}
use Rattle.vtl_syntax.specs.declared.word_groups.Addition.TheVariants as sign
use Rattle.vtl_syntax.specs.declared.word_groups.CheckOut.{CheckOut}
use Rattle.vtl_syntax.specs.declared.word_groups.CheckOut.TheVariants as out
use Rattle.vtl_syntax.specs.declared.word_groups.Mode.{Mode}
use Rattle.vtl_syntax.specs.declared.word_groups.Mode.TheVariants as mode
use Rattle.vtl_tree.specs.Checks.{output_parts}
use Rattle.vtl_rulings.specs.HierarchyChecks.{Ruled}
use Rattle.vtl_rulings.specs.Modes.{zero_of}
use Rattle.vtl_rulings.specs.Sides.{comparison_op, sign_op}
use Rattle.sql_tree.specs.Trees as tree
use Rattle.sql_tree.specs.Trees.{Exp, Text}
use Rattle.sql_tree.specs.declared.parts.Constant.TheVariants as constant
use Rattle.expressions_to_sql.specs.Constants.{const_to_sql}
use Rattle.expressions_to_sql.specs.ToSql.{column_of}
use Rattle.selects_to_sql.specs.Items.{all_of, both_of}
use Rattle.rules_to_sql.specs.Items.{choice, denied, number_as, rule_errors_as}
use Rattle.hierarchies_to_sql.specs.SideExps.{level_of}

-- what stands for an item: the columns of its table under an alias
pub record LeafAs : Type 0 where
  pub value : Exp
  pub there : Exp

abbrev pub leaf_under : Ruled → (alias : Text) → LeafAs
leaf_under h alias = record { value = tree.column (column_of alias h.measure); there = tree.column (column_of alias h.id) }

-- ---- conditions

abbrev pub either_of : Exp → Exp → Exp
either_of e f = tree.binary e op.Or f

-- one of them, joined from the left
abbrev pub any_of : List Exp → Exp
any_of [] = tree.constant constant.False
any_of (e ∷ es) = fold either_of e es

-- ---- modes

abbrev pub zero_as : Settings → Kind → Exp
zero_as p kind = const_to_sql p (zero_of kind)

abbrev pub or_zero_as : Settings → Kind → LeafAs → Exp
or_zero_as p kind l = choice l.there l.value (zero_as p kind)

abbrev pub counted_as : Settings → Mode → Kind → LeafAs → Exp
counted_as p mode.NonNull kind l = l.value
counted_as p mode.NonZero kind l = or_zero_as p kind l
counted_as p mode.PartialNull kind l = l.value
counted_as p mode.PartialZero kind l = or_zero_as p kind l
counted_as p mode.AlwaysNull kind l = l.value
counted_as p mode.AlwaysZero kind l = or_zero_as p kind l

abbrev pub filled_as : LeafAs → Exp
filled_as l = denied (tree.is_null l.value false)

abbrev pub counts_as : Settings → Kind → LeafAs → Exp
counts_as p kind l = denied (tree.binary l.value op.Equal (zero_as p kind))

abbrev pub appears_as : Settings → Mode → Kind → List LeafAs → Option Exp
appears_as p mode.NonNull kind ls = Some (all_of (map filled_as ls))
appears_as p mode.NonZero kind ls = Some (any_of (map (counts_as p kind) ls))
appears_as p mode.PartialNull kind ls = Some (any_of (map filled_as ls))
appears_as p mode.PartialZero kind ls = Some (any_of (map filled_as ls))
appears_as p mode.AlwaysNull kind ls = None
appears_as p mode.AlwaysZero kind ls = None

-- ---- sides

abbrev pub first_as : Option Addition → Exp → Exp
first_as None e = e
first_as (Some sign.Plus) e = tree.unary op.Identity e
first_as (Some sign.Minus) e = tree.unary op.Negate e

abbrev pub next_as : (total : Exp) → List SignedComp → List Exp → Exp
next_as total (x ∷ xs) (e ∷ es) = next_as (tree.binary total (sign_op x.sign) e) xs es
next_as total xs es = total

abbrev pub sum_as : HierRule → List Exp → Exp
sum_as r [] = tree.constant constant.Null
sum_as r (e ∷ es) = next_as (first_as r.sign e) r.others es

abbrev pub right_as : Settings → Mode → Kind → HierRule → List LeafAs → Exp
right_as p m kind r rights = sum_as r (map (counted_as p m kind) rights)

abbrev pub left_as : Settings → Mode → Kind → List LeafAs → Exp
left_as p m kind [] = tree.constant constant.Null
left_as p m kind (l ∷ ls) = counted_as p m kind l

abbrev pub rights_as : List LeafAs → List LeafAs
rights_as [] = []
rights_as (l ∷ ls) = ls

abbrev pub holds_as : HierRule → (left right : Exp) → Exp
holds_as r left right = tree.binary left (comparison_op r.comparison) right

abbrev pub difference_as : Settings → Kind → (left right : Exp) → Exp
difference_as p kind left right = number_as p kind (tree.binary left op.Subtract right)

-- ---- a check

abbrev pub fails_as : (truth difference : Exp) → Exp
fails_as truth difference = both_of (denied truth) (either_of (tree.is_null difference false) (tree.constant constant.True))

module _ (p : Settings) (m : Mode) (kind : Kind) (r : HierRule) (leaves : List LeafAs) where
  abbrev pub truth_as : Exp
  truth_as = holds_as r (left_as p m kind leaves) (right_as p m kind r (rights_as leaves))

  abbrev pub gap_as : Exp
  gap_as = difference_as p kind (left_as p m kind leaves) (right_as p m kind r (rights_as leaves))

  abbrev pub check_parts_as : CheckOut → List Exp
  check_parts_as o = output_parts o (left_as p m kind leaves ∷ []) truth_as (gap_as ∷ rule_errors_as o truth_as r.error.code (level_of p r))

  abbrev pub failing_as : Option Exp → Exp
  failing_as None = fails_as truth_as gap_as
  failing_as (Some e) = choice e (fails_as truth_as gap_as) (tree.constant constant.False)

  abbrev pub check_where_as : CheckOut → Option Exp
  check_where_as out.Invalid = Some (failing_as (appears_as p m kind leaves))
  check_where_as out.All = appears_as p m kind leaves
  check_where_as out.AllMeasures = appears_as p m kind leaves
