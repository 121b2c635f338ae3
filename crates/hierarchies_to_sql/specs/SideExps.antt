-- The sides of a hierarchical rule as component expressions, over what stands for its items.
use Rattle.std.specs.Prelude.{ℤ, false, List, [], ◌∷◌, fold, map, Option, Some, None}
use Rattle.std.specs.Option.{option_and_then}
use Rattle.vtl_decimal.specs.Settings.{Settings}
use Rattle.vtl_cell.specs.Literals.{integer_written}
use Rattle.vtl_cell.specs.declared.cell.Cell.TheVariants as c
use Rattle.vtl_cell.specs.declared.kind.Kind.{Kind}
use Rattle.vtl_cell.specs.declared.kind.Kind.TheVariants as k
use Rattle.vtl_cell.specs.declared.operator.ScalarOp.{ScalarOp}
use Rattle.vtl_cell.specs.declared.operator.ScalarOp.TheVariants as op
use Rattle.vtl_syntax.specs.declared.parts.SignedComp.{SignedComp}
use Rattle.vtl_syntax.specs.declared.statements.HierRule.{HierRule}
use Rattle.vtl_syntax.specs.declared.word_groups.Addition.{Addition}
use Rattle.vtl_syntax.specs.declared.word_groups.Addition.TheVariants as sign
use Rattle.vtl_syntax.specs.declared.word_groups.CheckOut.{CheckOut}
use Rattle.vtl_syntax.specs.declared.word_groups.CheckOut.TheVariants as out
use Rattle.vtl_syntax.specs.declared.word_groups.Mode.{Mode}
use Rattle.vtl_syntax.specs.declared.word_groups.Mode.TheVariants as mode
use Rattle.vtl_tree.specs.Checks.{output_parts}
use Rattle.vtl_tree.specs.CompExp.{CompExp, call, comp_exp, const, no_comp_exps}
use Rattle.vtl_rulings.specs.Modes.{zero_of}
use Rattle.vtl_rulings.specs.Sides.{comparison_op, sign_op}
use Rattle.selects_to_sql.specs.Queries.{both, conjunction, equal, holds_always}
use Rattle.rules_to_sql.specs.CheckQueries.{as_number}
use Rattle.rules_to_sql.specs.Conditions.{error_exps, error_exps_at, if_of, negated}

-- what stands for an item: its value, and true where it is there; both are null where it is missing
pub record Leaf : Type 0 where
  pub value : CompExp
  pub there : CompExp

-- ---- conditions

abbrev pub alone : ScalarOp → Kind → CompExp → CompExp
alone o kind e = call o kind (comp_exp e no_comp_exps)

abbrev pub between : ScalarOp → Kind → CompExp → CompExp → CompExp
between o kind e f = call o kind (comp_exp e (comp_exp f no_comp_exps))

abbrev pub is_missing : CompExp → CompExp
is_missing e = alone op.IsNull k.Bool e

abbrev pub either : CompExp → CompExp → CompExp
either e f = between op.Or k.Bool e f

abbrev pub holds_never : CompExp
holds_never = const (c.Bool false)

-- one of them, joined from the left
abbrev pub disjunction : List CompExp → CompExp
disjunction [] = holds_never
disjunction (e ∷ es) = fold either e es

-- ---- modes

abbrev pub or_zero : Kind → Leaf → CompExp
or_zero kind l = if_of kind l.there l.value (const (zero_of kind))

-- what an item counts as
abbrev pub counted_exp : Mode → Kind → Leaf → CompExp
counted_exp mode.NonNull kind l = l.value
counted_exp mode.NonZero kind l = or_zero kind l
counted_exp mode.PartialNull kind l = l.value
counted_exp mode.PartialZero kind l = or_zero kind l
counted_exp mode.AlwaysNull kind l = l.value
counted_exp mode.AlwaysZero kind l = or_zero kind l

-- an item is there and not null
abbrev pub filled_exp : Leaf → CompExp
filled_exp l = negated (is_missing l.value)

-- an item is there, not null and not 0: true of these, and false or null of the others
abbrev pub counts_exp : Kind → Leaf → CompExp
counts_exp kind l = negated (equal l.value (const (zero_of kind)))

-- where a rule has a point; none where it has one everywhere
abbrev pub appears_exp : Mode → Kind → List Leaf → Option CompExp
appears_exp mode.NonNull kind ls = Some (conjunction (map filled_exp ls))
appears_exp mode.NonZero kind ls = Some (disjunction (map (counts_exp kind) ls))
appears_exp mode.PartialNull kind ls = Some (disjunction (map filled_exp ls))
appears_exp mode.PartialZero kind ls = Some (disjunction (map filled_exp ls))
appears_exp mode.AlwaysNull kind ls = None
appears_exp mode.AlwaysZero kind ls = None

-- ---- sides

abbrev pub first_exp : Kind → Option Addition → CompExp → CompExp
first_exp kind None e = e
first_exp kind (Some sign.Plus) e = alone op.Identity kind e
first_exp kind (Some sign.Minus) e = alone op.Negate kind e

abbrev pub next_exps : Kind → (total : CompExp) → List SignedComp → List CompExp → CompExp
next_exps kind total (x ∷ xs) (e ∷ es) = next_exps kind (between (sign_op x.sign) kind total e) xs es
next_exps kind total xs es = total

-- the right side, of what its items count as
abbrev pub sum_exp : Kind → HierRule → List CompExp → CompExp
sum_exp kind r [] = const c.Null
sum_exp kind r (e ∷ es) = next_exps kind (first_exp kind r.sign e) r.others es

abbrev pub right_exp : Mode → Kind → HierRule → List Leaf → CompExp
right_exp m kind r rights = sum_exp kind r (map (counted_exp m kind) rights)

-- the left side is that of the first leaf
abbrev pub left_exp : Mode → Kind → List Leaf → CompExp
left_exp m kind [] = const c.Null
left_exp m kind (l ∷ ls) = counted_exp m kind l

abbrev pub rights_of : List Leaf → List Leaf
rights_of [] = []
rights_of (l ∷ ls) = ls

-- whether the sides compare as the rule says
abbrev pub holds_exp : HierRule → (left right : CompExp) → CompExp
holds_exp r left right = between (comparison_op r.comparison) k.Bool left right

-- the left side less the right one, as a number
abbrev pub difference_exp : Kind → (left right : CompExp) → CompExp
difference_exp kind left right = as_number kind (between op.Subtract kind left right)

-- ---- a check

-- it fails, and the difference is evaluated too: whether that is null or not
abbrev pub fails_exp : (truth difference : CompExp) → CompExp
fails_exp truth difference = both (negated truth) (either (is_missing difference) holds_always)

-- the errors of a rule, whose level is written in digits
abbrev pub level_of : Settings → HierRule → Option ℤ
level_of p r = option_and_then (integer_written p) r.error.level

-- where only points are shown at which the rule does not hold, its errors are constants
abbrev pub rule_errors : Settings → CheckOut → HierRule → (truth : CompExp) → List CompExp
rule_errors p out.Invalid r truth = error_exps r.error.code (level_of p r)
rule_errors p out.All r truth = error_exps_at truth r.error.code (level_of p r)
rule_errors p out.AllMeasures r truth = error_exps_at truth r.error.code (level_of p r)

-- what an output shows behind the identifiers, of leaves for the left item and those on the right
abbrev pub parts_of_sides : Settings → CheckOut → Kind → HierRule → (left right : CompExp) → List CompExp
parts_of_sides p o kind r left right = output_parts o (left ∷ []) (holds_exp r left right) (difference_exp kind left right ∷ rule_errors p o r (holds_exp r left right))

abbrev pub check_parts : Settings → CheckOut → Mode → Kind → HierRule → List Leaf → List CompExp
check_parts p o m kind r leaves = parts_of_sides p o kind r (left_exp m kind leaves) (right_exp m kind r (rights_of leaves))

-- where a condition holds, if there is one, and the rule fails
abbrev pub failing_where : (fails : CompExp) → Option CompExp → CompExp
failing_where fails None = fails
failing_where fails (Some e) = if_of k.Bool e fails holds_never

abbrev pub fails_of : Mode → Kind → HierRule → List Leaf → CompExp
fails_of m kind r leaves =
    let left = left_exp m kind leaves in
    let right = right_exp m kind r (rights_of leaves) in
    fails_exp (holds_exp r left right) (difference_exp kind left right)

-- The points that an output shows. Both sides are compared and subtracted wherever the rule has a point: where all points are shown,
-- in items, and otherwise in this condition.
abbrev pub check_where : CheckOut → Mode → Kind → HierRule → List Leaf → Option CompExp
check_where out.Invalid m kind r leaves = Some (failing_where (fails_of m kind r leaves) (appears_exp m kind leaves))
check_where out.All m kind r leaves = appears_exp m kind leaves
check_where out.AllMeasures m kind r leaves = appears_exp m kind leaves
