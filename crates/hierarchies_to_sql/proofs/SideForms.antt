-- The sides of a rule, as they are written.
use Rattle.std.proofs.Common.{◌≡◌, List, [], ◌∷◌, fold, map, Option, Some, None, refl, ap, ◌∙◌}
use Rattle.vtl_decimal.specs.Settings.{Settings}
use Rattle.vtl_cell.specs.declared.kind.Kind.{Kind}
use Rattle.vtl_cell.specs.declared.kind.Kind.TheVariants as k
use Rattle.vtl_cell.specs.declared.operator.ScalarOp.TheVariants as op
use Rattle.vtl_syntax.specs.declared.parts.SignedComp.{SignedComp}
use Rattle.vtl_syntax.specs.declared.statements.HierRule.{HierRule}
use Rattle.vtl_syntax.specs.declared.word_groups.Addition.{Addition}
use Rattle.vtl_syntax.specs.declared.word_groups.Addition.TheVariants as sign
use Rattle.vtl_syntax.specs.declared.word_groups.CheckOut.{CheckOut}
use Rattle.vtl_syntax.specs.declared.word_groups.CheckOut.TheVariants as out
use Rattle.vtl_syntax.specs.declared.word_groups.Comparison.{Comparison}
use Rattle.vtl_syntax.specs.declared.word_groups.Comparison.TheVariants as comparison
use Rattle.vtl_syntax.specs.declared.word_groups.Mode.{Mode}
use Rattle.vtl_syntax.specs.declared.word_groups.Mode.TheVariants as mode
use Rattle.vtl_tree.specs.Checks.{output_parts}
use Rattle.vtl_tree.specs.CompExp.{CompExp}
use Rattle.vtl_rulings.specs.Sides.{comparison_op, sign_op}
use Rattle.vtl_rulings.proofs.Checked.{parts_mapped}
use Rattle.sql_tree.specs.Trees as tree
use Rattle.sql_tree.specs.Trees.{Exp}
use Rattle.sql_tree.specs.declared.parts.Constant.TheVariants as constant
use Rattle.expressions_to_sql.specs.ToSql.{Naming, to_sql}
use Rattle.selects_to_sql.specs.Items.{all_of, both_of}
use Rattle.selects_to_sql.specs.Queries.{both, condition_for, conjunction}
use Rattle.selects_to_sql.proofs.Conjunctions.{conjunction_to_sql}
use Rattle.rules_to_sql.specs.CheckQueries.{as_number}
use Rattle.rules_to_sql.specs.Items.{choice, number_as, rule_errors_as}
use Rattle.rules_to_sql.proofs.Forms.{errors_at_written, errors_written}
use Rattle.hierarchies_to_sql.specs.SideExps.{Leaf, appears_exp, between, check_parts, check_where, counted_exp, counts_exp, difference_exp, disjunction, either, failing_where, fails_of, filled_exp, first_exp, holds_exp, left_exp, level_of, next_exps, or_zero, right_exp, rights_of, rule_errors, sum_exp}
use Rattle.hierarchies_to_sql.specs.SideItems.{LeafAs, any_of, appears_as, check_parts_as, check_where_as, counted_as, counts_as, difference_as, either_of, failing_as, fails_as, filled_as, first_as, gap_as, holds_as, left_as, next_as, or_zero_as, right_as, rights_as, sum_as, truth_as}

module _ (p : Settings) (at : Naming) where
  -- the columns of an item's table are written so
  pub record IsWritten (l : Leaf) (w : LeafAs) : Type 0 where
    pub value : to_sql p at l.value ≡ w.value
    pub there : to_sql p at l.there ≡ w.there

  abbrev pub AreWritten : List Leaf → List LeafAs → Type 0
  AreWritten [] [] = Unit {0}
  AreWritten (l ∷ ls) (w ∷ ws) = IsWritten l w × AreWritten ls ws
  AreWritten ls ws = ⊥

  module _ (kind : Kind) where
    zero_written : (l : Leaf) (w : LeafAs) → IsWritten l w → to_sql p at (or_zero kind l) ≡ or_zero_as p kind w
    zero_written l w i = ap (λ e. or_zero_as p kind (record { value = to_sql p at l.value; there = e })) i.there ∙ ap (λ e. or_zero_as p kind (record { value = e; there = w.there })) i.value

    pub counted_written : (m : Mode) (l : Leaf) (w : LeafAs) → IsWritten l w → to_sql p at (counted_exp m kind l) ≡ counted_as p m kind w
    counted_written mode.NonNull l w i = i.value
    counted_written mode.NonZero l w i = zero_written l w i
    counted_written mode.PartialNull l w i = i.value
    counted_written mode.PartialZero l w i = zero_written l w i
    counted_written mode.AlwaysNull l w i = i.value
    counted_written mode.AlwaysZero l w i = zero_written l w i

    pub filled_written : (l : Leaf) (w : LeafAs) → IsWritten l w → to_sql p at (filled_exp l) ≡ filled_as w
    filled_written l w i = ap (λ e. filled_as (record { value = e; there = w.there })) i.value

    counts_written : (l : Leaf) (w : LeafAs) → IsWritten l w → to_sql p at (counts_exp kind l) ≡ counts_as p kind w
    counts_written l w i = ap (λ e. counts_as p kind (record { value = e; there = w.there })) i.value

    module _ (f : Leaf → CompExp) (g : LeafAs → Exp) (one : (l : Leaf) (w : LeafAs) → IsWritten l w → to_sql p at (f l) ≡ g w) where
      each_written : (ls : List Leaf) (ws : List LeafAs) → AreWritten ls ws → map (to_sql p at) (map f ls) ≡ map g ws
      each_written [] [] all = refl
      each_written [] (w ∷ ws) all = absurd all
      each_written (l ∷ ls) [] all = absurd all
      each_written (l ∷ ls) (w ∷ ws) all = ap (λ e. e ∷ map (to_sql p at) (map f ls)) (one l w all.0) ∙ ap (λ es. g w ∷ es) (each_written ls ws all.1)

    pub all_written : (es : List CompExp) → to_sql p at (conjunction es) ≡ all_of (map (to_sql p at) es)
    all_written es = conjunction_to_sql p at es

    either_from : (e : CompExp) (fs : List CompExp) → to_sql p at (fold either e fs) ≡ fold either_of (to_sql p at e) (map (to_sql p at) fs)
    either_from e [] = refl
    either_from e (f ∷ fs) = either_from (either e f) fs

    any_written : (es : List CompExp) → to_sql p at (disjunction es) ≡ any_of (map (to_sql p at) es)
    any_written [] = refl
    any_written (e ∷ es) = either_from e es

    pub appears_written : (m : Mode) (ls : List Leaf) (ws : List LeafAs) → AreWritten ls ws → condition_for p at (appears_exp m kind ls) ≡ appears_as p m kind ws
    appears_written mode.NonNull ls ws all = ap Some (all_written (map filled_exp ls) ∙ ap all_of (each_written filled_exp filled_as filled_written ls ws all))
    appears_written mode.NonZero ls ws all = ap Some (any_written (map (counts_exp kind) ls) ∙ ap any_of (each_written (counts_exp kind) (counts_as p kind) counts_written ls ws all))
    appears_written mode.PartialNull ls ws all = ap Some (any_written (map filled_exp ls) ∙ ap any_of (each_written filled_exp filled_as filled_written ls ws all))
    appears_written mode.PartialZero ls ws all = ap Some (any_written (map filled_exp ls) ∙ ap any_of (each_written filled_exp filled_as filled_written ls ws all))
    appears_written mode.AlwaysNull ls ws all = refl
    appears_written mode.AlwaysZero ls ws all = refl

    -- ---- sides

    first_written : (s : Option Addition) (e : CompExp) → to_sql p at (first_exp kind s e) ≡ first_as s (to_sql p at e)
    first_written None e = refl
    first_written (Some sign.Plus) e = refl
    first_written (Some sign.Minus) e = refl

    signed_written : (s : Addition) (e f : CompExp) → to_sql p at (between (sign_op s) kind e f) ≡ tree.binary (to_sql p at e) (sign_op s) (to_sql p at f)
    signed_written sign.Plus e f = refl
    signed_written sign.Minus e f = refl

    next_written : (e : CompExp) (xs : List SignedComp) (es : List CompExp) → to_sql p at (next_exps kind e xs es) ≡ next_as (to_sql p at e) xs (map (to_sql p at) es)
    next_written e [] [] = refl
    next_written e [] (f ∷ fs) = refl
    next_written e (x ∷ xs) [] = refl
    next_written e (x ∷ xs) (f ∷ fs) = next_written (between (sign_op x.sign) kind e f) xs fs ∙ ap (λ t. next_as t xs (map (to_sql p at) fs)) (signed_written x.sign e f)

    sum_written : (r : HierRule) (es : List CompExp) → to_sql p at (sum_exp kind r es) ≡ sum_as r (map (to_sql p at) es)
    sum_written r [] = refl
    sum_written r (e ∷ es) = next_written (first_exp kind r.sign e) r.others es ∙ ap (λ t. next_as t r.others (map (to_sql p at) es)) (first_written r.sign e)

    pub right_written : (m : Mode) (r : HierRule) (ls : List Leaf) (ws : List LeafAs) → AreWritten ls ws → to_sql p at (right_exp m kind r ls) ≡ right_as p m kind r ws
    right_written m r ls ws all = sum_written r (map (counted_exp m kind) ls) ∙ ap (sum_as r) (each_written (counted_exp m kind) (counted_as p m kind) (counted_written m) ls ws all)

    left_written : (m : Mode) (ls : List Leaf) (ws : List LeafAs) → AreWritten ls ws → to_sql p at (left_exp m kind ls) ≡ left_as p m kind ws
    left_written m [] [] all = refl
    left_written m [] (w ∷ ws) all = absurd all
    left_written m (l ∷ ls) [] all = absurd all
    left_written m (l ∷ ls) (w ∷ ws) all = counted_written m l w all.0

    rights_written : (ls : List Leaf) (ws : List LeafAs) → AreWritten ls ws → AreWritten (rights_of ls) (rights_as ws)
    rights_written [] [] all = tt
    rights_written [] (w ∷ ws) all = absurd all
    rights_written (l ∷ ls) [] all = absurd all
    rights_written (l ∷ ls) (w ∷ ws) all = all.1

    compared_written : (o : Comparison) (e f : CompExp) → to_sql p at (between (comparison_op o) k.Bool e f) ≡ tree.binary (to_sql p at e) (comparison_op o) (to_sql p at f)
    compared_written comparison.Equal e f = refl
    compared_written comparison.Less e f = refl
    compared_written comparison.LessOrEqual e f = refl
    compared_written comparison.Greater e f = refl
    compared_written comparison.GreaterOrEqual e f = refl

    number_written : (q : Kind) (e : CompExp) → to_sql p at (as_number q e) ≡ number_as p q (to_sql p at e)
    number_written k.Num e = refl
    number_written k.Int e = refl
    number_written k.Null e = refl
    number_written k.Bool e = refl
    number_written k.Text e = refl
    number_written k.Day e = refl
    number_written k.Period e = refl

    -- ---- a rule

    module _ (m : Mode) (r : HierRule) (ls : List Leaf) (ws : List LeafAs) (all : AreWritten ls ws) where
      abbrev left : CompExp
      left = left_exp m kind ls

      abbrev right : CompExp
      right = right_exp m kind r (rights_of ls)

      right_is : to_sql p at right ≡ right_as p m kind r (rights_as ws)
      right_is = right_written m r (rights_of ls) (rights_as ws) (rights_written ls ws all)

      truth_written : to_sql p at (holds_exp r left right) ≡ truth_as p m kind r ws
      truth_written =
          compared_written r.comparison left right
          ∙ ap (λ e. holds_as r e (to_sql p at right)) (left_written m ls ws all)
          ∙ ap (holds_as r (left_as p m kind ws)) right_is

      gap_written : to_sql p at (difference_exp kind left right) ≡ gap_as p m kind r ws
      gap_written =
          number_written kind (between op.Subtract kind left right)
          ∙ ap (λ e. difference_as p kind e (to_sql p at right)) (left_written m ls ws all)
          ∙ ap (difference_as p kind (left_as p m kind ws)) right_is

      errors_as : (o : CheckOut) → map (to_sql p at) (rule_errors p o r (holds_exp r left right)) ≡ rule_errors_as o (truth_as p m kind r ws) r.error.code (level_of p r)
      errors_as out.Invalid = errors_written p at r.error.code (level_of p r)
      errors_as out.All = errors_at_written p at (holds_exp r left right) r.error.code (level_of p r) ∙ ap (λ e. rule_errors_as out.All e r.error.code (level_of p r)) truth_written
      errors_as out.AllMeasures = errors_at_written p at (holds_exp r left right) r.error.code (level_of p r) ∙ ap (λ e. rule_errors_as out.AllMeasures e r.error.code (level_of p r)) truth_written

      pub parts_written : (o : CheckOut) → map (to_sql p at) (check_parts p o m kind r ls) ≡ check_parts_as p m kind r ws o
      parts_written o =
          let truth = truth_as p m kind r ws in
          let rest = map (to_sql p at) (difference_exp kind left right ∷ rule_errors p o r (holds_exp r left right)) in
          parts_mapped (to_sql p at) o (left ∷ []) (holds_exp r left right) (difference_exp kind left right ∷ rule_errors p o r (holds_exp r left right))
          ∙ ap (λ e. output_parts o (e ∷ []) (to_sql p at (holds_exp r left right)) rest) (left_written m ls ws all)
          ∙ ap (λ e. output_parts o (left_as p m kind ws ∷ []) e rest) truth_written
          ∙ ap (λ e. output_parts o (left_as p m kind ws ∷ []) truth (e ∷ map (to_sql p at) (rule_errors p o r (holds_exp r left right)))) gap_written
          ∙ ap (λ es. output_parts o (left_as p m kind ws ∷ []) truth (gap_as p m kind r ws ∷ es)) (errors_as o)

      fails_written : to_sql p at (fails_of m kind r ls) ≡ fails_as (truth_as p m kind r ws) (gap_as p m kind r ws)
      fails_written = ap (λ e. fails_as e (to_sql p at (difference_exp kind left right))) truth_written ∙ ap (fails_as (truth_as p m kind r ws)) gap_written

      failing_written : (e : Option CompExp) → to_sql p at (failing_where (fails_of m kind r ls) e) ≡ failing_as p m kind r ws (condition_for p at e)
      failing_written None = fails_written
      failing_written (Some e) = ap (λ f. choice (to_sql p at e) f (tree.constant constant.False)) fails_written

      pub where_written : (o : CheckOut) → condition_for p at (check_where o m kind r ls) ≡ check_where_as p m kind r ws o
      where_written out.Invalid = ap Some (failing_written (appears_exp m kind ls) ∙ ap (failing_as p m kind r ws) (appears_written m ls ws all))
      where_written out.All = appears_written m ls ws all
      where_written out.AllMeasures = appears_written m ls ws all
