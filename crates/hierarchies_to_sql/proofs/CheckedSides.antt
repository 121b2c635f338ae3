-- What a select evaluates of a rule at a combination is what the check of the rule gives there, and has the same fault.
use Rattle.std.proofs.Common.{◌≡◌, ℤ, Bool, true, false, cond, ◌&&◌, List, [], ◌∷◌, map, Option, Some, None, Ok, Err, refl, sym, ap, ◌∙◌}
use Rattle.vtl_decimal.specs.Settings.{Settings}
use Rattle.vtl_decimal.specs.declared.number.Fault.{Fault}
use Rattle.vtl_decimal.specs.declared.number.Fault.TheVariants.{DivZero, Range}
use Rattle.vtl_cell.specs.Kinds.{is_null, is_of}
use Rattle.std.specs.Ordering.{is_eq, is_ge, is_gt, is_le, is_lt}
use Rattle.vtl_cell.specs.Outcome.{Outcome, after, fault_in, join}
use Rattle.vtl_cell.specs.Outcomes.{is_true, result_of}
use Rattle.vtl_cell.specs.Row.{Row}
use Rattle.vtl_cell.specs.ScalarComparison.{compared, truth}
use Rattle.vtl_cell.specs.declared.cell.Cell.{Cell}
use Rattle.vtl_cell.specs.declared.cell.Cell.TheVariants as c
use Rattle.vtl_cell.specs.declared.kind.Kind.{Kind}
use Rattle.vtl_cell.specs.declared.kind.Kind.TheVariants as k
use Rattle.vtl_cell.specs.declared.operator.ScalarOp.TheVariants as op
use Rattle.vtl_syntax.specs.declared.statements.HierRule.{HierRule}
use Rattle.vtl_syntax.specs.declared.word_groups.CheckOut.{CheckOut}
use Rattle.vtl_syntax.specs.declared.word_groups.CheckOut.TheVariants as out
use Rattle.vtl_syntax.specs.declared.word_groups.Comparison.{Comparison}
use Rattle.vtl_syntax.specs.declared.word_groups.Comparison.TheVariants as comparison
use Rattle.vtl_syntax.specs.declared.word_groups.Mode.{Mode}
use Rattle.vtl_tree.specs.Checks.{output_parts}
use Rattle.vtl_tree.specs.CompExp.{CompExp}
use Rattle.vtl_tree.specs.RuleItems.{items_of, left_item, right_items}
use Rattle.vtl_tree.specs.Value.{called, value}
use Rattle.vtl_tree.proofs.Faults.{join_none}
use Rattle.vtl_meaning.specs.Points.{cell_or_null, point_fault, point_of}
use Rattle.vtl_rulings.specs.HierarchyChecks.{check_cells, check_fault, is_checked}
use Rattle.vtl_rulings.specs.HierarchyShapes.{IsNumeric}
use Rattle.vtl_rulings.specs.Modes.{Items}
use Rattle.vtl_rulings.specs.Outputs.{code_cell, errors_at, is_false, is_shown, level_cell}
use Rattle.vtl_rulings.specs.Sides.{comparison_op, difference, holds, left_side, right_side, rule_errors}
use Rattle.vtl_rulings.proofs.Checked.{parts_mapped}
use Rattle.rules_to_sql.specs.Conditions.{error_exps, error_exps_at}
use Rattle.rules_to_sql.proofs.ErrorExps.{errors_are, errors_at_are, errors_at_fault, errors_sure, same_twice}
use Rattle.hierarchies_to_sql.specs.SideExps as exps
use Rattle.hierarchies_to_sql.specs.SideExps.{Leaf, appears_exp, check_parts, check_where, difference_exp, failing_where, fails_exp, fails_of, holds_exp, left_exp, level_of, right_exp, rights_of}
use Rattle.hierarchies_to_sql.proofs.SideExps.{AllShow, Appears, IsSure, appears_is, counted_is, difference_is, holds_is, less_by, right_is}

-- a fault that adds nothing to one adds nothing to that one and another
absorbed : (f g h : Option Fault) → join f h ≡ f → join f (join g h) ≡ join f g
absorbed f None h e = e ∙ sym (join_none f)
absorbed f (Some DivZero) h e = refl
absorbed f (Some Range) None e = refl
absorbed None (Some Range) (Some g) e = cc
absorbed (Some DivZero) (Some Range) (Some g) e = refl
absorbed (Some Range) (Some Range) (Some g) e = e

-- ---- the condition where points are shown at which a rule fails

abbrev is_truth : Cell → Bool
is_truth v = is_of k.Bool v

module _ (p : Settings) where
  abbrev denied : Outcome Cell → Outcome Cell
  denied t = called p k.Bool (t ∷ []) op.Not

  -- evaluated, and true where it has no fault
  abbrev evaluated : Outcome Cell → Outcome Cell
  evaluated d = called p k.Bool (called p k.Bool (d ∷ []) op.IsNull ∷ Ok (c.Bool true) ∷ []) op.Or

  abbrev failing : (truth difference : Outcome Cell) → Outcome Cell
  failing t d = called p k.Bool (denied t ∷ evaluated d ∷ []) op.And

  evaluated_is : (w : Cell) → evaluated (Ok w) ≡ Ok (c.Bool true)
  evaluated_is c.Null = refl
  evaluated_is (c.Bool x) = refl
  evaluated_is (c.Int x) = refl
  evaluated_is (c.Num x) = refl
  evaluated_is (c.Text x) = refl
  evaluated_is (c.Day x) = refl
  evaluated_is (c.Period x) = refl

  -- the negation of a truth value
  abbrev opposite : Cell → Cell
  opposite (c.Bool true) = c.Bool false
  opposite (c.Bool false) = c.Bool true
  opposite v = c.Null

  failing_is : (t : Cell) → is_truth t ≡ true → (w : Cell) → failing (Ok t) (Ok w) ≡ Ok (opposite t)
  failing_is t h w = ap (λ e. called p k.Bool (denied (Ok t) ∷ e ∷ []) op.And) (evaluated_is w) ∙ go t h
    where
      go : (t : Cell) → is_truth t ≡ true → called p k.Bool (denied (Ok t) ∷ Ok (c.Bool true) ∷ []) op.And ≡ Ok (opposite t)
      go (c.Bool true) h = refl
      go (c.Bool false) h = refl
      go c.Null h = refl
      go v h = cc

  failing_stops : (t : Cell) → is_truth t ≡ true → (f : Fault) → failing (Ok t) (Err f) ≡ Err f
  failing_stops (c.Bool true) h f = refl
  failing_stops (c.Bool false) h f = refl
  failing_stops c.Null h f = refl
  failing_stops v h f = cc

  opposite_true : (t : Cell) → is_true (Ok (opposite t)) ≡ is_false t
  opposite_true (c.Bool true) = refl
  opposite_true (c.Bool false) = refl
  opposite_true c.Null = refl
  opposite_true (c.Int n) = refl
  opposite_true (c.Num n) = refl
  opposite_true (c.Text x) = refl
  opposite_true (c.Day x) = refl
  opposite_true (c.Period x) = refl

  -- the sides where the right one has this value or fault, a comparison without a fault, and a difference
  module _ (t : Cell → Cell) (truths : (u : Cell) → is_truth (t u) ≡ true) (d : Cell → Outcome Cell) where
    abbrev T : Outcome Cell → Outcome Cell
    T m = after m (λ u. Ok (t u))

    abbrev D : Outcome Cell → Outcome Cell
    D m = after m d

    failing_fault : (m : Outcome Cell) → fault_in (failing (T m) (D m)) ≡ join (fault_in (T m)) (fault_in (D m))
    failing_fault (Err f) = sym (same_twice (Some f))
    failing_fault (Ok u) = go (d u)
      where
        go : (w : Outcome Cell) → fault_in (failing (Ok (t u)) w) ≡ fault_in w
        go (Ok w) = ap fault_in (failing_is (t u) (truths u) w)
        go (Err f) = ap fault_in (failing_stops (t u) (truths u) f)

    failing_told : (m : Outcome Cell) → fault_in (failing (T m) (D m)) ≡ None → is_true (failing (T m) (D m)) ≡ is_false (cell_or_null (T m))
    failing_told (Err f) h = cc
    failing_told (Ok u) h = go (d u) h
      where
        go : (w : Outcome Cell) → fault_in (failing (Ok (t u)) w) ≡ None → is_true (failing (Ok (t u)) w) ≡ is_false (t u)
        go (Ok w) h = ap is_true (failing_is (t u) (truths u) w) ∙ opposite_true (t u)
        go (Err f) h = cc

    failing_true : (m : Outcome Cell) → fault_in (D m) ≡ None → is_true (failing (T m) (D m)) ≡ is_false (cell_or_null (T m))
    failing_true (Err f) h = cc
    failing_true (Ok u) h = go (d u) h
      where
        go : (w : Outcome Cell) → fault_in w ≡ None → is_true (failing (Ok (t u)) w) ≡ is_false (t u)
        go (Ok w) h = ap is_true (failing_is (t u) (truths u) w) ∙ opposite_true (t u)
        go (Err f) h = cc

  -- a comparison has no fault
  abbrev told_by : Comparison → Cell → Cell → Cell
  told_by comparison.Equal v u = truth (compared is_eq p v u)
  told_by comparison.Less v u = truth (compared is_lt p v u)
  told_by comparison.LessOrEqual v u = truth (compared is_le p v u)
  told_by comparison.Greater v u = truth (compared is_gt p v u)
  told_by comparison.GreaterOrEqual v u = truth (compared is_ge p v u)

  is_told : (o : Comparison) (v u : Cell) → result_of p (comparison_op o) k.Bool (v ∷ u ∷ []) ≡ Ok (told_by o v u)
  is_told comparison.Equal v u = refl
  is_told comparison.Less v u = refl
  is_told comparison.LessOrEqual v u = refl
  is_told comparison.Greater v u = refl
  is_told comparison.GreaterOrEqual v u = refl

  truth_told : (b : Option Bool) → is_truth (truth b) ≡ true
  truth_told None = refl
  truth_told (Some b) = refl

  all_told : (o : Comparison) (v u : Cell) → is_truth (told_by o v u) ≡ true
  all_told comparison.Equal v u = truth_told (compared is_eq p v u)
  all_told comparison.Less v u = truth_told (compared is_lt p v u)
  all_told comparison.LessOrEqual v u = truth_told (compared is_le p v u)
  all_told comparison.Greater v u = truth_told (compared is_gt p v u)
  all_told comparison.GreaterOrEqual v u = truth_told (compared is_ge p v u)

  after_told : (o : Comparison) (v : Cell) (m : Outcome Cell) → after m (λ u. result_of p (comparison_op o) k.Bool (v ∷ u ∷ [])) ≡ after m (λ u. Ok (told_by o v u))
  after_told o v (Ok u) = is_told o v u
  after_told o v (Err f) = refl

-- where the errors of a rule are constants, its truth value is false
stands : (code level t : Cell) → is_false t ≡ true → code ∷ level ∷ [] ≡ errors_at code level t
stands code level (c.Bool false) h = refl
stands code level (c.Bool true) h = cc
stands code level c.Null h = cc
stands code level (c.Int n) h = cc
stands code level (c.Num n) h = cc
stands code level (c.Text x) h = cc
stands code level (c.Day x) h = cc
stands code level (c.Period x) h = cc

-- ---- a rule at a row that shows its items

module _ (p : Settings) (kind : Kind) (numeric : IsNumeric kind) (r : Row) (m : Mode) (items : Items) (rule : HierRule) (leaves : List Leaf) (all : AllShow p kind numeric r leaves (map items (items_of rule))) where
  abbrev left : CompExp
  left = left_exp m kind leaves

  abbrev right : CompExp
  right = right_exp m kind rule (rights_of leaves)

  abbrev total : Outcome Cell
  total = right_side p m kind items rule

  abbrev v : Cell
  v = left_side m kind items rule

  abbrev t : Outcome Cell
  t = holds p m kind items rule

  abbrev d : Outcome Cell
  d = difference p m kind items rule

  pub left_value : value p left r ≡ Ok v
  left_value = go leaves all
    where
      go : (ls : List Leaf) → AllShow p kind numeric r ls (map items (items_of rule)) → value p (left_exp m kind ls) r ≡ Ok v
      go [] h = absurd h
      go (l ∷ ls) h = counted_is p kind numeric r m l (items (left_item rule)) h.0

  pub right_value : value p right r ≡ total
  right_value = go leaves all
    where
      go : (ls : List Leaf) → AllShow p kind numeric r ls (map items (items_of rule)) → value p (right_exp m kind rule (rights_of ls)) r ≡ total
      go [] h = absurd h
      go (l ∷ ls) h = right_is p kind numeric r m items rule ls h.1

  pub truth_is : value p (holds_exp rule left right) r ≡ t
  truth_is = holds_is p kind numeric r rule left right v total left_value right_value

  pub gap_is : value p (difference_exp kind left right) r ≡ d
  gap_is = difference_is p kind numeric r kind numeric left right v total left_value right_value

  -- ---- the condition

  abbrev fails : CompExp
  fails = fails_of m kind rule leaves

  fails_is : value p fails r ≡ failing p t d
  fails_is =
      ap (λ x. failing p x (value p (difference_exp kind left right) r)) truth_is
      ∙ ap (failing p t) gap_is

  split : failing p t d ≡ failing p (after total (λ u. Ok (told_by p rule.comparison v u))) d
  split = ap (λ x. failing p x d) (after_told p rule.comparison v total)

  pub fails_fault : fault_in (value p fails r) ≡ join (fault_in t) (fault_in d)
  fails_fault =
      ap fault_in (fails_is ∙ split)
      ∙ failing_fault p (told_by p rule.comparison v) (all_told p rule.comparison v) (less_by p kind numeric r kind v) total
      ∙ ap (λ x. join (fault_in x) (fault_in d)) (sym (after_told p rule.comparison v total))

  fails_told : fault_in (value p fails r) ≡ None → is_true (value p fails r) ≡ is_false (cell_or_null t)
  fails_told h =
      ap is_true (fails_is ∙ split)
      ∙ failing_told p (told_by p rule.comparison v) (all_told p rule.comparison v) (less_by p kind numeric r kind v) total (sym (ap fault_in (fails_is ∙ split)) ∙ h)
      ∙ ap (λ x. is_false (cell_or_null x)) (sym (after_told p rule.comparison v total))

  pub fails_true : fault_in d ≡ None → is_true (value p fails r) ≡ is_false (cell_or_null t)
  fails_true h =
      ap is_true (fails_is ∙ split)
      ∙ failing_true p (told_by p rule.comparison v) (all_told p rule.comparison v) (less_by p kind numeric r kind v) total h
      ∙ ap (λ x. is_false (cell_or_null x)) (sym (after_told p rule.comparison v total))

  abbrev checked : Bool
  checked = is_checked m items rule

  appears : Appears p kind numeric r (appears_exp m kind leaves) checked
  appears = appears_is p kind numeric r m leaves (map items (items_of rule)) all

  -- the condition has the fault of the rule at the combination
  pub where_fault : fault_in (value p (failing_where fails (appears_exp m kind leaves)) r) ≡ check_fault p m kind items rule
  where_fault = go (appears_exp m kind leaves) checked appears
    where
      both : Option Fault
      both = join (fault_in t) (fault_in d)

      by_cell : (cell : Cell) (b : Bool) → is_truth cell ≡ true → is_true (Ok cell) ≡ b → fault_in (called p k.Bool (Ok cell ∷ value p fails r ∷ Ok (c.Bool false) ∷ []) op.If) ≡ cond b both None
      by_cell (c.Bool true) b h i = kept (value p fails r) ∙ fails_fault ∙ ap (λ z. cond z both None) i
        where
          kept : (x : Outcome Cell) → fault_in (called p k.Bool (Ok (c.Bool true) ∷ x ∷ Ok (c.Bool false) ∷ []) op.If) ≡ fault_in x
          kept (Ok x) = refl
          kept (Err f) = refl
      by_cell (c.Bool false) b h i = ap (λ z. cond z both None) i
      by_cell c.Null b h i = ap (λ z. cond z both None) i
      by_cell w b h i = cc

      go : (e : Option CompExp) (b : Bool) → Appears p kind numeric r e b → fault_in (value p (failing_where fails e) r) ≡ cond b both None
      go None b i = fails_fault ∙ ap (λ z. cond z both None) i
      go (Some e) b i = ap (λ x. fault_in (called p k.Bool (x ∷ value p fails r ∷ Ok (c.Bool false) ∷ []) op.If)) i.is ∙ by_cell i.cell b i.truth i.told

  -- and it is true where the rule has a point and does not hold
  pub where_told : check_fault p m kind items rule ≡ None → is_true (value p (failing_where fails (appears_exp m kind leaves)) r) ≡ (checked && is_false (cell_or_null t))
  where_told sure = go (appears_exp m kind leaves) checked appears sure
    where
      shown : Bool
      shown = is_false (cell_or_null t)

      both : Option Fault
      both = join (fault_in t) (fault_in d)

      kept : (x : Outcome Cell) → is_true (called p k.Bool (Ok (c.Bool true) ∷ x ∷ Ok (c.Bool false) ∷ []) op.If) ≡ is_true x
      kept (Ok x) = refl
      kept (Err f) = refl

      by_cell : (cell : Cell) (b : Bool) → is_truth cell ≡ true → is_true (Ok cell) ≡ b → cond b both None ≡ None → is_true (called p k.Bool (Ok cell ∷ value p fails r ∷ Ok (c.Bool false) ∷ []) op.If) ≡ (b && shown)
      by_cell (c.Bool true) b h i s = kept (value p fails r) ∙ fails_told (fails_fault ∙ ap (λ z. cond z both None) i ∙ s) ∙ ap (λ z. z && shown) i
      by_cell (c.Bool false) b h i s = ap (λ z. z && shown) i
      by_cell c.Null b h i s = ap (λ z. z && shown) i
      by_cell w b h i s = cc

      go : (e : Option CompExp) (b : Bool) → Appears p kind numeric r e b → cond b both None ≡ None → is_true (value p (failing_where fails e) r) ≡ (b && shown)
      go None b i s = fails_told (fails_fault ∙ ap (λ z. cond z both None) i ∙ s) ∙ ap (λ z. z && shown) i
      go (Some e) b i s = ap (λ x. is_true (called p k.Bool (x ∷ value p fails r ∷ Ok (c.Bool false) ∷ []) op.If)) i.is ∙ by_cell i.cell b i.truth i.told s

  -- ---- the items

  abbrev truth_exp : CompExp
  truth_exp = holds_exp rule left right

  abbrev gap_exp : CompExp
  gap_exp = difference_exp kind left right

  abbrev level : Option ℤ
  level = level_of p rule

  error_cells : (o : CheckOut) → is_shown o (cell_or_null t) ≡ true → point_of p (exps.rule_errors p o rule truth_exp) r ≡ rule_errors p rule (cell_or_null t)
  error_cells out.Invalid h = errors_are p rule.error.code level r ∙ stands (code_cell rule.error.code) (level_cell level) (cell_or_null t) h
  error_cells out.All h = errors_at_are p truth_exp r rule.error.code level ∙ ap (λ x. errors_at (code_cell rule.error.code) (level_cell level) (cell_or_null x)) truth_is
  error_cells out.AllMeasures h = errors_at_are p truth_exp r rule.error.code level ∙ ap (λ x. errors_at (code_cell rule.error.code) (level_cell level) (cell_or_null x)) truth_is

  -- where the point is shown
  pub parts_are : (o : CheckOut) → is_shown o (cell_or_null t) ≡ true → point_of p (check_parts p o m kind rule leaves) r ≡ check_cells p o m kind items rule (cell_or_null t)
  parts_are o h =
      parts_mapped (λ e. cell_or_null (value p e r)) o (left ∷ []) truth_exp (gap_exp ∷ exps.rule_errors p o rule truth_exp)
      ∙ ap (λ x. output_parts o (cell_or_null x ∷ []) (cell_or_null (value p truth_exp r)) (cell_or_null (value p gap_exp r) ∷ point_of p (exps.rule_errors p o rule truth_exp) r)) left_value
      ∙ ap (λ x. output_parts o (v ∷ []) (cell_or_null x) (cell_or_null (value p gap_exp r) ∷ point_of p (exps.rule_errors p o rule truth_exp) r)) truth_is
      ∙ ap (λ x. output_parts o (v ∷ []) (cell_or_null t) (cell_or_null x ∷ point_of p (exps.rule_errors p o rule truth_exp) r)) gap_is
      ∙ ap (λ l. output_parts o (v ∷ []) (cell_or_null t) (cell_or_null d ∷ l)) (error_cells o h)

  with_errors : join (fault_in (value p truth_exp r)) (join (fault_in (value p gap_exp r)) (point_fault p (error_exps_at truth_exp rule.error.code level) r)) ≡ join (fault_in t) (fault_in d)
  with_errors =
      absorbed (fault_in (value p truth_exp r)) (fault_in (value p gap_exp r)) (point_fault p (error_exps_at truth_exp rule.error.code level) r) (errors_at_fault p truth_exp rule.error.code level r)
      ∙ ap (λ x. join (fault_in x) (fault_in (value p gap_exp r))) truth_is
      ∙ ap (λ x. join (fault_in t) (fault_in x)) gap_is

  -- where all points are shown, the items have the fault of the rule
  pub all_fault : point_fault p (check_parts p out.All m kind rule leaves) r ≡ join (fault_in t) (fault_in d)
  all_fault = with_errors

  pub all_measures_fault : point_fault p (check_parts p out.AllMeasures m kind rule leaves) r ≡ join (fault_in t) (fault_in d)
  all_measures_fault = ap (λ x. join (fault_in x) (join (fault_in (value p truth_exp r)) (join (fault_in (value p gap_exp r)) (point_fault p (error_exps_at truth_exp rule.error.code level) r)))) left_value ∙ with_errors

  -- and otherwise that of the difference alone
  pub invalid_fault : point_fault p (check_parts p out.Invalid m kind rule leaves) r ≡ fault_in d
  invalid_fault =
      ap (λ x. join (fault_in x) (join (fault_in (value p gap_exp r)) (point_fault p (error_exps rule.error.code level) r))) left_value
      ∙ ap (join (fault_in (value p gap_exp r))) (errors_sure p rule.error.code level r)
      ∙ join_none (fault_in (value p gap_exp r))
      ∙ ap fault_in gap_is
