-- The value of an expression is the same where all that it names is known.
use Rattle.lineage_laws.proofs.Rows.{known_parts}
use Rattle.lineage_laws.specs.Agree.{IsKnown, Known}
use Rattle.std.proofs.Common.{◌≡◌, ℕ, List, [], ◌∷◌, ◌++◌, Ok, Option, None, Some, refl, ap}
use Rattle.std.specs.Option.{option_map_or}
use Rattle.vtl_cell.specs.Outcome.{Outcome}
use Rattle.vtl_cell.specs.Row.{Row, column_of}
use Rattle.vtl_cell.specs.declared.cell.Cell.{Cell}
use Rattle.vtl_decimal.specs.Settings.{Settings}
use Rattle.vtl_meaning.specs.GroupExpressions.{value_over, values_over}
use Rattle.vtl_tree.specs.CompExp.{CompExp, CompExps, column, const, call, aggregate, no_comp_exps, comp_exp}
use Rattle.vtl_tree.specs.Value.{called, value, values}
use Rattle.vtl_tree.specs.View.{comp_exps_of}
use Rattle.vtl_tree.specs.declared.expression.AggCall.{AggCall}
use Rattle.vtl_sources.specs.Links.{Pairs}
use Rattle.lineage_laws.specs.Over.{Operand, source_at, source_if_named, with_expression, with_expressions}

-- what stood there is known where all is
module _ (known : Known) (a : Operand) where
  mutual
    pub expression_known : (before : Pairs) (e : CompExp) → IsKnown known (with_expression a before e) → IsKnown known before
    expression_known before (column place name kind) h = (known_parts known before (source_at a place) h).0
    expression_known before (const v) h = h
    expression_known before (call o kind args) h = expressions_known before args h
    expression_known before (aggregate x kind) h = (known_parts known before (source_if_named a x.component) h).0

    pub expressions_known : (before : Pairs) (es : CompExps) → IsKnown known (with_expressions a before es) → IsKnown known before
    expressions_known before no_comp_exps h = h
    expressions_known before (comp_exp e es) h = expression_known before e (expressions_known (with_expression a before e) es h)

  pub condition_known : (o : Option CompExp) → IsKnown known (option_map_or (with_expression a a.sources.points) o a.sources.points) → IsKnown known a.sources.points
  condition_known None h = h
  condition_known (Some e) h = expression_known a.sources.points e h

module _ (known : Known) (p : Settings) (a : Operand) (r q : Row) (at : (i : ℕ) → IsKnown known (source_at a i) → column_of i r ≡ column_of i q) where
  mutual
    pub value_same : (before : Pairs) (e : CompExp) → IsKnown known (with_expression a before e) → value p e r ≡ value p e q
    value_same before (column place name kind) h = ap (λ (v : Cell). Ok v) (at place (known_parts known before (source_at a place) h).1)
    value_same before (const v) h = refl
    value_same before (call o kind args) h = ap (λ vs. called p kind vs o) (values_same before args h)
    value_same before (aggregate x kind) h = refl

    pub values_same : (before : Pairs) (es : CompExps) → IsKnown known (with_expressions a before es) → values p es r ≡ values p es q
    values_same before no_comp_exps h = refl
    values_same before (comp_exp e es) h =
        λ i. value_same before e (expressions_known known a (with_expression a before e) es h) i ∷ values_same (with_expression a before e) es h i

  -- with an expression between others
  pub values_between : (before : Pairs) (x : CompExp) (front behind : List CompExp) → IsKnown known (with_expressions a before (comp_exps_of front)) → value p x r ≡ value p x q → values p (comp_exps_of behind) r ≡ values p (comp_exps_of behind) q
      → values p (comp_exps_of (front ++ x ∷ behind)) r ≡ values p (comp_exps_of (front ++ x ∷ behind)) q
  values_between before x [] behind h e f = λ i. e i ∷ f i
  values_between before x (y ∷ front) behind h e f =
      λ i. value_same before y (expressions_known known a (with_expression a before y) (comp_exps_of front) h) i ∷ values_between (with_expression a before y) x front behind h e f i

-- over groups, where aggregates of what is known are the same
module _ (known : Known) (p : Settings) (a : Operand) (columns : ℕ → List ℕ → Cell) (calls others : AggCall → Outcome Cell) (at : (x : AggCall) → IsKnown known (source_if_named a x.component) → calls x ≡ others x) where
  mutual
    pub value_over_same : (before : Pairs) (e : CompExp) → IsKnown known (with_expression a before e) → value_over p columns calls e ≡ value_over p columns others e
    value_over_same before (column place name kind) h = refl
    value_over_same before (const v) h = refl
    value_over_same before (call o kind args) h = ap (λ vs. called p kind vs o) (values_over_same before args h)
    value_over_same before (aggregate x kind) h = at x (known_parts known before (source_if_named a x.component) h).1

    values_over_same : (before : Pairs) (es : CompExps) → IsKnown known (with_expressions a before es) → values_over p columns calls es ≡ values_over p columns others es
    values_over_same before no_comp_exps h = refl
    values_over_same before (comp_exp e es) h =
        λ i. value_over_same before e (expressions_known known a (with_expression a before e) es h) i ∷ values_over_same (with_expression a before e) es h i
