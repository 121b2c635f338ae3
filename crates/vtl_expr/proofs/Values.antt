-- The values of operators on prepared operands.
use Rattle.std.proofs.Common.{◌≡◌, ◌==◌, Bool, true, false, Option, Some, arith, suc, ℕ, List, [], ◌∷◌, ◌++◌, length, get_or, map, Result, Ok, Err, subst, refl, sym, ap, ◌∙◌}
use Rattle.std.proofs.lemmas.Bool.{eqb-true}
use Rattle.vtl_cell.specs.Conversion.{as_kind}
use Rattle.vtl_decimal.specs.declared.number.Fault.{Fault}
use Rattle.vtl_decimal.specs.declared.number.Fault.TheVariants.{DivZero, Range}
use Rattle.vtl_cell.specs.Outcome.{Outcome, after}
use Rattle.vtl_cell.specs.Outcomes.{all_of, branch, first_chosen, result_of}
use Rattle.vtl_decimal.specs.Settings.{Settings}
use Rattle.vtl_cell.specs.declared.cell.Cell.{Cell}
use Rattle.vtl_cell.specs.declared.kind.Kind.{Kind}
use Rattle.vtl_cell.specs.declared.operator.ScalarOp.{ScalarOp}
use Rattle.vtl_cell.specs.declared.operator.ScalarOp.TheVariants as op
use Rattle.vtl_scalar.specs.Answers.{AnswersBy}
use Rattle.vtl_scalar.specs.declared.error.ScalarErr.TheVariants as err
use Rattle.vtl_scalar.specs.declared.error.ScalarErr.{ScalarErr}
use Rattle.vtl_tree.specs.Value.{called, is_choice}
use Rattle.vtl_tree.specs.View.{comp_exps_of}
use Rattle.vtl_tree.specs.declared.expression.AggCall.{AggCall}
use Rattle.vtl_meaning.specs.GroupExpressions.{value_over, values_over}
use Rattle.vtl_expr.specs.Prepared.{prepared_exp}
use Rattle.vtl_expr.specs.declared.prepared.Prepared.{Prepared}

-- ---- answers
pub AnswersBy_same : {A B : Type 0} (view : A → B) (r : Result A ScalarErr) (m n : Outcome B) → n ≡ m → AnswersBy view r m → AnswersBy view r n
AnswersBy_same view r m n e a = subst (λ o. AnswersBy view r o) (sym e) a

-- a fault that `?` hands on
pub AnswersBy_passed : {A B C D : Type 0} (from : A → B) (to : C → D) (e : ScalarErr) (r : Result C ScalarErr) (m : Outcome B) (n : Outcome D) → AnswersBy from (Err e) m → r ≡ Err e → ((f : Fault) → m ≡ Err f → n ≡ Err f) → AnswersBy to r n
AnswersBy_passed from to err.DivZero r m n a is passes = subst (λ s. AnswersBy to s n) (sym is) (passes DivZero a)
AnswersBy_passed from to err.Range r m n a is passes = subst (λ s. AnswersBy to s n) (sym is) (passes Range a)
AnswersBy_passed from to err.OutOfMemory r m n a is passes = subst (λ s. AnswersBy to s n) (sym is) tt

pub after_fault : {A B : Type 0} (m : Outcome A) (g : A → Outcome B) (f : Fault) → m ≡ Err f → after m g ≡ Err f
after_fault m g f e = ap (λ o. after o g) e

pub after_value : {A B : Type 0} (m : Outcome A) (g : A → Outcome B) (x : A) → m ≡ Ok x → after m g ≡ g x
after_value m g x e = ap (λ o. after o g) e

-- ---- calls that are a choice, and calls that are none
pub no_choice : (p : Settings) (kind : Kind) (o : ScalarOp) (ms : List (Outcome Cell)) → is_choice o (length ms) ≡ false → called p kind ms o ≡ after (all_of ms) (result_of p o kind)
no_choice p kind op.If (x ∷ y ∷ z ∷ []) h = cc
no_choice p kind o [] h = refl
no_choice p kind o (x ∷ []) h = refl
no_choice p kind o (x ∷ y ∷ []) h = refl
no_choice p kind o (x ∷ y ∷ z ∷ []) h = refl
no_choice p kind o (x ∷ y ∷ z ∷ w ∷ more) h = refl

two_of : {B : Type 0} (m n : Outcome Cell) (f : List Cell → Outcome B) → after (all_of (m ∷ n ∷ [])) f ≡ after m (λ x. after n (λ y. f (x ∷ y ∷ [])))
two_of (Ok x) (Ok y) f = refl
two_of (Ok x) (Err e) f = refl
two_of (Err e) n f = refl

three_of : {B : Type 0} (m n o : Outcome Cell) (f : List Cell → Outcome B) → after (all_of (m ∷ n ∷ o ∷ [])) f ≡ after m (λ x. after n (λ y. after o (λ z. f (x ∷ y ∷ z ∷ []))))
three_of (Ok x) (Ok y) (Ok z) f = refl
three_of (Ok x) (Ok y) (Err e) f = refl
three_of (Ok x) (Err e) o f = refl
three_of (Err e) n o f = refl

other_number : (o : ScalarOp) (n : ℕ) → (n == 3) ≡ false → is_choice o n ≡ false
other_number op.If n h = h
other_number other n h = refl

module _ (p : Settings) (columns : ℕ → List ℕ → Cell) (aggregates : AggCall → Outcome Cell) where
  abbrev pub of_item : Prepared → Outcome Cell
  of_item x = value_over p columns aggregates (prepared_exp x)

  abbrev pub of_items : List Prepared → List (Outcome Cell)
  of_items args = values_over p columns aggregates (comp_exps_of (map prepared_exp args))

  pub no_operands_chosen : (kind : Kind) (o : ScalarOp) (args : List Prepared) → ¬ (length args ≡ 3) → called p kind (of_items args) o ≡ after (all_of (of_items args)) (result_of p o kind)
  no_operands_chosen kind o args h = no_choice p kind o (of_items args) (other_number o (length (of_items args)) (ap (λ n. n == 3) (as_many args) ∙ not_three (length args == 3) refl))
    where
      not_three : (b : Bool) → (length args == 3) ≡ b → (length args == 3) ≡ false
      not_three true e = absurd (h (eqb-true (length args) 3 e))
      not_three false e = e

      as_many : (xs : List Prepared) → length (of_items xs) ≡ length xs
      as_many [] = refl
      as_many (x ∷ xs) = ap suc (as_many xs)

  pub two_value : (kind : Kind) (o : ScalarOp) (args : List Prepared) → length args ≡ 2 → (x : Prepared) → x ≡ get_or args 0 x → (y : Prepared) → y ≡ get_or args 1 y → called p kind (of_items args) o ≡ after (of_item x) (λ v. after (of_item y) (λ w. result_of p o kind (v ∷ w ∷ [])))
  two_value kind o [] h x at y at_y = absurd (omega (arith, h))
  two_value kind o (a ∷ []) h x at y at_y = absurd (omega (arith, h))
  two_value kind o (a ∷ b ∷ c ∷ more) h x at y at_y = absurd (omega (arith, h))
  two_value kind o (a ∷ b ∷ []) h x at y at_y =
      no_choice p kind o (of_item a ∷ of_item b ∷ []) (other_number o 2 refl) ∙ two_of (of_item a) (of_item b) (result_of p o kind)
      ∙ ap (λ t. after (of_item t) (λ v. after (of_item b) (λ w. result_of p o kind (v ∷ w ∷ [])))) (sym at)
      ∙ ap (λ t. after (of_item x) (λ v. after (of_item t) (λ w. result_of p o kind (v ∷ w ∷ [])))) (sym at_y)

  pub three_value : (kind : Kind) (o : ScalarOp) (args : List Prepared) → length args ≡ 3 → is_choice o 3 ≡ false → (x : Prepared) → x ≡ get_or args 0 x → (y : Prepared) → y ≡ get_or args 1 y → (z : Prepared) → z ≡ get_or args 2 z
      → called p kind (of_items args) o ≡ after (of_item x) (λ v. after (of_item y) (λ w. after (of_item z) (λ u. result_of p o kind (v ∷ w ∷ u ∷ []))))
  three_value kind o [] h none x at y at_y z at_z = absurd (omega (arith, h))
  three_value kind o (a ∷ []) h none x at y at_y z at_z = absurd (omega (arith, h))
  three_value kind o (a ∷ b ∷ []) h none x at y at_y z at_z = absurd (omega (arith, h))
  three_value kind o (a ∷ b ∷ c ∷ d ∷ more) h none x at y at_y z at_z = absurd (omega (arith, h))
  three_value kind o (a ∷ b ∷ c ∷ []) h none x at y at_y z at_z =
      no_choice p kind o (of_item a ∷ of_item b ∷ of_item c ∷ []) none ∙ three_of (of_item a) (of_item b) (of_item c) (result_of p o kind)
      ∙ ap (λ t. after (of_item t) (λ v. after (of_item b) (λ w. after (of_item c) (λ u. result_of p o kind (v ∷ w ∷ u ∷ []))))) (sym at)
      ∙ ap (λ t. after (of_item x) (λ v. after (of_item t) (λ w. after (of_item c) (λ u. result_of p o kind (v ∷ w ∷ u ∷ []))))) (sym at_y)
      ∙ ap (λ t. after (of_item x) (λ v. after (of_item y) (λ w. after (of_item t) (λ u. result_of p o kind (v ∷ w ∷ u ∷ []))))) (sym at_z)

  -- ---- a choice
  abbrev chosen : Kind → Outcome Cell → Outcome Cell → Cell → Outcome Cell
  chosen kind a b t = after (branch (first_chosen t) a b) (as_kind p kind)

  three_items : (kind : Kind) (o : ScalarOp) (args : List Prepared) → length args ≡ 3 → is_choice o 3 ≡ true → (x y z : Prepared) → called p kind (of_items args) o ≡ after (of_item (get_or args 0 x)) (chosen kind (of_item (get_or args 1 y)) (of_item (get_or args 2 z)))
  three_items kind op.If (a ∷ b ∷ c ∷ []) h i x y z = refl
  three_items kind op.If [] h i x y z = absurd (omega (arith, h))
  three_items kind op.If (a ∷ []) h i x y z = absurd (omega (arith, h))
  three_items kind op.If (a ∷ b ∷ []) h i x y z = absurd (omega (arith, h))
  three_items kind op.If (a ∷ b ∷ c ∷ d ∷ more) h i x y z = absurd (omega (arith, h))
  three_items kind o args h i x y z = cc

  module _ (kind : Kind) (o : ScalarOp) (args : List Prepared) (h : length args ≡ 3) (i : is_choice o 3 ≡ true) (x : Prepared) (at : x ≡ get_or args 0 x) where
    choice_is : (y z : Prepared) → called p kind (of_items args) o ≡ after (of_item x) (chosen kind (of_item (get_or args 1 y)) (of_item (get_or args 2 z)))
    choice_is y z = three_items kind o args h i x y z ∙ ap (λ t. after (of_item t) (chosen kind (of_item (get_or args 1 y)) (of_item (get_or args 2 z)))) (sym at)

    module _ (t : Cell) (e : of_item x ≡ Ok t) where
      pub choice_value : (b : Option Bool) → b ≡ first_chosen t → (y z : Prepared) → called p kind (of_items args) o ≡ after (branch b (of_item (get_or args 1 y)) (of_item (get_or args 2 z))) (as_kind p kind)
      choice_value b is y z =
          choice_is y z ∙ after_value (of_item x) (chosen kind (of_item (get_or args 1 y)) (of_item (get_or args 2 z))) t e
          ∙ ap (λ d. after (branch d (of_item (get_or args 1 y)) (of_item (get_or args 2 z))) (as_kind p kind)) (sym is)

      pub choice_first : Some true ≡ first_chosen t → (y : Prepared) → y ≡ get_or args 1 y → called p kind (of_items args) o ≡ after (of_item y) (as_kind p kind)
      choice_first is y at_y = choice_value (Some true) is y y ∙ ap (λ w. after (of_item w) (as_kind p kind)) (sym at_y)

  -- ---- all operands, one after the other: what comes of those that are left, behind the values of others
  abbrev pub rest : List Prepared → List Cell → Outcome (List Cell)
  rest args done = after (all_of (of_items args)) (λ vs. Ok (done ++ vs))
