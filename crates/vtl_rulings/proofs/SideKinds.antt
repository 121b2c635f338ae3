-- The sides of hierarchical rules are of the kind of the measure.
use Rattle.std.proofs.Common.{◌≡◌, true, [], ◌∷◌, Some, refl}
use Rattle.vtl_decimal.specs.Settings.{Settings}
use Rattle.vtl_cell.specs.Conversion.{as_kind}
use Rattle.vtl_cell.specs.Outcome.{after}
use Rattle.vtl_cell.specs.Outcomes.{result_of}
use Rattle.vtl_cell.specs.ScalarKinds.{meets}
use Rattle.vtl_cell.specs.declared.cell.Cell.{Cell}
use Rattle.vtl_cell.specs.declared.kind.Kind.{Kind}
use Rattle.vtl_cell.specs.declared.kind.Kind.TheVariants as k
use Rattle.vtl_cell.specs.declared.operator.ScalarOp.{ScalarOp}
use Rattle.vtl_cell.specs.declared.operator.ScalarOp.TheVariants as op
use Rattle.vtl_syntax.specs.declared.statements.HierRule.{HierRule}
use Rattle.vtl_syntax.specs.declared.word_groups.Addition.{Addition}
use Rattle.vtl_syntax.specs.declared.word_groups.Addition.TheVariants as sign
use Rattle.vtl_syntax.specs.declared.word_groups.Comparison.{Comparison}
use Rattle.vtl_syntax.specs.declared.word_groups.Comparison.TheVariants as compared
use Rattle.vtl_syntax.specs.declared.word_groups.Mode.{Mode}
use Rattle.vtl_tree.specs.CompExp.{CompExp, call, column, comp_exp, no_comp_exps}
use Rattle.vtl_tree.specs.Measures.{made}
use Rattle.vtl_tree.specs.Value.{value}
use Rattle.vtl_tree.specs.declared.structure.Component.{Component}
use Rattle.vtl_tree.specs.declared.structure.Role.TheVariants as role
use Rattle.vtl_meaning.specs.Made.{IsTyped}
use Rattle.vtl_meaning.proofs.ValueKinds.{GivesOf, IsOf, after_if, null_is_of, value_is_of}
use Rattle.vtl_rulings.specs.HierarchyShapes.{IsNumeric}
use Rattle.vtl_rulings.specs.Modes.{Items, zero_of}
use Rattle.vtl_rulings.specs.Sides.{comparison_op, difference, first_value, holds, left_side, right_side, sign_op}
use Rattle.vtl_rulings.proofs.ChecksKept.{number_is, numeric}
use Rattle.vtl_rulings.proofs.SidesHold.{AllHave, IsKept, left_holds, right_holds}

-- what there is of each item is of this kind
abbrev pub AreOf : Kind → Items → Type 0
AreOf kind items = AllHave (IsOf kind) items

zero_is : (kind : Kind) → IsNumeric kind → IsOf kind (zero_of kind)
zero_is k.Int n = refl
zero_is k.Num n = refl
zero_is k.Null n = absurd n
zero_is k.Bool n = absurd n
zero_is k.Text n = absurd n
zero_is k.Day n = absurd n
zero_is k.Period n = absurd n

module _ (p : Settings) where
  -- ---- operators, by what expressions over columns of these kinds give
  abbrev measure : Kind → Component
  measure kind = made [] role.Measure kind

  abbrev of_one : ScalarOp → Kind → CompExp
  of_one o kind = call o kind (comp_exp (column 0 [] kind) no_comp_exps)

  abbrev of_two : ScalarOp → (given kind : Kind) → CompExp
  of_two o given kind = call o given (comp_exp (column 0 [] kind) (comp_exp (column 1 [] kind) no_comp_exps))

  one_is : (o : ScalarOp) (kind : Kind) (v : Cell) → IsTyped p (measure kind ∷ []) (of_one o kind) → IsOf kind v → GivesOf kind (value p (of_one o kind) (v ∷ []))
  one_is o kind v i h = value_is_of p (measure kind ∷ []) (of_one o kind) (v ∷ []) i (rw h refl)

  two_is : (o : ScalarOp) (given kind : Kind) (u v : Cell) → IsTyped p (measure kind ∷ measure kind ∷ []) (of_two o given kind) → IsOf kind u → IsOf kind v → GivesOf given (value p (of_two o given kind) (u ∷ v ∷ []))
  two_is o given kind u v i h j = value_is_of p (measure kind ∷ measure kind ∷ []) (of_two o given kind) (u ∷ v ∷ []) i (rw h (rw j refl))

  add_typed : (kind : Kind) → IsNumeric kind → (s : Addition) → IsTyped p (measure kind ∷ measure kind ∷ []) (of_two (sign_op s) kind kind)
  add_typed k.Int n sign.Plus = (refl, ((refl, refl), ((refl, refl), tt)), refl)
  add_typed k.Int n sign.Minus = (refl, ((refl, refl), ((refl, refl), tt)), refl)
  add_typed k.Num n sign.Plus = (refl, ((refl, refl), ((refl, refl), tt)), refl)
  add_typed k.Num n sign.Minus = (refl, ((refl, refl), ((refl, refl), tt)), refl)
  add_typed k.Null n s = absurd n
  add_typed k.Bool n s = absurd n
  add_typed k.Text n s = absurd n
  add_typed k.Day n s = absurd n
  add_typed k.Period n s = absurd n

  add_is : (kind : Kind) → IsNumeric kind → (s : Addition) (u v : Cell) → IsOf kind u → IsOf kind v → GivesOf kind (result_of p (sign_op s) kind (u ∷ v ∷ []))
  add_is kind n s u v h j = two_is (sign_op s) kind kind u v (add_typed kind n s) h j

  compare_typed : (kind : Kind) → IsNumeric kind → (o : Comparison) → IsTyped p (measure kind ∷ measure kind ∷ []) (of_two (comparison_op o) k.Bool kind)
  compare_typed k.Int n compared.Equal = (refl, ((refl, refl), ((refl, refl), tt)), refl)
  compare_typed k.Int n compared.Less = (refl, ((refl, refl), ((refl, refl), tt)), refl)
  compare_typed k.Int n compared.LessOrEqual = (refl, ((refl, refl), ((refl, refl), tt)), refl)
  compare_typed k.Int n compared.Greater = (refl, ((refl, refl), ((refl, refl), tt)), refl)
  compare_typed k.Int n compared.GreaterOrEqual = (refl, ((refl, refl), ((refl, refl), tt)), refl)
  compare_typed k.Num n compared.Equal = (refl, ((refl, refl), ((refl, refl), tt)), refl)
  compare_typed k.Num n compared.Less = (refl, ((refl, refl), ((refl, refl), tt)), refl)
  compare_typed k.Num n compared.LessOrEqual = (refl, ((refl, refl), ((refl, refl), tt)), refl)
  compare_typed k.Num n compared.Greater = (refl, ((refl, refl), ((refl, refl), tt)), refl)
  compare_typed k.Num n compared.GreaterOrEqual = (refl, ((refl, refl), ((refl, refl), tt)), refl)
  compare_typed k.Null n o = absurd n
  compare_typed k.Bool n o = absurd n
  compare_typed k.Text n o = absurd n
  compare_typed k.Day n o = absurd n
  compare_typed k.Period n o = absurd n

  -- ---- sides
  signed_is : (kind : Kind) → IsNumeric kind → (s : Addition) (v : Cell) → IsOf kind v → GivesOf kind (first_value p kind (Some s) v)
  signed_is k.Int n sign.Plus v h = one_is op.Identity k.Int v (refl, ((refl, refl), tt), refl) h
  signed_is k.Int n sign.Minus v h = one_is op.Negate k.Int v (refl, ((refl, refl), tt), refl) h
  signed_is k.Num n sign.Plus v h = one_is op.Identity k.Num v (refl, ((refl, refl), tt), refl) h
  signed_is k.Num n sign.Minus v h = one_is op.Negate k.Num v (refl, ((refl, refl), tt), refl) h
  signed_is k.Null n s v h = absurd n
  signed_is k.Bool n s v h = absurd n
  signed_is k.Text n s v h = absurd n
  signed_is k.Day n s v h = absurd n
  signed_is k.Period n s v h = absurd n

  pub kinds_kept : (kind : Kind) → IsNumeric kind → IsKept p kind (IsOf kind)
  kinds_kept kind n = record { null = null_is_of kind; nothing = zero_is kind n; signed = signed_is kind n; added = add_is kind n }

  numbers_meet : (kind : Kind) → IsNumeric kind → meets k.Num kind ≡ true
  numbers_meet k.Int n = refl
  numbers_meet k.Num n = refl
  numbers_meet k.Null n = refl
  numbers_meet k.Bool n = absurd n
  numbers_meet k.Text n = absurd n
  numbers_meet k.Day n = absurd n
  numbers_meet k.Period n = absurd n

  module _ (m : Mode) (kind : Kind) (n : IsNumeric kind) (items : Items) (are : AreOf kind items) (r : HierRule) where
    pub left_is : IsOf kind (left_side m kind items r)
    left_is = left_holds p kind (IsOf kind) (kinds_kept kind n) m items are r

    pub right_is : GivesOf kind (right_side p m kind items r)
    right_is = right_holds p kind (IsOf kind) (kinds_kept kind n) m items are r

    pub holds_is : GivesOf k.Bool (holds p m kind items r)
    holds_is =
        let left = left_side m kind items r in
        after_if (right_side p m kind items r) (λ v. result_of p (comparison_op r.comparison) k.Bool (left ∷ v ∷ [])) (IsOf kind) (IsOf k.Bool) right_is
        (λ v i. two_is (comparison_op r.comparison) k.Bool kind left v (compare_typed kind n r.comparison) left_is i)

    pub difference_is : GivesOf k.Num (difference p m kind items r)
    difference_is =
        let left = left_side m kind items r in
        after_if (right_side p m kind items r) (λ v. after (result_of p op.Subtract kind (left ∷ v ∷ [])) (as_kind p k.Num)) (IsOf kind) (IsOf k.Num) right_is
        (λ v i. after_if (result_of p op.Subtract kind (left ∷ v ∷ [])) (as_kind p k.Num) (IsOf kind) (IsOf k.Num) (add_is kind n sign.Minus left v left_is i) (λ x j. number_is p x (numeric kind x (numbers_meet kind n) j)))
