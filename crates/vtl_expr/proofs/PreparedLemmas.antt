-- Expressions that are prepared have the values of their trees.
use Rattle.std.proofs.Common.{rules, Box, Global, ◌≡◌, Bool, true, false, Option, Some, None, ℕ, ◌+◌, ◌<◌, arith, List, [], ◌∷◌, ◌++◌, length, get_or, take, drop, map, Ok, Err, refl, sym, ap, ◌∙◌}
use Rattle.std.proofs.lemmas.List.{map_more, map-append}
use Rattle.vtl_cell.specs.Conversion.{as_kind}
use Rattle.vtl_cell.specs.Outcome.{Outcome, after}
use Rattle.vtl_cell.specs.Outcomes.{all_of, result_of}
use Rattle.vtl_lists.specs.Perm.{Perm}
use Rattle.vtl_cell.specs.ScalarComparison.{membership_of, truth}
use Rattle.vtl_decimal.specs.Settings.{Settings}
use Rattle.vtl_cell.specs.declared.cell.Cell.{Cell}
use Rattle.vtl_cell.specs.declared.kind.Kind.{Kind}
use Rattle.vtl_cell.specs.declared.kind.Kind.TheVariants as k
use Rattle.vtl_scalar.proofs.MemberLemmas.{membership_of_perm}
use Rattle.vtl_tree.specs.CompExp.{CompExp, call, comp_exp, const}
use Rattle.vtl_tree.specs.Value.{is_choice}
use Rattle.vtl_tree.specs.View.{comp_exp_of, comp_exps_of}
use Rattle.vtl_tree.specs.declared.expression.AggCall.{AggCall}
use Rattle.vtl_tree.specs.declared.expression.CompExpr.{CompExpr}
use Rattle.vtl_meaning.specs.GroupExpressions.{value_over, values_over}
use Rattle.vtl_expr.specs.Prepared.{SameValue, SameValues, asked, constants, membership_op, prepared_exp}
use Rattle.vtl_expr.specs.declared.prepared.Prepared.{Prepared, Membership, the_lemmas}
use Rattle.vtl_expr.proofs.Values.{no_choice}

prepared-Membership : (is_in : Bool) (operand : Box Prepared Global) (members : List Cell) → prepared_exp (Membership is_in operand members) ≡ call (membership_op is_in) k.Bool (comp_exp (prepared_exp operand.value) (constants members))
prepared-Membership is_in operand members = search (rules, the_lemmas)

-- ---- a set of constants
module _ (p : Settings) (columns : ℕ → List ℕ → Cell) (aggregates : AggCall → Outcome Cell) where
  constant_values : (vs : List Cell) → all_of (values_over p columns aggregates (constants vs)) ≡ Ok vs
  constant_values [] = refl
  constant_values (v ∷ vs) = ap (λ m. after m (λ l. Ok (v ∷ l))) (constant_values vs)

  truth_stays : (kind : Kind) (b : Option Bool) → as_kind p kind (truth b) ≡ Ok (truth b)
  truth_stays k.Num (Some b) = refl
  truth_stays k.Num None = refl
  truth_stays other b = refl

  abbrev pub answer : Bool → List Cell → Cell → Outcome Cell
  answer b vs a = Ok (truth (asked b (membership_of p (a ∷ vs))))

  asked_of : (b : Bool) (kind : Kind) (vs : List Cell) (a : Cell) → result_of p (membership_op b) kind (a ∷ vs) ≡ answer b vs a
  asked_of true kind vs a = truth_stays kind (asked true (membership_of p (a ∷ vs)))
  asked_of false kind vs a = truth_stays kind (asked false (membership_of p (a ∷ vs)))

  set_step : (b : Bool) (kind : Kind) (vs : List Cell) (m : Outcome Cell) → after (all_of (m ∷ values_over p columns aggregates (constants vs))) (result_of p (membership_op b) kind) ≡ after m (answer b vs)
  set_step b kind vs (Ok a) = ap (λ l. after (after l (λ ws. Ok (a ∷ ws))) (result_of p (membership_op b) kind)) (constant_values vs) ∙ asked_of b kind vs a
  set_step b kind vs (Err f) = refl

  no_choice_in : (b : Bool) (n : ℕ) → is_choice (membership_op b) n ≡ false
  no_choice_in true n = refl
  no_choice_in false n = refl

  set_value : (b : Bool) (kind : Kind) (e : CompExp) (vs : List Cell) → value_over p columns aggregates (call (membership_op b) kind (comp_exp e (constants vs))) ≡ after (value_over p columns aggregates e) (answer b vs)
  set_value b kind e vs =
      let ms = value_over p columns aggregates e ∷ values_over p columns aggregates (constants vs) in
      no_choice p kind (membership_op b) ms (no_choice_in b (length ms)) ∙ set_step b kind vs (value_over p columns aggregates e)

  same_answer : (b : Bool) (vs ws : List Cell) → Perm vs ws → (m : Outcome Cell) → after m (answer b vs) ≡ after m (answer b ws)
  same_answer b vs ws perm (Ok a) = ap (λ found. Ok (truth (asked b found))) (membership_of_perm p a vs ws perm)
  same_answer b vs ws perm (Err f) = refl

pub membership_value : (p : Settings) (columns : ℕ → List ℕ → Cell) (aggregates : AggCall → Outcome Cell) (e : Prepared) (b : Bool) (operand : Box Prepared Global) (members : List Cell) → e ≡ Membership b operand members → (x : Prepared) → x ≡ operand.value → value_over p columns aggregates (prepared_exp e) ≡ after (value_over p columns aggregates (prepared_exp x)) (answer p columns aggregates b members)
membership_value p columns aggregates e b operand members is x at =
    let outcome = value_over p columns aggregates in
    ap (λ f. outcome (prepared_exp f)) is
    ∙ ap outcome (prepared-Membership b operand members)
    ∙ set_value p columns aggregates b k.Bool (prepared_exp operand.value) members
    ∙ ap (λ y. after (outcome (prepared_exp y)) (answer p columns aggregates b members)) (sym at)

pub boxed_first : (operand : Box Prepared Global) (x : Prepared) (args : List Prepared) → operand.value ≡ x → x ≡ get_or args 0 x → operand.value ≡ get_or args 0 operand.value
boxed_first operand x args same at = same ∙ at ∙ ap (get_or args 0) (sym same)

pub same_set : (b : Bool) (operand : Box Prepared Global) (args : List Prepared) (listed members : List Cell) → 0 < length args → operand.value ≡ get_or args 0 operand.value → map prepared_exp (drop 1 args) ≡ map const listed → Perm members listed → (kind : Kind) → SameValue (prepared_exp (Membership b operand members)) (call (membership_op b) kind (comp_exps_of (map prepared_exp args)))
same_set b operand [] listed members some at are perm kind p columns aggregates = absurd (omega (arith, some))
same_set b operand (x ∷ xs) listed members some at are perm kind p columns aggregates =
    let e = prepared_exp operand.value in
    let outcome = value_over p columns aggregates in
    ap outcome (prepared-Membership b operand members)
    ∙ set_value p columns aggregates b k.Bool e members
    ∙ same_answer p columns aggregates b members listed perm (outcome e)
    ∙ sym (set_value p columns aggregates b kind e listed)
    ∙ ap (λ es. outcome (call (membership_op b) kind (comp_exp e (comp_exps_of es)))) (sym are)
    ∙ ap (λ f. outcome (call (membership_op b) kind (comp_exp (prepared_exp f) (comp_exps_of (map prepared_exp xs))))) at

-- ---- the expressions of a list, one by one
module _ (p : Settings) (columns : ℕ → List ℕ → Cell) (aggregates : AggCall → Outcome Cell) where
  abbrev outcome : CompExp → Outcome Cell
  outcome = value_over p columns aggregates

  abbrev all : List CompExp → List (Outcome Cell)
  all es = values_over p columns aggregates (comp_exps_of es)

  values_append : (es fs : List CompExp) → all (es ++ fs) ≡ all es ++ all fs
  values_append [] fs = refl
  values_append (e ∷ es) fs = ap (λ l. outcome e ∷ l) (values_append es fs)

  values_more : (done : List Prepared) (x : Prepared) (es : List CompExpr) (i : ℕ) (e : CompExpr) → i < length es → e ≡ get_or es i e → all (map prepared_exp done) ≡ all (map comp_exp_of (take i es)) → outcome (prepared_exp x) ≡ outcome (comp_exp_of e)
      → all (map prepared_exp (done ++ x ∷ [])) ≡ all (map comp_exp_of (take (i + 1) es))
  values_more done x es i e h at before one =
      let more = map comp_exp_of (take i es) in
      ap all (map-append prepared_exp done (x ∷ []))
      ∙ values_append (map prepared_exp done) (prepared_exp x ∷ [])
      ∙ ap (λ l. l ++ outcome (prepared_exp x) ∷ []) before
      ∙ ap (λ v. all more ++ v ∷ []) one
      ∙ ap (λ y. all more ++ outcome (comp_exp_of y) ∷ []) at
      ∙ sym (values_append more (comp_exp_of (get_or es i e) ∷ []))
      ∙ sym (ap all (map_more comp_exp_of es i e h))

pub same_more : (done : List Prepared) (x : Prepared) (es : List CompExpr) (i : ℕ) (e : CompExpr) → i < length es → e ≡ get_or es i e → SameValues (map prepared_exp done) (map comp_exp_of (take i es)) → SameValue (prepared_exp x) (comp_exp_of e) → SameValues (map prepared_exp (done ++ x ∷ [])) (map comp_exp_of (take (i + 1) es))
same_more done x es i e h at before one p columns aggregates = values_more p columns aggregates done x es i e h at (before p columns aggregates) (one p columns aggregates)
