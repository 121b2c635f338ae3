-- Where a condition is true, so are the parts that `and` joins, and an equality of two columns has equal values.
use Rattle.std.proofs.Common.{rules, Global, Vec, ◌≡◌, ℕ, zero, suc, ◌<◌, Bool, true, false, List, [], ◌∷◌, length, get_or, map, Option, Some, None, Ok, Err, refl, sym, ap, ◌∙◌, subst, arith, true≢false}
use Rattle.std.specs.List.{AllByRecursion}
use Rattle.std.specs.Ordering.{is_eq}
use Rattle.vtl_decimal.specs.Settings.{Settings}
use Rattle.vtl_decimal.specs.Range.{fit_number}
use Rattle.vtl_cell.specs.Conversion.{as_kind}
use Rattle.vtl_cell.specs.Logic.{and_of}
use Rattle.vtl_cell.specs.Outcome.{Outcome, after}
use Rattle.vtl_cell.specs.Outcomes.{all_of, is_true, result_of}
use Rattle.vtl_cell.specs.Row.{Row, column_of}
use Rattle.vtl_cell.specs.ScalarArithmetic.{number, units}
use Rattle.vtl_cell.specs.ScalarChoice.{on_truths, truth_in}
use Rattle.vtl_cell.specs.ScalarComparison.{compared, truth}
use Rattle.vtl_cell.specs.declared.cell.Cell.{Cell}
use Rattle.vtl_cell.specs.declared.cell.Cell.TheVariants as c
use Rattle.vtl_cell.specs.declared.kind.Kind.{Kind}
use Rattle.vtl_cell.specs.declared.kind.Kind.TheVariants as k
use Rattle.vtl_cell.specs.declared.operator.ScalarOp.{ScalarOp}
use Rattle.vtl_cell.specs.declared.operator.ScalarOp.TheVariants as op
use Rattle.vtl_text.specs.declared.shared_text.Txt.{Txt}
use Rattle.vtl_tree.specs.CompExp.{CompExp, call, column}
use Rattle.vtl_tree.specs.Value.{called, value, values}
use Rattle.vtl_tree.specs.View.{comp_exp_of, comp_exps_of}
use Rattle.vtl_tree.specs.declared.expression.CompExpr.{Apply, Column, CompExpr, the_lemmas}
use Rattle.vtl_expr.proofs.Values.{no_choice}
use Rattle.vtl_join_filter.specs.declared.equated.Equated.{Equated}
use Rattle.vtl_join_filter.specs.Equalities.{Equates, Implies, is_conjunction, is_equality}

-- ---- a value that is true
true_before : (p : Settings) (kind : Kind) (v : Cell) → is_true (as_kind p kind v) ≡ true → is_true (Ok v) ≡ true
true_before p kind (c.Bool b) h = bool kind h
  where
    bool : (kind : Kind) → is_true (as_kind p kind (c.Bool b)) ≡ true → b ≡ true
    bool k.Num h = h
    bool k.Null h = h
    bool k.Bool h = h
    bool k.Int h = h
    bool k.Text h = h
    bool k.Day h = h
    bool k.Period h = h
true_before p k.Num (c.Int n) h = absurd (no_number (fit_number (units p n)) h)
  where
    no_number : (m : _) → is_true (number m) ≡ true → ⊥
    no_number (Ok x) h = cc
    no_number (Err g) h = cc
true_before p k.Num v h = cc
true_before p kind v h = cc

true_scalar : (p : Settings) (kind : Kind) (m : Outcome Cell) → is_true (after m (as_kind p kind)) ≡ true → is_true m ≡ true
true_scalar p kind (Ok v) h = true_before p kind v h
true_scalar p kind (Err g) h = cc

-- ---- `and`
both_true : (a b : Option (Option Bool)) → is_true (Ok (on_truths and_of a b)) ≡ true → (a ≡ Some (Some true)) × (b ≡ Some (Some true))
both_true None b h = cc
both_true (Some a) None h = cc
both_true (Some (Some true)) (Some (Some true)) h = (refl, refl)
both_true (Some (Some true)) (Some (Some false)) h = cc
both_true (Some (Some true)) (Some None) h = cc
both_true (Some (Some false)) (Some b) h = cc
both_true (Some None) (Some (Some true)) h = cc
both_true (Some None) (Some (Some false)) h = cc
both_true (Some None) (Some None) h = cc

truth_is : (v : Cell) → truth_in v ≡ Some (Some true) → is_true (Ok v) ≡ true
truth_is (c.Bool true) h = refl
truth_is (c.Bool false) h = cc
truth_is v h = cc

both_are : (u v : Cell) → is_true (Ok (on_truths and_of (truth_in u) (truth_in v))) ≡ true → (is_true (Ok u) ≡ true) × (is_true (Ok v) ≡ true)
both_are u v h =
    let both = both_true (truth_in u) (truth_in v) h in
    (truth_is u both.0, truth_is v both.1)

-- more than two operands have no truth
module _ (p : Settings) (kind : Kind) where
  more_null : (a b d : Cell) (m : Outcome (List Cell)) → is_true (after (after (after (after m (λ vs. Ok (d ∷ vs))) (λ vs. Ok (b ∷ vs))) (λ vs. Ok (a ∷ vs))) (result_of p op.And kind)) ≡ true → ⊥
  more_null a b d (Ok []) h = true≢false (sym (true_scalar p kind (Ok c.Null) h))
  more_null a b d (Ok (v ∷ vs)) h = true≢false (sym (true_scalar p kind (Ok c.Null) h))
  more_null a b d (Err f) h = true≢false (sym h)

  each_operand : (ms : List (Outcome Cell)) → is_true (after (all_of ms) (result_of p op.And kind)) ≡ true → AllByRecursion (λ m. is_true m ≡ true) ms
  each_operand [] h = tt
  each_operand (Ok u ∷ []) h = absurd (true≢false (sym (true_scalar p kind (Ok c.Null) h)))
  each_operand (Err f ∷ ms) h = absurd (true≢false (sym h))
  each_operand (Ok u ∷ Ok v ∷ []) h =
      let both = both_are u v (true_scalar p kind (Ok (on_truths and_of (truth_in u) (truth_in v))) h) in
      (both.0, (both.1, tt))
  each_operand (Ok u ∷ Err f ∷ ms) h = absurd (true≢false (sym h))
  each_operand (Ok a ∷ Ok b ∷ Ok d ∷ ms) h = absurd (more_null a b d (all_of ms) h)
  each_operand (Ok a ∷ Ok b ∷ Err f ∷ ms) h = absurd (true≢false (sym h))

  and_true : (ms : List (Outcome Cell)) → is_true (called p kind ms op.And) ≡ true → AllByRecursion (λ m. is_true m ≡ true) ms
  and_true ms h = each_operand ms (ap is_true (sym (no_choice p kind op.And ms refl)) ∙ h)

each_true : (p : Settings) (es : List CompExp) (r : Row) → AllByRecursion (λ m. is_true m ≡ true) (values p (comp_exps_of es) r) → AllByRecursion (λ e. is_true (value p e r) ≡ true) es
each_true p [] r h = tt
each_true p (e ∷ es) r h = (h.0, each_true p es r h.1)

-- each operand of `and` is true wherever the call is
pub operands_implied : (p : Settings) (e : CompExp) (kind : Kind) (es : List CompExp) → Implies p e (call op.And kind (comp_exps_of es)) → AllByRecursion (Implies p e) es
operands_implied p e kind es h = go es (λ r t. each_true p es r (and_true p kind (values p (comp_exps_of es) r) (h r t)))
  where
    go : (fs : List CompExp) → ((r : Row) → is_true (value p e r) ≡ true → AllByRecursion (λ f. is_true (value p f r) ≡ true) fs) → AllByRecursion (Implies p e) fs
    go [] h = tt
    go (f ∷ fs) h = ((λ r t. (h r t).0), go fs (λ r t. (h r t).1))

-- ---- lists
pub all_at : {X Y : Type 0} (P : Y → Type 0) (f : X → Y) (xs : List X) (i : ℕ) (x : X) → AllByRecursion P (map f xs) → i < length xs → x ≡ get_or xs i x → P (f x)
all_at P f [] i x h within e = absurd (omega arith)
all_at P f (y ∷ ys) zero x h within e = subst (λ z. P (f z)) (sym e) h.0
all_at P f (y ∷ ys) (suc i) x h within e = all_at P f ys i x h.1 (omega (arith, within)) e

pub each_of : {X : Type 0} (P : X → Type 0) (xs : List X) (i : ℕ) (d : X) → AllByRecursion P xs → i < length xs → P (get_or xs i d)
each_of P [] i d h within = absurd (omega (arith, within))
each_of P (x ∷ xs) zero d h within = h.0
each_of P (x ∷ xs) (suc i) d h within = each_of P xs i d h.1 (omega (arith, within))

-- ---- a call, as the program holds it
pub call_is : (o : ScalarOp) (kind : Kind) (args : Vec CompExpr Global) → comp_exp_of (Apply o kind args) ≡ call o kind (comp_exps_of (map comp_exp_of args.items))
call_is o kind args = search (rules, the_lemmas)

pub column_is : (place : ℕ) (name : Txt) (kind : Kind) (p : Settings) (r : Row) → value p (comp_exp_of (Column place name kind)) r ≡ Ok (column_of place r)
column_is place name kind p r = let e : comp_exp_of (Column place name kind) ≡ column place name kind = search (rules, the_lemmas) in ap (λ f. value p f r) e

conjunction_is : (o : ScalarOp) → is_conjunction o ≡ true → o ≡ op.And
conjunction_is op.And h = refl
conjunction_is o h = cc

equality_is : (o : ScalarOp) → is_equality o ≡ true → o ≡ op.Equal
equality_is op.Equal h = refl
equality_is o h = cc

-- what a condition that is such a call implies
module _ (p : Settings) (e : CompExp) (kind : Kind) (o : ScalarOp) (f : CompExpr) (args : Vec CompExpr Global) (es : List CompExpr) (is : f ≡ Apply o kind args) (es_are : es ≡ args.items) where
  call_given : (q : ScalarOp) → o ≡ q → Implies p e (comp_exp_of f) → Implies p e (call q kind (comp_exps_of (map comp_exp_of es)))
  call_given q same h =
      let e_is : comp_exp_of f ≡ call q kind (comp_exps_of (map comp_exp_of args.items)) = ap comp_exp_of (is ∙ ap (λ (x : ScalarOp). Apply x kind args) same) ∙ call_is q kind args in
      subst (λ (l : List CompExpr). Implies p e (call q kind (comp_exps_of (map comp_exp_of l)))) (sym es_are) (subst (Implies p e) e_is h)

  pub operands_given : is_conjunction o ≡ true → Implies p e (comp_exp_of f) → AllByRecursion (Implies p e) (map comp_exp_of es)
  operands_given c h = operands_implied p e kind (map comp_exp_of es) (call_given op.And (conjunction_is o c) h)

  pub equality_given : is_equality o ≡ true → Implies p e (comp_exp_of f) → Implies p e (call op.Equal kind (comp_exps_of (map comp_exp_of es)))
  equality_given c h = call_given op.Equal (equality_is o c) h

-- ---- equalities of two columns
truth_true : (o : Option Bool) → is_true (Ok (truth o)) ≡ true → o ≡ Some true
truth_true (Some true) h = refl
truth_true (Some false) h = cc
truth_true None h = cc

equal_values : (p : Settings) (kind : Kind) (m n : Outcome Cell) (a b : Cell) → m ≡ Ok a → n ≡ Ok b → is_true (called p kind (m ∷ n ∷ []) op.Equal) ≡ true → compared is_eq p a b ≡ Some true
equal_values p kind m n a b e f h =
    truth_true (compared is_eq p a b) (true_scalar p kind (Ok (truth (compared is_eq p a b))) ((λ i. is_true (called p kind (sym e i ∷ sym f i ∷ []) op.Equal)) ∙ h))

pub columns_equated : (p : Settings) (e : CompExp) (kind : Kind) (es : List CompExpr) (x y : CompExpr) (pair : Equated) → length es ≡ 2 → x ≡ get_or es 0 x → y ≡ get_or es 1 y → ((q : Settings) (r : Row) → value q (comp_exp_of x) r ≡ Ok (column_of pair.left r))
    → ((q : Settings) (r : Row) → value q (comp_exp_of y) r ≡ Ok (column_of pair.right r)) → Implies p e (call op.Equal kind (comp_exps_of (map comp_exp_of es))) → Equates p e pair
columns_equated p e kind [] x y pair two a b left right h = absurd (omega (arith, two))
columns_equated p e kind (v ∷ []) x y pair two a b left right h = absurd (omega (arith, two))
columns_equated p e kind (v ∷ w ∷ []) x y pair two a b left right h =
    λ r t. equal_values p kind (value p (comp_exp_of v) r) (value p (comp_exp_of w) r) (column_of pair.left r) (column_of pair.right r)
    (ap (λ z. value p (comp_exp_of z) r) (sym a) ∙ left p r) (ap (λ z. value p (comp_exp_of z) r) (sym b) ∙ right p r) (h r t)
columns_equated p e kind (v ∷ w ∷ z ∷ es) x y pair two a b left right h = absurd (omega (arith, two))
