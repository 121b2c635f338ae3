-- Operands that have to be literals: as they are written, and as they are typed.
use Rattle.std.proofs.Common.{◌≡◌, Bool, true, ◌&&◌, List, [], ◌∷◌, ◌++◌, Option, Some, None, option_map, Result, Ok, Err, refl, sym, ap, ◌∙◌, subst, append_assoc}
use Rattle.std.proofs.lemmas.Bool.{false≢true, and_parts}
use Rattle.std.proofs.lemmas.List.{append-nil}
use Rattle.std.specs.Prelude.{ℤ, pos}
use Rattle.vtl_cell.specs.declared.cell.Cell.TheVariants as c
use Rattle.vtl_cell.specs.declared.operator.ScalarOp.{ScalarOp}
use Rattle.vtl_cell.specs.declared.operator.ScalarOp.TheVariants as op
use Rattle.vtl_lists.specs.Results.{◌>>=◌}
use Rattle.check_faults.specs.declared.rules.Rule.{Rule}
use Rattle.vtl_syntax.specs.Trees as tree
use Rattle.vtl_syntax.specs.Trees.{Exp, Exps}
use Rattle.vtl_syntax.specs.declared.parts.Constant.TheVariants as constant
use Rattle.vtl_syntax.specs.declared.parts.Numeral.TheVariants as numeral
use Rattle.vtl_syntax.specs.declared.word_groups.FunctionName.{FunctionName}
use Rattle.vtl_syntax.specs.declared.word_groups.FunctionName.TheVariants as function
use Rattle.vtl_syntax.specs.declared.word_groups.UnaryOp.TheVariants as sign
use Rattle.vtl_cell.specs.Literals.{integer_written, largest_place, lies_between}
use Rattle.vtl_tree.specs.CompExp.{CompExp, CompExps, call, column, const, aggregate, no_comp_exps}
use Rattle.vtl_tree.specs.View.{comp_exps_of}
use Rattle.check_values.specs.Literals as written
use Rattle.check_values.specs.Literals.{lies_in, literals_fit, second_passes, third_passes, valued}
use Rattle.check_values.specs.Operators.{of_function}
use Rattle.check_operators.specs.Operators.{operator_form}
use Rattle.check_operators.specs.Typed.{TypedTree, value, dataset, of_value}
use Rattle.check_operators.specs.declared.places.Place.{Place}
use Rattle.check_operators.specs.declared.places.Place.TheVariants as place
use Rattle.check_expressions.specs.Rulings.{Sight}
use Rattle.check_expressions.specs.Typing.{behind as one_behind, operands_typed, typed}
use Rattle.vtl_meaning.specs.Literals.{are_digits, are_literals, behind, first_passes, is_integer, most_digits}
use Rattle.check_laws.specs.Gives.{Gives}
use Rattle.check_laws.proofs.Operators.{AreFit, values_in}
use Rattle.check_laws.proofs.Steps.{given, then, weaker}

-- ---- one literal
-- a value that passes
abbrev Passes : (CompExp → Bool) → TypedTree → Type 0
Passes test (value e) = test e ≡ true
Passes test (dataset n) = ⊥

-- an integer without a sign
integer-gives : (sight : Sight) (at : Place) (low high : ℤ) (e : Exp) → lies_in sight.settings low high e ≡ true → Gives (Passes (is_integer low high)) (typed sight at e)
integer-gives sight at low high (tree.constant (constant.Number (numeral.Integer digits))) l = go (integer_written sight.settings digits) l
  where
    go : (o : Option ℤ) → lies_between low high o ≡ true → Gives (Passes (is_integer low high)) (valued (option_map c.Int o) >>= (λ cell. Ok (const cell)) >>= of_value)
    go None l = tt
    go (Some n) l = l
integer-gives sight at low high (tree.constant (constant.Number (numeral.Decimal digits))) l = absurd (false≢true l)
integer-gives sight at low high (tree.constant (constant.String text)) l = absurd (false≢true l)
integer-gives sight at low high (tree.constant (constant.Boolean b)) l = absurd (false≢true l)
integer-gives sight at low high (tree.constant constant.Null) l = absurd (false≢true l)
integer-gives sight at low high (tree.constant (constant.Cast text kind)) l = absurd (false≢true l)
integer-gives sight at low high e l = absurd (false≢true l)

-- an integer is digits
digits-are : (x : TypedTree) → Passes (is_integer (pos 0) most_digits) x → Passes are_digits x
digits-are (value (const v)) h = h
digits-are (value (column place name kind)) h = absurd (false≢true h)
digits-are (value (call o kind args)) h = absurd (false≢true h)
digits-are (value (aggregate a kind)) h = absurd (false≢true h)
digits-are (dataset n) h = h

-- a minus sign before an integer
minus-gives : (at : Place) (x : TypedTree) → Passes (is_integer (pos 0) most_digits) x → Gives (Passes are_digits) (operator_form at op.Negate true true (x ∷ []))
unfolding operator_form
minus-gives place.Outside (value (const (c.Int n))) h = h
minus-gives (place.Inside i) (value (const (c.Int n))) h = h
minus-gives at (value (const c.Null)) h = absurd (false≢true h)
minus-gives at (value (const (c.Bool b))) h = absurd (false≢true h)
minus-gives at (value (const (c.Num n))) h = absurd (false≢true h)
minus-gives at (value (const (c.Text t))) h = absurd (false≢true h)
minus-gives at (value (const (c.Day d))) h = absurd (false≢true h)
minus-gives at (value (const (c.Period q))) h = absurd (false≢true h)
minus-gives at (value (column place name kind)) h = absurd (false≢true h)
minus-gives at (value (call o kind args)) h = absurd (false≢true h)
minus-gives at (value (aggregate a kind)) h = absurd (false≢true h)
minus-gives at (dataset n) h = absurd h

-- one operand alone
abbrev IsInteger : List TypedTree → Type 0
IsInteger [] = ⊥
IsInteger (x ∷ []) = Passes (is_integer (pos 0) most_digits) x
IsInteger (x ∷ y ∷ xs) = ⊥

minus-behind : (at : Place) (xs : List TypedTree) → IsInteger xs → Gives (Passes are_digits) (operator_form at op.Negate true true xs)
minus-behind at [] h = absurd h
minus-behind at (x ∷ []) h = minus-gives at x h
minus-behind at (x ∷ y ∷ xs) h = absurd h

digits-give : (sight : Sight) (at : Place) (e : Exp) → written.are_digits sight.settings e ≡ true → Gives (Passes are_digits) (typed sight at e)
digits-give sight at (tree.unary sign.Minus e) l =
    then IsInteger (Passes are_digits) (typed sight at e >>= one_behind []) (operator_form at op.Negate true true)
    (then (Passes (is_integer (pos 0) most_digits)) IsInteger (typed sight at e) (one_behind []) (integer-gives sight at (pos 0) most_digits e l) (λ x h. h)) (minus-behind at)
digits-give sight at e l = weaker (Passes (is_integer (pos 0) most_digits)) (Passes are_digits) (typed sight at e) digits-are (integer-gives sight at (pos 0) most_digits e l)

-- ---- operands as they are written and as they are typed
abbrev AreOf : Sight → Place → Exps → List TypedTree → Type 0
AreOf sight at tree.no_exps [] = Unit {0}
AreOf sight at tree.no_exps (x ∷ xs) = ⊥
AreOf sight at (tree.exp e es) [] = ⊥
AreOf sight at (tree.exp e es) (x ∷ xs) = (typed sight at e ≡ Ok x) × AreOf sight at es xs

abbrev AreBehind : Sight → Place → List TypedTree → Exps → List TypedTree → Type 0
AreBehind sight at done es zs = (xs : List TypedTree) × (zs ≡ done ++ xs) × AreOf sight at es xs

operands-behind : (sight : Sight) (at : Place) (done : List TypedTree) (es : Exps) → Gives (AreBehind sight at done es) (operands_typed sight at done es)
operands-behind sight at done tree.no_exps = ([], sym (append-nil done), tt)
operands-behind sight at done (tree.exp e es) = go (typed sight at e) refl (λ x. operands-behind sight at (done ++ x ∷ []) es)
  where
    go : (r : Result TypedTree Rule) → typed sight at e ≡ r → ((x : TypedTree) → Gives (AreBehind sight at (done ++ x ∷ []) es) (operands_typed sight at (done ++ x ∷ []) es)) → Gives (AreBehind sight at done (tree.exp e es)) (r >>= one_behind done >>= λ xs. operands_typed sight at xs es)
    go (Ok x) is ih =
        weaker (AreBehind sight at (done ++ x ∷ []) es) (AreBehind sight at done (tree.exp e es)) (operands_typed sight at (done ++ x ∷ []) es)
        (λ zs h. (x ∷ h.0, h.1 ∙ append_assoc done (x ∷ []) h.0, (is, h.2))) (ih x)
    go (Err broken) is ih = tt

-- ---- the operands of functions
-- an operator that asks for no literals
pub any-fit : (o : ScalarOp) → ((es : CompExps) → are_literals o es ≡ true) → (xs : List TypedTree) → AreFit o xs
any-fit o free [] = free no_comp_exps
any-fit o free (x ∷ xs) = free (comp_exps_of (values_in xs))

pub free-gives : (o : ScalarOp) (literals : Bool) → ((es : CompExps) → are_literals o es ≡ true) → (r : Result (List TypedTree) Rule) → Gives (λ xs. literals ≡ true → AreFit o xs) r
free-gives o literals free (Ok xs) = λ l. any-fit o free xs
free-gives o literals free (Err broken) = tt

-- what is told of the values behind the first operand
abbrev OfRest : (List CompExp → Type 0) → List TypedTree → Type 0
OfRest P [] = Unit {0}
OfRest P (x ∷ xs) = P (values_in xs)

second-fits : (sight : Sight) (at : Place) (check : Exp → Bool) (test : CompExp → Bool) → ((e : Exp) → check e ≡ true → Gives (Passes test) (typed sight at e)) → (es : Exps) (zs : List TypedTree) → AreOf sight at es zs → second_passes check es ≡ true → OfRest (λ vs. first_passes test (comp_exps_of vs) ≡ true) zs
second-fits sight at check test gives tree.no_exps [] h l = tt
second-fits sight at check test gives tree.no_exps (x ∷ zs) h l = absurd h
second-fits sight at check test gives (tree.exp a es) [] h l = absurd h
second-fits sight at check test gives (tree.exp a tree.no_exps) (x ∷ []) h l = refl
second-fits sight at check test gives (tree.exp a tree.no_exps) (x ∷ y ∷ zs) h l = absurd h.1
second-fits sight at check test gives (tree.exp a (tree.exp d es)) (x ∷ []) h l = absurd h.1
second-fits sight at check test gives (tree.exp a (tree.exp d es)) (x ∷ y ∷ zs) h l = go y (given (Passes test) (typed sight at d) y (gives d l) h.1.0)
  where
    go : (y : TypedTree) → Passes test y → first_passes test (comp_exps_of (values_in (y ∷ zs))) ≡ true
    go (value e) k = k
    go (dataset n) k = absurd k

-- the start of `substr`, and the length where there is one
places-fit : (sight : Sight) (at : Place) (low more high : ℤ) (es : Exps) (zs : List TypedTree) → AreOf sight at es zs → second_passes (lies_in sight.settings low high) es ≡ true → third_passes (lies_in sight.settings more high) es ≡ true
    → OfRest (λ vs. (first_passes (is_integer low high) (comp_exps_of vs) && first_passes (is_integer more high) (behind (comp_exps_of vs))) ≡ true) zs
places-fit sight at low more high tree.no_exps [] h l m = tt
places-fit sight at low more high tree.no_exps (x ∷ zs) h l m = absurd h
places-fit sight at low more high (tree.exp a es) [] h l m = absurd h
places-fit sight at low more high (tree.exp a tree.no_exps) (x ∷ []) h l m = refl
places-fit sight at low more high (tree.exp a tree.no_exps) (x ∷ y ∷ zs) h l m = absurd h.1
places-fit sight at low more high (tree.exp a (tree.exp i es)) (x ∷ []) h l m = absurd h.1
places-fit sight at low more high (tree.exp a (tree.exp i tree.no_exps)) (x ∷ y ∷ []) h l m = go y (given (Passes (is_integer low high)) (typed sight at i) y (integer-gives sight at low high i l) h.1.0)
  where
    go : (y : TypedTree) → Passes (is_integer low high) y → (first_passes (is_integer low high) (comp_exps_of (values_in (y ∷ []))) && first_passes (is_integer more high) (behind (comp_exps_of (values_in (y ∷ []))))) ≡ true
    go (value e) k = ap (λ b. b && true) k
    go (dataset n) k = absurd k
places-fit sight at low more high (tree.exp a (tree.exp i tree.no_exps)) (x ∷ y ∷ z ∷ zs) h l m = absurd h.1.1
places-fit sight at low more high (tree.exp a (tree.exp i (tree.exp n es))) (x ∷ y ∷ []) h l m = absurd h.1.1
places-fit sight at low more high (tree.exp a (tree.exp i (tree.exp n es))) (x ∷ y ∷ z ∷ zs) h l m =
    go y z (given (Passes (is_integer low high)) (typed sight at i) y (integer-gives sight at low high i l) h.1.0) (given (Passes (is_integer more high)) (typed sight at n) z (integer-gives sight at more high n m) h.1.1.0)
  where
    go : (y z : TypedTree) → Passes (is_integer low high) y → Passes (is_integer more high) z → (first_passes (is_integer low high) (comp_exps_of (values_in (y ∷ z ∷ zs))) && first_passes (is_integer more high) (behind (comp_exps_of (values_in (y ∷ z ∷ zs))))) ≡ true
    go (value e) (value d) k q = ap (λ b. b && is_integer more high d) k ∙ q
    go (value e) (dataset n) k q = absurd q
    go (dataset n) z k q = absurd k

digits-fit : (sight : Sight) (at : Place) (o : ScalarOp) → ((es : CompExps) → are_literals o es ≡ first_passes are_digits es) → (es : Exps) (zs : List TypedTree) → AreOf sight at es zs → second_passes (written.are_digits sight.settings) es ≡ true → AreFit o zs
digits-fit sight at o asks es [] h l = asks no_comp_exps
digits-fit sight at o asks es (z ∷ zs) h l = asks (comp_exps_of (values_in zs)) ∙ second-fits sight at (written.are_digits sight.settings) are_digits (digits-give sight at) es (z ∷ zs) h l

substr-fits : (sight : Sight) (at : Place) (es : Exps) (zs : List TypedTree) → AreOf sight at es zs → (second_passes (lies_in sight.settings (pos 1) largest_place) es && third_passes (lies_in sight.settings (pos 0) largest_place) es) ≡ true → AreFit op.Substring zs
substr-fits sight at es [] h l = refl
substr-fits sight at es (z ∷ zs) h l =
    let both = and_parts (second_passes (lies_in sight.settings (pos 1) largest_place) es) (third_passes (lies_in sight.settings (pos 0) largest_place) es) l in
    places-fit sight at (pos 1) (pos 0) largest_place es (z ∷ zs) h both.0 both.1

function-fits : (sight : Sight) (at : Place) (f : FunctionName) (es : Exps) (zs : List TypedTree) → AreOf sight at es zs → literals_fit sight.settings f es ≡ true → AreFit (of_function f) zs
function-fits sight at function.Round es zs h l = digits-fit sight at op.Round (λ es. refl) es zs h l
function-fits sight at function.Trunc es zs h l = digits-fit sight at op.Truncate (λ es. refl) es zs h l
function-fits sight at function.Substr es zs h l = substr-fits sight at es zs h l
function-fits sight at f es zs h l = any-fit (of_function f) (λ es. refl) zs

pub functions-give : (sight : Sight) (at : Place) (f : FunctionName) (es : Exps) → Gives (λ xs. literals_fit sight.settings f es ≡ true → AreFit (of_function f) xs) (operands_typed sight at [] es)
functions-give sight at f es =
    weaker (AreBehind sight at [] es) (λ xs. literals_fit sight.settings f es ≡ true → AreFit (of_function f) xs) (operands_typed sight at [] es)
    (λ zs h l. subst (AreFit (of_function f)) (sym h.1) (function-fits sight at f es h.0 h.2 l)) (operands-behind sight at [] es)
