-- The forms in which a typed call stands in SQL: how many operands it has, and that these meet the operator as SQL types it.
use Rattle.std.proofs.Common.{◌≡◌, ℕ, suc, Bool, true, false, ◌&&◌, List, [], ◌∷◌, length, map, Some, None, refl, sym, ap, ◌∙◌, subst, arith}
use Rattle.std.specs.Prelude.{if◌then◌else◌}
use Rattle.std.specs.List.{AllByRecursion}
use Rattle.std.proofs.lemmas.Bool.{and_parts}
use Rattle.vtl_cell.specs.ScalarKinds.{Alternative, common_kind, first_met, is_set_of, kinds_of, meet, meets, numeric_one, numeric_two, only, to}
use Rattle.vtl_cell.specs.declared.kind.Kind.{Kind}
use Rattle.vtl_cell.specs.declared.kind.Kind.TheVariants as k
use Rattle.vtl_cell.specs.declared.operator.ScalarOp.{ScalarOp}
use Rattle.vtl_cell.specs.declared.operator.ScalarOp.TheVariants as op
use Rattle.vtl_tree.specs.CompExp.{CompExp, CompExps, no_comp_exps, comp_exp}
use Rattle.vtl_tree.specs.Kinds.{exp_kind}
use Rattle.vtl_meaning.specs.Literals.{HasLiterals}
use Rattle.vtl_meaning.specs.Made.{kinds_in}
use Rattle.sql_tree.specs.Formed.{is_binary, is_function, is_unary}
use Rattle.sql_tree.specs.Trees.{Exps}
use Rattle.sql_tree.specs.declared.parts.Literal.{Literal}
use Rattle.sql_check_laws.specs.Operators.{is_short_replace}
use Rattle.sql_check_laws.proofs.OperatorKinds.{counted_as_given, kind_as_counted}
use Rattle.sql_check_parts.specs.Kinds.{operator_kind}
use Rattle.expressions_to_sql.specs.ToSql.{operator_to_sql, placed}

-- ---- how many operands

meet_length : (ws gs : List Kind) → meet ws gs ≡ true → length gs ≡ length ws
meet_length [] [] h = refl
meet_length [] (g ∷ gs) h = cc
meet_length (w ∷ ws) [] h = cc
meet_length (w ∷ ws) (g ∷ gs) h = ap suc (meet_length ws gs (and_parts (meets w g) (meet ws gs) h).1)

met_length : (n : ℕ) (as_ : List Alternative) (kinds : List Kind) (kind : Kind) → AllByRecursion (λ (a : Alternative). length a.wanted ≡ n) as_ → first_met as_ kinds ≡ Some kind → length kinds ≡ n
met_length n [] kinds kind all h = cc
met_length n (a ∷ as_) kinds kind all h = go (meet a.wanted kinds) refl h (met_length n as_ kinds kind all.1)
  where
    go : (b : Bool) → meet a.wanted kinds ≡ b → (if b then Some a.given else first_met as_ kinds) ≡ Some kind → (first_met as_ kinds ≡ Some kind → length kinds ≡ n) → length kinds ≡ n
    go true e i ih = meet_length a.wanted kinds e ∙ all.0
    go false e i ih = ih i

compared_length : (o : ScalarOp) (kinds : List Kind) (kind : Kind) → (kinds_of o [] ≡ None) → ((a : Kind) → kinds_of o (a ∷ []) ≡ None) → ((a b d : Kind) (more : List Kind) → kinds_of o (a ∷ b ∷ d ∷ more) ≡ None) → kinds_of o kinds ≡ Some kind → length kinds ≡ 2
compared_length o [] kind z one three h = cc
compared_length o (a ∷ []) kind z one three h = let e = one a in cc
compared_length o (a ∷ b ∷ []) kind z one three h = refl
compared_length o (a ∷ b ∷ d ∷ more) kind z one three h = let e = three a b d more in cc

two_operands : (o : ScalarOp) (kinds : List Kind) (kind : Kind) → is_binary o ≡ true → kinds_of o kinds ≡ Some kind → length kinds ≡ 2
two_operands op.Or kinds kind w h = met_length 2 (only (k.Bool ∷ k.Bool ∷ []) k.Bool) kinds kind (refl, tt) h
two_operands op.Xor kinds kind w h = met_length 2 (only (k.Bool ∷ k.Bool ∷ []) k.Bool) kinds kind (refl, tt) h
two_operands op.And kinds kind w h = met_length 2 (only (k.Bool ∷ k.Bool ∷ []) k.Bool) kinds kind (refl, tt) h
two_operands op.Equal kinds kind w h = compared_length op.Equal kinds kind refl (λ a. refl) (λ a b d more. refl) h
two_operands op.NotEqual kinds kind w h = compared_length op.NotEqual kinds kind refl (λ a. refl) (λ a b d more. refl) h
two_operands op.Less kinds kind w h = compared_length op.Less kinds kind refl (λ a. refl) (λ a b d more. refl) h
two_operands op.LessOrEqual kinds kind w h = compared_length op.LessOrEqual kinds kind refl (λ a. refl) (λ a b d more. refl) h
two_operands op.Greater kinds kind w h = compared_length op.Greater kinds kind refl (λ a. refl) (λ a b d more. refl) h
two_operands op.GreaterOrEqual kinds kind w h = compared_length op.GreaterOrEqual kinds kind refl (λ a. refl) (λ a b d more. refl) h
two_operands op.Add kinds kind w h = met_length 2 numeric_two kinds kind (refl, (refl, tt)) h
two_operands op.Subtract kinds kind w h = met_length 2 numeric_two kinds kind (refl, (refl, tt)) h
two_operands op.Multiply kinds kind w h = met_length 2 numeric_two kinds kind (refl, (refl, tt)) h
two_operands op.Divide kinds kind w h = met_length 2 (only (k.Num ∷ k.Num ∷ []) k.Num) kinds kind (refl, tt) h
two_operands op.Concat kinds kind w h = met_length 2 (only (k.Text ∷ k.Text ∷ []) k.Text) kinds kind (refl, tt) h
two_operands o kinds kind w h = cc

one_operand : (o : ScalarOp) (kinds : List Kind) (kind : Kind) → is_unary o ≡ true → kinds_of o kinds ≡ Some kind → length kinds ≡ 1
one_operand op.Not kinds kind w h = met_length 1 (only (k.Bool ∷ []) k.Bool) kinds kind (refl, tt) h
one_operand op.Identity kinds kind w h = met_length 1 numeric_one kinds kind (refl, (refl, tt)) h
one_operand op.Negate kinds kind w h = met_length 1 numeric_one kinds kind (refl, (refl, tt)) h
one_operand o kinds kind w h = cc

-- ---- kinds

-- behind the first operand integers are wanted alone
abbrev WantsIntegers : List Kind → Type 0
WantsIntegers [] = Unit {0}
WantsIntegers (w ∷ ws) = AllByRecursion (λ kind. kind ≡ k.Int) ws

-- and one kind is given
abbrev AreOfIntegers : Kind → List Alternative → Type 0
AreOfIntegers given as_ = AllByRecursion (λ (a : Alternative). (a.given ≡ given) × WantsIntegers a.wanted) as_

abbrev integers : List Kind → List Kind
integers gs = map (λ g. k.Int) gs

integers_meet : (ws gs : List Kind) → AllByRecursion (λ kind. kind ≡ k.Int) ws → meet ws gs ≡ true → meet ws (integers gs) ≡ true
integers_meet [] [] all h = refl
integers_meet [] (g ∷ gs) all h = cc
integers_meet (w ∷ ws) [] all h = cc
integers_meet (w ∷ ws) (g ∷ gs) all h = ap (λ x. meets x k.Int && meet ws (integers gs)) all.0 ∙ integers_meet ws gs all.1 (and_parts (meets w g) (meet ws gs) h).1

first_meets : (ws : List Kind) (g : Kind) (gs : List Kind) → WantsIntegers ws → meet ws (g ∷ gs) ≡ true → meet ws (g ∷ integers gs) ≡ true
first_meets [] g gs all h = cc
first_meets (w ∷ ws) g gs all h =
    let parts = and_parts (meets w g) (meet ws gs) h in
    ap (λ b. b && meet ws (integers gs)) parts.0 ∙ integers_meet ws gs all parts.1

integers_met : (given : Kind) (as_ : List Alternative) (g : Kind) (gs : List Kind) (kind : Kind) → AreOfIntegers given as_ → first_met as_ (g ∷ gs) ≡ Some kind → (first_met as_ (g ∷ integers gs) ≡ Some given) × (kind ≡ given)
integers_met given [] g gs kind all h = cc
integers_met given (a ∷ as_) g gs kind all h = go (meet a.wanted (g ∷ gs)) (meet a.wanted (g ∷ integers gs)) refl refl h (integers_met given as_ g gs kind all.1)
  where
    go : (b c : Bool) → meet a.wanted (g ∷ gs) ≡ b → meet a.wanted (g ∷ integers gs) ≡ c → (if b then Some a.given else first_met as_ (g ∷ gs)) ≡ Some kind
        → (first_met as_ (g ∷ gs) ≡ Some kind → (first_met as_ (g ∷ integers gs) ≡ Some given) × (kind ≡ given))
        → ((if c then Some a.given else first_met as_ (g ∷ integers gs)) ≡ Some given) × (kind ≡ given)
    go true true e f i ih = (ap Some all.0.0, cc)
    go true false e f i ih = let met = first_meets a.wanted g gs all.0.1 e in cc
    go false true e f i ih = (ap Some all.0.0, (ih i).1)
    go false false e f i ih = ih i

-- in SQL the operands that have to be literals are not asked for their kinds
of_integers : (given : Kind) (as_ : List Alternative) (g : Kind) (gs : List Kind) (kind : Kind) → AreOfIntegers given as_ → first_met as_ (g ∷ gs) ≡ Some kind → first_met as_ (g ∷ integers gs) ≡ Some kind
of_integers given as_ g gs kind all h = let met = integers_met given as_ g gs kind all h in met.0 ∙ ap Some (sym met.1)

of_none : (o : ScalarOp) → operator_kind o [] ≡ kinds_of o []
of_none op.Replace = refl
of_none o = refl

pub sql_kind : (o : ScalarOp) (kinds : List Kind) (kind : Kind) → is_short_replace o kinds ≡ false → kinds_of o kinds ≡ Some kind → operator_kind o kinds ≡ Some kind
sql_kind op.Round (g ∷ gs) kind n h = of_integers k.Num (only (k.Num ∷ k.Int ∷ []) k.Num) g gs kind ((refl, (refl, tt)), tt) h
sql_kind op.Truncate (g ∷ gs) kind n h = of_integers k.Num (only (k.Num ∷ k.Int ∷ []) k.Num) g gs kind ((refl, (refl, tt)), tt) h
sql_kind op.Substring (g ∷ gs) kind n h = of_integers k.Text (to (k.Text ∷ k.Int ∷ []) k.Text ∷ to (k.Text ∷ k.Int ∷ k.Int ∷ []) k.Text ∷ []) g gs kind ((refl, (refl, tt)), ((refl, (refl, (refl, tt))), tt)) h
sql_kind op.PeriodShift (g ∷ gs) kind n h = of_integers k.Period (only (k.Period ∷ k.Int ∷ []) k.Period) g gs kind ((refl, (refl, tt)), tt) h
sql_kind op.Replace (a ∷ b ∷ []) kind n h = cc
sql_kind o [] kind n h = of_none o ∙ h
sql_kind o (g ∷ gs) kind n h = kind_as_counted o g gs n (counted_as_given o gs refl) ∙ h

-- REPLACE of two operands has a third one
short_kind : (a b kind : Kind) → kinds_of op.Replace (a ∷ b ∷ []) ≡ Some kind → operator_kind op.Replace (a ∷ b ∷ k.Text ∷ []) ≡ Some kind
short_kind a b kind h = go (meets k.Text a) (meets k.Text b) h
  where
    go : (x y : Bool) → (if x && (y && true) then Some k.Text else if x && (y && false) then Some k.Text else None) ≡ Some kind → (if x && (y && false) then Some k.Text else if x && (y && true) then Some k.Text else None) ≡ Some kind
    go true true e = e
    go true false e = cc
    go false y e = cc

-- ---- forms

abbrev pub one : CompExp → CompExps
one a = comp_exp a no_comp_exps

abbrev pub two : CompExp → CompExp → CompExps
two a b = comp_exp a (one b)

abbrev pub three : CompExp → CompExp → CompExp → CompExps
three a b d = comp_exp a (two b d)

-- the operator stands where these two tests say
abbrev pub IsPlaced : ScalarOp → Bool → Bool → Type 0
IsPlaced o between before = (ls : List Literal) (es : Exps) → operator_to_sql o ls es ≡ placed between before o es

pub data Form : ScalarOp → CompExps → Kind → Type 0 where
  tested : (a : CompExp) → Form op.IsNull (one a) k.Bool
  listed : (a b : CompExp) (es : CompExps) → operator_kind op.In (exp_kind a ∷ exp_kind b ∷ kinds_in es) ≡ Some k.Bool → Form op.In (comp_exp a (comp_exp b es)) k.Bool
  unlisted : (a b : CompExp) (es : CompExps) → operator_kind op.In (exp_kind a ∷ exp_kind b ∷ kinds_in es) ≡ Some k.Bool → Form op.NotIn (comp_exp a (comp_exp b es)) k.Bool
  chosen : (t a b : CompExp) (kind : Kind) → meets k.Bool (exp_kind t) ≡ true → common_kind (exp_kind a ∷ exp_kind b ∷ []) ≡ Some kind → Form op.If (three t a b) kind
  short : (a b : CompExp) (kind : Kind) → operator_kind op.Replace (exp_kind a ∷ exp_kind b ∷ k.Text ∷ []) ≡ Some kind → Form op.Replace (two a b) kind
  long : (a b d : CompExp) (kind : Kind) → operator_kind op.Replace (exp_kind a ∷ exp_kind b ∷ exp_kind d ∷ []) ≡ Some kind → Form op.Replace (three a b d) kind
  between : (o : ScalarOp) (a b : CompExp) (kind : Kind) (u : Bool) → is_binary o ≡ true → IsPlaced o true u → operator_kind o (exp_kind a ∷ exp_kind b ∷ []) ≡ Some kind → Form o (two a b) kind
  before : (o : ScalarOp) (a : CompExp) (kind : Kind) → is_unary o ≡ true → IsPlaced o false true → operator_kind o (exp_kind a ∷ []) ≡ Some kind → Form o (one a) kind
  called : (o : ScalarOp) (a : CompExp) (es : CompExps) (kind : Kind) → is_function o ≡ true → IsPlaced o false false → operator_kind o (exp_kind a ∷ kinds_in es) ≡ Some kind → Form o (comp_exp a es) kind

-- ---- each typed call has a form

some_operand : (o : ScalarOp) (kind : Kind) → is_function o ≡ true → kinds_of o [] ≡ Some kind → ⊥
some_operand op.ValueOr kind w h = cc
some_operand op.Between kind w h = cc
some_operand o kind w h = cc

-- an operator that is written between operands, before one, or before operands in brackets
module _ (o : ScalarOp) (kind : Kind) (plain : (kinds : List Kind) → is_short_replace o kinds ≡ false) where
  placed_form : (args : CompExps) (b u : Bool) → is_binary o ≡ b → is_unary o ≡ u → (b ≡ false → u ≡ false → is_function o ≡ true) → IsPlaced o b u → kinds_of o (kinds_in args) ≡ Some kind → Form o args kind
  placed_form (comp_exp a (comp_exp e no_comp_exps)) true u i j f p h = between o a e kind u i p (sql_kind o (exp_kind a ∷ exp_kind e ∷ []) kind (plain (exp_kind a ∷ exp_kind e ∷ [])) h)
  placed_form no_comp_exps true u i j f p h = absurd (omega (arith, two_operands o [] kind i h))
  placed_form (comp_exp a no_comp_exps) true u i j f p h = absurd (omega (arith, two_operands o (exp_kind a ∷ []) kind i h))
  placed_form (comp_exp a (comp_exp e (comp_exp d es))) true u i j f p h = absurd (omega (arith, two_operands o (exp_kind a ∷ exp_kind e ∷ exp_kind d ∷ kinds_in es) kind i h))
  placed_form (comp_exp a no_comp_exps) false true i j f p h = before o a kind j p (sql_kind o (exp_kind a ∷ []) kind (plain (exp_kind a ∷ [])) h)
  placed_form no_comp_exps false true i j f p h = absurd (omega (arith, one_operand o [] kind j h))
  placed_form (comp_exp a (comp_exp e es)) false true i j f p h = absurd (omega (arith, one_operand o (exp_kind a ∷ exp_kind e ∷ kinds_in es) kind j h))
  placed_form no_comp_exps false false i j f p h = absurd (some_operand o kind (f refl refl) h)
  placed_form (comp_exp a es) false false i j f p h = called o a es kind (f refl refl) p (sql_kind o (exp_kind a ∷ kinds_in es) kind (plain (exp_kind a ∷ kinds_in es)) h)

truth_given : (b : Bool) (kind : Kind) → (if b then Some k.Bool else None) ≡ Some kind → k.Bool ≡ kind
truth_given true kind h = cc
truth_given false kind h = cc

-- of a set both operators give a boolean
set_kind : (kinds : List Kind) (kind : Kind) → k.Bool ≡ kind → kinds_of op.In kinds ≡ Some kind → operator_kind op.In kinds ≡ Some k.Bool
set_kind kinds kind e h = sql_kind op.In kinds kind refl h ∙ ap Some (sym e)

choice_form : (t a b : CompExp) (kind : Kind) (c : Bool) → meets k.Bool (exp_kind t) ≡ c → (if c then common_kind (exp_kind a ∷ exp_kind b ∷ []) else None) ≡ Some kind → Form op.If (three t a b) kind
choice_form t a b kind true e h = chosen t a b kind e h
choice_form t a b kind false e h = cc

not_of_one : (x : Bool) (kind : Kind) → (if x && false then Some k.Text else if x && false then Some k.Text else None) ≡ Some kind → ⊥
not_of_one true kind h = cc
not_of_one false kind h = cc

not_of_four : (x y z : Bool) (kind : Kind) → (if x && (y && false) then Some k.Text else if x && (y && (z && false)) then Some k.Text else None) ≡ Some kind → ⊥
not_of_four true true true kind h = cc
not_of_four true true false kind h = cc
not_of_four true false z kind h = cc
not_of_four false y z kind h = cc

pub form_of : (o : ScalarOp) (args : CompExps) (kind : Kind) → HasLiterals o args → kinds_of o (kinds_in args) ≡ Some kind → Form o args kind
form_of op.IsNull no_comp_exps kind l h = cc
form_of op.IsNull (comp_exp a no_comp_exps) kind l h = subst (Form op.IsNull (one a)) (truth_given true kind h) (tested a)
form_of op.IsNull (comp_exp a (comp_exp b es)) kind l h = cc
form_of op.In no_comp_exps kind l h = cc
form_of op.In (comp_exp a no_comp_exps) kind l h = cc
form_of op.In (comp_exp a (comp_exp b es)) kind l h =
    let e = truth_given (is_set_of (exp_kind a) (exp_kind b ∷ kinds_in es)) kind h in
    subst (Form op.In (comp_exp a (comp_exp b es))) e (listed a b es (set_kind (exp_kind a ∷ exp_kind b ∷ kinds_in es) kind e h))
form_of op.NotIn no_comp_exps kind l h = cc
form_of op.NotIn (comp_exp a no_comp_exps) kind l h = cc
form_of op.NotIn (comp_exp a (comp_exp b es)) kind l h =
    let e = truth_given (is_set_of (exp_kind a) (exp_kind b ∷ kinds_in es)) kind h in
    subst (Form op.NotIn (comp_exp a (comp_exp b es))) e (unlisted a b es (set_kind (exp_kind a ∷ exp_kind b ∷ kinds_in es) kind e h))
form_of op.If no_comp_exps kind l h = cc
form_of op.If (comp_exp t no_comp_exps) kind l h = cc
form_of op.If (comp_exp t (comp_exp a no_comp_exps)) kind l h = cc
form_of op.If (comp_exp t (comp_exp a (comp_exp b no_comp_exps))) kind l h = choice_form t a b kind (meets k.Bool (exp_kind t)) refl h
form_of op.If (comp_exp t (comp_exp a (comp_exp b (comp_exp d es)))) kind l h = cc
form_of op.Replace no_comp_exps kind l h = cc
form_of op.Replace (comp_exp a no_comp_exps) kind l h = absurd (not_of_one (meets k.Text (exp_kind a)) kind h)
form_of op.Replace (comp_exp a (comp_exp b no_comp_exps)) kind l h = short a b kind (short_kind (exp_kind a) (exp_kind b) kind h)
form_of op.Replace (comp_exp a (comp_exp b (comp_exp d no_comp_exps))) kind l h = long a b d kind (sql_kind op.Replace (exp_kind a ∷ exp_kind b ∷ exp_kind d ∷ []) kind refl h)
form_of op.Replace (comp_exp a (comp_exp b (comp_exp d (comp_exp e es)))) kind l h = absurd (not_of_four (meets k.Text (exp_kind a)) (meets k.Text (exp_kind b)) (meets k.Text (exp_kind d)) kind h)
form_of op.PeriodShift args kind l h = cc
form_of op.PeriodFrequency args kind l h = cc
form_of o args kind l h = placed_form o kind (λ kinds. refl) args (is_binary o) (is_unary o) refl refl (λ e f. cc) (λ ls es. refl) h
