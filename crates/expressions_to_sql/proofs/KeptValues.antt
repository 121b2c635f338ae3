-- An expression has in SQL the value that it has in VTL, faults included.
use Rattle.std.proofs.Common.{◌≡◌, ℕ, ◌≤◌, Bool, true, false, List, [], ◌∷◌, map, Some, Ok, Err, refl, ap, ◌∙◌}
use Rattle.vtl_cell.specs.Conversion.{as_kind}
use Rattle.vtl_cell.specs.Outcome.{Outcome, after}
use Rattle.vtl_cell.specs.Outcomes.{branch, first_chosen}
use Rattle.vtl_cell.specs.Row.{Row}
use Rattle.vtl_decimal.specs.Settings.{Settings}
use Rattle.vtl_cell.specs.declared.cell.Cell.{Cell}
use Rattle.vtl_cell.specs.declared.cell.Cell.TheVariants as c
use Rattle.vtl_cell.specs.declared.kind.Kind.{Kind}
use Rattle.vtl_cell.specs.declared.kind.Kind.TheVariants as k
use Rattle.vtl_cell.specs.declared.operator.ScalarOp.{ScalarOp}
use Rattle.vtl_cell.specs.declared.operator.ScalarOp.TheVariants as op
use Rattle.vtl_tree.specs.CompExp as comp
use Rattle.vtl_tree.specs.CompExp.{CompExp, CompExps, no_comp_exps, comp_exp}
use Rattle.vtl_tree.specs.Value as points
use Rattle.vtl_tree.specs.declared.expression.AggCall.{AggCall}
use Rattle.vtl_meaning.specs.Literals.{HasLiterals}
use Rattle.vtl_meaning.specs.Made.{AreTypedOver, IsTypedOver, kinds_in as comp_kinds}
use Rattle.sql_tree.specs.Formed.{is_binary, is_function, is_unary}
use Rattle.sql_tree.specs.Trees.{Exp, Text}
use Rattle.sql_check_parts.specs.Kinds.{kind_in, kinds_in, operator_kind}
use Rattle.sql_check_parts.specs.Scopes.{found, or_null}
use Rattle.sql_meaning.specs.Outcomes.{operated}
use Rattle.sql_meaning.specs.Values.{View, cell_at, literal_cell, value, values}
use Rattle.vtl_meaning.specs.GroupExpressions.{value_over, values_over}
use Rattle.expressions_to_sql.specs.Held.{AllHoldValues, HoldsValues}
use Rattle.expressions_to_sql.specs.ToSql.{Naming, aggregate_to_sql, all_to_sql, members_behind, members_to_sql, to_sql}
use Rattle.expressions_to_sql.proofs.KeptKinds.{KindsStay, call_kind, kinds_stay}
use Rattle.expressions_to_sql.proofs.SetMembers.{AreLiterals, are_literals, members_values, operands_held}
use Rattle.expressions_to_sql.proofs.TypedCalls.{Form, before, between, called, chosen, form_of, listed, long, one, short, tested, three, two, unlisted}
use Rattle.expressions_to_sql.proofs.WrittenConstants.{constant_is}

-- ---- operators

-- `if` alone looks at its operands one by one
abbrev is_if : ScalarOp → Bool
is_if op.If = true
is_if other = false

operated_is : (p : Settings) (kind : Kind) (o : ScalarOp) (ms : List (Outcome Cell)) → is_if o ≡ false → operated p kind ms o ≡ points.called p kind ms o
operated_is p kind op.If (x ∷ y ∷ z ∷ []) h = cc
operated_is p kind o [] h = refl
operated_is p kind o (x ∷ []) h = refl
operated_is p kind o (x ∷ y ∷ []) h = refl
operated_is p kind o (x ∷ y ∷ z ∷ []) h = refl
operated_is p kind o (x ∷ y ∷ z ∷ w ∷ more) h = refl

-- `replace` without a third operand has the empty text in its place
replace_two : (p : Settings) (kind : Kind) (m n : Outcome Cell) → operated p kind (m ∷ n ∷ Ok (c.Text []) ∷ []) op.Replace ≡ operated p kind (m ∷ n ∷ []) op.Replace
replace_two p kind (Ok x) (Ok y) = refl
replace_two p kind (Ok x) (Err f) = refl
replace_two p kind (Err f) n = refl

-- the branch that is chosen, as a value of the kind
choice_passes : (p : Settings) (kind : Kind) (t a b : Outcome Cell) → after (after t (λ x. branch (first_chosen x) a b)) (as_kind p kind) ≡ after t (λ x. after (branch (first_chosen x) a b) (as_kind p kind))
choice_passes p kind (Ok x) a b = refl
choice_passes p kind (Err f) a b = refl

-- an operator that passes a test which `if` fails
not_if : (test : ScalarOp → Bool) (o : ScalarOp) → test op.If ≡ false → test o ≡ true → is_if o ≡ false
not_if test op.If f h = cc
not_if test o f h = refl

-- ---- expressions

module _ (v : View) (r : Row) (g : List Row) (at : Naming) (cells : ℕ → Text → Cell) (aggs : AggCall → Outcome Cell) where
  abbrev p : Settings
  p = v.base.settings

  abbrev sql : CompExp → Outcome Cell
  sql e = value v (to_sql p at e) r g

  abbrev vtl : CompExp → Outcome Cell
  vtl e = value_over p cells aggs e

  abbrev ValuesStay : CompExps → Type 0
  ValuesStay es = values v (all_to_sql p at es) r g ≡ values_over p cells aggs es

  first_stays : (a : CompExp) (es : CompExps) → ValuesStay (comp_exp a es) → sql a ≡ vtl a
  first_stays a es i = cc

  rest_stay : (a : CompExp) (es : CompExps) → ValuesStay (comp_exp a es) → ValuesStay es
  rest_stay a es i = cc

  -- an operator as a call of its operands
  as_call : (o : ScalarOp) (args : CompExps) (kind : Kind) (x : Exp) → is_if o ≡ false → operator_kind o (comp_kinds args) ≡ Some kind → KindsStay p at v.scope args → ValuesStay args
      → value v x r g ≡ operated p (or_null (operator_kind o (kinds_in v.scope (all_to_sql p at args)))) (values v (all_to_sql p at args) r g) o
      → value v x r g ≡ points.called p kind (values_over p cells aggs args) o
  as_call o args kind x n h i e is =
      is
      ∙ ap (λ q. operated p q (values v (all_to_sql p at args) r g) o) (ap or_null (ap (operator_kind o) i ∙ h))
      ∙ ap (λ l. operated p kind l o) e
      ∙ operated_is p kind o (values_over p cells aggs args) n

  choice_value : (kind given : Kind) (t a b : CompExp) → given ≡ kind → ValuesStay (three t a b)
      → after (after (sql t) (λ x. branch (first_chosen x) (sql a) (sql b))) (as_kind p given) ≡ points.called p kind (vtl t ∷ vtl a ∷ vtl b ∷ []) op.If
  choice_value kind given t a b h i =
      let behind = rest_stay t (two a b) i in
      ap (λ q. after (after (sql t) (λ x. branch (first_chosen x) (sql a) (sql b))) (as_kind p q)) h
      ∙ ap (λ m. after (after m (λ x. branch (first_chosen x) (sql a) (sql b))) (as_kind p kind)) (first_stays t (two a b) i)
      ∙ ap (λ m. after (after (vtl t) (λ x. branch (first_chosen x) m (sql b))) (as_kind p kind)) (first_stays a (one b) behind)
      ∙ ap (λ m. after (after (vtl t) (λ x. branch (first_chosen x) (vtl a) m)) (as_kind p kind)) (first_stays b no_comp_exps (rest_stay a (one b) behind))
      ∙ choice_passes p kind (vtl t) (vtl a) (vtl b)

  module _ (low : p.scale ≤ 9) (columns : ℕ → Text → Kind → Type 0) (aggregates : AggCall → Kind → Type 0) where
    set_value : (o : ScalarOp) (a : CompExp) (es : CompExps) → is_if o ≡ false → AreLiterals p low columns aggregates es → sql a ≡ vtl a
        → operated p k.Bool (sql a ∷ map (λ l. Ok (literal_cell p l)) (members_to_sql p es)) o ≡ points.called p k.Bool (vtl a ∷ values_over p cells aggs es) o
    set_value o a es n m e =
        ap (λ l. operated p k.Bool (sql a ∷ l) o) (members_values p low columns aggregates cells aggs es m)
        ∙ ap (λ x. operated p k.Bool (x ∷ values_over p cells aggs es) o) e
        ∙ operated_is p k.Bool o (vtl a ∷ values_over p cells aggs es) n

    call_value : (o : ScalarOp) (args : CompExps) (kind : Kind) → Form o args kind → HasLiterals o args → AreTypedOver p columns aggregates args → AllHoldValues args → KindsStay p at v.scope args → ValuesStay args
        → sql (comp.call o kind args) ≡ points.called p kind (values_over p cells aggs args) o
    call_value _ _ _ (tested a) l t w i e = ap (λ ms. operated p k.Bool ms op.IsNull) e ∙ operated_is p k.Bool op.IsNull (vtl a ∷ []) refl
    call_value _ _ _ (listed a b es h) l t w i e = set_value op.In a (comp_exp b es) refl (are_literals p low columns aggregates (comp_exp b es) l t.1 w.1) (first_stays a (comp_exp b es) e)
    call_value _ _ _ (unlisted a b es h) l t w i e = set_value op.NotIn a (comp_exp b es) refl (are_literals p low columns aggregates (comp_exp b es) l t.1 w.1) (first_stays a (comp_exp b es) e)
    call_value _ _ _ (chosen x a b kind m h) l t w i e = choice_value kind _ x a b (call_kind p at v.scope op.If (three x a b) kind (chosen x a b kind m h) i) e
    call_value _ _ _ (short a b kind h) l t w i e =
        ap (λ q. operated p q (sql a ∷ sql b ∷ Ok (c.Text []) ∷ []) op.Replace) (call_kind p at v.scope op.Replace (two a b) kind (short a b kind h) i)
        ∙ replace_two p kind (sql a) (sql b)
        ∙ ap (λ ms. operated p kind ms op.Replace) e
        ∙ operated_is p kind op.Replace (vtl a ∷ vtl b ∷ []) refl
    call_value _ _ _ (long a b d kind h) l t w i e = as_call op.Replace (three a b d) kind (to_sql p at (comp.call op.Replace kind (three a b d))) refl h i e refl
    call_value _ _ _ (between o a b kind u is_two is h) l t w i e =
        as_call o (two a b) kind (to_sql p at (comp.call o kind (two a b))) (not_if is_binary o refl is_two) h i e (ap (λ x. value v x r g) (is (members_behind p (two a b)) (all_to_sql p at (two a b))))
    call_value _ _ _ (before o a kind is_one is h) l t w i e =
        as_call o (one a) kind (to_sql p at (comp.call o kind (one a))) (not_if is_unary o refl is_one) h i e (ap (λ x. value v x r g) (is (members_behind p (one a)) (all_to_sql p at (one a))))
    call_value _ _ _ (called o a es kind is_call is h) l t w i e =
        as_call o (comp_exp a es) kind (to_sql p at (comp.call o kind (comp_exp a es))) (not_if is_function o refl is_call) h i e (ap (λ x. value v x r g) (is (members_behind p (comp_exp a es)) (all_to_sql p at (comp_exp a es))))

    module _ (known : (place : ℕ) (name : Text) (kind : Kind) → columns place name kind → found v.scope (at place name) ≡ Some kind)
        (given : (a : AggCall) (kind : Kind) → aggregates a kind → kind_in v.scope (aggregate_to_sql at a.kind a.component) ≡ kind)
        (seen : (place : ℕ) (name : Text) (kind : Kind) → columns place name kind → cell_at v r (at place name) ≡ cells place name)
        (made : (a : AggCall) (kind : Kind) → aggregates a kind → value v (aggregate_to_sql at a.kind a.component) r g ≡ aggs a) where
      mutual
        pub value_stays : (e : CompExp) → IsTypedOver p columns aggregates e → HoldsValues e → sql e ≡ vtl e
        value_stays (comp.column place name kind) i w = ap Ok (seen place name kind i)
        value_stays (comp.const x) i w = constant_is v low x r g w i
        value_stays (comp.call o kind args) i w =
            let held = operands_held o args i.2 w in
            call_value o args kind (form_of o args kind i.2 i.0) i.2 i.1 held (kinds_stay p at v.scope columns aggregates known given args i.1) (values_stay args i.1 held)
        value_stays (comp.aggregate a kind) i w = made a kind i

        values_stay : (es : CompExps) → AreTypedOver p columns aggregates es → AllHoldValues es → ValuesStay es
        values_stay no_comp_exps i w = refl
        values_stay (comp_exp e es) i w = λ j. value_stays e i.0 w.0 j ∷ values_stay es i.1 w.1 j
