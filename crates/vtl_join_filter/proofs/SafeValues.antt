-- A condition that is safe has no fault.
use Rattle.std.proofs.Common.{rules, Global, Vec, ◌≡◌, true, false, not, ◌&&◌, List, [], ◌∷◌, length, map, None, Ok, Err, refl, sym, ap, ◌∙◌}
use Rattle.std.specs.List.{list_all}
use Rattle.std.proofs.lemmas.Bool.{and_parts}
use Rattle.vtl_decimal.specs.Settings.{Settings}
use Rattle.vtl_cell.specs.Conversion.{as_kind}
use Rattle.vtl_cell.specs.Kinds.{same_kind}
use Rattle.vtl_cell.specs.Outcome.{Outcome, after, fault_in}
use Rattle.vtl_cell.specs.Outcomes.{all_of, result_of}
use Rattle.vtl_cell.specs.Row.{Row}
use Rattle.vtl_cell.specs.Scalars.{binary_of, by_number_of_operands, scalar_of, ternary_of, unary_of}
use Rattle.vtl_cell.specs.declared.cell.Cell.{Cell}
use Rattle.vtl_cell.specs.declared.kind.Kind.{Kind}
use Rattle.vtl_cell.specs.declared.kind.Kind.TheVariants as k
use Rattle.vtl_cell.specs.declared.operator.ScalarOp.{ScalarOp}
use Rattle.vtl_cell.specs.declared.operator.ScalarOp.TheVariants as op
use Rattle.vtl_tree.specs.CompExp.{CompExp, CompExps, aggregate, call, column, comp_exp, const, no_comp_exps}
use Rattle.vtl_tree.specs.Value.{called, is_choice, value, values}
use Rattle.vtl_tree.specs.View.{comp_exp_of, comp_exps_of}
use Rattle.vtl_tree.specs.declared.expression.CompExpr.{Apply, CompExpr, the_lemmas}
use Rattle.vtl_expr.proofs.Values.{no_choice}
use Rattle.vtl_join_filter.specs.Safety.{are_safe, is_safe, is_total}

-- ---- operators that have no fault
unary_safe : (p : Settings) (o : ScalarOp) (a : Cell) → is_total o ≡ true → fault_in (unary_of p o a) ≡ None
unary_safe p op.Negate a h = cc
unary_safe p op.Absolute a h = cc
unary_safe p op.Floor a h = cc
unary_safe p op.Ceil a h = cc
unary_safe p op.Length a h = cc
unary_safe p o a h = refl

binary_safe : (p : Settings) (o : ScalarOp) (a b : Cell) → is_total o ≡ true → fault_in (binary_of p o a b) ≡ None
binary_safe p op.Add a b h = cc
binary_safe p op.Subtract a b h = cc
binary_safe p op.Multiply a b h = cc
binary_safe p op.Divide a b h = cc
binary_safe p op.Modulo a b h = cc
binary_safe p op.Round a b h = cc
binary_safe p op.Truncate a b h = cc
binary_safe p op.Position a b h = cc
binary_safe p op.ValueOr a b h = cc
binary_safe p op.PeriodShift a b h = cc
binary_safe p o a b h = refl

ternary_safe : (p : Settings) (o : ScalarOp) (a x y : Cell) → is_total o ≡ true → fault_in (ternary_of p o a x y) ≡ None
ternary_safe p op.If a x y h = cc
ternary_safe p o a x y h = refl

by_number_safe : (p : Settings) (o : ScalarOp) (vs : List Cell) → is_total o ≡ true → fault_in (by_number_of_operands p o vs) ≡ None
by_number_safe p o [] h = refl
by_number_safe p o (a ∷ []) h = unary_safe p o a h
by_number_safe p o (a ∷ b ∷ []) h = binary_safe p o a b h
by_number_safe p o (a ∷ x ∷ y ∷ []) h = ternary_safe p o a x y h
by_number_safe p o (a ∷ x ∷ y ∷ z ∷ vs) h = refl

scalar_safe : (p : Settings) (o : ScalarOp) (vs : List Cell) → is_total o ≡ true → fault_in (scalar_of p o vs) ≡ None
scalar_safe p op.In vs h = refl
scalar_safe p op.NotIn vs h = refl
scalar_safe p o vs h = by_number_safe p o vs h

after_safe : {A B : Type 0} (m : Outcome A) (f : A → Outcome B) → fault_in m ≡ None → ((x : A) → fault_in (f x) ≡ None) → fault_in (after m f) ≡ None
after_safe (Ok x) f e h = h x
after_safe (Err g) f e h = cc

kind_safe : (p : Settings) (kind : Kind) (v : Cell) → not (same_kind k.Num kind) ≡ true → fault_in (as_kind p kind v) ≡ None
kind_safe p k.Num v h = cc
kind_safe p kind v h = refl

total_chooses_nothing : (o : ScalarOp) (n : _) → is_total o ≡ true → is_choice o n ≡ false
total_chooses_nothing op.If n h = cc
total_chooses_nothing o n h = refl

called_safe : (p : Settings) (kind : Kind) (o : ScalarOp) (ms : List (Outcome Cell)) → is_total o ≡ true → not (same_kind k.Num kind) ≡ true → fault_in (all_of ms) ≡ None → fault_in (called p kind ms o) ≡ None
called_safe p kind o ms t b e =
    ap fault_in (no_choice p kind o ms (total_chooses_nothing o (length ms) t))
    ∙ after_safe (all_of ms) (result_of p o kind) e (λ vs. after_safe (scalar_of p o vs) (as_kind p kind) (scalar_safe p o vs t) (λ v. kind_safe p kind v b))

module _ (p : Settings) (r : Row) where
  mutual
    pub safe_value : (e : CompExp) → is_safe e ≡ true → fault_in (value p e r) ≡ None
    safe_value (column place name kind) h = refl
    safe_value (const v) h = refl
    safe_value (call o kind args) h =
        let outer = and_parts (is_total o && not (same_kind k.Num kind)) (are_safe args) h in
        let inner = and_parts (is_total o) (not (same_kind k.Num kind)) outer.0 in
        called_safe p kind o (values p args r) inner.0 inner.1 (safe_values args outer.1)
    safe_value (aggregate a kind) h = cc

    safe_values : (es : CompExps) → are_safe es ≡ true → fault_in (all_of (values p es r)) ≡ None
    safe_values no_comp_exps h = refl
    safe_values (comp_exp e es) h =
        let both = and_parts (is_safe e) (are_safe es) h in
        after_safe (value p e r) (λ v. after (all_of (values p es r)) (λ vs. Ok (v ∷ vs))) (safe_value e both.0)
        (λ v. after_safe (all_of (values p es r)) (λ vs. Ok (v ∷ vs)) (safe_values es both.1) (λ vs. refl))

-- ---- as the program holds them
pub all_safe : (es : List CompExpr) → list_all (λ e. is_safe (comp_exp_of e)) es ≡ are_safe (comp_exps_of (map comp_exp_of es))
all_safe [] = refl
all_safe (e ∷ es) = ap (λ b. is_safe (comp_exp_of e) && b) (all_safe es)

pub call_safe : (o : ScalarOp) (kind : Kind) (args : Vec CompExpr Global) → is_safe (comp_exp_of (Apply o kind args)) ≡ ((is_total o && not (same_kind k.Num kind)) && list_all (λ e. is_safe (comp_exp_of e)) args.items)
call_safe o kind args =
    let call_is : comp_exp_of (Apply o kind args) ≡ call o kind (comp_exps_of (map comp_exp_of args.items)) = search (rules, the_lemmas) in
    ap is_safe call_is ∙ ap (λ b. (is_total o && not (same_kind k.Num kind)) && b) (sym (all_safe args.items))
