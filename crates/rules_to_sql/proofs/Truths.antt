-- The expression of a rule has the truth value of the rule.
use Rattle.std.proofs.Common.{◌≡◌, true, false, [], ◌∷◌, Option, Some, None, Ok, Err, refl}
use Rattle.vtl_decimal.specs.Settings.{Settings}
use Rattle.vtl_cell.specs.Conversion.{as_kind}
use Rattle.vtl_cell.specs.Outcome.{Outcome, after, fault_in}
use Rattle.vtl_cell.specs.Outcomes.{branch, first_chosen, is_true}
use Rattle.vtl_cell.specs.Row.{Row}
use Rattle.vtl_cell.specs.ScalarKinds.{common_kind, meets}
use Rattle.vtl_cell.specs.declared.cell.Cell.{Cell}
use Rattle.vtl_cell.specs.declared.cell.Cell.TheVariants as c
use Rattle.vtl_cell.specs.declared.kind.Kind.{Kind}
use Rattle.vtl_cell.specs.declared.kind.Kind.TheVariants as k
use Rattle.vtl_cell.specs.declared.operator.ScalarOp.TheVariants as op
use Rattle.vtl_tree.specs.CompExp.{CompExp}
use Rattle.vtl_tree.specs.Kinds.{exp_kind}
use Rattle.vtl_tree.specs.Trees.{PointRuleTree}
use Rattle.vtl_tree.specs.Value.{called, value}
use Rattle.vtl_meaning.specs.Points.{cell_or_null}
use Rattle.vtl_rulings.specs.Outputs.{is_false}
use Rattle.vtl_rulings.specs.PointChecks.{held, truth_of, under}
use Rattle.rules_to_sql.specs.Conditions.{boolean, boolean_by, held_exp, truth_exp}

-- a boolean stays what it is
stays : (p : Settings) (m : Outcome Cell) → after m (as_kind p k.Bool) ≡ m
stays p (Ok v) = refl
stays p (Err f) = refl

boolean_is : (p : Settings) (kind : Kind) (e : CompExp) (r : Row) → value p (boolean_by kind e) r ≡ value p e r
boolean_is p k.Null e r = stays p (value p e r)
boolean_is p k.Bool e r = refl
boolean_is p k.Int e r = refl
boolean_is p k.Num e r = refl
boolean_is p k.Text e r = refl
boolean_is p k.Day e r = refl
boolean_is p k.Period e r = refl

-- the negation of an antecedent that is not true is what holds under it
chosen_is : (p : Settings) (t : Cell) (m : Outcome Cell) → after (branch (first_chosen t) m (called p k.Bool (Ok t ∷ []) op.Not)) (as_kind p k.Bool) ≡ under t m
chosen_is p (c.Bool true) m = stays p m
chosen_is p (c.Bool false) m = refl
chosen_is p c.Null m = refl
chosen_is p (c.Int n) m = refl
chosen_is p (c.Num n) m = refl
chosen_is p (c.Text x) m = refl
chosen_is p (c.Day x) m = refl
chosen_is p (c.Period x) m = refl

held_is : (p : Settings) (antecedent : Option CompExp) (condition : CompExp) (r : Row) → value p (held_exp antecedent condition) r ≡ held p antecedent condition r
held_is p None condition r = boolean_is p (exp_kind condition) condition r
held_is p (Some e) condition r = go (value p e r)
  where
    then : Outcome Cell
    then = value p condition r

    go : (m : Outcome Cell) → called p k.Bool (m ∷ then ∷ called p k.Bool (m ∷ []) op.Not ∷ []) op.If ≡ after m (λ t. under t then)
    go (Ok t) = chosen_is p t then
    go (Err f) = refl

pub truth_is : (p : Settings) (rule : PointRuleTree) (r : Row) → value p (truth_exp rule) r ≡ truth_of p rule r
truth_is p rule r = held_is p rule.antecedent rule.condition r

-- ---- a negation as a condition: it has the same fault, and is true where the truth value is false

pub negated_fault : (p : Settings) (m : Outcome Cell) → fault_in (called p k.Bool (m ∷ []) op.Not) ≡ fault_in m
negated_fault p (Ok (c.Bool true)) = refl
negated_fault p (Ok (c.Bool false)) = refl
negated_fault p (Ok c.Null) = refl
negated_fault p (Ok (c.Int n)) = refl
negated_fault p (Ok (c.Num n)) = refl
negated_fault p (Ok (c.Text x)) = refl
negated_fault p (Ok (c.Day x)) = refl
negated_fault p (Ok (c.Period x)) = refl
negated_fault p (Err f) = refl

pub negated_true : (p : Settings) (m : Outcome Cell) → is_true (called p k.Bool (m ∷ []) op.Not) ≡ is_false (cell_or_null m)
negated_true p (Ok (c.Bool true)) = refl
negated_true p (Ok (c.Bool false)) = refl
negated_true p (Ok c.Null) = refl
negated_true p (Ok (c.Int n)) = refl
negated_true p (Ok (c.Num n)) = refl
negated_true p (Ok (c.Text x)) = refl
negated_true p (Ok (c.Day x)) = refl
negated_true p (Ok (c.Period x)) = refl
negated_true p (Err f) = refl

-- ---- kinds

pub boolean_kind : (e : CompExp) → meets k.Bool (exp_kind e) ≡ true → exp_kind (boolean e) ≡ k.Bool
boolean_kind e m = go (exp_kind e) refl m
  where
    go : (kind : Kind) → exp_kind e ≡ kind → meets k.Bool kind ≡ true → exp_kind (boolean_by kind e) ≡ k.Bool
    go k.Null same h = refl
    go k.Bool same h = same
    go k.Int same h = cc
    go k.Num same h = cc
    go k.Text same h = cc
    go k.Day same h = cc
    go k.Period same h = cc

-- a condition beside a boolean
pub beside_boolean : (kind : Kind) → meets k.Bool kind ≡ true → common_kind (kind ∷ k.Bool ∷ []) ≡ Some k.Bool
beside_boolean k.Null h = refl
beside_boolean k.Bool h = refl
beside_boolean k.Int h = cc
beside_boolean k.Num h = cc
beside_boolean k.Text h = cc
beside_boolean k.Day h = cc
beside_boolean k.Period h = cc
