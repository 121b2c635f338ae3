-- The expressions of errors: their values, faults and kinds, and that they can be written.
use Rattle.std.proofs.Common.{◌≡◌, ◌+◌, ◌-◌, ◌≤◌, ℕ, ℤ, pos, true, false, List, [], ◌∷◌, Option, Some, None, Ok, Err, refl, ap, ◌∙◌, arith}
use Rattle.std.specs.Prelude.{IsOk}
use Rattle.std.specs.Option.{IfSome}
use Rattle.std.proofs.Math.Nat.{one-le-pow}
use Rattle.vtl_decimal.specs.Range.{fit_integer}
use Rattle.vtl_decimal.specs.Settings.{Settings}
use Rattle.vtl_decimal.specs.declared.number.Fault.{Fault}
use Rattle.vtl_decimal.specs.declared.number.Fault.TheVariants.{DivZero, Range}
use Rattle.vtl_cell.specs.Held.{IsHeld}
use Rattle.vtl_cell.specs.Outcome.{Outcome, fault_in, join}
use Rattle.vtl_cell.specs.Profile.{IsOfProfile}
use Rattle.vtl_cell.specs.Row.{Row}
use Rattle.vtl_cell.specs.ScalarKinds.{kinds_of}
use Rattle.vtl_cell.specs.declared.cell.Cell.{Cell}
use Rattle.vtl_cell.specs.declared.cell.Cell.TheVariants as c
use Rattle.vtl_cell.specs.declared.kind.Kind.TheVariants as k
use Rattle.vtl_cell.specs.declared.operator.ScalarOp.TheVariants as op
use Rattle.vtl_tree.specs.CompExp.{CompExp}
use Rattle.vtl_tree.specs.Kinds.{exp_kind}
use Rattle.vtl_tree.specs.Value.{called, value}
use Rattle.vtl_tree.specs.declared.structure.Component.{Component}
use Rattle.vtl_tree.proofs.Faults.{join_none}
use Rattle.vtl_meaning.specs.Made.{AreFor, IsTyped}
use Rattle.vtl_meaning.specs.Points.{cell_or_null, point_fault, point_of}
use Rattle.vtl_rulings.specs.Outputs.{code_cell, errors_at, level_cell}
use Rattle.vtl_tree.specs.Checks.{error_measures}
use Rattle.vtl_tree.specs.Depths.{comp_depth}
use Rattle.selects_to_sql.specs.Writable.{AllCanBeWritten, CanBeWritten, most_depth}
use Rattle.rules_to_sql.specs.Conditions.{error_exps, error_exps_at, negated, written, written_where}
use Rattle.rules_to_sql.specs.Writable.{AreErrorsHeld}

-- ---- as constants

pub errors_are : (p : Settings) (code : Option (List ℕ)) (level : Option ℤ) (r : Row) → point_of p (error_exps code level) r ≡ code_cell code ∷ level_cell level ∷ []
errors_are p None None r = refl
errors_are p None (Some n) r = refl
errors_are p (Some text) None r = refl
errors_are p (Some text) (Some n) r = refl

pub errors_sure : (p : Settings) (code : Option (List ℕ)) (level : Option ℤ) (r : Row) → point_fault p (error_exps code level) r ≡ None
errors_sure p None None r = refl
errors_sure p None (Some n) r = refl
errors_sure p (Some text) None r = refl
errors_sure p (Some text) (Some n) r = refl

-- ---- where a truth value is false

-- a constant where the negation of this value is true
abbrev text_where : Settings → Outcome Cell → List ℕ → Outcome Cell
text_where p m text = called p k.Text (called p k.Bool (m ∷ []) op.Not ∷ Ok (c.Text text) ∷ Ok c.Null ∷ []) op.If

abbrev level_where : Settings → Outcome Cell → ℤ → Outcome Cell
level_where p m n = called p k.Int (called p k.Bool (m ∷ []) op.Not ∷ Ok (c.Int n) ∷ Ok c.Null ∷ []) op.If

abbrev first_at : Cell → Cell → Cell
first_at v (c.Bool false) = v
first_at v truth = c.Null

text_is : (p : Settings) (m : Outcome Cell) (text : List ℕ) → cell_or_null (text_where p m text) ≡ first_at (c.Text text) (cell_or_null m)
text_is p (Ok (c.Bool true)) text = refl
text_is p (Ok (c.Bool false)) text = refl
text_is p (Ok c.Null) text = refl
text_is p (Ok (c.Int n)) text = refl
text_is p (Ok (c.Num n)) text = refl
text_is p (Ok (c.Text x)) text = refl
text_is p (Ok (c.Day x)) text = refl
text_is p (Ok (c.Period x)) text = refl
text_is p (Err f) text = refl

level_is : (p : Settings) (m : Outcome Cell) (n : ℤ) → cell_or_null (level_where p m n) ≡ first_at (c.Int n) (cell_or_null m)
level_is p (Ok (c.Bool true)) n = refl
level_is p (Ok (c.Bool false)) n = refl
level_is p (Ok c.Null) n = refl
level_is p (Ok (c.Int i)) n = refl
level_is p (Ok (c.Num i)) n = refl
level_is p (Ok (c.Text x)) n = refl
level_is p (Ok (c.Day x)) n = refl
level_is p (Ok (c.Period x)) n = refl
level_is p (Err f) n = refl

both_at : (code level truth : Cell) → first_at code truth ∷ first_at level truth ∷ [] ≡ errors_at code level truth
both_at code level (c.Bool true) = refl
both_at code level (c.Bool false) = refl
both_at code level c.Null = refl
both_at code level (c.Int n) = refl
both_at code level (c.Num n) = refl
both_at code level (c.Text x) = refl
both_at code level (c.Day x) = refl
both_at code level (c.Period x) = refl

null_at : (truth : Cell) → c.Null ≡ first_at c.Null truth
null_at (c.Bool true) = refl
null_at (c.Bool false) = refl
null_at c.Null = refl
null_at (c.Int n) = refl
null_at (c.Num n) = refl
null_at (c.Text x) = refl
null_at (c.Day x) = refl
null_at (c.Period x) = refl

module _ (p : Settings) (truth : CompExp) (r : Row) where
  abbrev m : Outcome Cell
  m = value p truth r

  code_at : (code : Option (List ℕ)) → cell_or_null (value p (written_where k.Text c.Text [] (negated truth) code) r) ≡ first_at (code_cell code) (cell_or_null m)
  code_at None = null_at (cell_or_null m)
  code_at (Some text) = text_is p m text

  level_at : (level : Option ℤ) → cell_or_null (value p (written_where k.Int c.Int (pos 0) (negated truth) level) r) ≡ first_at (level_cell level) (cell_or_null m)
  level_at None = null_at (cell_or_null m)
  level_at (Some n) = level_is p m n

  pub errors_at_are : (code : Option (List ℕ)) (level : Option ℤ) → point_of p (error_exps_at truth code level) r ≡ errors_at (code_cell code) (level_cell level) (cell_or_null m)
  errors_at_are code level =
      ap (λ v. v ∷ cell_or_null (value p (written_where k.Int c.Int (pos 0) (negated truth) level) r) ∷ []) (code_at code)
      ∙ ap (λ v. first_at (code_cell code) (cell_or_null m) ∷ v ∷ []) (level_at level)
      ∙ both_at (code_cell code) (level_cell level) (cell_or_null m)

text_fault : (p : Settings) (m : Outcome Cell) (text : List ℕ) → fault_in (text_where p m text) ≡ fault_in m
text_fault p (Ok (c.Bool true)) text = refl
text_fault p (Ok (c.Bool false)) text = refl
text_fault p (Ok c.Null) text = refl
text_fault p (Ok (c.Int n)) text = refl
text_fault p (Ok (c.Num n)) text = refl
text_fault p (Ok (c.Text x)) text = refl
text_fault p (Ok (c.Day x)) text = refl
text_fault p (Ok (c.Period x)) text = refl
text_fault p (Err f) text = refl

level_fault : (p : Settings) (m : Outcome Cell) (n : ℤ) → fault_in (level_where p m n) ≡ fault_in m
level_fault p (Ok (c.Bool true)) n = refl
level_fault p (Ok (c.Bool false)) n = refl
level_fault p (Ok c.Null) n = refl
level_fault p (Ok (c.Int i)) n = refl
level_fault p (Ok (c.Num i)) n = refl
level_fault p (Ok (c.Text x)) n = refl
level_fault p (Ok (c.Day x)) n = refl
level_fault p (Ok (c.Period x)) n = refl
level_fault p (Err f) n = refl

pub same_twice : (f : Option Fault) → join f f ≡ f
same_twice None = refl
same_twice (Some DivZero) = refl
same_twice (Some Range) = refl

-- beside the truth value they have no fault of their own
pub errors_at_fault : (p : Settings) (truth : CompExp) (code : Option (List ℕ)) (level : Option ℤ) (r : Row) → join (fault_in (value p truth r)) (point_fault p (error_exps_at truth code level) r) ≡ fault_in (value p truth r)
errors_at_fault p truth None None r = join_none (fault_in (value p truth r))
errors_at_fault p truth None (Some n) r =
    let f = fault_in (value p truth r) in
    ap (λ g. join f (join g None)) (level_fault p (value p truth r) n) ∙ ap (join f) (join_none f) ∙ same_twice f
errors_at_fault p truth (Some text) None r =
    let f = fault_in (value p truth r) in
    ap (λ g. join f (join g None)) (text_fault p (value p truth r) text) ∙ ap (join f) (join_none f) ∙ same_twice f
errors_at_fault p truth (Some text) (Some n) r =
    let m = value p truth r in
    let f = fault_in m in
    ap (λ g. join f (join g (join (fault_in (level_where p m n)) None))) (text_fault p m text)
    ∙ ap (λ g. join f (join f (join g None))) (level_fault p m n)
    ∙ ap (λ g. join f (join f g)) (join_none f)
    ∙ ap (join f) (same_twice f)
    ∙ same_twice f

-- ---- typed

pub zero_fits : (p : Settings) → IsOk (fit_integer p.scale (pos 0))
zero_fits p = grind (arith, one-le-pow (18 - p.scale) 10 (omega arith))

pub errors_for : (p : Settings) (xs : List Component) (code : Option (List ℕ)) (level : Option ℤ) → IfSome level (λ n. IsOfProfile p (c.Int n)) → AreFor p xs (error_exps code level) error_measures
errors_for p xs None None h = ((refl, (tt, (tt, (tt, tt))), refl), refl, ((refl, (tt, (zero_fits p, (tt, tt))), refl), refl, tt))
errors_for p xs None (Some n) h = ((refl, (tt, (tt, (tt, tt))), refl), refl, (h, refl, tt))
errors_for p xs (Some text) None h = (tt, refl, ((refl, (tt, (zero_fits p, (tt, tt))), refl), refl, tt))
errors_for p xs (Some text) (Some n) h = (tt, refl, (h, refl, tt))

-- the negation of a typed boolean
pub negated_typed : (p : Settings) (xs : List Component) (truth : CompExp) → IsTyped p xs truth → exp_kind truth ≡ k.Bool → IsTyped p xs (negated truth)
negated_typed p xs truth h b = (ap (λ q. kinds_of op.Not (q ∷ [])) b, (h, tt), refl)

pub errors_at_for : (p : Settings) (xs : List Component) (truth : CompExp) → IsTyped p xs truth → exp_kind truth ≡ k.Bool → (code : Option (List ℕ)) (level : Option ℤ) → IfSome level (λ n. IsOfProfile p (c.Int n)) → AreFor p xs (error_exps_at truth code level) error_measures
errors_at_for p xs truth t b None None h = errors_for p xs None None h
errors_at_for p xs truth t b None (Some n) h = ((refl, (tt, (tt, (tt, tt))), refl), refl, ((refl, (negated_typed p xs truth t b, (h, (tt, tt))), refl), refl, tt))
errors_at_for p xs truth t b (Some text) None h = ((refl, (negated_typed p xs truth t b, (tt, (tt, tt))), refl), refl, ((refl, (tt, (zero_fits p, (tt, tt))), refl), refl, tt))
errors_at_for p xs truth t b (Some text) (Some n) h = ((refl, (negated_typed p xs truth t b, (tt, (tt, tt))), refl), refl, ((refl, (negated_typed p xs truth t b, (h, (tt, tt))), refl), refl, tt))

-- ---- written

text_absent : CanBeWritten (written k.Text c.Text [] None)
text_absent = record { constants = (tt, (refl, (tt, tt))); shallow = omega arith }

level_absent : CanBeWritten (written k.Int c.Int (pos 0) None)
level_absent = record { constants = (tt, (omega arith, (tt, tt))); shallow = omega arith }

pub errors_written : (code : Option (List ℕ)) (level : Option ℤ) → AreErrorsHeld code level → AllCanBeWritten (error_exps code level)
errors_written code level h = (text code h.code, (number level h.level, tt))
  where
    text : (o : Option (List ℕ)) → IfSome o (λ x. IsHeld (c.Text x)) → CanBeWritten (written k.Text c.Text [] o)
    text None i = text_absent
    text (Some x) i = record { constants = i; shallow = omega arith }

    number : (o : Option ℤ) → IfSome o (λ n. IsHeld (c.Int n)) → CanBeWritten (written k.Int c.Int (pos 0) o)
    number None i = level_absent
    number (Some n) i = record { constants = i; shallow = omega arith }

-- they are two deeper than the truth value
pub errors_at_written : (truth : CompExp) → CanBeWritten truth → comp_depth truth + 2 ≤ most_depth → (code : Option (List ℕ)) (level : Option ℤ) → AreErrorsHeld code level → AllCanBeWritten (error_exps_at truth code level)
errors_at_written truth w low code level h = (text code h.code, (number level h.level, tt))
  where
    text : (o : Option (List ℕ)) → IfSome o (λ x. IsHeld (c.Text x)) → CanBeWritten (written_where k.Text c.Text [] (negated truth) o)
    text None i = text_absent
    text (Some x) i = record { constants = ((w.constants, tt), (i, (tt, tt))); shallow = omega (arith, low) }

    number : (o : Option ℤ) → IfSome o (λ n. IsHeld (c.Int n)) → CanBeWritten (written_where k.Int c.Int (pos 0) (negated truth) o)
    number None i = level_absent
    number (Some n) i = record { constants = ((w.constants, tt), (i, (tt, tt))); shallow = omega (arith, low) }
