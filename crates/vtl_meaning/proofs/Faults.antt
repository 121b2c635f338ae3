-- The fault of an operator is the worst of the faults of its values.
use Rattle.std.proofs.Common.{◌≡◌, Bool, true, false, cond, ◌||◌, List, [], ◌∷◌, map, Option, Some, None, Ok, Err, refl, ap, ◌∙◌}
use Rattle.std.specs.List.{list_any}
use Rattle.vtl_decimal.specs.Settings.{Settings}
use Rattle.vtl_cell.specs.declared.cell.Cell.{Cell}
use Rattle.vtl_decimal.specs.declared.number.Fault.{Fault}
use Rattle.vtl_decimal.specs.declared.number.Fault.TheVariants.{DivZero, Range}
use Rattle.vtl_cell.specs.Outcome.{Outcome, fault_in, faults_by, join, unless}
use Rattle.vtl_cell.specs.Row.{Row}
use Rattle.vtl_tree.specs.Clauses.{filter_of, kept}
use Rattle.vtl_tree.specs.CompExp.{CompExp}
use Rattle.vtl_tree.specs.Value.{value}
use Rattle.vtl_meaning.specs.Faults.{any_fault, is_fault, unless_any}
use Rattle.vtl_meaning.specs.Points.{each_point, point_fault, point_of}

-- the worse of two faults that are there or not
abbrev worse : Bool → Bool → Option Fault
worse div_zero range = cond div_zero (Some DivZero) (cond range (Some Range) None)

join_worse : (a b x y : Bool) → join (worse a b) (worse x y) ≡ worse (a || x) (b || y)
join_worse true b x y = refl
join_worse false true true y = refl
join_worse false true false true = refl
join_worse false true false false = refl
join_worse false false true y = refl
join_worse false false false true = refl
join_worse false false false false = refl

worst : {X : Type 0} (f : X → Option Fault) (a b : X → Bool) → ((x : X) → f x ≡ worse (a x) (b x)) → (xs : List X) → faults_by f xs ≡ worse (list_any a xs) (list_any b xs)
worst f a b h [] = refl
worst f a b h (x ∷ xs) = ap (λ o. join o (faults_by f xs)) (h x) ∙ ap (join (worse (a x) (b x))) (worst f a b h xs) ∙ join_worse (a x) (b x) (list_any a xs) (list_any b xs)

of_one : (m : Outcome Cell) → fault_in m ≡ worse (is_fault DivZero m) (is_fault Range m)
of_one (Ok v) = refl
of_one (Err DivZero) = refl
of_one (Err Range) = refl

unless_worse : {A : Type 0} (a b : Bool) (x : A) → unless (worse a b) x ≡ cond a (Err DivZero) (cond b (Err Range) (Ok x))
unless_worse true b x = refl
unless_worse false true x = refl
unless_worse false false x = refl

at_point : (p : Settings) (es : List CompExp) (r : Row) → point_fault p es r ≡ worse (list_any (λ e. is_fault DivZero (value p e r)) es) (list_any (λ e. is_fault Range (value p e r)) es)
at_point p es r = worst (λ e. fault_in (value p e r)) (λ e. is_fault DivZero (value p e r)) (λ e. is_fault Range (value p e r)) (λ e. of_one (value p e r)) es

pub each_fault : (p : Settings) (es : List CompExp) (d : List Row) → each_point p es d ≡ unless_any p es d (map (point_of p es) d)
each_fault p es d =
    ap (λ o. unless o (map (point_of p es) d)) (worst (point_fault p es) (λ r. list_any (λ e. is_fault DivZero (value p e r)) es) (λ r. list_any (λ e. is_fault Range (value p e r)) es) (at_point p es) d)
    ∙ unless_worse (any_fault p es d DivZero) (any_fault p es d Range) (map (point_of p es) d)

or_false : (b : Bool) → b ≡ (b || false)
or_false true = refl
or_false false = refl

pub filter_fault : (p : Settings) (e : CompExp) (d : List Row) → filter_of p e d ≡ unless_any p (e ∷ []) d (kept p e d)
filter_fault p e d =
    ap (λ o. unless o (kept p e d)) (worst (λ r. fault_in (value p e r)) (λ r. is_fault DivZero (value p e r) || false) (λ r. is_fault Range (value p e r) || false)
    (λ r. of_one (value p e r) ∙ ap (λ b. worse b (is_fault Range (value p e r))) (or_false (is_fault DivZero (value p e r))) ∙ ap (worse (is_fault DivZero (value p e r) || false)) (or_false (is_fault Range (value p e r)))) d)
    ∙ unless_worse (any_fault p (e ∷ []) d DivZero) (any_fault p (e ∷ []) d Range) (kept p e d)
