-- The worst fault of many values is the one to which their faults are joined.
use Rattle.std.proofs.Common.{◌≡◌, Bool, true, false, cond, ◌||◌, List, [], ◌∷◌, map, Option, Some, None, Ok, Err, refl, sym, ap, ◌∙◌}
use Rattle.std.specs.List.{AllByRecursion, flat_map}
use Rattle.vtl_decimal.specs.declared.number.Fault.{Fault}
use Rattle.vtl_decimal.specs.declared.number.Fault.TheVariants.{DivZero, Range}
use Rattle.vtl_cell.specs.Outcome.{Outcome, fault_in, faults_by, join}
use Rattle.vtl_cell.specs.declared.cell.Cell.{Cell}
use Rattle.vtl_meaning.specs.Faults.{is_fault}
use Rattle.vtl_lists.specs.Perm.{Perm}
use Rattle.vtl_tree.proofs.Faults.{faults_by-Perm, faults_by-append}
use Rattle.vtl_readings.specs.Faults.{some_has, worst}

-- the worse of two faults that are there or not
abbrev worse : Bool → Bool → Option Fault
worse div_zero range = cond div_zero (Some DivZero) (cond range (Some Range) None)

join_worse : (m : Outcome Cell) (x y : Bool) → join (fault_in m) (worse x y) ≡ worse (is_fault DivZero m || x) (is_fault Range m || y)
join_worse (Ok v) x y = refl
join_worse (Err DivZero) x y = refl
join_worse (Err Range) true y = refl
join_worse (Err Range) false true = refl
join_worse (Err Range) false false = refl

pub worst_is : (ms : List (Outcome Cell)) → worst ms ≡ faults_by fault_in ms
worst_is [] = refl
worst_is (m ∷ ms) = sym (join_worse m (some_has DivZero ms) (some_has Range ms)) ∙ ap (join (fault_in m)) (worst_is ms)

pub faults_map : {X Y : Type 0} (f : Y → Option Fault) (g : X → Y) (xs : List X) → faults_by f (map g xs) ≡ faults_by (λ x. f (g x)) xs
faults_map f g [] = refl
faults_map f g (x ∷ xs) = ap (join (f (g x))) (faults_map f g xs)

pub faults_flat : {X Y : Type 0} (f : Y → Option Fault) (g : X → List Y) (xs : List X) → faults_by f (flat_map g xs) ≡ faults_by (λ x. faults_by f (g x)) xs
faults_flat f g [] = refl
faults_flat f g (x ∷ xs) = faults_by-append f (g x) (flat_map g xs) ∙ ap (join (faults_by f (g x))) (faults_flat f g xs)

pub faults_same : {X : Type 0} (f g : X → Option Fault) (xs : List X) → AllByRecursion (λ x. f x ≡ g x) xs → faults_by f xs ≡ faults_by g xs
faults_same f g [] all = refl
faults_same f g (x ∷ xs) all = ap (λ o. join o (faults_by f xs)) all.0 ∙ ap (join (g x)) (faults_same f g xs all.1)

pub worst_respects : {ms ns : List (Outcome Cell)} → Perm ms ns → worst ms ≡ worst ns
worst_respects {ms} {ns} q = worst_is ms ∙ faults_by-Perm fault_in q ∙ sym (worst_is ns)
