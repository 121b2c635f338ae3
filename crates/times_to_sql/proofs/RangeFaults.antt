-- Outcomes of a kind, and the faults of values that are out of range at most.
use Rattle.std.proofs.Common.{◌≡◌, ◌⊎◌, inl, inr, List, [], ◌∷◌, Ok, Err, Option, Some, None, refl, sym, ◌∙◌, subst}
use Rattle.std.specs.List.{AllByRecursion}
use Rattle.vtl_cell.specs.Conversion.{as_kind}
use Rattle.vtl_cell.specs.Outcome.{Outcome, after, fault_in, faults_by, join}
use Rattle.vtl_cell.specs.declared.cell.Cell.{Cell}
use Rattle.vtl_cell.specs.declared.cell.Cell.TheVariants as c
use Rattle.vtl_cell.specs.declared.kind.Kind.{Kind}
use Rattle.vtl_cell.specs.declared.kind.Kind.TheVariants as k
use Rattle.vtl_decimal.specs.Settings.{Settings}
use Rattle.vtl_decimal.specs.declared.number.Fault.{Fault}
use Rattle.vtl_decimal.specs.declared.number.Fault.TheVariants.{Range}
use Rattle.vtl_meaning.specs.Points.{cell_or_null}
use Rattle.vtl_meaning.proofs.GroupKinds.{GivesOf, IsOf, null_is_of}

-- ---- kinds
-- a value of a kind stays as one of it
pub kind_stays : (p : Settings) (kind : Kind) (v : Cell) → IsOf kind v → as_kind p kind v ≡ Ok v
kind_stays p k.Num (c.Num n) h = refl
kind_stays p k.Num c.Null h = refl
kind_stays p k.Num v h = cc
kind_stays p kind v h = refl

pub outcome_stays : (p : Settings) (kind : Kind) (m : Outcome Cell) → GivesOf kind m → after m (as_kind p kind) ≡ m
outcome_stays p kind (Ok v) h = kind_stays p kind v h
outcome_stays p kind (Err f) h = refl

pub value_is : (kind : Kind) (m : Outcome Cell) → GivesOf kind m → IsOf kind (cell_or_null m)
value_is kind (Ok v) h = h
value_is kind (Err f) h = null_is_of kind

pub there_is : (m : Outcome Cell) → fault_in m ≡ None → Ok (cell_or_null m) ≡ m
there_is (Ok v) e = refl
there_is (Err f) e = cc

-- ---- faults
-- none, or a number out of range
abbrev pub IsRange : Option Fault → Type 0
IsRange o = (o ≡ None) ⊎ (o ≡ Some Range)

range_joined : (f g : Option Fault) → IsRange f → IsRange g → IsRange (join f g)
range_joined f g (inl e) i = subst (λ o. IsRange (join o g)) (sym e) i
range_joined f g (inr e) (inl i) = inr ((λ j. join (e j) (i j)))
range_joined f g (inr e) (inr i) = inr ((λ j. join (e j) (i j)))

pub faults_range : {X : Type 0} (g : X → Option Fault) (xs : List X) → AllByRecursion (λ x. IsRange (g x)) xs → IsRange (faults_by g xs)
faults_range g [] all = inl refl
faults_range g (x ∷ xs) all = range_joined (g x) (faults_by g xs) all.0 (faults_range g xs all.1)

pub one_fault : (f g : Option Fault) → IsRange f → IsRange g → (f ≡ None → g ≡ None) → (g ≡ None → f ≡ None) → f ≡ g
one_fault f g (inl e) i to from = e ∙ sym (to e)
one_fault f g (inr e) (inl i) to from = from i ∙ sym i
one_fault f g (inr e) (inr i) to from = e ∙ sym i

none_joined : (f g : Option Fault) → f ≡ None → g ≡ None → join f g ≡ None
none_joined f g e i = λ j. join (e j) (i j)

pub none_faults : {X : Type 0} (g : X → Option Fault) (xs : List X) → AllByRecursion (λ x. g x ≡ None) xs → faults_by g xs ≡ None
none_faults g [] all = refl
none_faults g (x ∷ xs) all = none_joined (g x) (faults_by g xs) all.0 (none_faults g xs all.1)
