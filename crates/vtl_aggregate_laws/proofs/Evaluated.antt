-- Groups that are all kept: their faults, their values, and that these depend on nothing else.
use Rattle.std.proofs.Common.{◌≡◌, List, [], ◌∷◌, ◌++◌, map, Ok, Err, Option, Some, None, refl, sym, ap, ◌∙◌}
use Rattle.std.specs.List.{AllByRecursion}
use Rattle.vtl_lists.proofs.Filters.{filter_true}
use Rattle.vtl_decimal.specs.declared.number.Fault.{Fault}
use Rattle.vtl_decimal.specs.declared.number.Fault.TheVariants.{DivZero, Range}
use Rattle.vtl_cell.specs.Outcome.{Outcome, after, fault_in, faults_by, join, unless}
use Rattle.vtl_cell.specs.Outcomes.{all_of}
use Rattle.vtl_cell.specs.Row.{Row}
use Rattle.vtl_cell.specs.declared.cell.Cell.{Cell}
use Rattle.vtl_tree.specs.declared.structure.Component.{Component}
use Rattle.vtl_tuples.proofs.Lists.{map_same}
use Rattle.vtl_meaning.specs.Aggregates.{Condition, Made, each_group, group_fault, group_point}
use Rattle.vtl_meaning.specs.Points.{cell_or_null}

-- ---- faults
pub faults_same : {X : Type 0} (f g : X → Option Fault) (xs : List X) → AllByRecursion (λ x. f x ≡ g x) xs → faults_by f xs ≡ faults_by g xs
faults_same f g [] all = refl
faults_same f g (x ∷ xs) all = λ i. join (all.0 i) (faults_same f g xs all.1 i)

no_fault : {X : Type 0} (xs : List X) → faults_by (λ x. None) xs ≡ None
no_fault [] = refl
no_fault (x ∷ xs) = no_fault xs

none_joined : (f g : Option Fault) → join f g ≡ None → (f ≡ None) × (g ≡ None)
none_joined None g e = (refl, e)
none_joined (Some DivZero) g e = cc
none_joined (Some Range) None e = cc
none_joined (Some Range) (Some g) e = cc

each_without : {X : Type 0} (f : X → Option Fault) (xs : List X) → faults_by f xs ≡ None → AllByRecursion (λ x. f x ≡ None) xs
each_without f [] e = tt
each_without f (x ∷ xs) e = let h = none_joined (f x) (faults_by f xs) e in (h.0, each_without f xs h.1)

-- ---- values
abbrev pub IsValue : Outcome Cell → Type 0
IsValue m = m ≡ Ok (cell_or_null m)

value_there : (m : Outcome Cell) → fault_in m ≡ None → IsValue m
value_there (Ok v) e = refl
value_there (Err f) e = cc

pub all_values : {X : Type 0} (m : X → Outcome Cell) (xs : List X) → AllByRecursion (λ x. IsValue (m x)) xs → all_of (map m xs) ≡ Ok (map (λ x. cell_or_null (m x)) xs)
all_values m [] all = refl
all_values m (x ∷ xs) all = ap (λ o. after o (λ v. after (all_of (map m xs)) (λ vs. Ok (v ∷ vs)))) all.0 ∙ ap (λ o. after o (λ vs. Ok (cell_or_null (m x) ∷ vs))) (all_values m xs all.1)

-- ---- groups that are all kept
module _ (at : Condition) (made : Made) (ys : List Component) where
  pub all_kept : (keys : List Row) → each_group at None made ys keys ≡ unless (faults_by (group_fault made ys) keys) (map (group_point made ys) keys)
  all_kept keys =
      ap (λ kept. unless (join (faults_by (λ k. None) keys) (faults_by (group_fault made ys) kept)) (map (group_point made ys) kept)) (filter_true keys)
      ∙ ap (λ f. unless (join f (faults_by (group_fault made ys) keys)) (map (group_point made ys) keys)) (no_fault keys)

  -- where there is no fault, each group has its point, and the values of its columns
  pub record Are (keys out : List Row) : Type 0 where
    pub points : map (group_point made ys) keys ≡ out
    pub values : AllByRecursion (λ k. AllByRecursion (λ y. IsValue (made y k)) ys) keys

  pub made_are : (keys out : List Row) → each_group at None made ys keys ≡ Ok out → Are keys out
  made_are keys out e = go (faults_by (group_fault made ys) keys) refl (sym (all_kept keys) ∙ e)
    where
      of_key : (k : Row) (zs : List Component) → AllByRecursion (λ y. fault_in (made y k) ≡ None) zs → AllByRecursion (λ y. IsValue (made y k)) zs
      of_key k [] all = tt
      of_key k (z ∷ zs) all = (value_there (made z k) all.0, of_key k zs all.1)

      of_keys : (ks : List Row) → AllByRecursion (λ k. group_fault made ys k ≡ None) ks → AllByRecursion (λ k. AllByRecursion (λ y. IsValue (made y k)) ys) ks
      of_keys [] all = tt
      of_keys (k ∷ ks) all = (of_key k ys (each_without (λ y. fault_in (made y k)) ys all.0), of_keys ks all.1)

      go : (f : Option Fault) → faults_by (group_fault made ys) keys ≡ f → unless f (map (group_point made ys) keys) ≡ Ok out → Are keys out
      go None h g =
          let same : map (group_point made ys) keys ≡ out = cc in
          record { points = same; values = of_keys keys (each_without (group_fault made ys) keys h) }
      go (Some f) h g = cc

-- the same values at each group make the same result
pub made_same : (at other : Condition) (m n : Made) (ys : List Component) (keys : List Row) → AllByRecursion (λ k. AllByRecursion (λ y. m y k ≡ n y k) ys) keys → each_group at None m ys keys ≡ each_group other None n ys keys
made_same at other m n ys keys all =
    all_kept at m ys keys
    ∙ (λ i. unless (faults_same (group_fault m ys) (group_fault n ys) keys (faults keys all) i) (map_same (group_point m ys) (group_point n ys) keys (points keys all) i))
    ∙ sym (all_kept other n ys keys)
  where
    in_fault : (k : Row) (zs : List Component) → AllByRecursion (λ y. m y k ≡ n y k) zs → AllByRecursion (λ y. fault_in (m y k) ≡ fault_in (n y k)) zs
    in_fault k [] h = tt
    in_fault k (z ∷ zs) h = (ap fault_in h.0, in_fault k zs h.1)

    in_cell : (k : Row) (zs : List Component) → AllByRecursion (λ y. m y k ≡ n y k) zs → AllByRecursion (λ y. cell_or_null (m y k) ≡ cell_or_null (n y k)) zs
    in_cell k [] h = tt
    in_cell k (z ∷ zs) h = (ap cell_or_null h.0, in_cell k zs h.1)

    faults : (ks : List Row) → AllByRecursion (λ k. AllByRecursion (λ y. m y k ≡ n y k) ys) ks → AllByRecursion (λ k. group_fault m ys k ≡ group_fault n ys k) ks
    faults [] h = tt
    faults (k ∷ ks) h = (faults_same (λ y. fault_in (m y k)) (λ y. fault_in (n y k)) ys (in_fault k ys h.0), faults ks h.1)

    points : (ks : List Row) → AllByRecursion (λ k. AllByRecursion (λ y. m y k ≡ n y k) ys) ks → AllByRecursion (λ k. group_point m ys k ≡ group_point n ys k) ks
    points [] h = tt
    points (k ∷ ks) h = (ap (λ l. k ++ l) (map_same (λ y. cell_or_null (m y k)) (λ y. cell_or_null (n y k)) ys (in_cell k ys h.0)), points ks h.1)
