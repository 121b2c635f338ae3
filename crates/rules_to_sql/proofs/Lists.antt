-- What is made of the items at which a test holds, and of several selects.
use Rattle.std.proofs.Common.{◌≡◌, Bool, true, false, cond, List, [], ◌∷◌, ◌++◌, map, Option, Some, None, Ok, refl, sym, ap, ◌∙◌}
use Rattle.std.specs.List.{AllByRecursion, cons_option, filter, filter_map, flat_map}
use Rattle.vtl_decimal.specs.Settings.{Settings}
use Rattle.vtl_decimal.specs.declared.number.Fault.{Fault}
use Rattle.vtl_decimal.specs.declared.number.Fault.TheVariants.{DivZero, Range}
use Rattle.vtl_cell.specs.Outcome.{Outcome, fault_in, faults_by, join, unless}
use Rattle.vtl_cell.specs.Row.{Row}
use Rattle.vtl_tree.specs.CompExp.{CompExp}
use Rattle.vtl_meaning.specs.Points.{each_point, point_fault, point_of}
use Rattle.sql_meaning.specs.Selects.{appended, rows_in}
use Rattle.sql_meaning.proofs.Faulted.{fault_unless}

pub shown_points : {X Y : Type 0} (P : X → Type 0) (t : X → Bool) (f g : X → Y) → ((x : X) → P x → t x ≡ true → f x ≡ g x) → (xs : List X) → AllByRecursion P xs → map f (filter t xs) ≡ filter_map (λ x. cond (t x) (Some (g x)) None) xs
shown_points P t f g same [] all = refl
shown_points P t f g same (x ∷ xs) all = go (t x) refl (shown_points P t f g same xs all.1)
  where
    go : (b : Bool) → t x ≡ b → map f (filter t xs) ≡ filter_map (λ y. cond (t y) (Some (g y)) None) xs
        → map f (cond b (x ∷ filter t xs) (filter t xs)) ≡ cons_option (cond b (Some (g x)) None) (filter_map (λ y. cond (t y) (Some (g y)) None) xs)
    go true e ih = ap (λ y. y ∷ map f (filter t xs)) (same x all.0 e) ∙ ap (λ l. g x ∷ l) ih
    go false e ih = ih

pub all_shown : {X : Type 0} (t : X → Bool) → ((x : X) → t x ≡ true) → (xs : List X) → filter t xs ≡ xs
all_shown t h [] = refl
all_shown t h (x ∷ xs) = ap (λ b. cond b (x ∷ filter t xs) (filter t xs)) (h x) ∙ ap (λ l. x ∷ l) (all_shown t h xs)

pub faults_same : {X : Type 0} (P : X → Type 0) (f g : X → Option Fault) → ((x : X) → P x → f x ≡ g x) → (xs : List X) → AllByRecursion P xs → faults_by f xs ≡ faults_by g xs
faults_same P f g h [] all = refl
faults_same P f g h (x ∷ xs) all = ap (λ o. join o (faults_by f xs)) (h x all.0) ∙ ap (join (g x)) (faults_same P f g h xs all.1)

pub no_faults : {X : Type 0} (xs : List X) → faults_by (λ x. None) xs ≡ None
no_faults [] = refl
no_faults (x ∷ xs) = no_faults xs

-- points of which no expression has a fault
pub each_sure : (p : Settings) (P : Row → Type 0) (es : List CompExp) → ((r : Row) → P r → point_fault p es r ≡ None) → (d : List Row) → AllByRecursion P d → each_point p es d ≡ Ok (map (point_of p es) d)
each_sure p P es h d all = ap (λ o. unless o (map (point_of p es) d)) (faults_same P (point_fault p es) (λ r. None) h d all ∙ no_faults d)

-- ---- several selects, each with rows or a fault

pub both_none : (f g : Option Fault) → join f g ≡ None → (f ≡ None) × (g ≡ None)
both_none None g e = (refl, e)
both_none (Some DivZero) g e = cc
both_none (Some Range) None e = cc
both_none (Some Range) (Some g) e = cc

module _ {X : Type 0} (F : X → Option Fault) (G : X → List Row) where
  abbrev one : X → Outcome (List Row)
  one x = unless (F x) (G x)

  all_faults : (xs : List X) → faults_by fault_in (map one xs) ≡ faults_by F xs
  all_faults [] = refl
  all_faults (x ∷ xs) = ap (λ f. join f (faults_by fault_in (map one xs))) (fault_unless (F x) (G x)) ∙ ap (join (F x)) (all_faults xs)

  all_rows : (xs : List X) → faults_by F xs ≡ None → flat_map rows_in (map one xs) ≡ flat_map G xs
  all_rows [] e = refl
  all_rows (x ∷ xs) e =
      let both = both_none (F x) (faults_by F xs) e in
      ap (λ f. rows_in (unless f (G x)) ++ flat_map rows_in (map one xs)) both.0 ∙ ap (λ l. G x ++ l) (all_rows xs both.1)

  -- the rows of all, unless one has a fault
  pub appended_is : (xs : List X) → appended (map one xs) ≡ unless (faults_by F xs) (flat_map G xs)
  appended_is xs = go (faults_by F xs) refl
    where
      go : (o : Option Fault) → faults_by F xs ≡ o → appended (map one xs) ≡ unless (faults_by F xs) (flat_map G xs)
      go None e = ap (λ f. unless f (flat_map rows_in (map one xs))) (all_faults xs ∙ e) ∙ ap Ok (all_rows xs e) ∙ sym (ap (λ f. unless f (flat_map G xs)) e)
      go (Some f) e = ap (λ z. unless z (flat_map rows_in (map one xs))) (all_faults xs ∙ e) ∙ sym (ap (λ z. unless z (flat_map G xs)) e)
