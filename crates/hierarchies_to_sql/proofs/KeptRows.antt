-- What a condition and expressions make of rows that are made of items one by one.
use Rattle.std.proofs.Common.{◌≡◌, Bool, true, false, cond, List, [], ◌∷◌, map, Option, Some, None, Ok, refl, sym, ap, ◌∙◌}
use Rattle.std.specs.List.{AllByRecursion, filter, filter_map}
use Rattle.vtl_decimal.specs.Settings.{Settings}
use Rattle.vtl_decimal.specs.declared.number.Fault.{Fault}
use Rattle.vtl_cell.specs.Outcome.{Outcome, after, fault_in, faults_by, join, unless}
use Rattle.vtl_cell.specs.Outcomes.{is_true}
use Rattle.vtl_cell.specs.Row.{Row}
use Rattle.vtl_lists.proofs.Sorts.{AllByRecursion-filter}
use Rattle.vtl_lists.proofs.Alls.{all_both, all_filtered, all_more}
use Rattle.vtl_tree.specs.CompExp.{CompExp}
use Rattle.vtl_tree.specs.Value.{value}
use Rattle.vtl_tuples.proofs.Lists.{filter-map, filter_same, map-map}
use Rattle.vtl_meaning.specs.Points.{each_point, point_fault, point_of}
use Rattle.joins_to_sql.specs.Joins.{where_of}
use Rattle.rules_to_sql.proofs.Lists.{faults_same, no_faults, shown_points, both_none}

-- ---- lists

pub faults_mapped : {X Y : Type 0} (f : Y → Option Fault) (g : X → Y) (xs : List X) → faults_by f (map g xs) ≡ faults_by (λ x. f (g x)) xs
faults_mapped f g [] = refl
faults_mapped f g (x ∷ xs) = ap (join (f (g x))) (faults_mapped f g xs)

all_none : {X : Type 0} (f : X → Option Fault) (xs : List X) → faults_by f xs ≡ None → AllByRecursion (λ x. f x ≡ None) xs
all_none f [] e = tt
all_none f (x ∷ xs) e = let both = both_none (f x) (faults_by f xs) e in (both.0, all_none f xs both.1)

faults_where : {X : Type 0} (t : X → Bool) (f : X → Option Fault) (xs : List X) → faults_by f (filter t xs) ≡ faults_by (λ x. cond (t x) (f x) None) xs
faults_where t f [] = refl
faults_where t f (x ∷ xs) = go (t x) (faults_where t f xs)
  where
    go : (b : Bool) → faults_by f (filter t xs) ≡ faults_by (λ y. cond (t y) (f y) None) xs → faults_by f (cond b (x ∷ filter t xs) (filter t xs)) ≡ join (cond b (f x) None) (faults_by (λ y. cond (t y) (f y) None) xs)
    go true ih = ap (join (f x)) ih
    go false ih = ih

-- the fault of a condition at a row, and where it has none whether the row is kept
abbrev pub Tells : Settings → Option CompExp → Row → (fault : Option Fault) → (kept : Bool) → Type 0
Tells p None r w b = (w ≡ None) × (b ≡ true)
Tells p (Some e) r w b = (fault_in (value p e r) ≡ w) × (w ≡ None → is_true (value p e r) ≡ b)

module _ {X : Type 0} (p : Settings) (condition : Option CompExp) (es : List CompExp) (row : X → Row) (w : X → Option Fault) (t : X → Bool) (f : X → Option Fault) (g : X → Row) where
  abbrev Told : Option CompExp → X → Type 0
  Told o x = Tells p o (row x) (w x) (t x)

  -- what the condition tells of an item's row, and where it is kept the fault and the values of the expressions
  pub record IsMade (x : X) : Type 0 where
    pub told : Tells p condition (row x) (w x) (t x)
    pub fault : w x ≡ None → t x ≡ true → point_fault p es (row x) ≡ f x
    pub point : w x ≡ None → t x ≡ true → point_of p es (row x) ≡ g x

  left_by : (e : CompExp) (xs : List X) (o : Option Fault) → faults_by w xs ≡ o → AllByRecursion (Told (Some e)) xs → unless o (filter (λ r. is_true (value p e r)) (map row xs)) ≡ unless o (map row (filter t xs))
  left_by e xs None none all =
      ap Ok (filter-map (λ r. is_true (value p e r)) row xs
      ∙ ap (map row) (filter_same (λ x. is_true (value p e (row x))) t xs (all_both (Told (Some e)) (λ x. w x ≡ None) (λ x. is_true (value p e (row x)) ≡ t x) (λ x h i. h.1 i) xs all (all_none w xs none))))
  left_by e xs (Some z) none all = refl

  where_is : (o : Option CompExp) (xs : List X) → AllByRecursion (Told o) xs → where_of p o (map row xs) ≡ unless (faults_by w xs) (map row (filter t xs))
  where_is None xs all =
      ap (λ l. Ok (map row l)) (sym (whole xs all))
      ∙ sym (ap (λ o. unless o (map row (filter t xs))) (faults_same (Told None) w (λ x. None) (λ x h. h.0) xs all ∙ no_faults xs))
    where
      whole : (ys : List X) → AllByRecursion (Told None) ys → filter t ys ≡ ys
      whole [] h = refl
      whole (y ∷ ys) h = ap (λ b. cond b (y ∷ filter t ys) (filter t ys)) h.0.1 ∙ ap (λ l. y ∷ l) (whole ys h.1)
  where_is (Some e) xs all =
      ap (λ o. unless o (filter (λ r. is_true (value p e r)) (map row xs))) (faults_mapped (λ r. fault_in (value p e r)) row xs ∙ faults_same (Told (Some e)) (λ x. fault_in (value p e (row x))) w (λ x h. h.0) xs all)
      ∙ left_by e xs (faults_by w xs) refl all

  -- where the condition has no fault
  abbrev IsSure : X → Type 0
  IsSure x = IsMade x × (w x ≡ None)

  abbrev IsKept : X → Type 0
  IsKept x = IsSure x × (t x ≡ true)

  kept_all : (xs : List X) → AllByRecursion IsSure xs → AllByRecursion IsKept (filter t xs)
  kept_all xs all = all_both IsSure (λ x. t x ≡ true) IsKept (λ x h e. (h, e)) (filter t xs) (AllByRecursion-filter IsSure t xs all) (all_filtered t xs)

  faults_made : (xs : List X) → AllByRecursion IsSure xs → faults_by (point_fault p es) (map row (filter t xs)) ≡ faults_by (λ x. cond (t x) (f x) None) xs
  faults_made xs all = faults_mapped (point_fault p es) row (filter t xs) ∙ faults_same IsKept (λ x. point_fault p es (row x)) f (λ x h. h.0.0.fault h.0.1 h.1) (filter t xs) (kept_all xs all) ∙ faults_where t f xs

  points_made : (xs : List X) → AllByRecursion IsSure xs → map (point_of p es) (map row (filter t xs)) ≡ filter_map (λ x. cond (t x) (Some (g x)) None) xs
  points_made xs all = map-map (point_of p es) row (filter t xs) ∙ shown_points IsSure t (λ x. point_of p es (row x)) g (λ x h e. h.0.point h.1 e) xs all

  abbrev pub result : List X → Outcome (List Row)
  result xs = unless (faults_by (λ x. cond (t x) (f x) None) xs) (filter_map (λ x. cond (t x) (Some (g x)) None) xs)

  each_made : (xs : List X) → AllByRecursion IsSure xs → each_point p es (map row (filter t xs)) ≡ result xs
  each_made xs all = ap (λ o. unless o (map (point_of p es) (map row (filter t xs)))) (faults_made xs all) ∙ ap (unless (faults_by (λ x. cond (t x) (f x) None) xs)) (points_made xs all)

  pub kept_rows : (xs : List X) → AllByRecursion IsMade xs → after (where_of p condition (map row xs)) (each_point p es) ≡ after (unless (faults_by w xs) xs) result
  kept_rows xs all = ap (λ m. after m (each_point p es)) (where_is condition xs (all_more IsMade (Told condition) (λ x h. h.told) xs all)) ∙ go (faults_by w xs) refl
    where
      go : (o : Option Fault) → faults_by w xs ≡ o → after (unless o (map row (filter t xs))) (each_point p es) ≡ after (unless o xs) result
      go None e = each_made xs (all_both IsMade (λ x. w x ≡ None) IsSure (λ x h i. (h, i)) xs all (all_none w xs e))
      go (Some z) e = refl

  -- a condition without a fault
  pub kept_sure : ((x : X) → w x ≡ None) → (xs : List X) → AllByRecursion IsMade xs → after (where_of p condition (map row xs)) (each_point p es) ≡ result xs
  kept_sure none xs all = kept_rows xs all ∙ ap (λ o. after (unless o xs) result) (faults_same (λ x. Unit {0}) w (λ x. None) (λ x h. none x) xs (each_unit xs) ∙ no_faults xs)
    where
      each_unit : (ys : List X) → AllByRecursion (λ y. Unit {0}) ys
      each_unit [] = tt
      each_unit (y ∷ ys) = (tt, each_unit ys)

  -- expressions without a fault
  pub kept_plain : ((x : X) → f x ≡ None) → (xs : List X) → AllByRecursion IsMade xs → after (where_of p condition (map row xs)) (each_point p es) ≡ unless (faults_by w xs) (filter_map (λ x. cond (t x) (Some (g x)) None) xs)
  kept_plain none xs all = kept_rows xs all ∙ go (faults_by w xs)
    where
      no_fault : (ys : List X) → faults_by (λ x. cond (t x) (f x) None) ys ≡ None
      no_fault [] = refl
      no_fault (y ∷ ys) = ap (λ o. join (cond (t y) o None) (faults_by (λ x. cond (t x) (f x) None) ys)) (none y) ∙ stays (t y) ∙ no_fault ys
        where
          stays : (b : Bool) → join (cond b None None) (faults_by (λ x. cond (t x) (f x) None) ys) ≡ faults_by (λ x. cond (t x) (f x) None) ys
          stays true = refl
          stays false = refl

      go : (o : Option Fault) → after (unless o xs) result ≡ unless o (filter_map (λ x. cond (t x) (Some (g x)) None) xs)
      go None = ap (λ o. unless o (filter_map (λ x. cond (t x) (Some (g x)) None) xs)) (no_fault xs)
      go (Some z) = refl
