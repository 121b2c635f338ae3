-- A shift after a shift is one shift by the sum of both.
use Rattle.std.proofs.Common.{◌≡◌, List, [], ◌∷◌, map, length, Option, None, Some, Ok, ℤ, ◌+ℤ◌, Bool, true, false, refl, sym, ap, ◌∙◌, subst, arith}
use Rattle.std.specs.Prelude.{if◌then◌else◌}
use Rattle.std.specs.List.{AllByRecursion}
use Rattle.std.proofs.lemmas.List.{append-nil, length-map, take_all}
use Rattle.vtl_lists.specs.Apart.{all_apart}
use Rattle.vtl_lists.proofs.Alls.{all_both}
use Rattle.vtl_decimal.specs.declared.number.Fault.{Fault}
use Rattle.vtl_cell.specs.Outcome.{Outcome, fault_in, faults_by, join, unless}
use Rattle.vtl_cell.specs.Row.{Row}
use Rattle.vtl_cell.specs.ScalarPeriods.{period, shifted_of}
use Rattle.vtl_cell.specs.declared.cell.Cell.{Cell}
use Rattle.vtl_cell.specs.declared.cell.Cell.TheVariants as c
use Rattle.vtl_rows.specs.Tables.{cells_at}
use Rattle.vtl_time.specs.Periods.{YearPart, shift_of}
use Rattle.vtl_time.proofs.PeriodLaws.{shift_sum}
use Rattle.vtl_tree.specs.Columns.{places_in}
use Rattle.vtl_tree.specs.Environment.{DataSet}
use Rattle.vtl_tree.specs.Structure.{IsStructure, columns_of, names_of, same_name}
use Rattle.vtl_tree.specs.declared.structure.Component.{Component}
use Rattle.vtl_meaning.specs.Aggregates.{Made, group_fault as point_fault}
use Rattle.vtl_meaning.specs.Analytics.{point_of}
use Rattle.vtl_meaning.specs.LookUps.{value_named}
use Rattle.vtl_meaning.specs.Points.{cell_or_null, with_points}
use Rattle.vtl_meaning.proofs.Kept.{unless_ok}
use Rattle.vtl_meaning.proofs.LookUps.{named_cells}
use Rattle.vtl_meaning.proofs.OwnColumns.{columns_apart}
use Rattle.vtl_meaning.proofs.Places.{first_cells}
use Rattle.vtl_timing.specs.Times.{is_time, shifted_value, timeshift_of}
use Rattle.vtl_timing.proofs.ShiftKept.{each_without}

-- ---- rows that are made column by column
each_same : (f g : Component → Cell) (ys : List Component) → map f ys ≡ map g ys → AllByRecursion (λ y. f y ≡ g y) ys
each_same f g [] e = tt
each_same f g (y ∷ ys) e = let one : f y ≡ g y = cc in let more : map f ys ≡ map g ys = cc in (one, each_same f g ys more)

-- each column has there what was made for it
pub own_made : (f : Component → Cell) (xs : List Component) → all_apart same_name (names_of xs) ≡ true → AllByRecursion (λ y. value_named xs (map f xs) y.name ≡ f y) xs
own_made f xs apart =
    let r = map f xs in
    let many = length-map xs f in
    each_same (λ y. value_named xs r y.name) f xs
    (sym (named_cells xs xs r) ∙ ap (λ l. cells_at (places_in l xs) r) (sym (append-nil xs)) ∙ first_cells xs [] r apart (omega (arith, many)) ∙ take_all (length xs) r (omega (arith, many)))

faults_same : {X : Type 0} (f g : X → Option Fault) (xs : List X) → AllByRecursion (λ x. f x ≡ g x) xs → faults_by f xs ≡ faults_by g xs
faults_same f g [] all = refl
faults_same f g (x ∷ xs) all = λ i. join (all.0 i) (faults_same f g xs all.1 i)

cells_same : (f g : Component → Outcome Cell) (xs : List Component) → AllByRecursion (λ x. f x ≡ g x) xs → map (λ x. cell_or_null (f x)) xs ≡ map (λ x. cell_or_null (g x)) xs
cells_same f g [] all = refl
cells_same f g (x ∷ xs) all = λ i. cell_or_null (all.0 i) ∷ cells_same f g xs all.1 i

fault_cells : (f g : Component → Outcome Cell) (xs : List Component) → AllByRecursion (λ x. f x ≡ g x) xs → faults_by (λ x. fault_in (f x)) xs ≡ faults_by (λ x. fault_in (g x)) xs
fault_cells f g [] all = refl
fault_cells f g (x ∷ xs) all = λ i. join (fault_in (all.0 i)) (fault_cells f g xs all.1 i)

module _ (n m : ℤ) where
  -- ---- a cell
  again : (v : Cell) → fault_in (shifted_of v (Some n)) ≡ None → shifted_of (cell_or_null (shifted_of v (Some n))) (Some m) ≡ shifted_of v (Some (n +ℤ m))
  again c.Null e = refl
  again (c.Bool x) e = refl
  again (c.Int x) e = refl
  again (c.Num x) e = refl
  again (c.Text x) e = refl
  again (c.Day x) e = refl
  again (c.Period q) e = go (shift_of q n) refl e
    where
      go : (o : Option YearPart) → shift_of q n ≡ o → fault_in (period o) ≡ None → shifted_of (cell_or_null (period o)) (Some m) ≡ period (shift_of q (n +ℤ m))
      go None f e = cc
      go (Some s) f e = ap period (shift_sum q s n m f)

  -- ---- a point
  module _ (xs : List Component) (apart : all_apart same_name (names_of xs) ≡ true) where
    abbrev first : Made
    first = shifted_value n xs

    abbrev second : Made
    second = shifted_value m xs

    abbrev whole : Made
    whole = shifted_value (n +ℤ m) xs

    made_again : (r q : Row) (y : Component) → value_named xs q y.name ≡ cell_or_null (first y r) → fault_in (first y r) ≡ None → second y q ≡ whole y r
    made_again r q y e f = ap (λ v. if is_time y then shifted_of v (Some m) else Ok v) e ∙ go (is_time y) f
      where
        of : Bool → Outcome Cell
        of b = if b then shifted_of (value_named xs r y.name) (Some n) else Ok (value_named xs r y.name)

        go : (b : Bool) → fault_in (of b) ≡ None → (if b then shifted_of (cell_or_null (of b)) (Some m) else Ok (cell_or_null (of b))) ≡ (if b then shifted_of (value_named xs r y.name) (Some (n +ℤ m)) else Ok (value_named xs r y.name))
        go true f = again (value_named xs r y.name) f
        go false f = refl

    columns_again : (r : Row) → point_fault first xs r ≡ None → AllByRecursion (λ y. second y (point_of first xs r) ≡ whole y r) xs
    columns_again r none =
        let q = point_of first xs r in
        all_both (λ y. value_named xs q y.name ≡ cell_or_null (first y r)) (λ y. fault_in (first y r) ≡ None) (λ y. second y q ≡ whole y r) (made_again r q) xs
        (own_made (λ y. cell_or_null (first y r)) xs apart) (each_without (λ y. fault_in (first y r)) xs none)

    -- ---- all points
    rows_again : (points : List Row) → AllByRecursion (λ r. point_fault first xs r ≡ None) points → map (point_of second xs) (map (point_of first xs) points) ≡ map (point_of whole xs) points
    rows_again [] all = refl
    rows_again (r ∷ points) all =
        let q = point_of first xs r in
        λ i. cells_same (λ y. second y q) (λ y. whole y r) xs (columns_again r all.0) i ∷ rows_again points all.1 i

    faults_again : (points : List Row) → AllByRecursion (λ r. point_fault first xs r ≡ None) points → faults_by (point_fault second xs) (map (point_of first xs) points) ≡ faults_by (point_fault whole xs) points
    faults_again [] all = refl
    faults_again (r ∷ points) all =
        let q = point_of first xs r in
        λ i. join (fault_cells (λ y. second y q) (λ y. whole y r) xs (columns_again r all.0) i) (faults_again points all.1 i)

pub shift_again : (n m : ℤ) (d : DataSet) (us : List Row) → IsStructure d.structure → timeshift_of n d ≡ Ok us → timeshift_of m (with_points d.structure us) ≡ timeshift_of (n +ℤ m) d
shift_again n m d us well e =
    let xs = columns_of d.structure in
    let apart = columns_apart d.structure well in
    let parts = unless_ok (faults_by (point_fault (shifted_value n xs) xs) d.points) (map (point_of (shifted_value n xs) xs) d.points) us e in
    let none = each_without (point_fault (shifted_value n xs) xs) d.points parts.0 in
    subst (λ z. timeshift_of m (with_points d.structure z) ≡ timeshift_of (n +ℤ m) d) parts.1
    (λ i. unless (faults_again n m xs apart d.points none i) (rows_again n m xs apart d.points none i))
