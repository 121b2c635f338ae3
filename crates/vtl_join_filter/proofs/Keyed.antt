-- Cells of two columns that are equal are one in keys.
use Rattle.std.proofs.Common.{◌≡◌, ℕ, ◌^◌, ◌<◌, ◌≤◌, Bool, true, false, not, ◌&&◌, cond, ℤ, pos, List, [], length, get_or, map, Some, None, option_map, refl, sym, ap, ◌∙◌, subst, true≢false}
use Rattle.std.specs.Prelude.{◌==◌, slice_get, slice_index, unsigned_abs}
use Rattle.std.specs.Ordering.{is_eq}
use Rattle.std.specs.declared.cmp.Ordering.{Ordering}
use Rattle.std.proofs.Math.ListN.{get_or-eq_default}
use Rattle.std.proofs.lemmas.List.{get_or_default}
use Rattle.std.proofs.lemmas.Option.{get_or_from_slice_get, slice_get-map}
use Rattle.vtl_decimal.specs.Range.{fit_number}
use Rattle.vtl_decimal.specs.Settings.{Settings}
use Rattle.vtl_cell.specs.Kinds.{is_null, is_of}
use Rattle.vtl_cell.specs.Order.{cell_cmp, kind_rank}
use Rattle.vtl_cell.specs.Outcome.{fault_in}
use Rattle.vtl_cell.specs.Outcomes.{is_true}
use Rattle.vtl_cell.specs.Row.{Row, column_of}
use Rattle.vtl_cell.specs.ScalarArithmetic.{number, units}
use Rattle.vtl_cell.specs.ScalarComparison.{as_beside, compared, order_within}
use Rattle.vtl_cell.specs.declared.cell.Cell.{Cell}
use Rattle.vtl_cell.specs.declared.cell.Cell.TheVariants as c
use Rattle.vtl_cell.specs.declared.kind.Kind.{Kind}
use Rattle.vtl_cell.specs.declared.kind.Kind.TheVariants as k
use Rattle.vtl_cell.proofs.Cells.{same_cell-is}
use Rattle.vtl_scalar.proofs.FaultLemmas.{number_fits}
use Rattle.vtl_rows.specs.Gathered.{part_at, picked_cell}
use Rattle.vtl_rows.specs.Places.{row_at}
use Rattle.vtl_rows.specs.Tables.{AllFit, column_at}
use Rattle.vtl_rows.specs.declared.column.Column.{Column}
use Rattle.vtl_rows.specs.declared.gather.Pick.{Pick}
use Rattle.vtl_rows.proofs.Gathered.{cell_at_fits}
use Rattle.vtl_index.specs.RowKeys.{or_null}
use Rattle.vtl_index.specs.declared.row_keys.KeyForm.{KeyForm}
use Rattle.vtl_index.specs.declared.row_keys.KeyForm.TheVariants.{AsIs, AsNumber}
use Rattle.vtl_tree.specs.CompExp.{CompExp}
use Rattle.vtl_expr.specs.Prepared.{SameValue, prepared_exp}
use Rattle.vtl_expr.proofs.PointValues.{same_at}
use Rattle.vtl_join.specs.Gatherings.{point_of}
use Rattle.vtl_join_filter.specs.Equalities.{Equates}
use Rattle.vtl_join_filter.specs.Partners.{AreOneKey, HasNoFault, IsInRange, Meet, are_mixed, is_true_at}
use Rattle.vtl_join_filter.specs.Safety.{is_safe}
use Rattle.vtl_join_filter.specs.declared.equated.Equated.{Equated}
use Rattle.vtl_join_filter.specs.declared.sieve.Asked.{Asked}
use Rattle.vtl_join_filter.proofs.SafeValues.{safe_value}

-- ---- values that are equal
ordered : (b : Bool) (o : Ordering) → option_map is_eq (cond b (Some o) None) ≡ Some true → (b ≡ true) × (is_eq o ≡ true)
ordered true o h = let e : is_eq o ≡ true = cc in (refl, e)
ordered false o h = cc

not_null : (v : Cell) (b : Bool) → (not (is_null v) && b) ≡ true → is_null v ≡ false
not_null v b h = go (is_null v) h
  where
    go : (d : Bool) → (not d && b) ≡ true → d ≡ false
    go true h = absurd (true≢false (sym h))
    go false h = refl

-- one value, which is not null
abbrev AreSame : (v w : Cell) → Type 0
AreSame v w = (v ≡ w) × (is_null v ≡ false)

same_within : (v w : Cell) → option_map is_eq (order_within v w) ≡ Some true → AreSame v w
same_within v w h =
    let parts = ordered (not (is_null v) && (kind_rank v == kind_rank w)) (cell_cmp v w) h in
    (same_cell-is v w parts.1, not_null v (kind_rank v == kind_rank w) parts.0)

pub turned : (p : Settings) (form : KeyForm) (v w : Cell) → AreOneKey p form v w → AreOneKey p form w v
turned p form v w h = (sym h.0, ap is_null (sym h.0) ∙ h.1)

-- ---- cells that count as they are
mixed_cells : (a b : Kind) (n m : ℤ) → is_of a (c.Int n) ≡ true → is_of b (c.Num m) ≡ true → are_mixed a b ≡ true
mixed_cells k.Int k.Num n m x y = refl
mixed_cells a b n m x y = cc

turned_cells : (a b : Kind) (n m : ℤ) → is_of a (c.Num m) ≡ true → is_of b (c.Int n) ≡ true → are_mixed a b ≡ true
turned_cells k.Num k.Int n m x y = refl
turned_cells a b n m x y = cc

beside_is : (p : Settings) (a b : Kind) (v w : Cell) → are_mixed a b ≡ false → is_of a v ≡ true → is_of b w ≡ true → as_beside p v w ≡ v
beside_is p a b (c.Int n) (c.Num m) h x y = absurd (true≢false (sym (mixed_cells a b n m x y) ∙ h))
beside_is p a b v w h x y = refl

beside_turned : (p : Settings) (a b : Kind) (w v : Cell) → are_mixed a b ≡ false → is_of a v ≡ true → is_of b w ≡ true → as_beside p w v ≡ w
beside_turned p a b (c.Int n) (c.Num m) h x y = absurd (true≢false (sym (turned_cells a b n m x y) ∙ h))
beside_turned p a b w v h x y = refl

pub meet_as_is : (a b : Kind) (v w : Cell) → are_mixed a b ≡ false → is_of a v ≡ true → is_of b w ≡ true → Meet AsIs v w
meet_as_is a b v w plain x y p h =
    let one = beside_is p a b v w plain x y in
    let two = beside_turned p a b w v plain x y in
    same_within v w ((λ i. option_map is_eq (order_within (sym one i) (sym two i))) ∙ h)

-- ---- integers beside numbers
abbrev units_in : Cell → ℤ
units_in (c.Num m) = m
units_in v = pos 0

one_number : (p : Settings) (n m : ℤ) → unsigned_abs m < 10 ^ 18 → units p n ≡ m → AreOneKey p AsNumber (c.Int n) (c.Num m)
one_number p n m small e =
    let same : or_null (number (fit_number (units p n))) ≡ c.Num m = ap (λ u. or_null (number (fit_number u))) e ∙ ap (λ r. or_null (number r)) (number_fits m small) in
    (same, ap is_null same)

no_truth : option_map is_eq None ≡ Some true → ⊥
no_truth h = cc

integer_meets : (v w : Cell) → is_of k.Int v ≡ true → is_of k.Num w ≡ true → IsInRange w → Meet AsNumber v w
integer_meets (c.Int n) (c.Num m) x y r = λ p h. one_number p n m r (ap units_in (same_within (c.Num (units p n)) (c.Num m) h).0)
integer_meets (c.Int n) c.Null x y r = λ p h. absurd (no_truth h)
integer_meets c.Null w x y r = λ p h. absurd (no_truth h)
integer_meets v w x y r = cc

number_meets : (v w : Cell) → is_of k.Num v ≡ true → is_of k.Int w ≡ true → IsInRange v → Meet AsNumber v w
number_meets (c.Num m) (c.Int n) x y r = λ p h. turned p AsNumber (c.Int n) (c.Num m) (one_number p n m r (ap units_in (sym (same_within (c.Num m) (c.Num (units p n)) h).0)))
number_meets (c.Num m) c.Null x y r = λ p h. absurd (no_truth h)
number_meets c.Null w x y r = λ p h. absurd (no_truth h)
number_meets v w x y r = cc

pub meet_as_number : (a b : Kind) (v w : Cell) → are_mixed a b ≡ true → is_of a v ≡ true → is_of b w ≡ true → IsInRange v → IsInRange w → Meet AsNumber v w
meet_as_number k.Int k.Num v w mixed x y in_v in_w = integer_meets v w x y in_w
meet_as_number k.Num k.Int v w mixed x y in_v in_w = number_meets v w x y in_v
meet_as_number a b v w mixed x y in_v in_w = cc

-- ---- columns
pub kind_within : (columns : List Column) (rows : List Row) (column i : ℕ) (x : Column) → AllFit columns rows → column < length columns → x ≡ get_or columns column x → is_of x.kind (column_of column (row_at rows i)) ≡ true
kind_within columns rows column i x fit within at =
    let same : x ≡ column_at columns column = at ∙ get_or_default columns column x (record { name = []; kind = k.Null }) within in
    subst (λ (y : Column). is_of y.kind (column_of column (row_at rows i)) ≡ true) (sym same) (cell_at_fits columns rows column i fit)

pub kind_past : (columns : List Column) (rows : List Row) (column i : ℕ) → AllFit columns rows → length columns ≤ column → is_of k.Null (column_of column (row_at rows i)) ≡ true
kind_past columns rows column i fit past =
    subst (λ (y : Column). is_of y.kind (column_of column (row_at rows i)) ≡ true) (get_or-eq_default columns (record { name = []; kind = k.Null }) past) (cell_at_fits columns rows column i fit)

-- ---- cells of points
cell_picked : {X : Type 0} (f : X → Cell) (xs : List X) (i : ℕ) (x : X) → slice_get xs i ≡ Some x → column_of i (map f xs) ≡ f x
cell_picked f xs i x h = get_or_from_slice_get (map f xs) i (f x) c.Null (slice_get-map f xs i ∙ ap (option_map f) h)

module _ (a : Asked) (columns : Equated) (left right : Pick) (form : KeyForm) (at_left : slice_get a.gathering.picks columns.left ≡ Some left) (at_right : slice_get a.gathering.picks columns.right ≡ Some right) where
  abbrev pub AllMeet : (xs ys : List Row) → Type 0
  AllMeet xs ys = (i j : ℕ) → Meet form (column_of left.column (row_at xs i)) (column_of right.column (row_at ys j))

  pub pair_meets : (xs ys : List Row) → xs ≡ (part_at a.gathering.parts left.part).rows → ys ≡ (part_at a.gathering.parts right.part).rows → AllMeet xs ys → Equates a.profile.now (prepared_exp a.condition) columns
      → (tuple : List ℕ) → is_true_at a tuple ≡ true → AreOneKey a.profile.now form (picked_cell a.gathering.parts tuple left) (picked_cell a.gathering.parts tuple right)
  pair_meets xs ys x_is y_is all equates tuple is =
      let p = a.profile.now in
      let parts = a.gathering.parts in
      let meet : AllMeet (part_at parts left.part).rows (part_at parts right.part).rows = subst (λ (zs : List Row). AllMeet (part_at parts left.part).rows zs) y_is (subst (λ (zs : List Row). AllMeet zs ys) x_is all) in
      let one = cell_picked (picked_cell parts tuple) a.gathering.picks columns.left left at_left in
      let two = cell_picked (picked_cell parts tuple) a.gathering.picks columns.right right at_right in
      meet (slice_index tuple left.part) (slice_index tuple right.part) p ((λ i. compared is_eq p (sym one i) (sym two i)) ∙ equates (point_of a.gathering tuple) is)

-- ---- a condition, once it is prepared
module _ (a : Asked) (e : CompExp) (same : SameValue (prepared_exp a.condition) e) where
  pub has_no_fault : is_safe e ≡ true → HasNoFault a
  has_no_fault h = λ r. ap fault_in (same_at (prepared_exp a.condition) e same a.profile.now r) ∙ safe_value a.profile.now r e h

  pub equates_prepared : (x : Equated) → Equates a.profile.now e x → Equates a.profile.now (prepared_exp a.condition) x
  equates_prepared x h = λ r t. h r (ap is_true (sym (same_at (prepared_exp a.condition) e same a.profile.now r)) ∙ t)
