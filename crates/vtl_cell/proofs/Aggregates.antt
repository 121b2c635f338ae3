-- The value of a group does not depend on the order of its list.
use Rattle.std.proofs.Common.{◌≡◌, ℕ, pos, negsuc, List, [], ◌∷◌, Bool, true, false, not, cond, length, Ok, refl, sym, ap, ◌∙◌, arith, ◌⊎◌, inl, inr, ℤ}
use Rattle.std.specs.Prelude.{nat_le, ◌+ℤ◌, fold}
use Rattle.std.specs.Int.RustNames.{int_le}
use Rattle.std.specs.List.{list_all}
use Rattle.std.proofs.Math.IntN.{+ℤ_comm, +ℤ_assoc}
use Rattle.std.proofs.lemmas.Int.{ints}
use Rattle.vtl_decimal.specs.Operators.{quotient}
use Rattle.vtl_decimal.specs.Range.{fit_number, fit_integer}
use Rattle.vtl_decimal.specs.Settings.{Settings}
use Rattle.vtl_decimal.specs.Tally.{Tally, tally_of, mean_of}
use Rattle.vtl_lists.specs.Perm.{Perm, empty, keep, cross, chain}
use Rattle.vtl_lists.specs.Sorting.{IsOrder, le_by}
use Rattle.vtl_lists.proofs.Perms.{Perm-map, Perm-filter, length-Perm, list_all-Perm}
use Rattle.vtl_lists.proofs.Sorts.{IsOrder-le_by, sorted_by-Perm}
use Rattle.vtl_cell.specs.declared.cell.Cell.{Cell}
use Rattle.vtl_cell.specs.declared.cell.Cell.TheVariants as c
use Rattle.vtl_cell.specs.declared.operator.AggKind.{AggKind}
use Rattle.vtl_cell.specs.declared.operator.AggKind.TheVariants as agg
use Rattle.vtl_cell.specs.Groups.{values_of, is_integer, wholes_of, numbers_of, whole_of, units_of, total_of, number_or_null, mean_value, middle_of, median_of, least, greatest, of_values, aggregate, group_value, count_of_points, ratio_of}
use Rattle.vtl_cell.specs.Kinds.{is_null}
use Rattle.vtl_cell.specs.Order.{cell_cmp}
use Rattle.vtl_cell.specs.Outcome.{after}
use Rattle.vtl_cell.specs.Row.{column_of}
use Rattle.vtl_cell.specs.ScalarArithmetic.{integer, number}
use Rattle.vtl_cell.proofs.Orders.{cell_cmp_total, cell_cmp-ties}

-- ---- totals
total_swap : (a x y : ℤ) → (a +ℤ x) +ℤ y ≡ (a +ℤ y) +ℤ x
total_swap a x y = +ℤ_assoc a x y ∙ ap (λ z. a +ℤ z) (+ℤ_comm x y) ∙ sym (+ℤ_assoc a y x)

fold-Perm : (a : ℤ) {xs ys : List ℤ} → Perm xs ys → fold ◌+ℤ◌ a xs ≡ fold ◌+ℤ◌ a ys
fold-Perm a empty = refl
fold-Perm a (keep x p) = fold-Perm (a +ℤ x) p
fold-Perm a (cross x y xs) = ap (λ b. fold ◌+ℤ◌ b xs) (total_swap a x y)
fold-Perm a (chain p q) = fold-Perm a p ∙ fold-Perm a q

tally-Perm : {xs ys : List ℤ} → Perm xs ys → tally_of xs ≡ tally_of ys
tally-Perm p = λ i. record { count = length-Perm p i; total = fold-Perm (pos 0) p i }

total-Perm : (p : Settings) {xs ys : List Cell} → Perm xs ys → total_of p xs ≡ total_of p ys
total-Perm p {xs = xs} {ys = ys} q =
    ap (λ b. cond b (integer (fit_integer p.scale (tally_of (wholes_of xs)).total)) (number (fit_number (tally_of (numbers_of p.scale xs)).total))) (list_all-Perm is_integer q)
    ∙ ap (λ (t : Tally). cond (list_all is_integer ys) (integer (fit_integer p.scale t.total)) (number (fit_number (tally_of (numbers_of p.scale xs)).total))) (tally-Perm (Perm-map whole_of q))
    ∙ ap (λ (t : Tally). cond (list_all is_integer ys) (integer (fit_integer p.scale (tally_of (wholes_of ys)).total)) (number (fit_number t.total))) (tally-Perm (Perm-map (units_of p.scale) q))

mean-Perm : (p : Settings) {xs ys : List Cell} → Perm xs ys → mean_value p xs ≡ mean_value p ys
mean-Perm p q = ap (λ t. number_or_null (mean_of p.rounding t)) (tally-Perm (Perm-map (units_of p.scale) q))

-- ---- middles
nat_one_way : (m n : ℕ) → (nat_le m n ≡ true) ⊎ (nat_le n m ≡ true)
nat_one_way m n = go (nat_le m n) refl
  where
    go : (b : Bool) → nat_le m n ≡ b → (nat_le m n ≡ true) ⊎ (nat_le n m ≡ true)
    go true e = inl e
    go false e = inr (grind arith)

int_one_way : (x y : ℤ) → (int_le x y ≡ true) ⊎ (int_le y x ≡ true)
int_one_way (pos a) (pos b) = nat_one_way a b
int_one_way (pos a) (negsuc b) = inr refl
int_one_way (negsuc a) (pos b) = inl refl
int_one_way (negsuc a) (negsuc b) = nat_one_way b a

int_trans : (x y z : ℤ) → int_le x y ≡ true → int_le y z ≡ true → int_le x z ≡ true
int_trans x y z e h = grind (arith, ints)

int_antisym : (x y : ℤ) → int_le x y ≡ true → int_le y x ≡ true → x ≡ y
int_antisym x y e h = grind (arith, ints)

pub int_order : IsOrder int_le
int_order = record { total = int_one_way; trans = int_trans; antisym = int_antisym }

median-Perm : (p : Settings) {xs ys : List Cell} → Perm xs ys → median_of p xs ≡ median_of p ys
median-Perm p q = ap (λ ks. number (fit_number (middle_of p ks))) (sorted_by-Perm int_order (Perm-map (units_of p.scale) q))

-- ---- first and last in order
pub rising_order : IsOrder (le_by cell_cmp)
rising_order = IsOrder-le_by cell_cmp_total cell_cmp-ties

turned_order : {X : Type 0} {le : X → X → Bool} → IsOrder le → IsOrder (λ x y. le y x)
turned_order o = record {
  total = λ x y. o.total y x;
  trans = λ x y z e h. o.trans z y x h e;
  antisym = λ x y e h. o.antisym x y h e;
}

pub falling_order : IsOrder (λ x y. le_by cell_cmp y x)
falling_order = turned_order rising_order

least-Perm : {xs ys : List Cell} → Perm xs ys → least xs ≡ least ys
least-Perm p = ap (column_of 0) (sorted_by-Perm rising_order p)

greatest-Perm : {xs ys : List Cell} → Perm xs ys → greatest xs ≡ greatest ys
greatest-Perm p = ap (column_of 0) (sorted_by-Perm falling_order p)

-- ---- groups
of_values-Perm : (p : Settings) (kind : AggKind) {xs ys : List Cell} → Perm xs ys → of_values p kind xs ≡ of_values p kind ys
of_values-Perm p agg.Sum q = total-Perm p q
of_values-Perm p agg.Avg q = mean-Perm p q
of_values-Perm p agg.Count q = ap (λ n. integer (fit_integer p.scale (pos n))) (length-Perm q)
of_values-Perm p agg.Min q = ap Ok (least-Perm q)
of_values-Perm p agg.Max q = ap Ok (greatest-Perm q)
of_values-Perm p agg.Median q = median-Perm p q

both : (p : Settings) (kind : AggKind) (xs ys : List Cell) → length xs ≡ length ys → of_values p kind xs ≡ of_values p kind ys → aggregate p kind xs ≡ aggregate p kind ys
both p kind [] [] n e = refl
both p kind [] (y ∷ ys) n e = absurd (omega (arith, n))
both p kind (x ∷ xs) [] n e = absurd (omega (arith, n))
both p kind (x ∷ xs) (y ∷ ys) n e = e

values-Perm : {xs ys : List Cell} → Perm xs ys → Perm (values_of xs) (values_of ys)
values-Perm q = Perm-filter (λ x. not (is_null x)) q

pub group-Perm : (p : Settings) (kind : AggKind) (xs ys : List Cell) → Perm xs ys → group_value p kind xs ≡ group_value p kind ys
group-Perm p kind xs ys q = both p kind (values_of xs) (values_of ys) (length-Perm (values-Perm q)) (of_values-Perm p kind (values-Perm q))

pub count-Perm : (p : Settings) {A : Type 0} (xs ys : List A) → Perm xs ys → count_of_points p xs ≡ count_of_points p ys
count-Perm p xs ys q = ap (λ n. integer (fit_integer p.scale (pos n))) (length-Perm q)

pub ratio-Perm : (p : Settings) (x : Cell) (xs ys : List Cell) → Perm xs ys → ratio_of p x xs ≡ ratio_of p x ys
ratio-Perm p x xs ys q =
    ap (λ (t : Tally). cond (is_null x) (Ok c.Null) (after (fit_number t.total) (λ total. number (quotient p.rounding p.scale (units_of p.scale x) total)))) (tally-Perm (Perm-map (units_of p.scale) (values-Perm q)))
