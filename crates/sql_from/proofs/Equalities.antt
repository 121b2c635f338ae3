-- Cells that are equal are one key.
use Rattle.std.proofs.Common.{◌≡◌, ℕ, suc, ◌*◌, ◌/◌, ◌^◌, ◌<◌, ◌≤◌, ℤ, pos, negsuc, ◌*ℤ◌, Bool, true, false, not, ◌&&◌, ◌||◌, List, [], ◌∷◌, refl, sym, ap, ◌∙◌, arith}
use Rattle.std.specs.Ordering.{int_cmp, is_eq}
use Rattle.std.proofs.Math.IntN.{pos-*ℤ-pos, negsuc-*ℤ-pos}
use Rattle.std.proofs.Math.Nat.{mul-div_cancel, mul-le-mul_right, one-le-pow}
use Rattle.std.proofs.lemmas.Bool.{and_parts}
use Rattle.std.proofs.lemmas.Int.{ints}
use Rattle.vtl_lists.proofs.Tests.{same_tests}
use Rattle.vtl_cell.specs.Kinds.{is_null}
use Rattle.vtl_cell.specs.Order.{same_cell}
use Rattle.vtl_cell.specs.Profile.{IsOfProfile}
use Rattle.vtl_cell.specs.Row.{Row, column_of, same_row}
use Rattle.vtl_cell.specs.ScalarArithmetic.{number, units}
use Rattle.vtl_decimal.specs.Settings.{Settings}
use Rattle.vtl_cell.specs.declared.cell.Cell.{Cell}
use Rattle.vtl_cell.specs.declared.cell.Cell.TheVariants as c
use Rattle.vtl_cell.proofs.Cells.{same_cell-is, same_cell-refl}
use Rattle.vtl_scalar.proofs.FaultLemmas.{integer_is_a_number}
use Rattle.vtl_index.specs.RowKeys.{counted, has_null, key_at, key_cell, or_null}
use Rattle.vtl_index.specs.declared.row_keys.KeyForm.TheVariants.{AsNumber}
use Rattle.sql_meaning.specs.Profiles.{IsRowOfProfile}
use Rattle.sql_meaning.proofs.Profiled.{cell_is}
use Rattle.sql_from.specs.Keys.{all_paired, are_equal, as_number, asked_columns, is_paired, own_columns}
use Rattle.sql_from.specs.declared.key_pairs.KeyPair.{KeyPair}

-- ---- integers in units
whole_units : (u : ℕ) → 0 < u → (a b : ℕ) → a * u ≡ b * u → a ≡ b
whole_units u h a b e = sym (mul-div_cancel a h) ∙ ap (λ n. n / u) e ∙ mul-div_cancel b h

units_apart : (u : ℕ) → 0 < u → (a b : ℤ) → a *ℤ pos u ≡ b *ℤ pos u → a ≡ b
units_apart u h (pos a) (pos b) e =
    let s : pos (a * u) ≡ pos (b * u) = sym (pos-*ℤ-pos a u) ∙ e ∙ pos-*ℤ-pos b u in
    let t : a * u ≡ b * u = omega (arith, ints, s) in
    ap pos (whole_units u h a b t)
units_apart u h (pos a) (negsuc b) e =
    let grown : 1 * u ≤ suc b * u = mul-le-mul_right u (omega arith) in
    let s = sym (pos-*ℤ-pos a u) ∙ e ∙ negsuc-*ℤ-pos b u in
    absurd (omega (arith, ints, s, grown, h))
units_apart u h (negsuc a) (pos b) e =
    let grown : 1 * u ≤ suc a * u = mul-le-mul_right u (omega arith) in
    let s = sym (negsuc-*ℤ-pos a u) ∙ e ∙ pos-*ℤ-pos b u in
    absurd (omega (arith, ints, s, grown, h))
units_apart u h (negsuc a) (negsuc b) e =
    let s = sym (negsuc-*ℤ-pos a u) ∙ e ∙ negsuc-*ℤ-pos b u in
    let t : suc a * u ≡ suc b * u = omega (arith, ints, s) in
    let n : suc a ≡ suc b = whole_units u h (suc a) (suc b) t in
    let m : a ≡ b = omega (arith, n) in
    ap negsuc m

number_of : (a b : ℤ) → same_cell (c.Num a) (c.Num b) ≡ true → a ≡ b
number_of a b e = let s = same_cell-is (c.Num a) (c.Num b) e in cc

integer_of : (a b : ℤ) → same_cell (c.Int a) (c.Int b) ≡ true → a ≡ b
integer_of a b e = let s = same_cell-is (c.Int a) (c.Int b) e in cc

same_units : (p : Settings) (a b : ℤ) → is_eq (int_cmp a b) ≡ is_eq (int_cmp (units p a) (units p b))
same_units p a b =
    same_tests (same_cell (c.Int a) (c.Int b)) (same_cell (c.Num (units p a)) (c.Num (units p b)))
    (λ e. ap (λ k. same_cell (c.Num (units p a)) (c.Num (units p k))) (sym (integer_of a b e)) ∙ same_cell-refl (c.Num (units p a)))
    (λ e. ap (λ k. same_cell (c.Int a) (c.Int k)) (sym (units_apart (10 ^ p.scale) (one-le-pow p.scale 10 (omega arith)) a b (number_of (units p a) (units p b) e))) ∙ same_cell-refl (c.Int a))

-- a value, an integer as the number that equals it
abbrev in_units : Settings → Cell → Cell
in_units p (c.Int n) = c.Num (units p n)
in_units p v = v

equal_in_units : (p : Settings) (a b : Cell) → are_equal p a b ≡ (not (is_null (in_units p b)) && same_cell (in_units p a) (in_units p b))
equal_in_units p (c.Int n) (c.Int m) = same_units p n m
equal_in_units p (c.Int n) (c.Num k) = refl
equal_in_units p (c.Num k) (c.Int n) = refl
equal_in_units p (c.Num k) (c.Num l) = refl
equal_in_units p (c.Int n) x = refl
equal_in_units p (c.Num k) x = refl
equal_in_units p a (c.Int n) = refl
equal_in_units p a (c.Num k) = refl
equal_in_units p a x = refl

-- ---- either side may be asked
turned : (a b : Cell) → (not (is_null b) && same_cell a b) ≡ true → (not (is_null a) && same_cell b a) ≡ true
turned a b e =
    let h = and_parts (not (is_null b)) (same_cell a b) e in
    let s : a ≡ b = same_cell-is a b h.1 in
    (λ i. not (is_null (s i)) && same_cell b (s i)) ∙ (λ i. h.0 i && same_cell-refl b i)

pub equal_sym : (p : Settings) (a b : Cell) → are_equal p a b ≡ are_equal p b a
equal_sym p a b =
    let u = in_units p a in
    let v = in_units p b in
    equal_in_units p a b ∙ same_tests (not (is_null v) && same_cell u v) (not (is_null u) && same_cell v u) (turned u v) (turned v u) ∙ sym (equal_in_units p b a)

-- ---- keys
module _ (p : Settings) (small : p.scale ≤ 9) where
  as_counted : (v : Cell) → IsOfProfile p v → in_units p v ≡ counted p AsNumber v
  as_counted (c.Int n) h = ap (λ m. or_null (number m)) (sym (integer_is_a_number p n small h))
  as_counted v h = refl

  regrouped : (n s m t : Bool) → ((not n && s) && (not m && t)) ≡ (not (n || m) && (s && t))
  regrouped true s m t = refl
  regrouped false true m t = refl
  regrouped false false true t = refl
  regrouped false false false t = refl

  module _ (own asked : Row) (own_is : IsRowOfProfile p own) (asked_is : IsRowOfProfile p asked) where
    one_key : (k : KeyPair) → is_paired p own asked k ≡ (not (is_null (key_cell p asked (as_number k.asked))) && same_cell (key_cell p own (as_number k.own)) (key_cell p asked (as_number k.asked)))
    one_key k =
        equal_in_units p (column_of k.own own) (column_of k.asked asked)
        ∙ (λ i. not (is_null (as_counted (column_of k.asked asked) (cell_is p k.asked asked asked_is) i)) && same_cell (as_counted (column_of k.own own) (cell_is p k.own own own_is) i) (as_counted (column_of k.asked asked) (cell_is p k.asked asked asked_is) i))

    pub same_keys : (keys : List KeyPair) → all_paired p own asked keys ≡ (not (has_null (key_at p (asked_columns keys) asked)) && same_row (key_at p (own_columns keys) own) (key_at p (asked_columns keys) asked))
    same_keys [] = refl
    same_keys (k ∷ keys) =
        (λ i. one_key k i && same_keys keys i)
        ∙ regrouped (is_null (key_cell p asked (as_number k.asked))) (same_cell (key_cell p own (as_number k.own)) (key_cell p asked (as_number k.asked)))
        (has_null (key_at p (asked_columns keys) asked)) (same_row (key_at p (own_columns keys) own) (key_at p (asked_columns keys) asked))
