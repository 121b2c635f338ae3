-- The two data sets are data sets of their structures, with integers of the profile.
use Rattle.std.proofs.Common.{◌≡◌, ◌≤◌, ◌<◌, ◌∷◌, [], ℕ, pos, Ok, true, false, nat_lt, arith, inl, inr, refl, sym, subst}
use Rattle.std.specs.Prelude.{IsOk}
use Rattle.std.proofs.lemmas.Bool.{cases_Bool}
use Rattle.std.proofs.lemmas.Bool.Decides.{nat_tests}
use Rattle.vtl_decimal.specs.Range.{fit_integer}
use Rattle.vtl_cell.specs.Profile.{IsOfProfile}
use Rattle.vtl_cell.specs.Row.{Row, same_key, same_row}
use Rattle.vtl_cell.specs.declared.cell.Cell.TheVariants as c
use Rattle.vtl_cell.proofs.Rows.{same_row-is}
use Rattle.vtl_tree.specs.DataSet.{AreOfProfile, IsDataSet, is_point}
use Rattle.vtl_tree.specs.Structure.{IsStructure, columns_of}
use Rattle.vtl_demo.specs.DataSets.{first_factor, group_at, left_point, left_points, left_structure, right_point, right_points, right_structure, second_factor}
use Rattle.vtl_demo.specs.Script.{settings}
use Rattle.vtl_demo.proofs.Numbered.{apart_made, each_made}

-- rows that begin with two numbers
pub unlike : (i j : ℕ) (xs ys : Row) → (i ≡ j → ⊥) → same_row (c.Int (pos i) ∷ xs) (c.Int (pos j) ∷ ys) ≡ false
unlike i j xs ys differ = elim (cases_Bool (same_row (c.Int (pos i) ∷ xs) (c.Int (pos j) ∷ ys))) [
  | inl e ↦
      let same : c.Int (pos i) ∷ xs ≡ c.Int (pos j) ∷ ys = same_row-is (c.Int (pos i) ∷ xs) (c.Int (pos j) ∷ ys) e in
      let number : i ≡ j = cc same in
      absurd (differ number)
  | inr e ↦ e
]

left_formed : IsStructure left_structure
left_formed = record { some = omega arith; few = omega arith; distinct = refl }

right_formed : IsStructure right_structure
right_formed = record { some = omega arith; few = omega arith; distinct = refl }

pub left_is : (n : ℕ) → IsDataSet left_structure (left_points n)
left_is n = record {
  well_formed = left_formed;
  typed = each_made (λ r. is_point (columns_of left_structure) r ≡ true) left_point 1 n (λ i low high. refl);
  distinct = apart_made (same_key 2) left_point 1 n (λ i j before. unlike i j (c.Text (group_at i) ∷ []) (c.Text (group_at j) ∷ []) (λ e. omega (arith, e, before)));
}

pub right_is : (n : ℕ) → IsDataSet right_structure (right_points n)
right_is n = record {
  well_formed = right_formed;
  typed = each_made (λ r. is_point (columns_of right_structure) r ≡ true) right_point 1 n (λ i low high. refl);
  distinct = apart_made (same_key 1) right_point 1 n (λ i j before. unlike i j [] [] (λ e. omega (arith, e, before)));
}

-- ---- the profile
pub fits : (m : ℕ) → m < 1000000000000 → fit_integer 6 (pos m) ≡ Ok (pos m)
fits m small =
    let test : nat_lt m 1000000000000 ≡ true = grind (arith, nat_tests, small) in
    rw test refl

pub of_profile : (m : ℕ) → m < 1000000000000 → IsOfProfile settings (c.Int (pos m))
of_profile m small = subst IsOk (sym (fits m small)) refl

pub first_small : (i : ℕ) → first_factor i < 1000
first_small i = omega arith

pub second_small : (i : ℕ) → second_factor i < 1000
second_small i = omega arith

pub left_ranged : (n : ℕ) → n ≤ 1000000 → AreOfProfile settings (left_points n)
left_ranged n few = each_made _ left_point 1 n (λ i low high. (of_profile i (omega arith), (tt, (of_profile (first_factor i) (omega (arith, first_small i)), tt))))

pub right_ranged : (n : ℕ) → n ≤ 1000000 → AreOfProfile settings (right_points n)
right_ranged n few = each_made _ right_point 1 n (λ i low high. (of_profile i (omega arith), (of_profile (second_factor i) (omega (arith, second_small i)), tt)))
