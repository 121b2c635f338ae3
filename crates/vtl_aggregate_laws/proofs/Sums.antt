-- The sum of the sums of parts is the sum of all.
use Rattle.std.proofs.Common.{◌≡◌, ℕ, pos, ℤ, Bool, true, false, ◌&&◌, ◌||◌, cond, List, [], ◌∷◌, ◌++◌, map, Ok, Err, refl, sym, ap, ◌∙◌, subst}
use Rattle.std.specs.Prelude.{IfOk, ◌+ℤ◌, ◌*ℤ◌, ◌-◌, ◌^◌, nat_lt, not, unsigned_abs}
use Rattle.std.specs.List.{flat_map, list_all, list_any}
use Rattle.std.proofs.Math.IntN.{+ℤ_idl}
use Rattle.std.proofs.lemmas.List.{map-append}
use Rattle.std.proofs.lemmas.List.Elements.{filter-append}
use Rattle.std.proofs.lemmas.List.Folds.{list_all-append, list_any-append}
use Rattle.vtl_decimal.specs.Range.{fit_integer, fit_number}
use Rattle.vtl_decimal.specs.Settings.{Settings}
use Rattle.vtl_cell.specs.Groups.{aggregate, group_value, is_integer, numbers_of, total_of, units_of, values_of, whole_of, wholes_of}
use Rattle.vtl_cell.specs.Kinds.{is_null}
use Rattle.vtl_decimal.specs.declared.number.Fault.TheVariants.{Range}
use Rattle.vtl_cell.specs.Outcome.{Outcome}
use Rattle.vtl_cell.specs.Outcomes.{all_of}
use Rattle.vtl_cell.specs.Row.{Row, column_of}
use Rattle.vtl_cell.specs.ScalarArithmetic.{integer, number}
use Rattle.vtl_cell.specs.declared.cell.Cell.{Cell}
use Rattle.vtl_cell.specs.declared.cell.Cell.TheVariants as c
use Rattle.vtl_cell.specs.declared.operator.AggKind.TheVariants.{Sum}
use Rattle.vtl_cell.proofs.Aggregates.{group-Perm}
use Rattle.vtl_lists.proofs.Perms.{Perm-map}
use Rattle.vtl_meaning.specs.Groups.{keys_by, points_with}
use Rattle.vtl_aggregate_laws.specs.Parts.{of_column, of_groups, values_at}
use Rattle.vtl_aggregate_laws.proofs.Pieces.{parts}
use Rattle.vtl_aggregate_laws.proofs.Told.{Tells, told}
use Rattle.vtl_aggregate_laws.proofs.Totals.{total, total-append, units_of_wholes}

-- ---- what a sum knows of values
pub record Summed : Type 0 where
  pub some : Bool
  pub whole : Bool
  pub wholes : ℤ
  pub units : ℤ

abbrev pub summed : Settings → List Cell → Summed
summed p xs = record { some = list_any (λ x. true) xs; whole = list_all is_integer xs; wholes = cond (list_all is_integer xs) (total (wholes_of xs)) (pos 0); units = total (numbers_of p.scale xs) }

abbrev and_summed : Summed → Summed → Summed
and_summed s t = record { some = s.some || t.some; whole = s.whole && t.whole; wholes = cond (s.whole && t.whole) (s.wholes +ℤ t.wholes) (pos 0); units = s.units +ℤ t.units }

abbrev sum_is : Settings → Summed → Outcome Cell
sum_is p s = cond s.some (cond s.whole (integer (fit_integer p.scale s.wholes)) (number (fit_number s.units))) (Ok c.Null)

where_both : (a b : Bool) (m n : ℤ) → cond (a && b) (m +ℤ n) (pos 0) ≡ cond (a && b) (cond a m (pos 0) +ℤ cond b n (pos 0)) (pos 0)
where_both true true m n = refl
where_both true false m n = refl
where_both false b m n = refl

module _ (p : Settings) where
  summed-append : (xs ys : List Cell) → summed p (xs ++ ys) ≡ and_summed (summed p xs) (summed p ys)
  summed-append xs ys =
      let a = list_all is_integer xs in
      let b = list_all is_integer ys in
      let all : list_all is_integer (xs ++ ys) ≡ (a && b) = list_all-append is_integer xs ys in
      let sum : total (wholes_of (xs ++ ys)) ≡ total (wholes_of xs) +ℤ total (wholes_of ys) = ap total (map-append whole_of xs ys) ∙ total-append (wholes_of xs) (wholes_of ys) in
      let wholes : cond (list_all is_integer (xs ++ ys)) (total (wholes_of (xs ++ ys))) (pos 0) ≡ cond (a && b) (cond a (total (wholes_of xs)) (pos 0) +ℤ cond b (total (wholes_of ys)) (pos 0)) (pos 0) =
      (λ i. cond (all i) (sum i) (pos 0)) ∙ where_both a b (total (wholes_of xs)) (total (wholes_of ys)) in
      let units : total (numbers_of p.scale (xs ++ ys)) ≡ total (numbers_of p.scale xs) +ℤ total (numbers_of p.scale ys) = ap total (map-append (units_of p.scale) xs ys) ∙ total-append (numbers_of p.scale xs) (numbers_of p.scale ys) in
      λ i. record { some = list_any-append (λ x. true) xs ys i; whole = all i; wholes = wholes i; units = units i }

  total_is : (xs : List Cell) (b : Bool) → list_all is_integer xs ≡ b → total_of p xs ≡ cond b (integer (fit_integer p.scale (cond b (total (wholes_of xs)) (pos 0)))) (number (fit_number (total (numbers_of p.scale xs))))
  total_is xs true e = rw e
  total_is xs false e = rw e

  pub sum_told : (xs : List Cell) → aggregate p Sum xs ≡ sum_is p (summed p xs)
  sum_told [] = refl
  sum_told (x ∷ xs) = go (list_all is_integer (x ∷ xs)) refl
    where
      go : (b : Bool) → list_all is_integer (x ∷ xs) ≡ b → total_of p (x ∷ xs) ≡ cond b (integer (fit_integer p.scale (cond b (total (wholes_of (x ∷ xs))) (pos 0)))) (number (fit_number (total (numbers_of p.scale (x ∷ xs)))))
      go = total_is (x ∷ xs)

  -- a sum of values tells as much as they do
  pub integer_given : (n : ℤ) (v : Cell) → integer (fit_integer p.scale n) ≡ Ok v → c.Int n ≡ v
  integer_given n v e = go (nat_lt (unsigned_abs n) (10 ^ (18 - p.scale))) e
    where
      go : (b : Bool) → integer (cond b (Ok n) (Err Range)) ≡ Ok v → c.Int n ≡ v
      go true h = cc
      go false h = cc

  pub number_given : (k : ℤ) (v : Cell) → number (fit_number k) ≡ Ok v → c.Num k ≡ v
  number_given k v e = go (nat_lt (unsigned_abs k) (10 ^ 18)) e
    where
      go : (b : Bool) → number (cond b (Ok k) (Err Range)) ≡ Ok v → c.Num k ≡ v
      go true h = cc
      go false h = cc

  sum_tells : (xs : List Cell) (v : Cell) → aggregate p Sum xs ≡ Ok v → summed p (values_of (v ∷ [])) ≡ summed p xs
  sum_tells [] v e =
      let same : c.Null ≡ v = cc in
      subst (λ w. summed p (values_of (w ∷ [])) ≡ summed p []) same refl
  sum_tells (x ∷ xs) v e = go (list_all is_integer (x ∷ xs)) refl
    where
      go : (b : Bool) → list_all is_integer (x ∷ xs) ≡ b → summed p (values_of (v ∷ [])) ≡ summed p (x ∷ xs)
      go true h =
          let n = total (wholes_of (x ∷ xs)) in
          let same : c.Int n ≡ v = integer_given n v (sym (total_is (x ∷ xs) true h) ∙ e) in
          let units : pos 0 +ℤ (n *ℤ pos (10 ^ p.scale)) ≡ total (numbers_of p.scale (x ∷ xs)) = +ℤ_idl (n *ℤ pos (10 ^ p.scale)) ∙ sym (units_of_wholes p.scale (x ∷ xs) h) in
          let wholes : pos 0 +ℤ n ≡ cond (list_all is_integer (x ∷ xs)) n (pos 0) = +ℤ_idl n ∙ ap (λ b. cond b n (pos 0)) (sym h) in
          subst (λ w. summed p (values_of (w ∷ [])) ≡ summed p (x ∷ xs)) same (λ i. record { some = true; whole = sym h i; wholes = wholes i; units = units i })
      go false h =
          let k = total (numbers_of p.scale (x ∷ xs)) in
          let same : c.Num k ≡ v = number_given k v (sym (total_is (x ∷ xs) false h) ∙ e) in
          let wholes : pos 0 ≡ cond (list_all is_integer (x ∷ xs)) (total (wholes_of (x ∷ xs))) (pos 0) = ap (λ b. cond b (total (wholes_of (x ∷ xs))) (pos 0)) (sym h) in
          subst (λ w. summed p (values_of (w ∷ [])) ≡ summed p (x ∷ xs)) same (λ i. record { some = true; whole = sym h i; wholes = wholes i; units = +ℤ_idl k i })

  values-append : (xs ys : List Cell) → summed p (values_of (xs ++ ys)) ≡ and_summed (summed p (values_of xs)) (summed p (values_of ys))
  values-append xs ys = ap (summed p) (filter-append (λ x. not (is_null x)) xs ys) ∙ summed-append (values_of xs) (values_of ys)

  -- the sum of the sums of parts
  pub sum_of_sums : (i : ℕ) (points : Row → List Row) (ks : List Row) (vs : List Cell) → all_of (map (λ k. of_column p Sum i (points k)) ks) ≡ Ok vs → group_value p Sum vs ≡ of_column p Sum i (flat_map points ks)
  sum_of_sums i points ks vs e =
      let tells : Tells and_summed (λ ws. summed p (values_of ws)) (λ rows. summed p (values_of (values_at i rows))) (of_column p Sum i) = record {
        none = refl;
        more = λ w ws. values-append (w ∷ []) ws;
        both = λ rows others. ap (λ l. summed p (values_of l)) (map-append (column_of i) rows others) ∙ values-append (values_at i rows) (values_at i others);
        own = λ rows w h. sum_tells (values_of (values_at i rows)) w h;
      } in
      sum_told (values_of vs) ∙ ap (sum_is p) (told and_summed (λ ws. summed p (values_of ws)) (λ rows. summed p (values_of (values_at i rows))) (of_column p Sum i) tells points ks vs e) ∙ sym (sum_told (values_of (values_at i (flat_map points ks))))

pub sums_add_up : (p : Settings) (places : List ℕ) (i : ℕ) (d : List Row) → IfOk (of_groups (of_column p Sum i) places d) (λ sums. group_value p Sum sums ≡ of_column p Sum i d)
sums_add_up p places i d = go (of_groups (of_column p Sum i) places d) refl
  where
    go : (m : Outcome (List Cell)) → of_groups (of_column p Sum i) places d ≡ m → IfOk m (λ sums. group_value p Sum sums ≡ of_column p Sum i d)
    go (Ok sums) e =
        sum_of_sums p i (points_with places d) (keys_by places d) sums e
        ∙ group-Perm p Sum (values_at i (flat_map (points_with places d) (keys_by places d))) (values_at i d) (Perm-map (column_of i) (parts places d))
    go (Err f) e = tt
