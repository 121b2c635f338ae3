-- A filled series has no gap: between two periods each one has a point.
use Rattle.std.proofs.Common.{◌≡◌, ℕ, ◌<◌, ◌≤◌, ◌*◌, Bool, true, false, ◌&&◌, ◌||◌, List, [], ◌∷◌, ◌++◌, map, nat_le, Option, None, Some, refl, sym, ap, ◌∙◌, arith}
use Rattle.std.specs.List.{AllByRecursion, list_any}
use Rattle.std.specs.Option.{option_map_or}
use Rattle.std.proofs.lemmas.Bool.{and_parts}
use Rattle.std.proofs.lemmas.Bool.Decides.{nat_tests}
use Rattle.vtl_lists.proofs.Tests.{same_tests}
use Rattle.vtl_cell.proofs.Cells.{same_cell-is, same_cell-refl}
use Rattle.vtl_cell.proofs.Rows.{same_row-is, same_row-refl}
use Rattle.vtl_cell.specs.Order.{same_cell}
use Rattle.vtl_cell.specs.Row.{Row, same_row}
use Rattle.vtl_cell.specs.declared.cell.Cell.TheVariants as c
use Rattle.vtl_rows.specs.Tables.{cells_at}
use Rattle.vtl_series.specs.Series.{dated, is_spanned, number_at, rows_by, seen_by, some_number}
use Rattle.vtl_series.specs.declared.extent.Extent.{Extent}
use Rattle.vtl_series.proofs.DatedLemmas.{dated_are}
use Rattle.vtl_time.specs.Periods.{parts_in_year, period_at}
use Rattle.vtl_time.specs.declared.periods.Frequency.{Frequency}
use Rattle.vtl_tree.specs.Columns.{places_in}
use Rattle.vtl_tree.specs.DataSet.{IsDataSet, is_point}
use Rattle.vtl_tree.specs.Environment.{DataSet}
use Rattle.vtl_tree.specs.Structure.{columns_of}
use Rattle.vtl_tree.specs.declared.structure.Structure.{Structure}
use Rattle.vtl_timing.specs.Times.{HasTime, fill_of, other_identifiers, time_place}
use Rattle.time_laws.specs.Stands.{is_at, stands_at}
use Rattle.time_laws.proofs.Filled.{dated_is, each_row, filled_is, is_row, point, rows}

-- ---- tests on lists
any_mapped : (p q : Row → Bool) (f : Row → Row) (xs : List Row) → AllByRecursion (λ x. p (f x) ≡ q x) xs → list_any p (map f xs) ≡ list_any q xs
any_mapped p q f [] all = refl
any_mapped p q f (x ∷ xs) all = λ i. all.0 i || any_mapped p q f xs all.1 i

-- a test that passes more often passes for some row where the first one does
some_more : (p q : ℕ → Bool) → ((m : ℕ) → p m ≡ true → q m ≡ true) → (f : Frequency) (on : ℕ) (xs : List Row) → some_number p f on xs ≡ true → some_number q f on xs ≡ true
some_more p q h f on [] e = e
some_more p q h f on (x ∷ xs) e = go (option_map_or p (number_at on f x) false) refl (some_more p q h f on xs)
  where
    one : (o : Option ℕ) → option_map_or p o false ≡ true → option_map_or q o false ≡ true
    one None k = k
    one (Some m) k = h m k

    either : (a b : Bool) → (a || b) ≡ true → (a ≡ false) → b ≡ true
    either true b k n = cc
    either false b k n = k

    left : (a b : Bool) → a ≡ true → (a || b) ≡ true
    left true b k = refl
    left false b k = cc

    right : (a b : Bool) → b ≡ true → (a || b) ≡ true
    right true b k = refl
    right false b k = k

    go : (b : Bool) → option_map_or p (number_at on f x) false ≡ b → (some_number p f on xs ≡ true → some_number q f on xs ≡ true) → some_number q f on (x ∷ xs) ≡ true
    go true k ih = left (option_map_or q (number_at on f x) false) (some_number q f on xs) (one (number_at on f x) k)
    go false k ih = right (option_map_or q (number_at on f x) false) (some_number q f on xs) (ih (either (option_map_or p (number_at on f x) false) (some_number p f on xs) e k))

below : (i j m : ℕ) → i ≤ j → nat_le m i ≡ true → nat_le m j ≡ true
below i j m h e = grind (arith, nat_tests)

above : (j k m : ℕ) → j ≤ k → nat_le k m ≡ true → nat_le j m ≡ true
above j k m h e = grind (arith, nat_tests)

-- what lies between two that belong to a series belongs to it
spanned_between : (f : Frequency) (on : ℕ) (own seen : List Row) (i j k : ℕ) → i ≤ j → j ≤ k → is_spanned f on own seen i ≡ true → is_spanned f on own seen k ≡ true → is_spanned f on own seen j ≡ true
spanned_between f on own seen i j k h g first last =
    let a = and_parts (some_number (λ m. true) f on own) (some_number (λ m. nat_le m i) f on seen && some_number (λ m. nat_le i m) f on seen) first in
    let b = and_parts (some_number (λ m. nat_le m i) f on seen) (some_number (λ m. nat_le i m) f on seen) a.1 in
    let d = and_parts (some_number (λ m. true) f on own) (some_number (λ m. nat_le m k) f on seen && some_number (λ m. nat_le k m) f on seen) last in
    let e = and_parts (some_number (λ m. nat_le m k) f on seen) (some_number (λ m. nat_le k m) f on seen) d.1 in
    let early = some_more (λ m. nat_le m i) (λ m. nat_le m j) (λ m. below i j m h) f on seen b.0 in
    let late = some_more (λ m. nat_le k m) (λ m. nat_le j m) (λ m. above j k m g) f on seen e.1 in
    λ n. a.0 n && (early n && late n)

-- ---- filled points
module _ (e : Extent) (d : DataSet) (timed : HasTime d.structure) (h : IsDataSet d.structure d.points) (key : Row) (f : Frequency) where
  abbrev a : Structure
  a = d.structure

  abbrev by : List ℕ
  by = places_in (columns_of a) (other_identifiers a)

  -- a filled point stands at a tuple and a period where its row has both
  abbrev Tells : ℕ → Row → Type 0
  Tells i r = is_at a key f i (point e d timed h r) ≡ same_row (dated f key i) r

  tells : (i : ℕ) (q : Row) → is_point (columns_of a) q ≡ true → (g : Frequency) (m : ℕ) → Tells i (dated g (cells_at by q) m)
  tells i q k g m =
      let r = dated g (cells_at by q) m in
      let is = dated_is e d timed h (cells_at by q) g m (is_row e d timed h q k g m) in
      (λ n. same_row (is.0 n) key && same_cell (is.1 n) (c.Period (period_at f i)))
      ∙ same_tests (same_row (cells_at by q) key && same_cell (c.Period (period_at g m)) (c.Period (period_at f i))) (same_row (dated f key i) r) there back
    where
      there : (same_row (cells_at by q) key && same_cell (c.Period (period_at g m)) (c.Period (period_at f i))) ≡ true → same_row (dated f key i) (dated g (cells_at by q) m) ≡ true
      there t =
          let parts = and_parts (same_row (cells_at by q) key) (same_cell (c.Period (period_at g m)) (c.Period (period_at f i))) t in
          let one = same_row-is (cells_at by q) key parts.0 in
          let two = same_cell-is (c.Period (period_at g m)) (c.Period (period_at f i)) parts.1 in
          (λ n. same_row (dated f key i) (one n ++ two n ∷ [])) ∙ same_row-refl (dated f key i)

      back : same_row (dated f key i) (dated g (cells_at by q) m) ≡ true → (same_row (cells_at by q) key && same_cell (c.Period (period_at g m)) (c.Period (period_at f i))) ≡ true
      back t =
          let are = dated_are key (cells_at by q) f g i m t in
          let tuple = sym are.tuple in
          let frequency = sym are.frequency in
          let number = sym are.number in
          (λ n. same_row (tuple n) key && same_cell (c.Period (period_at (frequency n) (number n))) (c.Period (period_at f i)))
          ∙ (λ n. same_row-refl key n && same_cell-refl (c.Period (period_at f i)) n)

  stands_is : (i : ℕ) → stands_at a (fill_of e d) key f i ≡ list_any (same_row (dated f key i)) (rows e d timed h)
  stands_is i =
      ap (list_any (is_at a key f i)) (filled_is e d timed h)
      ∙ any_mapped (is_at a key f i) (same_row (dated f key i)) (point e d timed h) (rows e d timed h) (each_row e d timed h (Tells i) (tells i))

  abbrev spanned : ℕ → Bool
  spanned i = is_spanned f (time_place a) (rows_by by d.points key) (seen_by e d.points (rows_by by d.points key)) i

  pub no_gap : ((i : ℕ) → i < 10000 * parts_in_year f → list_any (same_row (dated f key i)) (rows e d timed h) ≡ spanned i) → (i j k : ℕ) → i ≤ j → j ≤ k → k < 10000 * parts_in_year f
      → stands_at a (fill_of e d) key f i ≡ true → stands_at a (fill_of e d) key f k ≡ true → stands_at a (fill_of e d) key f j ≡ true
  no_gap exactly i j k below above within first last =
      let at : (m : ℕ) → m < 10000 * parts_in_year f → stands_at a (fill_of e d) key f m ≡ spanned m = λ m less. stands_is m ∙ exactly m less in
      let one = sym (at i (omega (arith, below, above, within))) ∙ first in
      let two = sym (at k within) ∙ last in
      at j (omega (arith, above, within)) ∙ spanned_between f (time_place a) (rows_by by d.points key) (seen_by e d.points (rows_by by d.points key)) i j k below above one two
