-- The first row that is found, and whether there is one.
use Rattle.std.proofs.Common.{◌≡◌, ℕ, zero, suc, ◌+◌, Bool, true, false, cond, not, ◌||◌, List, [], ◌∷◌, length, map, filter, get_or, refl, sym, ap, ◌∙◌, zero-add, lt-ltb, arith}
use Rattle.std.specs.Prelude.{nat_lt, slice_get}
use Rattle.std.specs.List.{list_any, position_or_len, range_with_len}
use Rattle.std.specs.Option.{unwrap_or}
use Rattle.vtl_lists.proofs.Filters.{list_any-map}
use Rattle.vtl_cell.specs.Row.{Row}
use Rattle.vtl_rows.specs.Places.{row_at}
use Rattle.vtl_rows.specs.Tables.{cells_at}
use Rattle.vtl_index.specs.Leads.{rows_with}
use Rattle.vtl_index.specs.RowIndex.{RowLookup, found_rows, is_sought}
use Rattle.vtl_index.specs.RowKeys.{as_it_is, key_at}
use Rattle.vtl_index.specs.Seekers.{Sought, columns_in, first_meant, is_any_meant, is_meant}
use Rattle.vtl_index.specs.declared.row_keys.KeyColumn.{KeyColumn}
use Rattle.vtl_index.specs.declared.row_keys.NullKeys.TheVariants.{Found}
use Rattle.vtl_index.proofs.KeyForms.{plain_keys}
use Rattle.vtl_index.proofs.Ranges.{all_indexed}

-- ---- the numbers that pass a test
first_number : (p : ℕ → Bool) (a n : ℕ) → unwrap_or (slice_get (filter p (range_with_len a n)) 0) (a + n) ≡ a + position_or_len p (range_with_len a n)
first_number p a zero = refl
first_number p a (suc n) = go (p a) (first_number p (a + 1) n)
  where
    go : (b : Bool) → unwrap_or (slice_get (filter p (range_with_len (a + 1) n)) 0) (a + 1 + n) ≡ a + 1 + position_or_len p (range_with_len (a + 1) n)
        → unwrap_or (slice_get (cond b (a ∷ filter p (range_with_len (a + 1) n)) (filter p (range_with_len (a + 1) n))) 0) (a + suc n) ≡ a + cond (not b) (1 + position_or_len p (range_with_len (a + 1) n)) 0
    go true later = omega arith
    go false later =
        let next : a + suc n ≡ a + 1 + n = omega arith in
        ap (unwrap_or (slice_get (filter p (range_with_len (a + 1) n)) 0)) next ∙ later ∙ omega arith

any_number : (p : ℕ → Bool) (is : List ℕ) → nat_lt 0 (length (filter p is)) ≡ list_any p is
any_number p [] = refl
any_number p (i ∷ is) = go (p i) (any_number p is)
  where
    go : (b : Bool) → nat_lt 0 (length (filter p is)) ≡ list_any p is → nat_lt 0 (length (cond b (i ∷ filter p is) (filter p is))) ≡ (b || list_any p is)
    go true later = lt-ltb 0 (length (i ∷ filter p is)) (omega arith)
    go false later = later

-- ---- the items of a list that pass a test, by their places
position_map : {X : Type 0} (p : X → Bool) (at : ℕ → X) (is : List ℕ) → position_or_len (λ i. p (at i)) is ≡ position_or_len p (map at is)
position_map p at [] = refl
position_map p at (i ∷ is) = ap (λ n. cond (not (p (at i))) (1 + n) 0) (position_map p at is)

module _ {X : Type 0} (p : X → Bool) (xs : List X) (d : X) where
  pub first_place : unwrap_or (slice_get (filter (λ i. p (get_or xs i d)) (range_with_len 0 (length xs))) 0) (length xs) ≡ position_or_len p xs
  first_place =
      ap (unwrap_or (slice_get (filter (λ i. p (get_or xs i d)) (range_with_len 0 (length xs))) 0)) (sym (zero-add (length xs)))
      ∙ first_number (λ i. p (get_or xs i d)) 0 (length xs)
      ∙ zero-add (position_or_len (λ i. p (get_or xs i d)) (range_with_len 0 (length xs)))
      ∙ position_map p (λ i. get_or xs i d) (range_with_len 0 (length xs))
      ∙ ap (position_or_len p) (all_indexed xs d)

  any_place : nat_lt 0 (length (filter (λ i. p (get_or xs i d)) (range_with_len 0 (length xs)))) ≡ list_any p xs
  any_place =
      any_number (λ i. p (get_or xs i d)) (range_with_len 0 (length xs))
      ∙ sym (list_any-map p (λ i. get_or xs i d) (range_with_len 0 (length xs)))
      ∙ ap (list_any p) (all_indexed xs d)

-- ---- the rows that are found by cells as they are
abbrev pub sought_of : List ℕ → List ℕ → List Row → Sought
sought_of own asked rows = record { own = own; asked = asked; rows = rows }

pub same_sought : (own own' asked asked' : List ℕ) (rows rows' : List Row) → own ≡ own' → asked ≡ asked' → rows ≡ rows' → sought_of own asked rows ≡ sought_of own' asked' rows'
same_sought own own' asked asked' rows rows' e f g = cc

module _ (x : RowLookup) (asked : List KeyColumn) (row : Row) (nulls : x.nulls ≡ Found) (own : x.key ≡ map as_it_is (columns_in x.key)) (at : asked ≡ map as_it_is (columns_in asked)) where
  abbrev sought : Sought
  sought = sought_of (columns_in x.key) (columns_in asked) x.rows

  found_are : found_rows x (key_at x.p asked row) ≡ filter (λ i. is_meant sought row (row_at x.rows i)) (range_with_len 0 (length x.rows))
  found_are =
      ap (λ z. cond (is_sought z (key_at x.p asked row)) (rows_with (key_at x.p x.key) x.rows (key_at x.p asked row)) []) nulls
      ∙ ap (λ f. rows_with f x.rows (key_at x.p asked row)) (ap (key_at x.p) own ∙ plain_keys x.p (columns_in x.key))
      ∙ ap (rows_with (cells_at (columns_in x.key)) x.rows) (ap (λ l. key_at x.p l row) at ∙ ap (λ (f : Row → Row). f row) (plain_keys x.p (columns_in asked)))

  pub first_is : unwrap_or (slice_get (found_rows x (key_at x.p asked row)) 0) (length x.rows) ≡ first_meant sought row
  first_is = ap (λ l. unwrap_or (slice_get l 0) (length x.rows)) found_are ∙ first_place (is_meant sought row) x.rows []

  pub has_is : nat_lt 0 (length (found_rows x (key_at x.p asked row))) ≡ is_any_meant sought row
  has_is = ap (λ l. nat_lt 0 (length l)) found_are ∙ any_place (is_meant sought row) x.rows []
