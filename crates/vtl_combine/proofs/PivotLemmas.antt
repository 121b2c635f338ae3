-- What a pivot makes of keys and codes.
use Rattle.std.proofs.Common.{◌≡◌, ℕ, ◌+◌, ◌<◌, get_or, take, List, [], ◌∷◌, ◌++◌, Bool, true, false, ◌&&◌, length, map, refl, sym, ap, ◌∙◌, subst, arith}
use Rattle.std.specs.List.{AllByRecursion, position_or_len, range_with_len}
use Rattle.std.proofs.lemmas.List.{length-map, length_push, map-append}
use Rattle.vtl_lists.proofs.Alls.{all_more}
use Rattle.vtl_lists.proofs.Tests.{and_true}
use Rattle.vtl_cell.specs.Order.{same_cell}
use Rattle.vtl_cell.specs.Row.{Row, column_of, same_row}
use Rattle.vtl_cell.specs.declared.cell.Cell.{Cell}
use Rattle.vtl_cell.specs.declared.cell.Cell.TheVariants as c
use Rattle.vtl_rows.specs.Places.{row_at}
use Rattle.vtl_rows.specs.Tables.{cells_at, fits}
use Rattle.vtl_index.specs.Groups.{firsts}
use Rattle.vtl_index.specs.Leads.{leads_of}
use Rattle.vtl_index.specs.Seekers.{Sought, first_meant, is_meant}
use Rattle.vtl_index.proofs.KeyGroups.{keys_once}
use Rattle.vtl_tree.specs.DataSet.{IsDataSet, is_point}
use Rattle.vtl_tree.specs.Environment.{DataSet}
use Rattle.vtl_tree.specs.Structure.{columns_of}
use Rattle.vtl_tree.specs.declared.structure.Structure.{Structure}
use Rattle.vtl_tuples.specs.Keys.{each_once}
use Rattle.vtl_tuples.proofs.Lists.{map-map, map_each}
use Rattle.vtl_sets.specs.TableOf.{table_columns}
use Rattle.vtl_sets.proofs.TableLemmas.{point_fits}
use Rattle.vtl_meaning.specs.Agreement.{values_in}
use Rattle.vtl_tree.specs.Columns.{place_of}
use Rattle.vtl_meaning.specs.LookUps.{value_named}
use Rattle.vtl_meaning.specs.Made.{IsPivoted}
use Rattle.vtl_meaning.specs.Turned.{coded_value, codes_of, is_coded, other_identifiers, pivot_of, pivoted_point}
use Rattle.vtl_meaning.proofs.LookUps.{named_cells}
use Rattle.vtl_meaning.proofs.Places.{all_of_map}
use Rattle.vtl_meaning.proofs.TurnedKept.{pivot_kept}
use Rattle.vtl_index.proofs.Ranges.{all_indexed}
use Rattle.vtl_combine.specs.Pivots.{AreCoded, coded, other_places, pivoted, sought_codes}
use Rattle.vtl_combine.specs.declared.pivoting.CodedPoints.{CodedPoints}
use Rattle.vtl_combine.proofs.ChosenLemmas.{mapped_more}
use Rattle.vtl_combine.proofs.RowLemmas.{at_first}

-- ---- keys with a cell behind them
and_assoc : (a b c : Bool) → (a && (b && c)) ≡ (a && b && c)
and_assoc true b c = refl
and_assoc false b c = refl

pub same_with_last : (r s : Row) (v w : Cell) → length r ≡ length s → same_row (r ++ v ∷ []) (s ++ w ∷ []) ≡ (same_row r s && same_cell v w)
same_with_last [] [] v w e = and_true (same_cell v w)
same_with_last [] (y ∷ s) v w e = absurd (omega arith)
same_with_last (x ∷ r) [] v w e = absurd (omega arith)
same_with_last (x ∷ r) (y ∷ s) v w e = ap (λ b. same_cell x y && b) (same_with_last r s v w (omega arith)) ∙ and_assoc (same_cell x y) (same_row r s) (same_cell v w)

-- one code more
pub coded_more : (x : CodedPoints) (key same : Row) (i : ℕ) (code : List ℕ) (front old new : Row) → i < length x.codes.now → code ≡ get_or x.codes.now i code → same ≡ key → old ≡ front ++ map (coded x key) (take i x.codes.now) → new ≡ old ++ coded x same code ∷ []
    → new ≡ front ++ map (coded x key) (take (i + 1) x.codes.now)
coded_more x key same i code front old new h at e o n = mapped_more (coded x key) x.codes.now i code front old new h at o (n ∙ ap (λ k. old ++ coded x k code ∷ []) e)

-- ---- the points of a pivot
-- the first rows of groups by the other identifiers
pub led_by_others : (d : DataSet) (id : List ℕ) (rows : List Row) (places leads : List ℕ) → leads ≡ leads_of (cells_at places) rows → places ≡ other_places id d.structure → rows ≡ d.points → firsts leads ≡ firsts (leads_of (cells_at (other_places id d.structure)) d.points)
led_by_others d id rows places leads by ps at = ap firsts (by ∙ ap (λ l. leads_of (cells_at l) rows) ps ∙ ap (leads_of (cells_at (other_places id d.structure))) at)

module _ (d : DataSet) (id m : List ℕ) (x : CodedPoints) (is : AreCoded d id m x) where
  abbrev a : Structure
  a = d.structure

  abbrev places : List ℕ
  places = other_places id a

  key_places : (r : Row) → length (cells_at places r) ≡ length places
  key_places r = length-map places (λ i. column_of i r)

  -- a row is meant by a key and a code where it has them
  meant_is : (k : Row) (code : List ℕ) → length k ≡ length places → (r : Row) → is_meant (sought_codes d id) (k ++ c.Text code ∷ []) r ≡ is_coded a id k code r
  meant_is k code l r =
      let asking = k ++ c.Text code ∷ [] in
      let count : length places + 1 ≡ length asking = sym (length_push k (c.Text code) ∙ ap (λ n. n + 1) l) in
      let asked : cells_at (range_with_len 0 (length places + 1)) asking ≡ asking = ap (λ n. cells_at (range_with_len 0 n) asking) count ∙ all_indexed asking c.Null in
      let own : cells_at (places ++ place_of id (columns_of a) ∷ []) r ≡ cells_at places r ++ value_named (columns_of a) r id ∷ [] = map-append (λ i. column_of i r) places (place_of id (columns_of a) ∷ []) in
      ap (λ z. same_row z (cells_at (range_with_len 0 (length places + 1)) asking)) own ∙ ap (same_row (cells_at places r ++ value_named (columns_of a) r id ∷ [])) asked
      ∙ same_with_last (cells_at places r) k (value_named (columns_of a) r id) (c.Text code) (key_places r ∙ sym l)
      ∙ ap (λ z. same_row z k && same_cell (value_named (columns_of a) r id) (c.Text code)) (named_cells (columns_of a) (other_identifiers id a) r)

  coded_is : (k : Row) (code : List ℕ) → length k ≡ length places → coded x k code ≡ coded_value d id m k code
  coded_is k code l =
      let asking = k ++ c.Text code ∷ [] in
      let at = place_of m (columns_of a) in
      ap (λ n. column_of n (row_at x.table.now.rows (first_meant x.seeker asking))) is.measured
      ∙ ap (λ rows. column_of at (row_at rows (first_meant x.seeker asking))) is.rows
      ∙ ap (λ (z : Sought). column_of at (row_at d.points (first_meant z asking))) is.seeker
      ∙ ap (λ (p : Row → Bool). column_of at (row_at d.points (position_or_len p d.points))) (λ j r. meant_is k code l r j)
      ∙ sym (at_first (column_of at) c.Null (is_coded a id k code) d.points refl)

  pivoted_is : (r : Row) → pivoted x r ≡ pivoted_point d id m (cells_at places r)
  pivoted_is r =
      ap (λ ps. cells_at ps r ++ map (coded x (cells_at ps r)) x.codes.now) is.others
      ∙ ap (λ l. cells_at places r ++ map (coded x (cells_at places r)) l) is.codes
      ∙ ap (λ l. cells_at places r ++ l) (map_each (coded x (cells_at places r)) (coded_value d id m (cells_at places r)) (λ code. coded_is (cells_at places r) code (key_places r)) (codes_of id a))

  keys_are : map (λ f. cells_at places (row_at d.points f)) (firsts (leads_of (cells_at places) d.points)) ≡ each_once same_row (map (values_in a (other_identifiers id a)) d.points)
  keys_are = keys_once (cells_at places) d.points ∙ ap (each_once same_row) (map_each (cells_at places) (values_in a (other_identifiers id a)) (named_cells (columns_of a) (other_identifiers id a)) d.points)

  -- a point for the first row of each group by the other identifiers
  pub all_pivoted : map (λ f. pivoted x (row_at d.points f)) (firsts (leads_of (cells_at places) d.points)) ≡ pivot_of d id m
  all_pivoted =
      map_each (λ f. pivoted x (row_at d.points f)) (λ f. pivoted_point d id m (cells_at places (row_at d.points f))) (λ f. pivoted_is (row_at d.points f)) (firsts (leads_of (cells_at places) d.points))
      ∙ sym (map-map (pivoted_point d id m) (λ f. cells_at places (row_at d.points f)) (firsts (leads_of (cells_at places) d.points)))
      ∙ ap (map (pivoted_point d id m)) keys_are

  pub all_pivoted_fit : (s : Structure) → IsPivoted id m a s → IsDataSet a d.points → AllByRecursion (λ f. fits (table_columns s) (pivoted x (row_at d.points f)) ≡ true) (firsts (leads_of (cells_at places) d.points))
  all_pivoted_fit s i h =
      let P : Row → Type 0 = λ r. is_point (columns_of s) r ≡ true in
      let typed = subst (AllByRecursion P) (sym all_pivoted) (pivot_kept id m d s i h).typed in
      let g : ℕ → Row = λ f. pivoted x (row_at d.points f) in
      all_more (λ f. P (g f)) (λ f. fits (table_columns s) (g f) ≡ true) (λ f e. point_fits (columns_of s) (g f) e) (firsts (leads_of (cells_at places) d.points)) (all_of_map g P (firsts (leads_of (cells_at places) d.points)) typed)
