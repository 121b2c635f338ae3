-- The points of the join: one for each number, of the two points with this number.
use Rattle.std.proofs.Common.{◌≡◌, ◌≤◌, ◌<◌, ◌+◌, ◌∙◌, ◌∷◌, [], ℕ, zero, suc, pos, List, Some, filter, map, ap, ap₂, arith, refl}
use Rattle.std.specs.List.{range_with_len}
use Rattle.vtl_cell.specs.Row.{Row}
use Rattle.vtl_cell.specs.declared.cell.Cell.TheVariants as c
use Rattle.vtl_cell.proofs.Rows.{same_row-refl}
use Rattle.vtl_syntax.specs.declared.word_groups.JoinKind.TheVariants as join
use Rattle.vtl_tree.specs.Environment.{DataSet}
use Rattle.vtl_sets.specs.DataSets.{data_set}
use Rattle.vtl_meaning.specs.Agreement.{agree_in, first_agreeing}
use Rattle.vtl_meaning.specs.Joined.{Tuple, is_whole, join_of, part_of, tuple_beside, tuple_point}
use Rattle.vtl_demo.specs.DataSets.{for_each, group_at, left_point, left_points, left_structure, right_point, right_points, right_structure}
use Rattle.vtl_demo.specs.Nodes.{joined_point}
use Rattle.vtl_demo.proofs.Numbered.{find_made}
use Rattle.vtl_demo.proofs.Points.{unlike}

abbrev left_set : ℕ → DataSet
left_set n = data_set left_structure (left_points n)

abbrev right_set : ℕ → DataSet
right_set n = data_set right_structure (right_points n)

abbrev both : ℕ → List DataSet
both n = left_set n ∷ right_set n ∷ []

-- a point agrees with the point of its number alone
own_left : (n i : ℕ) → 1 ≤ i → i < 1 + n → first_agreeing left_structure (left_set n) (left_point i) ≡ Some (left_point i)
own_left n i low high =
    find_made left_point (agree_in left_structure left_structure (left_point i)) 1 n i low high (same_row-refl (c.Int (pos i) ∷ c.Text (group_at i) ∷ []))
    (λ j before. unlike j i (c.Text (group_at j) ∷ []) (c.Text (group_at i) ∷ []) (λ e. omega (arith, e, before)))

own_right : (n i : ℕ) → 1 ≤ i → i < 1 + n → first_agreeing left_structure (right_set n) (left_point i) ≡ Some (right_point i)
own_right n i low high =
    find_made right_point (agree_in left_structure right_structure (left_point i)) 1 n i low high (same_row-refl (c.Int (pos i) ∷ []))
    (λ j before. unlike j i [] [] (λ e. omega (arith, e, before)))

abbrev tuple_of : ℕ → ℕ → Tuple
tuple_of n i = record {
  identifiers = c.Int (pos i) ∷ c.Text (group_at i) ∷ [];
  parts = part_of (left_set n) (Some (left_point i)) ∷ part_of (right_set n) (Some (right_point i)) ∷ [];
}

tuple_is : (n i : ℕ) → 1 ≤ i → i < 1 + n → tuple_beside left_structure (both n) (left_point i) ≡ tuple_of n i
tuple_is n i low high =
    ap₂ (λ l r. record { identifiers = c.Int (pos i) ∷ c.Text (group_at i) ∷ []; parts = part_of (left_set n) l ∷ part_of (right_set n) r ∷ [] }) (own_left n i low high) (own_right n i low high)

-- the points that whole tuples make of some points of the first data set
abbrev made_of : ℕ → List Row → List Row
made_of n rows = map tuple_point (filter is_whole (map (tuple_beside left_structure (both n)) rows))

joined_from : (n from count : ℕ) → 1 ≤ from → from + count ≤ 1 + n → made_of n (map left_point (range_with_len from count)) ≡ map joined_point (range_with_len from count)
joined_from n from zero low high = refl
joined_from n from (suc count) low high =
    ap (λ t. map tuple_point (filter is_whole (t ∷ map (tuple_beside left_structure (both n)) (map left_point (range_with_len (from + 1) count))))) (tuple_is n from low (omega arith))
    ∙ ap (λ rows. joined_point from ∷ rows) (joined_from n (from + 1) count (omega arith) (omega arith))

pub joined : (n : ℕ) → join_of join.Inner (both n) ≡ for_each joined_point n
joined n = joined_from n 1 n (omega arith) (omega arith)
