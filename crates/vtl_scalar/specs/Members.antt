-- Members that are looked up by halves.
use Rattle.std.specs.Prelude.{◌≡◌, ◌<◌, ◌==◌, ℕ, Bool, true, List, [], ◌∷◌, length, IsSorted, slice_index_or}
use Rattle.std.specs.List.{list_all}
use Rattle.vtl_cell.specs.Order.{cell_cmp, kind_rank}
use Rattle.vtl_cell.specs.declared.cell.Cell.{Cell}

-- an integer and a number are of two kinds
abbrev pub is_of_one_kind : Cell → Cell → Bool
is_of_one_kind a b = kind_rank a == kind_rank b

abbrev pub are_of_one_kind : List Cell → Bool
are_of_one_kind [] = true
are_of_one_kind (x ∷ xs) = list_all (is_of_one_kind x) (x ∷ xs)

-- cells of one kind, none of which is greater than a later one
pub record AreInOrder (xs : List Cell) : Type 0 where
  pub one_kind : (i j : ℕ) (d : Cell) → i < length xs → j < length xs → kind_rank (slice_index_or xs i d) ≡ kind_rank (slice_index_or xs j d)
  pub rises : IsSorted cell_cmp xs
