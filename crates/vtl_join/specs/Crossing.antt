-- Combinations of row numbers, one of each operand.
use Rattle.std.specs.Prelude.{ℕ, List, [], ◌∷◌, ◌++◌, length, map}
use Rattle.std.specs.List.{flat_map, range_with_len}
use Rattle.vtl_tree.specs.Environment.{DataSet}
use Rattle.vtl_tuples.specs.Tuples.{combinations}

-- the numbers of so many rows
abbrev pub up_to : ℕ → List ℕ
up_to count = range_with_len 0 count

abbrev pub row_numbers : DataSet → List ℕ
row_numbers d = up_to (length d.points)

-- the combinations of so many rows of each operand, each behind what stands in front of it
abbrev pub tuples_behind : List ℕ → List ℕ → List (List ℕ)
tuples_behind front counts = map (λ t. front ++ t) (combinations (map up_to counts))

-- the same numbers, one after the other
abbrev pub combined : List ℕ → List ℕ → List ℕ
combined front counts = flat_map (λ t. front ++ t) (combinations (map up_to counts))

-- how many rows each operand has
abbrev pub row_counts : List DataSet → List ℕ
row_counts ds = map (λ d. length d.points) ds

-- 0 for a lead of which nothing is asked, and a row number of each operand
abbrev pub all_combinations : List DataSet → List ℕ
all_combinations ds = combined (0 ∷ []) (row_counts ds)
