-- Rows by keys.
use Rattle.std.specs.Prelude.{ℕ, List, [], ◌∷◌, ◌++◌, filter, map, if◌then◌else◌}
use Rattle.vtl_cell.specs.Row.{Row, same_row}

-- the rows that were added with a key, in the order of adding
abbrev pub rows_of : List (Row × ℕ) → Row → List ℕ
rows_of added key = map (λ p. p.1) (filter (λ p. same_row p.0 key) added)

-- one more row of a key, behind its others
abbrev pub with_row : Row → ℕ → (Row → List ℕ) → Row → List ℕ
with_row key row rows k = if same_row key k then rows k ++ row ∷ [] else rows k
