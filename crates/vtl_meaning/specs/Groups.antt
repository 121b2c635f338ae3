-- The groups of points: one for each tuple of values that points have of the grouping identifiers. A group is known by this tuple, its key,
-- and its points are those that have it. Without grouping identifiers each point has the empty tuple: there is one group where there is a
-- point, and none where there is none.
use Rattle.std.specs.Prelude.{ℕ, Bool, List, map, filter}
use Rattle.std.specs.List.{list_any}
use Rattle.vtl_cell.specs.Row.{Row, same_row}
use Rattle.vtl_rows.specs.Tables.{cells_at}
use Rattle.vtl_tree.specs.declared.structure.Component.{Component}
use Rattle.vtl_tuples.specs.Keys.{each_once}
use Rattle.vtl_tree.specs.Columns.{place_of}

-- where the components of these names stand in a point of these columns
abbrev pub places_named : List (List ℕ) → List Component → List ℕ
places_named names xs = map (λ name. place_of name xs) names

-- the keys, each once, in the order of their first points
abbrev pub keys_by : List ℕ → List Row → List Row
keys_by places points = each_once same_row (map (cells_at places) points)

-- the points of the group with this key
abbrev pub points_with : List ℕ → List Row → Row → List Row
points_with places points key = filter (λ r. same_row (cells_at places r) key) points

-- some point has this key
abbrev pub has_group : List ℕ → List Row → Row → Bool
has_group places points key = list_any (λ r. same_row (cells_at places r) key) points
