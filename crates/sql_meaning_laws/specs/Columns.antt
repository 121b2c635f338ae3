-- The columns of a union: at each place the kind that all selects have in common.
use Rattle.std.specs.Prelude.{ℕ, List, map, zip, length, Option, slice_index_or}
use Rattle.std.specs.List.{range_with_len}
use Rattle.vtl_cell.specs.ScalarKinds.{common_kind}
use Rattle.vtl_cell.specs.declared.kind.Kind.{Kind}
use Rattle.vtl_cell.specs.declared.kind.Kind.TheVariants as k
use Rattle.sql_tree.specs.Trees.{QueryTree, SelectTree}
use Rattle.sql_check_parts.specs.Queries.{kinds_of, query_names}
use Rattle.sql_check_parts.specs.Scopes.{Columns, Tables, or_null}

-- the kind of the item of a select at a place; where it has none there, which is so in no typed query, null, which goes with each kind
abbrev pub kind_at : Tables → ℕ → SelectTree → Kind
kind_at tables i s = slice_index_or (kinds_of tables s) i k.Null

-- at each place of the first select the common kind of what all selects have there, as that of the values of a CASE
abbrev pub common_kinds : Tables → QueryTree → List (Option Kind)
common_kinds tables q = map (λ i. common_kind (map (kind_at tables i) q)) (range_with_len 0 (length (query_names q)))

-- the names of the first select, each with the common kind of its place
abbrev pub common_columns : Tables → QueryTree → Columns
common_columns tables q = zip (query_names q) (map or_null (common_kinds tables q))
