-- The query of each set operator on two operands, and on operands one after the other.
use Rattle.std.specs.Prelude.{ℕ, List, [], ◌∷◌}
use Rattle.vtl_decimal.specs.Settings.{Settings}
use Rattle.vtl_tree.specs.declared.structure.Structure.{Structure}
use Rattle.vtl_tree.specs.Trees.{NodeTree, nodes_of, structure_of}
use Rattle.sql_tree.specs.Trees.{QueryTree, Text}
use Rattle.vtl_to_sql.specs.Sets.{difference_query, intersection_query, symmetric_difference_query, union_query}
use Rattle.selects_to_sql.specs.Tables.{Made, Sources}
use Rattle.vtl_to_sql.specs.Tables.{combined_of, sources_of}
use Rattle.vtl_to_sql.specs.declared.set_operators.SetOperator.{SetOperator}
use Rattle.vtl_to_sql.specs.declared.set_operators.SetOperator.TheVariants as operator

abbrev pub combined_query : SetOperator → Settings → (a b s : Structure) → (first second : Text) → QueryTree
combined_query operator.Union p a b s x y = union_query p a b s x y
combined_query operator.Intersection p a b s x y = intersection_query p a b s x y
combined_query operator.Difference p a b s x y = difference_query p a b s x y
combined_query operator.SymmetricDifference p a b s x y = symmetric_difference_query p a b s x y

-- operands behind those that are in sources already
abbrev pub rest_made : SetOperator → Settings → (result : Text) → Structure → List NodeTree → Structure → Sources → Made
rest_made o p r s ns a os = combined_of p r (λ b c. combined_query o p b c s) s (nodes_of ns) a os

abbrev pub combined_made : SetOperator → Settings → (result : Text) → Structure → List NodeTree → ℕ → Made
combined_made o p r s [] n = record { tables = []; query = []; next = n }
combined_made o p r s (a ∷ ns) n = rest_made o p r s ns (structure_of a) (sources_of p r a n)
