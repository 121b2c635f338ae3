-- The nodes of the script, typed over the structures of the two data sets, and what it means over their points.
use Rattle.std.specs.Prelude.{◌≡◌, ℕ, ◌*◌, List, [], ◌∷◌, Some, None, codes, pos, true, Result, Ok}
use Rattle.vtl_cell.specs.Row.{Row}
use Rattle.vtl_cell.specs.declared.cell.Cell.TheVariants as c
use Rattle.vtl_cell.specs.declared.kind.Kind.TheVariants as k
use Rattle.vtl_cell.specs.declared.operator.AggKind.TheVariants as agg
use Rattle.vtl_cell.specs.declared.operator.ScalarOp.TheVariants as op
use Rattle.vtl_decimal.specs.declared.number.Fault.{Fault}
use Rattle.vtl_syntax.specs.declared.word_groups.JoinKind.TheVariants as join
use Rattle.vtl_sets.specs.DataSets.{data_set}
use Rattle.vtl_tree.specs.CompExp.{CompExp, call, column, comp_exp, no_comp_exps}
use Rattle.vtl_tree.specs.Measures.{made}
use Rattle.vtl_tree.specs.Structures.{structure_of}
use Rattle.vtl_tree.specs.Trees as nodes
use Rattle.vtl_tree.specs.Trees.{AggTree, ItemTree, NodeTree, node, operand}
use Rattle.vtl_tree.specs.declared.specifications.AggItems.TheVariants as items
use Rattle.vtl_tree.specs.declared.structure.Component.{Component}
use Rattle.vtl_tree.specs.declared.structure.Role.TheVariants as role
use Rattle.vtl_tree.specs.declared.structure.Structure.{Structure}
use Rattle.vtl_scripts.specs.Meaning.{Outputs, Statement, meaning}
use Rattle.vtl_demo.specs.DataSets.{environment, first_factor, first_measure, for_each, group_at, group_id, left_structure, number_id, right_structure, second_factor, second_measure}
use Rattle.vtl_demo.specs.Script.{settings}

-- ---- the structures of results
abbrev pub product_measure : Component
product_measure = made (codes "v") role.Measure k.Int

abbrev pub joined_structure : Structure
joined_structure = structure_of (number_id ∷ group_id ∷ first_measure ∷ second_measure ∷ [])

abbrev pub multiplied_structure : Structure
multiplied_structure = structure_of (number_id ∷ group_id ∷ first_measure ∷ second_measure ∷ product_measure ∷ [])

abbrev pub kept_structure : Structure
kept_structure = structure_of (number_id ∷ group_id ∷ product_measure ∷ [])

abbrev pub summed_structure : Structure
summed_structure = structure_of (group_id ∷ product_measure ∷ [])

-- ---- the nodes
-- the data sets joined; a join ends with a naming, here of nothing
abbrev pub left_node : NodeTree
left_node = node left_structure (nodes.named (codes "D_A"))

abbrev pub right_node : NodeTree
right_node = node right_structure (nodes.named (codes "D_B"))

abbrev pub join_node : NodeTree
join_node = node joined_structure (nodes.join (operand left_node (codes "a") (operand right_node (codes "b") nodes.no_operands)) (record { kind = join.Inner; using = None }))

abbrev pub joined_node : NodeTree
joined_node = node joined_structure (nodes.rename join_node [])

-- the products of the factors
abbrev pub product : CompExp
product = call op.Multiply k.Int (comp_exp (column 2 (codes "Me_1") k.Int) (comp_exp (column 3 (codes "Me_2") k.Int) no_comp_exps))

abbrev pub product_item : ItemTree
product_item = record { role = Some role.Measure; target = codes "v"; value = nodes.scalar product }

abbrev pub named_node : NodeTree
named_node = node joined_structure (nodes.named (codes "DS_j"))

abbrev pub multiplied_node : NodeTree
multiplied_node = node multiplied_structure (nodes.calc named_node (product_item ∷ []))

abbrev pub kept_node : NodeTree
kept_node = node kept_structure (nodes.keep multiplied_node (codes "v" ∷ []))

-- their total in each group
abbrev pub sums : AggTree
sums = record { items = items.Measures agg.Sum; grouping = codes "Id_2" ∷ []; having = None }

abbrev pub summed_node : NodeTree
summed_node = node summed_structure (nodes.aggregate kept_node sums)

abbrev pub typed_nodes : List NodeTree
typed_nodes = joined_node ∷ summed_node ∷ []

-- ---- the statements, whose results are written
abbrev pub join_statement : Statement
join_statement = record { result = codes "DS_j"; persistent = true; node = joined_node }

abbrev pub totals_statement : Statement
totals_statement = record { result = codes "DS_g"; persistent = true; node = summed_node }

abbrev pub statements : List Statement
statements = join_statement ∷ totals_statement ∷ []

-- ---- the meaning
-- what it means over the data sets of so many points
abbrev pub results : ℕ → Result Outputs (Fault × List ℕ)
results n = meaning settings statements (environment n)

-- the points of the join: one for each number
abbrev pub joined_point : ℕ → Row
joined_point i = c.Int (pos i) ∷ c.Text (group_at i) ∷ c.Int (pos (first_factor i)) ∷ c.Int (pos (second_factor i)) ∷ []

-- the product of the factors at a number
abbrev pub product_at : ℕ → ℕ
product_at i = first_factor i * second_factor i

-- the results, where these are the points of the totals
abbrev pub results_with : ℕ → (totals : List Row) → Outputs
results_with n totals = (codes "DS_j", data_set joined_structure (for_each joined_point n)) ∷ (codes "DS_g", data_set summed_structure totals) ∷ []

-- the script has no fault, and the results are these
pub record HasResults (n : ℕ) : Type 0 where
  pub totals : List Row
  pub are : results n ≡ Ok (results_with n totals)
