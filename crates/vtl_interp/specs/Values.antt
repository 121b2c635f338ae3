-- The data set that an expression gives, and those that several give.
use Rattle.std.specs.Prelude.{ℕ, Box, Vec, List, [], ◌∷◌, map, Option, option_map}
use Rattle.std.specs.declared.alloc.Global.{Global}
use Rattle.vtl_tree.specs.Environment.{DataSet}
use Rattle.vtl_tree.specs.NodeView.{node_tree}
use Rattle.vtl_tree.specs.Trees.{MaybeNode, maybe_node}
use Rattle.vtl_tree.specs.declared.joins.Operand.{Operand}
use Rattle.vtl_tree.specs.declared.nodes.Node.{Node}
use Rattle.vtl_tree.specs.declared.structure.Structure.{Structure}
use Rattle.vtl_interp.specs.declared.value.Value.{Value}
use Rattle.vtl_interp.specs.declared.value.Value.TheVariants as v

abbrev pub value_view : Value → DataSet
value_view (v.Lent d) = d.now
value_view (v.Made d) = d

abbrev pub values_view : Vec Value Global → List DataSet
values_view xs = map value_view xs.items

-- of an expression that may be left out
abbrev pub maybe_view : Option Value → Option DataSet
maybe_view x = option_map value_view x

-- the imbalance of a check, as the program holds it
abbrev pub imbalance_tree : Option (Box Node Global) → MaybeNode
imbalance_tree i = maybe_node (option_map (λ b. node_tree b.value) i)

-- the operands of a join: each structure under its alias
abbrev pub under_aliases : List (List ℕ) → List Structure → List Operand
under_aliases [] ss = []
under_aliases (alias ∷ aliases) [] = []
under_aliases (alias ∷ aliases) (s ∷ ss) = record { alias = alias; structure = s } ∷ under_aliases aliases ss
