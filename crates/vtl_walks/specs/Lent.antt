-- The operands that are lent.
use Rattle.std.specs.Prelude.{List, [], ◌∷◌, map}
use Rattle.vtl_tree.specs.NodeView.{node_tree}
use Rattle.vtl_tree.specs.Trees.{NodeTree}
use Rattle.vtl_walks.specs.declared.node_operands.NodeOperands.{NodeOperands}
use Rattle.vtl_walks.specs.declared.node_operands.NodeOperands.TheVariants as operands

abbrev pub lent : NodeOperands → List NodeTree
lent operands.None = []
lent (operands.One a) = node_tree a.now ∷ []
lent (operands.Two a b) = node_tree a.now ∷ node_tree b.now ∷ []
lent (operands.Three a b c) = node_tree a.now ∷ node_tree b.now ∷ node_tree c.now ∷ []
lent (operands.Many nodes) = map node_tree nodes.now
lent (operands.Joined joined) = map (λ o. node_tree o.node) joined.now
