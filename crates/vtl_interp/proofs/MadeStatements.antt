-- Each expression of a typed script is made over what is known where it stands.
use Rattle.std.proofs.Common.{List, [], ◌∷◌}
use Rattle.vtl_decimal.specs.Settings.{Settings}
use Rattle.vtl_tree.specs.Structures.{AreStructures, Named}
use Rattle.vtl_tree.specs.Trees.{NodeTree, structure_of}
use Rattle.vtl_check.specs.Checked.{IsTyped, TypedScript, nodes_of, tree_of}
use Rattle.vtl_scripts.specs.Made.{AreMadeStatements}
use Rattle.check_laws.specs.Scripts.{AreMadeFrom}
use Rattle.check_laws.proofs.Scripts.{script-made}
use Rattle.vtl_backend.specs.Statements.{statements_of, with_nodes}
use Rattle.vtl_check.specs.Transformations.{Transformation, transformations}

made_statements : (p : Settings) (known : Named) (ts : List Transformation) (ns : List NodeTree) → AreMadeFrom p known ts ns → AreMadeStatements p known (with_nodes ts ns)
made_statements p known [] ns h = tt
made_statements p known (t ∷ ts) [] h = tt
made_statements p known (t ∷ ts) (n ∷ ns) h = (h.1, made_statements p ((t.name, structure_of n) ∷ known) ts ns h.2)

pub statements_made : (t : TypedScript) → AreStructures t.declared → IsTyped t → AreMadeStatements t.settings t.declared (statements_of t)
statements_made t are typed = made_statements t.settings t.declared (transformations (tree_of t)) (nodes_of t) (script-made t are typed)
