-- The structures of results may be declared, statement by statement.
use Rattle.std.proofs.Common.{◌≡◌, true, false, List, [], ◌∷◌}
use Rattle.std.specs.List.{AllByRecursion}
use Rattle.vtl_decimal.specs.Settings.{Settings}
use Rattle.vtl_syntax.specs.Written.{AreWritten}
use Rattle.vtl_tree.specs.Structures.{AreStructures, Named, is_declarable}
use Rattle.vtl_tree.specs.Trees.{NodeTree, structure_of}
use Rattle.vtl_check.specs.Checked.{IsTyped, TypedScript, nodes_of, tree_of}
use Rattle.vtl_check.specs.Transformations.{Transformation, transformations}
use Rattle.check_laws.specs.Scripts.{AreMadeFrom}
use Rattle.check_laws.proofs.Inner.{made-shaped}
use Rattle.check_laws.proofs.Scripts.{script-made}
use Rattle.result_laws.proofs.Components.{AreKnownNamed, declared_named}
use Rattle.result_laws.proofs.Declared.{structure_declarable}
use Rattle.result_laws.proofs.Names.{components_named}
use Rattle.result_laws.proofs.WordedScripts.{script_worded}
use Rattle.result_laws.proofs.Words.{IsWorded}

abbrev IsDeclarable : NodeTree → Type 0
IsDeclarable n = is_declarable (structure_of n) ≡ true

results_declarable : (p : Settings) (known : Named) (ts : List Transformation) (ns : List NodeTree) → AreKnownNamed known → AllByRecursion (IsWorded p) ns → AreMadeFrom p known ts ns → AllByRecursion IsDeclarable ns
results_declarable p known ts [] named words made = tt
results_declarable p known [] (n ∷ ns) named words made = absurd made
results_declarable p known (t ∷ ts) (n ∷ ns) named words made =
    let plain = (components_named p known named false n made.1 words.0).0 in (
      structure_declarable (structure_of n) (made-shaped p known n made.1) plain,
      results_declarable p ((t.name, structure_of n) ∷ known) ts ns (plain, named) words.1 made.2,
    )

pub script_declarable : (t : TypedScript) → AreStructures t.declared → AreWritten (tree_of t) → IsTyped t → AllByRecursion IsDeclarable (nodes_of t)
script_declarable t are written typed = results_declarable t.settings t.declared (transformations (tree_of t)) (nodes_of t) (declared_named t.declared are) (script_worded t typed written) (script-made t are typed)
