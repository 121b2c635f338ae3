-- The results of a script that is typed have structures.
use Rattle.std.proofs.Common.{◌≡◌, Bool, true, false, cond, List, [], ◌∷◌, Ok, sym, subst}
use Rattle.std.specs.List.{AllByRecursion}
use Rattle.vtl_decimal.specs.Settings.{Settings}
use Rattle.vtl_syntax.specs.Trees.{ScriptTree}
use Rattle.vtl_tree.specs.Environment.{Environment}
use Rattle.vtl_tree.specs.Structure.{IsStructure}
use Rattle.vtl_tree.specs.Structures.{AreStructures, Named}
use Rattle.vtl_check.specs.Checked.{env_over}
use Rattle.check_laws.specs.Scripts.{AreMadeFrom}
use Rattle.vtl_scripts.specs.Meaning.{Outputs, Statement, meaning}
use Rattle.vtl_check.specs.Script.{script_typed}
use Rattle.vtl_meaning.specs.Shapes.{IsShaped}
use Rattle.vtl_check.specs.Transformations.{Transformation, transformations}
use Rattle.vtl_tree.specs.Trees.{NodeTree, structure_of}
use Rattle.check_laws.proofs.Inner.{made-shaped}
use Rattle.vtl_meaning.proofs.Places.{all_of_map}
use Rattle.check_laws.proofs.Scripts.{nodes-made}
use Rattle.vtl_backend.specs.Statements.{is_written, with_nodes}
use Rattle.vtl_to_sql.specs.Scripts.{written_of}
use Rattle.vtl_to_sql.proofs.WholeScript.{written_are}

-- ---- the nodes of a script
abbrev pub HasStructure : NodeTree → Type 0
HasStructure n = IsShaped (structure_of n)

abbrev pub HaveStructures : List NodeTree → Type 0
HaveStructures ns = AllByRecursion HasStructure ns

shaped_from : (p : Settings) (known : Named) (ts : List Transformation) (ns : List NodeTree) → AreMadeFrom p known ts ns → HaveStructures ns
shaped_from p known ts [] m = tt
shaped_from p known [] (n ∷ ns) m = absurd m
shaped_from p known (t ∷ ts) (n ∷ ns) m = (made-shaped p known n m.1, shaped_from p ((t.name, structure_of n) ∷ known) ts ns m.2)

pub nodes_have_structures : (p : Settings) (declared : Named) (tree : ScriptTree) (nodes : List NodeTree) → AreStructures declared → script_typed (env_over p declared) tree ≡ Ok nodes → HaveStructures nodes
nodes_have_structures p declared tree nodes are e = shaped_from p declared (transformations tree) nodes (nodes-made p declared tree nodes are e)

-- ---- the results that are written
pub results_have_structures : (ts : List Transformation) (ns : List NodeTree) → HaveStructures ns → AllByRecursion (λ e. IsStructure e.1) (written_of (with_nodes ts ns))
results_have_structures [] ns all = tt
results_have_structures (t ∷ ts) [] all = tt
results_have_structures (t ∷ ts) (n ∷ ns) all = go (is_written t.kind) (results_have_structures ts ns all.1)
  where
    go : (b : Bool) → AllByRecursion (λ e. IsStructure e.1) (written_of (with_nodes ts ns)) → AllByRecursion (λ e. IsStructure e.1) (cond b ((t.name, structure_of n) ∷ written_of (with_nodes ts ns)) (written_of (with_nodes ts ns)))
    go true ih = (all.0.well_formed, ih)
    go false ih = ih

pub outputs_have_structures : (p : Settings) (ss : List Statement) (env : Environment) (outputs : Outputs) → meaning p ss env ≡ Ok outputs → AllByRecursion (λ e. IsStructure e.1) (written_of ss) → AllByRecursion (λ o. IsStructure o.1.structure) outputs
outputs_have_structures p ss env outputs e all =
    all_of_map (λ o. (o.0, o.1.structure)) (λ e. IsStructure e.1) outputs (subst (AllByRecursion (λ e. IsStructure e.1)) (sym (written_are p ss env outputs e)) all)
