-- What comes of typing the script.
use Rattle.std.proofs.Common.{◌≡◌, ◌∙◌, ℕ, List, Result, Ok, Err, ap, subst}
use Rattle.vtl_decimal.specs.Settings.{Settings}
use Rattle.vtl_syntax.specs.Trees.{ScriptTree}
use Rattle.vtl_tree.specs.Structures.{Named}
use Rattle.vtl_tree.specs.Trees.{NodeTree}
use Rattle.vtl_check.specs.Checked.{TypedScript, env_over, nodes_of}
use Rattle.vtl_check.specs.Script.{Checks, script_typed}
use Rattle.vtl_check.specs.declared.error.CheckErr.{CheckErr}
use Rattle.vtl_check.specs.declared.error.CheckErr.TheVariants as err
use Rattle.vtl_demo.specs.DataSets.{declared}
use Rattle.vtl_demo.specs.Nodes.{typed_nodes}
use Rattle.vtl_demo.specs.Script.{settings, tree}
use Rattle.vtl_demo.proofs.TypedNodes.{typed}

pub accepted : (p : Settings) (s : Named) (t : ScriptTree) → p ≡ settings → s ≡ declared → t ≡ tree → script_typed (env_over p s) t ≡ Ok typed_nodes
accepted p s t e f g =
    ap (λ x. script_typed (env_over x s) t) e ∙ ap (λ x. script_typed (env_over settings x) t) f ∙ ap (script_typed (env_over settings declared)) g ∙ typed

pub typed_so : (m : Result (List NodeTree) (ℕ × ℕ)) (nodes : List NodeTree) → m ≡ Ok typed_nodes → m ≡ Ok nodes → nodes ≡ typed_nodes
typed_so m nodes e f = cc

pub never-mistyped : (m : Result (List NodeTree) (ℕ × ℕ)) (r : CheckErr) (i n : ℕ) → m ≡ Ok typed_nodes → r ≡ err.Mistyped i n → Checks {A = TypedScript} nodes_of (Err r) m → ⊥
never-mistyped m r i n e is fault = let f : m ≡ Err (i, n) = subst (λ x. Checks {A = TypedScript} nodes_of (Err x) m) is fault in cc
