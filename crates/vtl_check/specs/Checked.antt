-- Scripts that are typed, with their nodes.
use Rattle.std.specs.Prelude.{◌≡◌, ℕ, List, [], Ok, map}
use Rattle.std.specs.Map.{keys_of}
use Rattle.vtl_decimal.specs.Settings.{Settings}
use Rattle.vtl_syntax.specs.Trees.{ScriptTree}
use Rattle.vtl_syntax.specs.View.{statement_tree}
use Rattle.vtl_syntax.specs.declared.statements.Script.{Script}
use Rattle.vtl_syntax.specs.declared.statements.Statement.{Statement}
use Rattle.vtl_tree.specs.NotNull.{Declared, NotNull}
use Rattle.vtl_tree.specs.Structures.{Named}
use Rattle.vtl_tree.specs.Trees.{NodeTree}
use Rattle.vtl_tree.specs.NodeView.{node_tree}
use Rattle.vtl_tree.specs.declared.nodes.Node.{Node}
use Rattle.vtl_check.specs.Script.{Standing, script_typed}
use Rattle.vtl_check.specs.Transformations.{transformations}
use Rattle.vtl_check.specs.Uses.{outputs_in, reads, results_behind}
use Rattle.vtl_check.specs.declared.uses.Uses.{Uses}

-- a script with the structures, their not-null lists and the settings that it is typed over, and its nodes, one for each
-- assignment
pub record TypedScript : Type 0 where
  pub script : List Statement
  pub declared : Named
  pub not_null : NotNull
  pub settings : Settings
  pub nodes : List Node

-- a script with what is declared, settings and nodes
abbrev pub typed_script : Script → Declared → Settings → List Node → TypedScript
typed_script script d settings nodes = record { script = script.statements; declared = d.sets; not_null = d.not_null; settings = settings; nodes = nodes }

-- where a script begins: its declared data sets are known, and no ruleset
abbrev pub env_over : Settings → Named → Standing
env_over settings declared = record { settings = settings; known = declared; definitions = [] }

abbrev pub tree_of : TypedScript → ScriptTree
tree_of t = map statement_tree t.script

abbrev pub nodes_of : TypedScript → List NodeTree
nodes_of t = map node_tree t.nodes

abbrev pub IsTyped : TypedScript → Type 0
IsTyped t = script_typed (env_over t.settings t.declared) (tree_of t) ≡ Ok (nodes_of t)

-- the names of the declared data sets that the script reads, in order of first use
abbrev pub inputs_of : TypedScript → List (List ℕ)
inputs_of t = keys_of (reads t.declared (nodes_of t))

-- the names of the results that the script writes with `<-`, in order
abbrev pub outputs_of : TypedScript → List (List ℕ)
outputs_of t = outputs_in (transformations (tree_of t))

-- the data sets that the script reads, and then all its results, with their structures
abbrev pub known_of : TypedScript → Named
known_of t = results_behind (reads t.declared (nodes_of t)) (transformations (tree_of t)) (nodes_of t)

-- these are the data sets that the script reads and gives
pub record AreUses (t : TypedScript) (u : Uses) : Type 0 where
  pub known_data : u.known ≡ known_of t
  pub read_names : u.inputs.items ≡ inputs_of t
  pub written_names : u.outputs.items ≡ outputs_of t
