-- The script, typed over the structures of its data sets.
use Rattle.std.specs.Prelude.{◌≡◌, []}
use Rattle.vtl_check.specs.Checked.{TypedScript, nodes_of, tree_of}
use Rattle.vtl_demo.specs.DataSets.{declared}
use Rattle.vtl_demo.specs.Nodes.{typed_nodes}
use Rattle.vtl_demo.specs.Script.{settings, tree}

-- this is the script of the demonstration
pub record IsDemonstration (t : TypedScript) : Type 0 where
  pub spells : tree_of t ≡ tree
  pub over : t.declared ≡ declared
  pub lists : t.not_null ≡ []
  pub by : t.settings ≡ settings
  pub gives : nodes_of t ≡ typed_nodes

-- a back end was told of it
pub record IsToldOf (told : TypedScript → Type 0) : Type 0 where
  pub script : TypedScript
  pub demonstration : IsDemonstration script
  pub told_of : told script
