-- The data sets that an SQL script reads: those that its INPUTs declare.
use Rattle.std.specs.Prelude.{List, [], ◌∷◌, map}
use Rattle.vtl_tree.specs.Environment.{Environment}
use Rattle.vtl_tree.specs.Structures.{Named}
use Rattle.sql_tree.specs.Trees as tree
use Rattle.sql_tree.specs.Trees.{ScriptTree}
use Rattle.sql_meaning.specs.Scripts.{Inputs}
use Rattle.sql_tree.specs.declared.statements.SqlInput.{SqlInput}
use Rattle.sql_engine.specs.Structures.{not_null_of, structure_of}
use Rattle.vtl_top.specs.Wanted.{Wanted}
use Rattle.vtl_top.specs.declared.sql_inputs.Input.{Input}

-- the name and the structure of each INPUT, in the order in which they are written
abbrev pub input_structures : ScriptTree → Named
input_structures [] = []
input_structures (tree.input s ∷ ss) = (s.name, structure_of s) ∷ input_structures ss
input_structures (other ∷ ss) = input_structures ss

-- the rows that were read for each INPUT
abbrev pub rows_by_name : Environment → Inputs
rows_by_name env = map (λ d. (d.0, d.1.points)) env

-- an INPUT as it is read: with its structure and its NOT NULL columns
abbrev pub wanted_input : SqlInput → Wanted
wanted_input s = record { name = s.name; structure = structure_of s; not_null = not_null_of s }

-- the INPUTs, in the order in which they are written
abbrev pub inputs_wanted : ScriptTree → List Wanted
inputs_wanted [] = []
inputs_wanted (tree.input s ∷ ss) = wanted_input s ∷ inputs_wanted ss
inputs_wanted (other ∷ ss) = inputs_wanted ss

-- an INPUT of the program
abbrev pub wanted_by : Input → Wanted
wanted_by i = record { name = i.name.now; structure = i.structure; not_null = i.not_null }
