-- Data sets that are kept in tables.
use Rattle.std.specs.Prelude.{Ok, List}
use Rattle.vtl_cell.specs.Row.{Row}
use Rattle.vtl_cell.specs.Outcome.{Outcome, after}
use Rattle.vtl_tree.specs.Environment.{DataSet}
use Rattle.vtl_tree.specs.declared.structure.Structure.{Structure}

abbrev pub data_set : Structure → List Row → DataSet
data_set s points = record { structure = s; points = points }

-- the data set of these points, or their fault
abbrev pub with_structure : Structure → Outcome (List Row) → Outcome DataSet
with_structure s m = after m (λ points. Ok (data_set s points))
