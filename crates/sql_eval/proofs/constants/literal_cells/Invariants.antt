use Rattle.std.proofs.Common.{◌≡◌, map, take}
use Rattle.sql_meaning.specs.Values.{literal_cell}
use Rattle.sql_eval.proofs.constants.literal_cells.Given as goal

abbrev pub invariant-loop-literal : goal.invariant-loop-literal
invariant-loop-literal l = l.cells.items ≡ map (literal_cell l.p) (take l.literal-index l.literals)
