-- The value that is lent or made.
use Rattle.vtl_cell.specs.declared.cell.Cell.{Cell}
use Rattle.vtl_scalar.specs.declared.given.Given.{Given}
use Rattle.vtl_scalar.specs.declared.given.Given.TheVariants as g

abbrev pub given_cell : Given → Cell
given_cell (g.Lent v) = v.now
given_cell (g.Made v) = v
