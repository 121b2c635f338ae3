-- A value as one of the kind that an expression has.
use Rattle.std.specs.Prelude.{Ok}
use Rattle.vtl_decimal.specs.Range.{fit_number}
use Rattle.vtl_decimal.specs.Settings.{Settings}
use Rattle.vtl_cell.specs.Outcome.{Outcome}
use Rattle.vtl_cell.specs.ScalarArithmetic.{number, units}
use Rattle.vtl_cell.specs.declared.cell.Cell.{Cell}
use Rattle.vtl_cell.specs.declared.cell.Cell.TheVariants as c
use Rattle.vtl_cell.specs.declared.kind.Kind.{Kind}
use Rattle.vtl_cell.specs.declared.kind.Kind.TheVariants as k

-- an integer where numbers are wanted is the equal number; every other value stays
abbrev pub as_kind : Settings → Kind → Cell → Outcome Cell
as_kind p k.Num (c.Int n) = number (fit_number (units p n))
as_kind p kind v = Ok v
