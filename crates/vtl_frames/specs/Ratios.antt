-- Shares of the total of a partition.
use Rattle.std.specs.Prelude.{ℤ, List, Ok, if◌then◌else◌}
use Rattle.vtl_decimal.specs.Operators.{quotient}
use Rattle.vtl_decimal.specs.Range.{fit_number}
use Rattle.vtl_decimal.specs.Settings.{Settings}
use Rattle.vtl_decimal.specs.Tally.{tally_of}
use Rattle.vtl_cell.specs.Groups.{numbers_of, units_of, values_of}
use Rattle.vtl_cell.specs.Kinds.{is_null}
use Rattle.vtl_cell.specs.Outcome.{Outcome, after}
use Rattle.vtl_cell.specs.ScalarArithmetic.{number}
use Rattle.vtl_cell.specs.declared.cell.Cell.{Cell}
use Rattle.vtl_cell.specs.declared.cell.Cell.TheVariants as c

-- the exact total as a number
abbrev pub total_number : Settings → List Cell → Outcome ℤ
total_number p cells = fit_number (tally_of (numbers_of p.scale (values_of cells))).total

-- a value divided by a total, null for null
abbrev pub ratio_to : Settings → Outcome ℤ → Cell → Outcome Cell
ratio_to p total x = if is_null x then Ok c.Null else after total (λ t. number (quotient p.rounding p.scale (units_of p.scale x) t))
