-- Which values a profile has.
use Rattle.std.specs.Prelude.{IsOk}
use Rattle.vtl_decimal.specs.Range.{fit_integer}
use Rattle.vtl_decimal.specs.Settings.{Settings}
use Rattle.vtl_cell.specs.declared.cell.Cell.{Cell}
use Rattle.vtl_cell.specs.declared.cell.Cell.TheVariants as c

-- an integer that is a number of at most 18 digits at the profile's scale, or a value of another kind
abbrev pub IsOfProfile : Settings → Cell → Type 0
IsOfProfile p (c.Int n) = IsOk (fit_integer p.scale n)
IsOfProfile p other = Unit {0}
