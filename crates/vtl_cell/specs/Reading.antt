-- The values that texts stand for. A text is given in UTF-8.
use Rattle.std.specs.Prelude.{ℕ, Bool, true, false, List, map, Option, Some, None, option_map, chars, codes, bytes_eq, if◌then◌else◌}
use Rattle.std.specs.Char.{to_ascii_lowercase}
use Rattle.vtl_decimal.specs.Numeral.{number_read, integer_read}
use Rattle.vtl_decimal.specs.Settings.{Settings}
use Rattle.vtl_time.specs.Days.{read_day_of}
use Rattle.vtl_time.specs.Periods.{read_period_of}
use Rattle.vtl_cell.specs.declared.cell.Cell.{Cell}
use Rattle.vtl_cell.specs.declared.cell.Cell.TheVariants as c
use Rattle.vtl_cell.specs.declared.kind.Kind.{Kind}
use Rattle.vtl_cell.specs.declared.kind.Kind.TheVariants as k

-- `true` or `false`, in letters of either case
abbrev pub bool_read : List ℕ → Option Bool
bool_read t =
    let small = map to_ascii_lowercase t in
    if bytes_eq small (codes "true") then Some true
    else if bytes_eq small (codes "false") then Some false
    else None

-- the value of the kind that the text stands for: no text stands for null, and each text for itself
abbrev pub reads : Settings → Kind → List ℕ → Option Cell
reads p k.Null t = None
reads p k.Bool t = option_map c.Bool (bool_read t)
reads p k.Int t = option_map c.Int (integer_read p.scale t)
reads p k.Num t = option_map c.Num (number_read p t)
reads p k.Text t = Some (c.Text (chars t))
reads p k.Day t = option_map c.Day (read_day_of (chars t))
reads p k.Period t = option_map c.Period (read_period_of (chars t))
