-- What a filter leaves of one row.
use Rattle.std.specs.Prelude.{Bool, cond, Option, Some, None}
use Rattle.vtl_cell.specs.Row.{Row}

abbrev pub kept_row : (Row → Bool) → Option Row → Option Row
kept_row p None = None
kept_row p (Some r) = cond (p r) (Some r) None
