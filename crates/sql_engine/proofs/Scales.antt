-- The scale of a typed script is at most 9.
use Rattle.std.proofs.Common.{◌≡◌, ◌≤◌, pos, ℤ, true, Option, Some, None, arith}
use Rattle.std.proofs.lemmas.Int.{ints}
use Rattle.vtl_cell.specs.Literals.{lies_between}
use Rattle.sql_check_parts.specs.Statements.{scale_of}

pub scale_small : (o : Option ℤ) → lies_between (pos 0) (pos 9) o ≡ true → scale_of o ≤ 9
scale_small None h = cc
scale_small (Some n) h = grind (arith, ints, h)
