-- The level of an error that digits write is an integer that a program holds.
use Rattle.std.proofs.Common.{◌<◌, ◌^◌, ℕ, ℤ, pos, negsuc, List, Option, Some, None, arith}
use Rattle.std.specs.Int.{w64}
use Rattle.std.specs.Int.RustNames.{FitsSigned}
use Rattle.std.specs.Option.{IfSome, option_and_then}
use Rattle.std.specs.Prelude.{unsigned_abs}
use Rattle.vtl_decimal.specs.Settings.{Settings}
use Rattle.vtl_cell.specs.Held.{IsHeld}
use Rattle.vtl_cell.specs.Literals.{integer_written}
use Rattle.vtl_cell.specs.Profile.{IsOfProfile}
use Rattle.vtl_cell.specs.declared.cell.Cell.TheVariants as c
use Rattle.vtl_rulings.proofs.HierarchyProfiles.{level_fits}
use Rattle.expressions_to_sql.proofs.WrittenConstants.{small_of}

number_fits : (n : ℤ) → unsigned_abs n < 10 ^ 18 → FitsSigned w64 n
number_fits (pos n) h = omega arith
number_fits (negsuc n) h = omega arith

pub level_held : (p : Settings) (level : Option (List ℕ)) → IfSome (option_and_then (integer_written p) level) (λ n. IsHeld (c.Int n))
level_held p level = held (option_and_then (integer_written p) level) (level_fits p level)
  where
    held : (o : Option ℤ) → IfSome o (λ n. IsOfProfile p (c.Int n)) → IfSome o (λ n. IsHeld (c.Int n))
    held None h = tt
    held (Some n) h = number_fits n (small_of p.scale n h)
