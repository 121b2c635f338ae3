-- What a contract sees of a profile.
use Rattle.std.specs.Prelude.{ℕ}
use Rattle.vtl_decimal.specs.declared.settings.Rounding.{Rounding}

-- the digits after a number's point, and the rule by which results are rounded to them
pub record Settings : Type 0 where
  pub scale : ℕ
  pub rounding : Rounding
