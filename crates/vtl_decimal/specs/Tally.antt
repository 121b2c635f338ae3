-- What a sum knows of the numbers that were added to it.
use Rattle.std.specs.Prelude.{ℕ, ◌+◌, ◌==◌, if◌then◌else◌, ℤ, pos, ◌+ℤ◌, List, length, fold, Option, Some, None}
use Rattle.vtl_decimal.specs.declared.settings.Rounding.{Rounding}
use Rattle.vtl_decimal.specs.Rounding.{rounded_quotient}

-- how many numbers there are, and their exact total in units
pub record Tally : Type 0 where
  pub count : ℕ
  pub total : ℤ

abbrev pub tally_of : List ℤ → Tally
tally_of xs = record { count = length xs; total = fold ◌+ℤ◌ (pos 0) xs }

-- one more number
abbrev pub tally_with : Tally → ℤ → Tally
tally_with t k = record { count = t.count + 1; total = t.total +ℤ k }

-- the total divided by the count, rounded once, where there is a number
abbrev pub mean_of : Rounding → Tally → Option ℤ
mean_of m t = if t.count == 0 then None else Some (rounded_quotient m t.total (pos t.count))
