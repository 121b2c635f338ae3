-- A day and a period are known by their parts.
use Rattle.std.proofs.Common.{◌≡◌, refl, arith}
use Rattle.vtl_time.specs.Days.{CalendarDay}
use Rattle.vtl_time.specs.Periods.{YearPart, frequency_rank}
use Rattle.vtl_time.specs.declared.periods.Frequency.{Frequency}
use Rattle.vtl_time.specs.declared.periods.Frequency.TheVariants.{Annual, Semester, Quarter, Month}

pub day_of_parts : (x y : CalendarDay) → x.year ≡ y.year → x.month ≡ y.month → x.day ≡ y.day → x ≡ y
day_of_parts x y a b c = λ i. record { year = a i; month = b i; day = c i }

pub period_of_parts : (x y : YearPart) → x.frequency ≡ y.frequency → x.year ≡ y.year → x.part ≡ y.part → x ≡ y
period_of_parts x y a b c = λ i. record { frequency = a i; year = b i; part = c i }

pub rank_apart : (f g : Frequency) → frequency_rank f ≡ frequency_rank g → f ≡ g
rank_apart Annual Annual e = refl
rank_apart Annual Semester e = absurd (omega (arith, e))
rank_apart Annual Quarter e = absurd (omega (arith, e))
rank_apart Annual Month e = absurd (omega (arith, e))
rank_apart Semester Annual e = absurd (omega (arith, e))
rank_apart Semester Semester e = refl
rank_apart Semester Quarter e = absurd (omega (arith, e))
rank_apart Semester Month e = absurd (omega (arith, e))
rank_apart Quarter Annual e = absurd (omega (arith, e))
rank_apart Quarter Semester e = absurd (omega (arith, e))
rank_apart Quarter Quarter e = refl
rank_apart Quarter Month e = absurd (omega (arith, e))
rank_apart Month Annual e = absurd (omega (arith, e))
rank_apart Month Semester e = absurd (omega (arith, e))
rank_apart Month Quarter e = absurd (omega (arith, e))
rank_apart Month Month e = refl
