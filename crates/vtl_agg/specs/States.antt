-- What is known by what an accumulator keeps.
use Rattle.std.specs.Prelude.{Bool, true, false, ◌<◌, ◌^◌}
use Rattle.vtl_agg.specs.Added.{Known, counted, totalled, first, listed}
use Rattle.vtl_agg.specs.declared.state.State.{State}
use Rattle.vtl_agg.specs.declared.state.State.TheVariants as s

abbrev pub known : State → Known
known (s.Count n) = counted n
known (s.Totals t) = totalled t
known (s.First x) = first x
known (s.Units v) = listed v.items

-- a count has room for one more
abbrev pub IsRoomy : Known → Type 0
IsRoomy (counted n) = n < 2 ^ 63
IsRoomy (totalled t) = t.count < 2 ^ 63
IsRoomy other = Unit {0}

-- it is kept in a few words
abbrev pub is_small : Known → Bool
is_small (counted n) = true
is_small (totalled t) = true
is_small other = false
