-- Lists of numbers that stand one behind the other.
use Rattle.std.specs.Prelude.{◌≡◌, ℕ, List, [], ◌∷◌, drop, length, take}
use Rattle.std.specs.List.{sum}
use Rattle.vtl_times.specs.declared.lists.Lists.{Lists}

-- the first so many numbers, so many behind them, and so on
abbrev pub cut_by : List ℕ → List ℕ → List (List ℕ)
cut_by [] numbers = []
cut_by (n ∷ ns) numbers = take n numbers ∷ cut_by ns (drop n numbers)

abbrev pub lists_of : Lists → List (List ℕ)
lists_of l = cut_by l.counts.items l.numbers.items

-- each number is in one of them
abbrev pub IsWhole : Lists → Type 0
IsWhole l = sum l.counts.items ≡ length l.numbers.items
