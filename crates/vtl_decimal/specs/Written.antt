-- The text of a number.
use Rattle.std.specs.Prelude.{ℕ, zero, suc, ◌+◌, ◌-◌, ◌/◌, ◌%◌, ◌^◌, ◌<◌, ◌≡◌, ◌≢◌, ◌==◌, if◌then◌else◌, ℤ, pos, unsigned_abs, List, [], ◌∷◌, ◌++◌, length, slice_index}
use Rattle.std.specs.Fmt.{decimal}
use Rattle.std.specs.Int.{is_negative}
use Rattle.vtl_decimal.specs.Numeral.{Numeral}

-- the last w digits of n, with zeros before them
unfoldable pub last_digits : ℕ → ℕ → List ℕ
last_digits zero n = []
last_digits (suc w) n = last_digits w (n / 10) ++ ((48 + n % 10) ∷ [])

-- the same without the zeros at their end
unfoldable pub shortest_digits : ℕ → ℕ → List ℕ
shortest_digits zero n = []
shortest_digits (suc w) n = if n % 10 == 0 then shortest_digits w (n / 10) else last_digits (suc w) n

-- digits behind a point, which stands only before digits
abbrev pub behind_point : List ℕ → List ℕ
behind_point [] = []
behind_point (d ∷ ds) = 46 ∷ (d ∷ ds)

-- `-` where the number is negative
abbrev pub sign_text : ℤ → List ℕ
sign_text k = if is_negative k then 45 ∷ [] else []

-- k units of the scale s: the digits before the point without leading zeros, and those behind it without trailing ones
abbrev pub number_text : ℕ → ℤ → List ℕ
number_text s k = sign_text k ++ (decimal (unsigned_abs k / 10 ^ s) ++ behind_point (shortest_digits s (unsigned_abs k % 10 ^ s)))

-- a numeral without a digit that could be left out, and without an exponent
pub record HasNoNeedlessDigit (n : Numeral) : Type 0 where
  pub leading : slice_index n.whole 0 ≡ 48 → length n.whole ≡ 1
  pub trailing : 0 < length n.fraction → slice_index n.fraction (length n.fraction - 1) ≢ 48
  pub plain : n.exponent ≡ pos 0
