-- Whole numbers from quotients.
use Rattle.std.specs.Prelude.{ℕ, ◌+◌, ◌*◌, ◌/◌, ◌%◌, ◌<◌, ◌≤◌, ◌≡◌, Bool, false, ◌&&◌, ◌||◌, ◌==◌, nat_lt, nat_le, if◌then◌else◌, ℤ, pos, negsuc, neg_ℤ, ◌+ℤ◌, ◌-ℤ◌, ◌*ℤ◌, ◌≤ℤ◌, ◌<ℤ◌, unsigned_abs}
use Rattle.vtl_decimal.specs.declared.settings.Rounding.{Rounding}
use Rattle.vtl_decimal.specs.declared.settings.Rounding.TheVariants.{HalfUp, HalfEven, Down}

-- whether one is added to the quotient z that leaves the rest r of a division by q
abbrev pub rounds_up : Rounding → ℕ → ℕ → ℕ → Bool
rounds_up HalfUp z r q = nat_le q (2 * r)
rounds_up HalfEven z r q = nat_lt q (2 * r) || ((2 * r == q) && (z % 2 == 1))
rounds_up Down z r q = false

-- the size of a quotient from the sizes of its two numbers
abbrev pub rounded_size : Rounding → ℕ → ℕ → ℕ
rounded_size m p q = p / q + (if rounds_up m (p / q) (p % q) q then 1 else 0)

-- p / q made whole: its size, under the sign of p / q
abbrev pub rounded_quotient : Rounding → ℤ → ℤ → ℤ
rounded_quotient m (pos p) (pos q) = pos (rounded_size m p q)
rounded_quotient m (pos p) (negsuc q) = neg_ℤ (pos (rounded_size m p (q + 1)))
rounded_quotient m (negsuc p) (pos q) = neg_ℤ (pos (rounded_size m (p + 1) q))
rounded_quotient m (negsuc p) (negsuc q) = pos (rounded_size m (p + 1) (q + 1))

-- the greatest whole number that is at most p / q, for q above 0
abbrev pub floor_quotient : ℤ → ℕ → ℤ
floor_quotient (pos p) q = pos (p / q)
floor_quotient (negsuc p) q = negsuc (p / q)

-- the least whole number that is at least p / q, for q above 0
abbrev pub ceil_quotient : ℤ → ℕ → ℤ
ceil_quotient p q = neg_ℤ (floor_quotient (neg_ℤ p) q)

-- the greatest whole number that is at most a / b, for b of either sign
abbrev pub floor_of_quotient : ℤ → ℤ → ℤ
floor_of_quotient a (pos b) = floor_quotient a b
floor_of_quotient a (negsuc b) = floor_quotient (neg_ℤ a) (b + 1)

-- ---- the same rules without quotient and rest, as a law of the above

-- what each rule asks of the whole k, by the sizes of p, q, k, k * q and p - k * q
abbrev pub IsNearBySizes : Rounding → ℕ → ℕ → ℕ → ℕ → ℕ → Type 0
IsNearBySizes HalfUp p q k product error = (2 * error ≤ q) × (2 * error ≡ q → p < product)
IsNearBySizes HalfEven p q k product error = (2 * error ≤ q) × (2 * error ≡ q → k % 2 ≡ 0)
IsNearBySizes Down p q k product error = (error < q) × (product ≤ p)

-- k is as near to p / q as any whole number, and at a half it is the larger or the even one; by `Down` it is the nearest of those that are not larger in size
abbrev pub IsNear : Rounding → ℤ → ℤ → ℤ → Type 0
IsNear m p q k = IsNearBySizes m (unsigned_abs p) (unsigned_abs q) (unsigned_abs k) (unsigned_abs (k *ℤ q)) (unsigned_abs (p -ℤ (k *ℤ q)))

-- n is the greatest whole number that is at most p / q, and the least that is at least p / q
abbrev pub IsFloor : ℤ → ℕ → ℤ → Type 0
IsFloor p q n = ((n *ℤ pos q) ≤ℤ p) × (p <ℤ ((n +ℤ pos 1) *ℤ pos q))

abbrev pub IsCeil : ℤ → ℕ → ℤ → Type 0
IsCeil p q n = (((n -ℤ pos 1) *ℤ pos q) <ℤ p) × (p ≤ℤ (n *ℤ pos q))
