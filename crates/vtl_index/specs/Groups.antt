-- Rows in groups, where each row knows the first row of its group, its lead.
use Rattle.std.specs.Prelude.{◌≡◌, ℕ, ◌<◌, ◌≤◌, Bool, not, List, [], ◌∷◌, filter, length, nat_eq, slice_index}
use Rattle.std.specs.List.{range_with_len}

-- a lead is no later than the row, and is its own lead
pub record AreLeads (leads : List ℕ) : Type 0 where
  pub before : (i : ℕ) → i < length leads → slice_index leads i ≤ i
  pub own : (i : ℕ) → i < length leads → slice_index leads (slice_index leads i) ≡ slice_index leads i

-- whether a row is the first of its group
abbrev pub is_first : List ℕ → ℕ → Bool
is_first leads i = nat_eq (slice_index leads i) i

-- the first rows of the groups, rising
abbrev pub firsts : List ℕ → List ℕ
firsts leads = filter (is_first leads) (range_with_len 0 (length leads))

-- the rows of a group, which is known by its first row, rising
abbrev pub rows_led : List ℕ → ℕ → List ℕ
rows_led leads first = filter (λ i. nat_eq (slice_index leads i) first) (range_with_len 0 (length leads))

-- the items of a list, each once, in the order in which they first come
abbrev pub each_once : {X : Type 0} → (X → X → Bool) → List X → List X
each_once same [] = []
each_once same (x ∷ xs) = x ∷ filter (λ y. not (same x y)) (each_once same xs)
