-- Texts taken apart at a byte.
use Rattle.std.proofs.Common.{ℕ, ◌≤◌, ◌≡◌, Bool, List, length, arith}
use Rattle.std.specs.Prelude.{unwrap_or}
use Rattle.std.specs.List.{position, position_or_len}
use Rattle.std.proofs.lemmas.List.Sums.{prefix_len-le-length}

-- the length stands for a place that there is not
pub position-or_len : (p : ℕ → Bool) (xs : List ℕ) → unwrap_or (position p xs) (length xs) ≡ position_or_len p xs
position-or_len p xs = grind (arith, prefix_len-le-length {X = ℕ})

pub position_or_len-le : (p : ℕ → Bool) (xs : List ℕ) → position_or_len p xs ≤ length xs
position_or_len-le p xs = prefix_len-le-length _ xs

pub ruleset text_facts = (position-or_len, position_or_len-le)
