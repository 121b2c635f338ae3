-- Tuples of row numbers, one number for each source of a select.
use Rattle.std.specs.Prelude.{◌≡◌, ℕ, ◌*◌, ◌<◌, List, length}

-- tuples as contracts see them: how many numbers each has, and the list of them
pub record Numbered : Type 0 where
  pub width : ℕ
  pub tuples : List (List ℕ)

-- the numbers are those of so many whole tuples, one after the other
pub record IsFlat (width count : ℕ) (numbers : List ℕ) : Type 0 where
  pub wide : 0 < width
  pub whole : length numbers ≡ count * width
