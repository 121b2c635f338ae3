-- The data sets that a run holds.
use Rattle.std.specs.Prelude.{◌≡◌, ℕ, List}
use Rattle.vtl_tree.specs.Environment.{Environment, data_of}

-- the same data set, or none, under each name
abbrev pub HoldSame : Environment → Environment → Type 0
HoldSame e f = (name : List ℕ) → data_of name e ≡ data_of name f
