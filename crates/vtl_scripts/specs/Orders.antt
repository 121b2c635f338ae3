-- Results up to the order of points.
use Rattle.std.specs.Prelude.{◌≡◌, ℕ, List, Result, Ok, Err}
use Rattle.vtl_decimal.specs.declared.number.Fault.{Fault}
use Rattle.vtl_meaning.specs.Orders.{SameData}
use Rattle.vtl_scripts.specs.Meaning.{Outputs}

-- the same outputs up to the order of points, or the same fault with the same name
abbrev pub SameMeaning : Result Outputs (Fault × List ℕ) → Result Outputs (Fault × List ℕ) → Type 0
SameMeaning (Ok ds) (Ok es) = SameData ds es
SameMeaning (Err f) (Err g) = f ≡ g
SameMeaning (Ok ds) (Err g) = ⊥
SameMeaning (Err f) (Ok es) = ⊥
