-- What the first statements of a script give, beside what all of it gives.
use Rattle.std.specs.Prelude.{◌≡◌, ◌++◌, List, Result, Ok, Err}
use Rattle.sql_meaning.specs.Scripts.{Export, NamedFault}

-- The first exports, where the fault, if there is one, comes behind; or the same fault.
abbrev pub IsFrontOf : Result (List Export) NamedFault → Result (List Export) NamedFault → Type 0
IsFrontOf (Ok front) (Ok whole) = (behind : List Export) × (whole ≡ front ++ behind)
IsFrontOf (Ok front) (Err f) = Unit {0}
IsFrontOf (Err f) whole = whole ≡ Err f
