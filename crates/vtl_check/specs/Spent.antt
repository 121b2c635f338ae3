-- What is left of a number of nodes behind some, or none where they are more.
use Rattle.std.specs.Prelude.{ℕ, ◌-◌, if◌then◌else◌, nat_le, Option, None, Some}

abbrev pub without : (taken left : ℕ) → Option ℕ
without taken left = if nat_le taken left then Some (left - taken) else None
