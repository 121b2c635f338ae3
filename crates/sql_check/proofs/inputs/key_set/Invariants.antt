use Rattle.std.proofs.Common.{◌≡◌, ℕ, List, take}
use Rattle.std.specs.Map.{keys_of}
use Rattle.sql_check_parts.specs.Scopes.{is_among}
use Rattle.sql_check.proofs.inputs.key_set.Given as goal

abbrev pub invariant-loop-name : goal.invariant-loop-name
invariant-loop-name l = (name : List ℕ) → is_among name (keys_of l.names) ≡ is_among name (take l.name-index l.key)
