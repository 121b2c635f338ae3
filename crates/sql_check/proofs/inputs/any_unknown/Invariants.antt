use Rattle.std.proofs.Common.{◌≡◌, drop}
use Rattle.std.specs.List.{list_any}
use Rattle.std.specs.Option.{is_none}
use Rattle.sql_check_parts.specs.Scopes.{value_among}
use Rattle.sql_check.proofs.inputs.any_unknown.Given as goal

abbrev pub invariant-loop-name : goal.invariant-loop-name
invariant-loop-name l = list_any (λ name. is_none (value_among l.columns name)) (drop l.name-index l.names) ≡ list_any (λ name. is_none (value_among l.columns name)) l.names
