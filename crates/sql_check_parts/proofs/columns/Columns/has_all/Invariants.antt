use Rattle.std.proofs.Common.{◌≡◌, drop}
use Rattle.std.specs.List.{list_all}
use Rattle.std.specs.Prelude.{is_some}
use Rattle.sql_check_parts.specs.Scopes.{value_among}
use Rattle.sql_check_parts.proofs.columns.Columns.has_all.Given as goal

abbrev pub invariant-loop-name : goal.invariant-loop-name
invariant-loop-name l = list_all (λ name. is_some (value_among l.self name)) (drop l.name-index l.names) ≡ list_all (λ name. is_some (value_among l.self name)) l.names
