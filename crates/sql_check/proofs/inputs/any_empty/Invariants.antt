use Rattle.std.proofs.Common.{◌≡◌, drop}
use Rattle.std.specs.List.{list_any}
use Rattle.sql_check_parts.specs.Scopes.{is_empty}
use Rattle.sql_check.proofs.inputs.any_empty.Given as goal

abbrev pub invariant-loop-code : goal.invariant-loop-code
invariant-loop-code l = list_any is_empty (drop l.code-index l.codes) ≡ list_any is_empty l.codes
