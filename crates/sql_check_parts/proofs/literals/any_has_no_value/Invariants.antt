use Rattle.std.proofs.Common.{◌≡◌, drop}
use Rattle.std.specs.List.{list_any}
use Rattle.sql_check_parts.specs.Literals.{has_no_value}
use Rattle.sql_check_parts.proofs.literals.any_has_no_value.Given as goal

abbrev pub invariant-loop-literal : goal.invariant-loop-literal
invariant-loop-literal l = list_any (has_no_value l.profile) (drop l.literal-index l.literals) ≡ list_any (has_no_value l.profile) l.literals
