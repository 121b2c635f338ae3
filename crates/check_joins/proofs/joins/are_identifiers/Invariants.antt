use Rattle.std.proofs.Common.{◌≡◌, drop}
use Rattle.std.specs.List.{list_all}
use Rattle.vtl_tree.specs.Choices.{is_identifier_name}
use Rattle.check_joins.proofs.joins.are_identifiers.Given as goal

abbrev pub invariant-loop-name : goal.invariant-loop-name
invariant-loop-name l = list_all (is_identifier_name l.components) (drop l.name-index l.names) ≡ list_all (is_identifier_name l.components) l.names
