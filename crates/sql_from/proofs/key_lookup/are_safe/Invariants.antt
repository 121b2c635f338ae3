use Rattle.std.proofs.Common.{◌≡◌, drop}
use Rattle.std.specs.List.{list_all}
use Rattle.sql_meaning.specs.Early.{is_safe}
use Rattle.sql_from.specs.Conditions.{trees_of}
use Rattle.sql_from.proofs.key_lookup.are_safe.Given as goal

abbrev pub invariant-loop-condition : goal.invariant-loop-condition
invariant-loop-condition l = list_all is_safe (trees_of (drop l.condition-index l.conditions)) ≡ list_all is_safe (trees_of l.conditions)
