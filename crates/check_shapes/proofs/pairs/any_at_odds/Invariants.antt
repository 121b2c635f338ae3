use Rattle.std.proofs.Common.{◌≡◌, drop}
use Rattle.std.specs.Prelude.{filter}
use Rattle.std.specs.List.{list_any}
use Rattle.vtl_tree.specs.Choices.{is_identifier}
use Rattle.check_shapes.specs.Pairs.{is_at_odds}
use Rattle.check_shapes.proofs.pairs.any_at_odds.Given as goal

abbrev pub invariant-loop-component : goal.invariant-loop-component
invariant-loop-component l = list_any (is_at_odds l.other) (filter is_identifier (drop l.component-index l.components)) ≡ list_any (is_at_odds l.other) (filter is_identifier l.components)
