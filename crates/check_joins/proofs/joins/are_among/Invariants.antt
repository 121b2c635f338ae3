use Rattle.std.proofs.Common.{◌≡◌, drop}
use Rattle.std.specs.Prelude.{filter}
use Rattle.std.specs.List.{list_all}
use Rattle.vtl_tree.specs.Choices.{is_identifier}
use Rattle.vtl_tree.specs.Names.{is_among}
use Rattle.check_joins.proofs.joins.are_among.Given as goal

abbrev pub invariant-loop-component : goal.invariant-loop-component
invariant-loop-component l = list_all (λ x. is_among x.name l.names) (filter is_identifier (drop l.component-index l.components)) ≡ list_all (λ x. is_among x.name l.names) (filter is_identifier l.components)
