use Rattle.std.proofs.Common.{◌∙◌, ap}
use Rattle.std.specs.Option.{option_map}
use Rattle.sql_check_parts.specs.Scopes.{numbered, value_among}
use Rattle.sql_from.specs.Held.{columns_held}
use Rattle.sql_from.proofs.held_tables.HeldTable.column.Goals as goal

pub returns-clause-kind : goal.returns-clause-kind
returns-clause-kind c =
    ap (option_map (λ k. k.kind)) (c.copied.ensures ∙ c.get.ensures) ∙ c.self.invariant.kinds c.args.name.now ∙ ap (λ t. value_among (columns_held t) c.args.name.now) c.self.view_is

pub returns-clause-place : goal.returns-clause-place
returns-clause-place c =
    ap (option_map (λ k. k.place)) (c.copied.ensures ∙ c.get.ensures) ∙ c.self.invariant.places c.args.name.now ∙ ap (λ t. value_among (numbered 0 (columns_held t)) c.args.name.now) c.self.view_is
