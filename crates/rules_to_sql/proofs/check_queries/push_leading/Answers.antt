use Rattle.std.proofs.Common.{subst}
use Rattle.std.proofs.lemmas.List.{take_all}
use Rattle.vtl_tree.specs.Shown.{shown}
use Rattle.selects_to_sql.specs.NamedItems.{AreNext}
use Rattle.selects_to_sql.proofs.NamedItems.{none_behind}
use Rattle.rules_to_sql.specs.Items.{columns_as, columns_of_two}
use Rattle.rules_to_sql.proofs.check_queries.push_leading.Goals as goal

pub loop-identifier-init : goal.loop-identifier-init
loop-identifier-init c = none_behind c.args.items.now.items (shown c.args.columns.now)

pub returns : goal.returns
returns c =
    subst (λ l. AreNext c.args.items.now.items c.loop-identifier.items.items (columns_as (columns_of_two (shown c.args.own.now) (shown l))) (shown c.args.columns.now)) (take_all c.loop-identifier.identifier-index c.args.identifiers.now c.loop-identifier-test.false) c.loop-identifier.invariant
