use Rattle.std.proofs.Common.{◌∙◌, ◌+◌, ap, sym, map, drop}
use Rattle.sql_tree.specs.View.{join_tree}
use Rattle.sql_check_parts.specs.Queries.{joined_scope, joins_break}
use Rattle.sql_check_parts.specs.Rules.{least, lesser}
use Rattle.sql_check_queries.proofs.Parts.{drop_read, join_left, joins_end}
use Rattle.sql_check_queries.proofs.sources.add_joins.Goals as goal

pub loop-join-preserved : goal.loop-join-preserved
loop-join-preserved c =
    let p = c.args.profile.now in
    let t = c.args.tables.now in
    let joins = c.args.joins.now in
    let i = c.loop-join.join-index in
    let join = c.join-item.result in
    let rest = map join_tree (drop (i + 1) joins) in
    record {
      grown =
          ap (λ scope. joined_scope t scope rest) c.in_ok-add_join.ensures.grown
          ∙ sym (ap (λ js. joined_scope t c.loop-join.scope (map join_tree js)) (drop_read joins i join c.loop-join-test.true c.join-item.is))
          ∙ c.loop-join.invariant.grown;
      fault =
          ap (λ x. lesser x (least (joins_break p t c.add_join.new.scope rest))) c.lesser-fault.ensures
          ∙ join_left p t c.loop-join.scope c.add_join.new.scope join_tree joins i join c.loop-join.fault c.in_ok-add_join.field-0 c.loop-join-test.true c.join-item.is c.in_ok-add_join.ensures.grown c.in_ok-add_join.ensures.fault
          ∙ c.loop-join.invariant.fault;
    }

pub returns-clause-fault : goal.returns-clause-fault
returns-clause-fault c = sym (joins_end c.args.profile.now c.args.tables.now c.loop-join.scope join_tree c.args.joins.now c.loop-join.join-index c.loop-join.fault c.loop-join-test.false) ∙ c.loop-join.invariant.fault
