use Rattle.std.proofs.Common.{ap, map, sym, ◌∙◌}
use Rattle.std.proofs.lemmas.List.{length-map}
use Rattle.std.proofs.lemmas.Result.{IfOk-weaker}
use Rattle.vtl_tree.specs.Shown.{shown}
use Rattle.sql_tree.specs.View.{query_tree, statement_tree}
use Rattle.joins_to_sql.specs.FilteredJoins.{condition_of, filtered_by}
use Rattle.joins_to_sql.proofs.JoinTables.{full_is_next, full_is_query, full_is_tables}
use Rattle.joins_to_sql.proofs.all_joins.full_join.Goals as goal

pub returns-clause-query : goal.returns-clause-query
returns-clause-query c =
    let p = c.args.writer.now in
    let r = c.args.target.now in
    let bs = c.args.structures.now in
    let a = c.reference-item.result in
    IfOk-weaker c.full_query.result _ _
    (λ q e. e a.now c.in_ok-keys.ensures
    ∙ ap (filtered_by p (condition_of c.args.condition)) (full_is_query p r bs a c.args.s.now c.args.tables.now c.in_ok-once.once c.args.draft.now.next c.store.new.self.next c.in-len1-up.len_at_least c.reference-item.is c.in_ok-once.ensures.name c.in_ok-all.ensures.next))
    c.full_query.ensures

pub returns-clause-tables : goal.returns-clause-tables
returns-clause-tables c =
    let p = c.args.writer.now in
    let r = c.args.target.now in
    let bs = c.args.structures.now in
    let xs = c.args.tables.now in
    let a = c.reference-item.result in
    let old = map statement_tree c.args.draft.now.statements.items in
    let one = map statement_tree c.store.new.self.statements.items in
    let two = map statement_tree c.store-2.new.self.statements.items in
    let fact =
    full_is_tables p r bs a c.args.s.now c.in_ok-keys.keys xs c.in_ok-all.all c.args.draft.now.next c.store.new.self.next old one two (query_tree c.in_ok-keys_query.field-0) (query_tree c.in_ok-once_query.field-0) c.in-len1-up.len_at_least c.reference-item.is
    c.in_ok-keys.ensures (c.in_ok-keys_query.ensures (shown bs) (c.requires ∙ sym (length-map bs (λ b. b.now)))) c.in_ok-once_query.ensures c.in_ok-all.ensures.name c.in_ok-all.ensures.next c.in_ok-all.ensures.statements c.in_ok-once.ensures.statements
    in
    IfOk-weaker c.full_query.result _ _ (λ q e. fact) c.full_query.ensures

pub returns-clause-next : goal.returns-clause-next
returns-clause-next c =
    let fact =
    full_is_next c.args.writer.now c.args.target.now c.args.structures.now c.reference-item.result c.args.s.now c.args.tables.now c.args.draft.now.next c.store.new.self.next c.store-2.new.self.next c.in-len1-up.len_at_least c.reference-item.is
    c.in_ok-all.ensures.next c.in_ok-once.ensures.next
    in
    IfOk-weaker c.full_query.result _ _ (λ q e. fact) c.full_query.ensures
