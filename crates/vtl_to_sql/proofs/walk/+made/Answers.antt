use Rattle.std.proofs.Common.{◌∷◌, [], ◌++◌, ℕ, ◌+◌, ◌-◌, ◌≤◌, List, Option, length, take, drop, ap, map, refl, subst, sym, ◌∙◌}
use Rattle.std.proofs.lemmas.Result.{IfOk-weaker}
use Rattle.std.specs.Prelude.{Box}
use Rattle.std.specs.declared.alloc.Global.{Global}
use Rattle.vtl_tree.specs.Shown.{shown}
use Rattle.vtl_tree.specs.Trees.{FormTree, structure_of}
use Rattle.vtl_tree.specs.NodeView.{form_tree, node_tree}
use Rattle.vtl_tree.specs.View.{comp_exp_of}
use Rattle.vtl_tree.specs.declared.nodes.Node.{Node}
use Rattle.vtl_tree.specs.declared.nodes.NodeForm.TheVariants as form
use Rattle.vtl_tree.specs.declared.renaming.Renaming.{Renaming}
use Rattle.sql_tree.specs.View.{query_tree, statement_tree}
use Rattle.vtl_to_sql.specs.Combined.{combined_made}
use Rattle.vtl_to_sql.specs.FormQueries.{query_of_one, query_of_two}
use Rattle.selects_to_sql.specs.Queries.{filter_query}
use Rattle.selects_to_sql.specs.Tables.{create_for, Made, Sources, and_then, numbered, with_one, with_two}
use Rattle.joins_to_sql.specs.FilteredJoins.{condition_of, filtered_by}
use Rattle.vtl_to_sql.specs.Tables.{made_of_filter, made_of_form, sources_of}
use Rattle.vtl_to_sql.proofs.JoinNodes.{join_gives, join_of_form}
use Rattle.vtl_to_sql.proofs.Combining.{alone, begun, ended, ends, intersection_of_form, one_more, turn_made, union_of_form}
use Rattle.vtl_to_sql.proofs.RuledNodes.{ruled_gives, stored_behind}
use Rattle.vtl_to_sql.proofs.TimedNodes.{timed_gives}
use Rattle.vtl_to_sql.proofs.Walked.{behind_names, behind_others, check_made, filter_of_form, filter_of_join, filter_of_other, imbalance_made, one_made, one_renamed, source_of_other, tree_of_choose, tree_of_named, two_made}
use Rattle.vtl_to_sql.proofs.walk.+made.Goals as goal

pub join-returns-clause-query : goal.join-returns-clause-query
join-returns-clause-query t c =
    let made = c.in_ok-tables.ensures in
    let rest =
    join_gives c.args.writer.now c.args.target.now c.args.s.now c.args.operands.now c.args.spec.now c.args.draft.now.next c.joined_sources.new.draft.next (shown c.deref.result.now) c.deref-2.result.now
    (map statement_tree c.args.draft.now.statements.items) (map statement_tree c.joined_sources.new.draft.statements.items)
    (ap shown c.deref.ensures.value ∙ c.in_ok-structures.ensures.structures) (c.deref-2.ensures.value ∙ made.names) made.tables made.next
    in
    IfOk-weaker c.filtered_join_query.result _ _ (λ q e. e ∙ ap (filtered_by c.args.writer.now (condition_of c.args.condition)) rest.query) c.filtered_join_query.ensures.query

pub join-returns-clause-tables : goal.join-returns-clause-tables
join-returns-clause-tables t c =
    let made = c.in_ok-tables.ensures in
    let rest =
    join_gives c.args.writer.now c.args.target.now c.args.s.now c.args.operands.now c.args.spec.now c.args.draft.now.next c.joined_sources.new.draft.next (shown c.deref.result.now) c.deref-2.result.now
    (map statement_tree c.args.draft.now.statements.items) (map statement_tree c.joined_sources.new.draft.statements.items)
    (ap shown c.deref.ensures.value ∙ c.in_ok-structures.ensures.structures) (c.deref-2.ensures.value ∙ made.names) made.tables made.next
    in
    IfOk-weaker c.filtered_join_query.result _ _ (λ q e. e ∙ rest.tables) c.filtered_join_query.ensures.tables

pub join-returns-clause-next : goal.join-returns-clause-next
join-returns-clause-next t c =
    let made = c.in_ok-tables.ensures in
    let rest =
    join_gives c.args.writer.now c.args.target.now c.args.s.now c.args.operands.now c.args.spec.now c.args.draft.now.next c.joined_sources.new.draft.next (shown c.deref.result.now) c.deref-2.result.now
    (map statement_tree c.args.draft.now.statements.items) (map statement_tree c.joined_sources.new.draft.statements.items)
    (ap shown c.deref.ensures.value ∙ c.in_ok-structures.ensures.structures) (c.deref-2.ensures.value ∙ made.names) made.tables made.next
    in
    IfOk-weaker c.filtered_join_query.result _ _ (λ q e. e ∙ rest.next) c.filtered_join_query.ensures.next

pub filter-returns-in-Join-clause-query : goal.filter-returns-in-Join-clause-query
filter-returns-in-Join-clause-query t c =
    let is = filter_of_join c.args.writer.now c.args.target.now c.args.s.now c.args.operand.now c.in-Join.operands c.deref.result.now c.in-Join.spec (comp_exp_of c.args.condition.now) c.args.draft.now.next c.in-Join.is c.deref.ensures.value in
    IfOk-weaker c.join.result _ _ (λ q e. e ∙ ap (λ (m : Made). m.query) is) c.join.ensures.query

pub filter-returns-in-Join-clause-tables : goal.filter-returns-in-Join-clause-tables
filter-returns-in-Join-clause-tables t c =
    let is = filter_of_join c.args.writer.now c.args.target.now c.args.s.now c.args.operand.now c.in-Join.operands c.deref.result.now c.in-Join.spec (comp_exp_of c.args.condition.now) c.args.draft.now.next c.in-Join.is c.deref.ensures.value in
    IfOk-weaker c.join.result _ _ (λ q e. e ∙ ap (λ (m : Made). map statement_tree c.args.draft.now.statements.items ++ map create_for m.tables) is) c.join.ensures.tables

pub filter-returns-in-Join-clause-next : goal.filter-returns-in-Join-clause-next
filter-returns-in-Join-clause-next t c =
    let is = filter_of_join c.args.writer.now c.args.target.now c.args.s.now c.args.operand.now c.in-Join.operands c.deref.result.now c.in-Join.spec (comp_exp_of c.args.condition.now) c.args.draft.now.next c.in-Join.is c.deref.ensures.value in
    IfOk-weaker c.join.result _ _ (λ q e. e ∙ ap (λ (m : Made). m.next) is) c.join.ensures.next

pub filter-returns-in_ok-table-in_default-clause-query : goal.filter-returns-in_ok-table-in_default-clause-query
filter-returns-in_ok-table-in_default-clause-query t c =
    let p = c.args.writer.now in
    let s = c.args.s.now in
    let e = comp_exp_of c.args.condition.now in
    let is = filter_of_other p c.args.target.now s c.args.operand.now e c.args.draft.now.next c.in_default.not-Join in
    IfOk-weaker c.filter_query.result _ _ (λ q h. h ∙ ap (with_one (filter_query p e s)) c.in_ok-table-in_default.ensures.name ∙ ap (λ (m : Made). m.query) is) c.filter_query.ensures

pub filter-returns-in_ok-table-in_default-clause-tables : goal.filter-returns-in_ok-table-in_default-clause-tables
filter-returns-in_ok-table-in_default-clause-tables t c =
    let p = c.args.writer.now in
    let s = c.args.s.now in
    let e = comp_exp_of c.args.condition.now in
    let is = filter_of_other p c.args.target.now s c.args.operand.now e c.args.draft.now.next c.in_default.not-Join in
    IfOk-weaker c.filter_query.result _ _ (λ q h. c.in_ok-table-in_default.ensures.tables ∙ ap (λ (m : Made). map statement_tree c.args.draft.now.statements.items ++ map create_for m.tables) is) c.filter_query.ensures

pub filter-returns-in_ok-table-in_default-clause-next : goal.filter-returns-in_ok-table-in_default-clause-next
filter-returns-in_ok-table-in_default-clause-next t c =
    let p = c.args.writer.now in
    let s = c.args.s.now in
    let e = comp_exp_of c.args.condition.now in
    let is = filter_of_other p c.args.target.now s c.args.operand.now e c.args.draft.now.next c.in_default.not-Join in
    IfOk-weaker c.filter_query.result _ _ (λ q h. c.in_ok-table-in_default.ensures.next ∙ ap (λ (m : Made). m.next) is) c.filter_query.ensures

pub source-returns-in_ok-query-in_default-clause-name : goal.source-returns-in_ok-query-in_default-clause-name
source-returns-in_ok-query-in_default-clause-name t c =
    let r = c.args.target.now in
    let is = source_of_other c.args.writer.now r c.args.node.now c.args.draft.now.next c.in_default.not-Named in
    IfOk-weaker c.store.result _ _ (λ x e. ap (λ y. y ∷ []) (e ∙ ap (numbered r) c.in_ok-query-in_default.ensures.next) ∙ sym (ap (λ (os : Sources). os.names) is)) c.store.ensures.name

pub source-returns-in_ok-query-in_default-clause-tables : goal.source-returns-in_ok-query-in_default-clause-tables
source-returns-in_ok-query-in_default-clause-tables t c =
    let p = c.args.writer.now in
    let r = c.args.target.now in
    let a = c.args.node.now in
    let n = c.args.draft.now.next in
    let made = made_of_form p r a.structure (form_tree a.form) n in
    let old = map statement_tree c.args.draft.now.statements.items in
    let is = source_of_other p r a n c.in_default.not-Named in
    let one = c.in_ok-query-in_default.ensures in
    IfOk-weaker c.store.result _ _
    (λ x e. stored_behind r made c.query.new.draft.next (query_tree c.in_ok-query-in_default.query) old (map statement_tree c.query.new.draft.statements.items) (map statement_tree c.store.new.self.statements.items) one.tables one.next one.query e
    ∙ sym (ap (λ (os : Sources). old ++ map create_for os.tables) is)) c.store.ensures.statements

pub source-returns-in_ok-query-in_default-clause-next : goal.source-returns-in_ok-query-in_default-clause-next
source-returns-in_ok-query-in_default-clause-next t c =
    let is = source_of_other c.args.writer.now c.args.target.now c.args.node.now c.args.draft.now.next c.in_default.not-Named in
    IfOk-weaker c.store.result _ _ (λ x e. e ∙ ap (λ (k : ℕ). k + 1) c.in_ok-query-in_default.ensures.next ∙ sym (ap (λ (os : Sources). os.next) is)) c.store.ensures.next

pub query-returns-in_ok-table-in-Measures-clause-query : goal.query-returns-in_ok-table-in-Measures-clause-query
query-returns-in_ok-table-in-Measures-clause-query t c =
    let p = c.args.writer.now in
    let r = c.args.target.now in
    let s = c.args.s.now in
    let n = c.args.draft.now.next in
    let f = c.args.form.now in
    let named = c.in_ok-table-in-Measures.ensures.name ∙ ap (λ (x : Node). (sources_of p r (node_tree x) n).names) c.deref-in-Measures.ensures in
    IfOk-weaker c.query_of_one-in-Measures.result _ _ (λ q e. e ∙ ap (with_one (query_of_one p (form_tree f) s)) named ∙ sym (ap (λ (m : Made). m.query) (one_made p r s f c.in-Measures.a n c.in-Measures.is))) c.query_of_one-in-Measures.ensures

pub query-returns-in_ok-operand-in-len1-up-clause-query : goal.query-returns-in_ok-operand-in-len1-up-clause-query
query-returns-in_ok-operand-in-len1-up-clause-query t c =
    let p = c.args.writer.now in
    let r = c.args.target.now in
    let s = c.args.s.now in
    let n = c.args.draft.now.next in
    let f = c.args.form.now in
    let some = subst (λ (l : List Renaming). 1 ≤ length l) c.as_slice.ensures c.in-len1-up.len_at_least in
    let named = c.in_ok-operand-in-len1-up.ensures.name ∙ ap (λ (x : Node). (sources_of p r (node_tree x) n).names) c.deref-in-len1-up.ensures in
    IfOk-weaker c.query_of_one-in-len1-up.result _ _ (λ q e. e ∙ ap (with_one (query_of_one p (form_tree f) s)) named ∙ sym (ap (λ (m : Made). m.query) (one_renamed p r s f c.in-Rename.a c.in-Rename.pairs n c.in-Rename.is some))) c.query_of_one-in-len1-up.ensures

pub query-returns-in_ok-second-in-Pair-clause-query : goal.query-returns-in_ok-second-in-Pair-clause-query
query-returns-in_ok-second-in-Pair-clause-query t c =
    let p = c.args.writer.now in
    let r = c.args.target.now in
    let s = c.args.s.now in
    let n = c.args.draft.now.next in
    let f = c.args.form.now in
    let of = λ (x : Node) (m : ℕ). sources_of p r (node_tree x) m in
    let a = c.in-Pair.a in
    let b = c.in-Pair.b in
    let one = c.in_ok-first-in-Pair.ensures in
    let named =
    behind_names (of c.deref-in-Pair.result.now n) (of c.deref-in-Pair-2.result.now) c.in_ok-first-in-Pair.first c.in_ok-second-in-Pair.second c.source-in-Pair.new.draft.next one.name one.next c.in_ok-second-in-Pair.ensures.name
    ∙ ap (λ (x : Node). (and_then (of x n) (of c.deref-in-Pair-2.result.now)).names) c.deref-in-Pair.ensures
    ∙ ap (λ (x : Node). (and_then (of a.value n) (of x)).names) c.deref-in-Pair-2.ensures
    in
    IfOk-weaker c.query_of_two-in-Pair.result _ _ (λ q e. e ∙ ap (with_two (query_of_two p (form_tree f) s)) named ∙ sym (ap (λ (m : Made). m.query) (two_made p r s f a b n c.in-Pair.is))) c.query_of_two-in-Pair.ensures

pub query-returns-in_ok-second-in-Pair-clause-tables : goal.query-returns-in_ok-second-in-Pair-clause-tables
query-returns-in_ok-second-in-Pair-clause-tables t c =
    let p = c.args.writer.now in
    let r = c.args.target.now in
    let n = c.args.draft.now.next in
    let f = c.args.form.now in
    let old = map statement_tree c.args.draft.now.statements.items in
    let of = λ (x : Node) (m : ℕ). sources_of p r (node_tree x) m in
    let a = c.deref-in-Pair.result.now in
    let b = c.deref-in-Pair-2.result.now in
    let one = c.in_ok-first-in-Pair.ensures in
    let fact =
    behind_others (of a n) (of b) old (map statement_tree c.source-in-Pair.new.draft.statements.items) (map statement_tree c.source-in-Pair-2.new.draft.statements.items) c.source-in-Pair.new.draft.next
    one.tables one.next c.in_ok-second-in-Pair.ensures.tables
    ∙ ap (λ (x : Node). old ++ map create_for (and_then (of x n) (of b)).tables) c.deref-in-Pair.ensures
    ∙ ap (λ (x : Node). old ++ map create_for (and_then (of c.in-Pair.a.value n) (of x)).tables) c.deref-in-Pair-2.ensures
    ∙ sym (ap (λ (m : Made). old ++ map create_for m.tables) (two_made p r c.args.s.now f c.in-Pair.a c.in-Pair.b n c.in-Pair.is))
    in
    IfOk-weaker c.query_of_two-in-Pair.result _ _ (λ q e. fact) c.query_of_two-in-Pair.ensures

pub query-returns-in_default-clause-query : goal.query-returns-in_default-clause-query
query-returns-in_default-clause-query t c =
    let p = c.args.writer.now in
    let r = c.args.target.now in
    let s = c.args.s.now in
    let n = c.args.draft.now.next in
    let f = c.args.form.now in
    let a = c.in-Check.a in
    let spec = c.in-Check.spec in
    let is = c.in-Check.is ∙ ap (λ (o : Option (Box Node Global)). form.Check a o spec) c.in_default.is in
    let named = c.in_ok-first-in-Check.ensures.name ∙ ap (λ (x : Node). (sources_of p r (node_tree x) n).names) c.deref.ensures in
    IfOk-weaker c.query_of_one.result _ _ (λ q e. e ∙ ap (with_one (query_of_one p (form_tree f) s)) named ∙ sym (ap (λ (m : Made). m.query) (check_made p r s f a spec n is))) c.query_of_one.ensures

pub query-returns-in_default-clause-tables : goal.query-returns-in_default-clause-tables
query-returns-in_default-clause-tables t c =
    let p = c.args.writer.now in
    let r = c.args.target.now in
    let n = c.args.draft.now.next in
    let a = c.in-Check.a in
    let spec = c.in-Check.spec in
    let is = c.in-Check.is ∙ ap (λ (o : Option (Box Node Global)). form.Check a o spec) c.in_default.is in
    let old = map statement_tree c.args.draft.now.statements.items in
    let fact =
    c.in_ok-first-in-Check.ensures.tables
    ∙ ap (λ (x : Node). old ++ map create_for (sources_of p r (node_tree x) n).tables) c.deref.ensures
    ∙ sym (ap (λ (m : Made). old ++ map create_for m.tables) (check_made p r c.args.s.now c.args.form.now a spec n is))
    in
    IfOk-weaker c.query_of_one.result _ _ (λ q e. fact) c.query_of_one.ensures

pub query-returns-in_default-clause-next : goal.query-returns-in_default-clause-next
query-returns-in_default-clause-next t c =
    let p = c.args.writer.now in
    let r = c.args.target.now in
    let n = c.args.draft.now.next in
    let a = c.in-Check.a in
    let spec = c.in-Check.spec in
    let is = c.in-Check.is ∙ ap (λ (o : Option (Box Node Global)). form.Check a o spec) c.in_default.is in
    let fact =
    c.in_ok-first-in-Check.ensures.next
    ∙ ap (λ (x : Node). (sources_of p r (node_tree x) n).next) c.deref.ensures
    ∙ sym (ap (λ (m : Made). m.next) (check_made p r c.args.s.now c.args.form.now a spec n is))
    in
    IfOk-weaker c.query_of_one.result _ _ (λ q e. fact) c.query_of_one.ensures

pub query-returns-in_ok-second-in-Check-clause-query : goal.query-returns-in_ok-second-in-Check-clause-query
query-returns-in_ok-second-in-Check-clause-query t c =
    let p = c.args.writer.now in
    let r = c.args.target.now in
    let s = c.args.s.now in
    let n = c.args.draft.now.next in
    let f = c.args.form.now in
    let of = λ (x : Node) (m : ℕ). sources_of p r (node_tree x) m in
    let a = c.in-Check.a in
    let b = c.in-Some.imbalance in
    let spec = c.in-Check.spec in
    let is = c.in-Check.is ∙ ap (λ (o : Option (Box Node Global)). form.Check a o spec) c.in-Some.is in
    let one = c.in_ok-first-in-Check.ensures in
    let named =
    behind_names (of c.deref.result.now n) (of c.deref-in-Check.result.now) c.in_ok-first-in-Check.first c.in_ok-second-in-Check.second c.source.new.draft.next one.name one.next c.in_ok-second-in-Check.ensures.name
    ∙ ap (λ (x : Node). (and_then (of x n) (of c.deref-in-Check.result.now)).names) c.deref.ensures
    ∙ ap (λ (x : Node). (and_then (of a.value n) (of x)).names) c.deref-in-Check.ensures
    in
    IfOk-weaker c.query_of_two.result _ _ (λ q e. e ∙ ap (with_two (query_of_two p (form_tree f) s)) named ∙ sym (ap (λ (m : Made). m.query) (imbalance_made p r s f a b spec n is))) c.query_of_two.ensures

pub query-returns-in_ok-second-in-Check-clause-tables : goal.query-returns-in_ok-second-in-Check-clause-tables
query-returns-in_ok-second-in-Check-clause-tables t c =
    let p = c.args.writer.now in
    let r = c.args.target.now in
    let n = c.args.draft.now.next in
    let old = map statement_tree c.args.draft.now.statements.items in
    let of = λ (x : Node) (m : ℕ). sources_of p r (node_tree x) m in
    let x = c.deref.result.now in
    let y = c.deref-in-Check.result.now in
    let a = c.in-Check.a in
    let b = c.in-Some.imbalance in
    let spec = c.in-Check.spec in
    let is = c.in-Check.is ∙ ap (λ (o : Option (Box Node Global)). form.Check a o spec) c.in-Some.is in
    let one = c.in_ok-first-in-Check.ensures in
    let fact =
    behind_others (of x n) (of y) old (map statement_tree c.source.new.draft.statements.items) (map statement_tree c.source-in-Check.new.draft.statements.items) c.source.new.draft.next
    one.tables one.next c.in_ok-second-in-Check.ensures.tables
    ∙ ap (λ (z : Node). old ++ map create_for (and_then (of z n) (of y)).tables) c.deref.ensures
    ∙ ap (λ (z : Node). old ++ map create_for (and_then (of a.value n) (of z)).tables) c.deref-in-Check.ensures
    ∙ sym (ap (λ (m : Made). old ++ map create_for m.tables) (imbalance_made p r c.args.s.now c.args.form.now a b spec n is))
    in
    IfOk-weaker c.query_of_two.result _ _ (λ q e. fact) c.query_of_two.ensures

pub query-returns-in_ok-second-in-Check-clause-next : goal.query-returns-in_ok-second-in-Check-clause-next
query-returns-in_ok-second-in-Check-clause-next t c =
    let p = c.args.writer.now in
    let r = c.args.target.now in
    let n = c.args.draft.now.next in
    let of = λ (x : Node) (m : ℕ). sources_of p r (node_tree x) m in
    let x = c.deref.result.now in
    let y = c.deref-in-Check.result.now in
    let a = c.in-Check.a in
    let b = c.in-Some.imbalance in
    let spec = c.in-Check.spec in
    let is = c.in-Check.is ∙ ap (λ (o : Option (Box Node Global)). form.Check a o spec) c.in-Some.is in
    let fact =
    c.in_ok-second-in-Check.ensures.next
    ∙ ap (λ (m : ℕ). (of y m).next) c.in_ok-first-in-Check.ensures.next
    ∙ ap (λ (z : Node). (and_then (of z n) (of y)).next) c.deref.ensures
    ∙ ap (λ (z : Node). (and_then (of a.value n) (of z)).next) c.deref-in-Check.ensures
    ∙ sym (ap (λ (m : Made). m.next) (imbalance_made p r c.args.s.now c.args.form.now a b spec n is))
    in
    IfOk-weaker c.query_of_two.result _ _ (λ q e. fact) c.query_of_two.ensures

pub query-returns-in_ok-third-in-Choose-clause-tables : goal.query-returns-in_ok-third-in-Choose-clause-tables
query-returns-in_ok-third-in-Choose-clause-tables t c =
    let p = c.args.writer.now in
    let r = c.args.target.now in
    let n = c.args.draft.now.next in
    let old = map statement_tree c.args.draft.now.statements.items in
    let of = λ (x : Node) (m : ℕ). sources_of p r (node_tree x) m in
    let u = c.deref-in-Choose.result.now in
    let a = c.deref-in-Choose-2.result.now in
    let b = c.deref-in-Choose-3.result.now in
    let tested = map statement_tree c.source-in-Choose.new.draft.statements.items in
    let first = c.source-in-Choose-2.new.draft in
    let new = map statement_tree c.source-in-Choose-3.new.draft.statements.items in
    let one = c.in_ok-first-in-Choose.ensures in
    let two = c.in_ok-second-in-Choose.ensures in
    let fact =
    behind_others (of u n) (λ m. and_then (of a m) (of b)) old tested new c.source-in-Choose.new.draft.next one.tables one.next
    (behind_others (of a c.source-in-Choose.new.draft.next) (of b) tested (map statement_tree first.statements.items) new first.next two.tables two.next c.in_ok-third-in-Choose.ensures.tables)
    ∙ ap (λ (x : Node). old ++ map create_for (and_then (of x n) (λ m. and_then (of a m) (of b))).tables) c.deref-in-Choose.ensures
    ∙ ap (λ (x : Node). old ++ map create_for (and_then (of c.in-Choose.c.value n) (λ m. and_then (of x m) (of b))).tables) c.deref-in-Choose-2.ensures
    ∙ ap (λ (x : Node). old ++ map create_for (and_then (of c.in-Choose.c.value n) (λ m. and_then (of c.in-Choose.a.value m) (of x))).tables) c.deref-in-Choose-3.ensures
    ∙ sym (ap (λ (f : FormTree). old ++ map create_for (made_of_form p r c.args.s.now f n).tables) (tree_of_choose c.args.form.now c.in-Choose.c c.in-Choose.a c.in-Choose.b c.in-Choose.is))
    in
    IfOk-weaker c.query_of_three.result _ _ (λ q e. fact) c.query_of_three.ensures

pub query-returns-in-Named-clause-query : goal.query-returns-in-Named-clause-query
query-returns-in-Named-clause-query t c =
    let s = c.args.s.now in
    let is = tree_of_named c.args.form.now c.in-Named.name c.in-Named.is in
    IfOk-weaker c.left_query.result _ _ (λ q e. e s ∙ sym (ap (λ (f : FormTree). (made_of_form c.args.writer.now c.args.target.now s f c.args.draft.now.next).query) is)) c.left_query.ensures

pub combined-returns-in_default-others-clause-query : goal.combined-returns-in_default-others-clause-query
combined-returns-in_default-others-clause-query t c =
    let a = c.first-item.result in
    IfOk-weaker c.left_query.result _ _
    (λ q e. e (structure_of (node_tree a))
    ∙ alone c.args.operator c.args.writer.now c.args.target.now c.args.s.now c.args.nodes.now a c.in_ok-so_far.so_far c.args.draft.now.next c.in-len1-up.len_at_least c.first-item.is c.in_default-others.len_below c.in_ok-so_far.ensures.name)
    c.left_query.ensures

pub combined-loop-node-init : goal.combined-loop-node-init
combined-loop-node-init t c =
    let l = c.args.nodes.now in
    let others = take (length l - 1) (drop 1 l) in
    let first = node_tree c.first-item.result in
    let left = map node_tree (take (length others - 1) others) ++ node_tree c.last-item.result ∷ [] in
    let parts = ends l others c.first-item.result c.last-item.result c.in-len1-up.len_at_least c.first-item.is refl c.in-len1-up-others.len_at_least c.last-item.is in
    let old = map statement_tree c.args.draft.now.statements.items in
    let new = map statement_tree c.source.new.draft.statements.items in
    let made = c.in_ok-so_far.ensures in
    record {
      gives = begun c.args.operator c.args.writer.now c.args.target.now c.args.s.now (map node_tree l) left first c.in_ok-so_far.so_far c.args.draft.now.next c.source.new.draft.next old new parts made.name made.tables made.next;
    }

pub combined-loop-node-preserved : goal.combined-loop-node-preserved
combined-loop-node-preserved t c =
    let o = c.args.operator in
    let p = c.args.writer.now in
    let r = c.args.target.now in
    let s = c.args.s.now in
    let l = c.args.nodes.now in
    let others = take (length l - 1) (drop 1 l) in
    let between = take (length others - 1) others in
    let i = c.loop-node.node-index in
    let b = node_tree c.node-item.result in
    let last = node_tree c.last-item.result in
    let ms = map node_tree (drop (i + 1) between) in
    let left = map node_tree (drop i between) ++ last ∷ [] in
    let parts = one_more between i c.node-item.result last c.loop-node-test.true c.node-item.is in
    let whole = combined_made o p r s (map node_tree l) c.args.draft.now.next in
    let old = map statement_tree c.args.draft.now.statements.items in
    let done = map statement_tree c.loop-node.draft.statements.items in
    let kept = map statement_tree c.source-in-loop-node.new.draft.statements.items in
    let new = map statement_tree c.store.new.self.statements.items in
    let made = c.in_ok-other.ensures in
    let stored = c.in_ok-so_far-2.ensures in
    record {
      gives =
          turn_made o p r s whole old done kept new left b ms last c.loop-node.so_far c.in_ok-other.other c.in_ok-so_far-2.so_far c.loop-node.draft.next c.source-in-loop-node.new.draft.next c.store.new.self.next (query_tree c.in_ok-query.query) parts
          c.loop-node.invariant.gives made.name made.tables made.next (c.in_ok-query.ensures s (structure_of b)) stored.name stored.statements stored.next;
    }

pub combined-returns-clause-query : goal.combined-returns-clause-query
combined-returns-clause-query t c =
    let o = c.args.operator in
    let p = c.args.writer.now in
    let r = c.args.target.now in
    let s = c.args.s.now in
    let l = c.args.nodes.now in
    let others = take (length l - 1) (drop 1 l) in
    let between = take (length others - 1) others in
    let last = node_tree c.last-item.result in
    let whole = combined_made o p r s (map node_tree l) c.args.draft.now.next in
    let old = map statement_tree c.args.draft.now.statements.items in
    let done = map statement_tree c.loop-node.draft.statements.items in
    let fact = ended o p r s whole old done between c.loop-node.node-index last c.loop-node.so_far c.in_ok-other-2.other c.loop-node.draft.next c.loop-node-test.false c.loop-node.invariant.gives c.in_ok-other-2.ensures.name in
    IfOk-weaker c.set_query-2.result _ _ (λ q e. e s (structure_of last) ∙ fact) c.set_query-2.ensures

pub query-returns-in-Union-clause-query : goal.query-returns-in-Union-clause-query
query-returns-in-Union-clause-query t c =
    let is = union_of_form c.args.writer.now c.args.target.now c.args.s.now c.args.form.now c.in-Union.nodes c.deref-in-Union.result.now c.args.draft.now.next c.in-Union.is c.deref-in-Union.ensures.value in
    IfOk-weaker c.combined.result _ _ (λ q e. e ∙ ap (λ (m : Made). m.query) is) c.combined.ensures.query

pub query-returns-in-Union-clause-tables : goal.query-returns-in-Union-clause-tables
query-returns-in-Union-clause-tables t c =
    let is = union_of_form c.args.writer.now c.args.target.now c.args.s.now c.args.form.now c.in-Union.nodes c.deref-in-Union.result.now c.args.draft.now.next c.in-Union.is c.deref-in-Union.ensures.value in
    IfOk-weaker c.combined.result _ _ (λ q e. e ∙ ap (λ (m : Made). map statement_tree c.args.draft.now.statements.items ++ map create_for m.tables) is) c.combined.ensures.tables

pub query-returns-in-Union-clause-next : goal.query-returns-in-Union-clause-next
query-returns-in-Union-clause-next t c =
    let is = union_of_form c.args.writer.now c.args.target.now c.args.s.now c.args.form.now c.in-Union.nodes c.deref-in-Union.result.now c.args.draft.now.next c.in-Union.is c.deref-in-Union.ensures.value in
    IfOk-weaker c.combined.result _ _ (λ q e. e ∙ ap (λ (m : Made). m.next) is) c.combined.ensures.next

pub query-returns-in-Intersect-clause-query : goal.query-returns-in-Intersect-clause-query
query-returns-in-Intersect-clause-query t c =
    let is = intersection_of_form c.args.writer.now c.args.target.now c.args.s.now c.args.form.now c.in-Intersect.nodes c.deref-in-Intersect.result.now c.args.draft.now.next c.in-Intersect.is c.deref-in-Intersect.ensures.value in
    IfOk-weaker c.combined-in-Intersect.result _ _ (λ q e. e ∙ ap (λ (m : Made). m.query) is) c.combined-in-Intersect.ensures.query

pub query-returns-in-Intersect-clause-tables : goal.query-returns-in-Intersect-clause-tables
query-returns-in-Intersect-clause-tables t c =
    let is = intersection_of_form c.args.writer.now c.args.target.now c.args.s.now c.args.form.now c.in-Intersect.nodes c.deref-in-Intersect.result.now c.args.draft.now.next c.in-Intersect.is c.deref-in-Intersect.ensures.value in
    IfOk-weaker c.combined-in-Intersect.result _ _ (λ q e. e ∙ ap (λ (m : Made). map statement_tree c.args.draft.now.statements.items ++ map create_for m.tables) is) c.combined-in-Intersect.ensures.tables

pub query-returns-in-Intersect-clause-next : goal.query-returns-in-Intersect-clause-next
query-returns-in-Intersect-clause-next t c =
    let is = intersection_of_form c.args.writer.now c.args.target.now c.args.s.now c.args.form.now c.in-Intersect.nodes c.deref-in-Intersect.result.now c.args.draft.now.next c.in-Intersect.is c.deref-in-Intersect.ensures.value in
    IfOk-weaker c.combined-in-Intersect.result _ _ (λ q e. e ∙ ap (λ (m : Made). m.next) is) c.combined-in-Intersect.ensures.next

pub query-returns-in-Join-clause-query : goal.query-returns-in-Join-clause-query
query-returns-in-Join-clause-query t c =
    let is = join_of_form c.args.writer.now c.args.target.now c.args.s.now c.args.form.now c.in-Join.operands c.deref-in-Join.result.now c.in-Join.spec c.args.draft.now.next c.in-Join.is c.deref-in-Join.ensures.value in
    IfOk-weaker c.join.result _ _ (λ q e. e ∙ ap (λ (m : Made). m.query) is) c.join.ensures.query

pub query-returns-in-Join-clause-tables : goal.query-returns-in-Join-clause-tables
query-returns-in-Join-clause-tables t c =
    let is = join_of_form c.args.writer.now c.args.target.now c.args.s.now c.args.form.now c.in-Join.operands c.deref-in-Join.result.now c.in-Join.spec c.args.draft.now.next c.in-Join.is c.deref-in-Join.ensures.value in
    IfOk-weaker c.join.result _ _ (λ q e. e ∙ ap (λ (m : Made). map statement_tree c.args.draft.now.statements.items ++ map create_for m.tables) is) c.join.ensures.tables

pub query-returns-in-Join-clause-next : goal.query-returns-in-Join-clause-next
query-returns-in-Join-clause-next t c =
    let is = join_of_form c.args.writer.now c.args.target.now c.args.s.now c.args.form.now c.in-Join.operands c.deref-in-Join.result.now c.in-Join.spec c.args.draft.now.next c.in-Join.is c.deref-in-Join.ensures.value in
    IfOk-weaker c.join.result _ _ (λ q e. e ∙ ap (λ (m : Made). m.next) is) c.join.ensures.next

pub query-returns-in_ok-operand-in-CheckHierarchy-clause-query : goal.query-returns-in_ok-operand-in-CheckHierarchy-clause-query
query-returns-in_ok-operand-in-CheckHierarchy-clause-query t c =
    let p = c.args.writer.now in
    let r = c.args.target.now in
    let n = c.args.draft.now.next in
    let old = map statement_tree c.args.draft.now.statements.items in
    let of = λ (x : Node). sources_of p r (node_tree x) n in
    let one = c.in_ok-operand-in-CheckHierarchy.ensures in
    let same = c.deref-in-CheckHierarchy.ensures in
    let rest =
    ruled_gives p r c.args.s.now c.args.form.now c.in-CheckHierarchy.a n c.in_ok-operand-in-CheckHierarchy.operand c.source-in-CheckHierarchy.new.draft.next old (map statement_tree c.source-in-CheckHierarchy.new.draft.statements.items) c.in-CheckHierarchy.is
    (one.name ∙ ap (λ (x : Node). (of x).names) same) (one.next ∙ ap (λ (x : Node). (of x).next) same) (one.tables ∙ ap (λ (x : Node). old ++ map create_for (of x).tables) same)
    in
    IfOk-weaker c.ruled_query.result _ _ (λ q e. e ∙ rest.query) c.ruled_query.ensures.query

pub query-returns-in_ok-operand-in-CheckHierarchy-clause-tables : goal.query-returns-in_ok-operand-in-CheckHierarchy-clause-tables
query-returns-in_ok-operand-in-CheckHierarchy-clause-tables t c =
    let p = c.args.writer.now in
    let r = c.args.target.now in
    let n = c.args.draft.now.next in
    let old = map statement_tree c.args.draft.now.statements.items in
    let of = λ (x : Node). sources_of p r (node_tree x) n in
    let one = c.in_ok-operand-in-CheckHierarchy.ensures in
    let same = c.deref-in-CheckHierarchy.ensures in
    let rest =
    ruled_gives p r c.args.s.now c.args.form.now c.in-CheckHierarchy.a n c.in_ok-operand-in-CheckHierarchy.operand c.source-in-CheckHierarchy.new.draft.next old (map statement_tree c.source-in-CheckHierarchy.new.draft.statements.items) c.in-CheckHierarchy.is
    (one.name ∙ ap (λ (x : Node). (of x).names) same) (one.next ∙ ap (λ (x : Node). (of x).next) same) (one.tables ∙ ap (λ (x : Node). old ++ map create_for (of x).tables) same)
    in
    IfOk-weaker c.ruled_query.result _ _ (λ q e. e ∙ rest.tables) c.ruled_query.ensures.tables

pub query-returns-in_ok-operand-in-CheckHierarchy-clause-next : goal.query-returns-in_ok-operand-in-CheckHierarchy-clause-next
query-returns-in_ok-operand-in-CheckHierarchy-clause-next t c =
    let p = c.args.writer.now in
    let r = c.args.target.now in
    let n = c.args.draft.now.next in
    let old = map statement_tree c.args.draft.now.statements.items in
    let of = λ (x : Node). sources_of p r (node_tree x) n in
    let one = c.in_ok-operand-in-CheckHierarchy.ensures in
    let same = c.deref-in-CheckHierarchy.ensures in
    let rest =
    ruled_gives p r c.args.s.now c.args.form.now c.in-CheckHierarchy.a n c.in_ok-operand-in-CheckHierarchy.operand c.source-in-CheckHierarchy.new.draft.next old (map statement_tree c.source-in-CheckHierarchy.new.draft.statements.items) c.in-CheckHierarchy.is
    (one.name ∙ ap (λ (x : Node). (of x).names) same) (one.next ∙ ap (λ (x : Node). (of x).next) same) (one.tables ∙ ap (λ (x : Node). old ++ map create_for (of x).tables) same)
    in
    IfOk-weaker c.ruled_query.result _ _ (λ q e. e ∙ rest.next) c.ruled_query.ensures.next

pub query-returns-in_ok-table-in-Time-clause-query : goal.query-returns-in_ok-table-in-Time-clause-query
query-returns-in_ok-table-in-Time-clause-query t c =
    let p = c.args.writer.now in
    let r = c.args.target.now in
    let n = c.args.draft.now.next in
    let old = map statement_tree c.args.draft.now.statements.items in
    let of = λ (x : Node). sources_of p r (node_tree x) n in
    let one = c.in_ok-table-in-Time.ensures in
    let same = c.deref-in-Time.ensures in
    let made = c.operand.ensures in
    let rest =
    timed_gives p r c.args.s.now c.operand.result.structure.now c.args.form.now c.in-Time.a c.in-Time.op n c.operand.result.table.now c.source-in-Time.new.draft.next old (map statement_tree c.source-in-Time.new.draft.statements.items) c.in-Time.is
    (made.structure ∙ ap (λ (x : Node). structure_of (node_tree x)) c.deref-in-Time-2.ensures) (ap (λ x. x ∷ []) made.table ∙ one.name ∙ ap (λ (x : Node). (of x).names) same) (one.next ∙ ap (λ (x : Node). (of x).next) same) (one.tables ∙ ap (λ (x : Node). old ++ map create_for (of x).tables) same)
    in
    IfOk-weaker c.time_query.result _ _ (λ q e. e ∙ rest.query) c.time_query.ensures.query

pub query-returns-in_ok-table-in-Time-clause-tables : goal.query-returns-in_ok-table-in-Time-clause-tables
query-returns-in_ok-table-in-Time-clause-tables t c =
    let p = c.args.writer.now in
    let r = c.args.target.now in
    let n = c.args.draft.now.next in
    let old = map statement_tree c.args.draft.now.statements.items in
    let of = λ (x : Node). sources_of p r (node_tree x) n in
    let one = c.in_ok-table-in-Time.ensures in
    let same = c.deref-in-Time.ensures in
    let made = c.operand.ensures in
    let rest =
    timed_gives p r c.args.s.now c.operand.result.structure.now c.args.form.now c.in-Time.a c.in-Time.op n c.operand.result.table.now c.source-in-Time.new.draft.next old (map statement_tree c.source-in-Time.new.draft.statements.items) c.in-Time.is
    (made.structure ∙ ap (λ (x : Node). structure_of (node_tree x)) c.deref-in-Time-2.ensures) (ap (λ x. x ∷ []) made.table ∙ one.name ∙ ap (λ (x : Node). (of x).names) same) (one.next ∙ ap (λ (x : Node). (of x).next) same) (one.tables ∙ ap (λ (x : Node). old ++ map create_for (of x).tables) same)
    in
    IfOk-weaker c.time_query.result _ _ (λ q e. e ∙ rest.tables) c.time_query.ensures.tables

pub query-returns-in_ok-table-in-Time-clause-next : goal.query-returns-in_ok-table-in-Time-clause-next
query-returns-in_ok-table-in-Time-clause-next t c =
    let p = c.args.writer.now in
    let r = c.args.target.now in
    let n = c.args.draft.now.next in
    let old = map statement_tree c.args.draft.now.statements.items in
    let of = λ (x : Node). sources_of p r (node_tree x) n in
    let one = c.in_ok-table-in-Time.ensures in
    let same = c.deref-in-Time.ensures in
    let made = c.operand.ensures in
    let rest =
    timed_gives p r c.args.s.now c.operand.result.structure.now c.args.form.now c.in-Time.a c.in-Time.op n c.operand.result.table.now c.source-in-Time.new.draft.next old (map statement_tree c.source-in-Time.new.draft.statements.items) c.in-Time.is
    (made.structure ∙ ap (λ (x : Node). structure_of (node_tree x)) c.deref-in-Time-2.ensures) (ap (λ x. x ∷ []) made.table ∙ one.name ∙ ap (λ (x : Node). (of x).names) same) (one.next ∙ ap (λ (x : Node). (of x).next) same) (one.tables ∙ ap (λ (x : Node). old ++ map create_for (of x).tables) same)
    in
    IfOk-weaker c.time_query.result _ _ (λ q e. e ∙ rest.next) c.time_query.ensures.next

pub query-returns-in-Filter-clause-query : goal.query-returns-in-Filter-clause-query
query-returns-in-Filter-clause-query t c =
    let p = c.args.writer.now in
    let r = c.args.target.now in
    let n = c.args.draft.now.next in
    let e = comp_exp_of c.in-Filter.c in
    let of = λ (x : Node). made_of_filter p r c.args.s.now (node_tree x) e n in
    let is = filter_of_form p r c.args.s.now c.args.form.now c.in-Filter.a c.in-Filter.c n c.in-Filter.is in
    IfOk-weaker c.filter.result _ _ (λ q h. h ∙ ap (λ (x : Node). (of x).query) c.deref-in-Filter.ensures ∙ ap (λ (m : Made). m.query) is) c.filter.ensures.query

pub query-returns-in-Filter-clause-tables : goal.query-returns-in-Filter-clause-tables
query-returns-in-Filter-clause-tables t c =
    let p = c.args.writer.now in
    let r = c.args.target.now in
    let n = c.args.draft.now.next in
    let e = comp_exp_of c.in-Filter.c in
    let old = map statement_tree c.args.draft.now.statements.items in
    let of = λ (x : Node). made_of_filter p r c.args.s.now (node_tree x) e n in
    let is = filter_of_form p r c.args.s.now c.args.form.now c.in-Filter.a c.in-Filter.c n c.in-Filter.is in
    IfOk-weaker c.filter.result _ _ (λ q h. h ∙ ap (λ (x : Node). old ++ map create_for (of x).tables) c.deref-in-Filter.ensures ∙ ap (λ (m : Made). old ++ map create_for m.tables) is) c.filter.ensures.tables

pub query-returns-in-Filter-clause-next : goal.query-returns-in-Filter-clause-next
query-returns-in-Filter-clause-next t c =
    let p = c.args.writer.now in
    let r = c.args.target.now in
    let n = c.args.draft.now.next in
    let e = comp_exp_of c.in-Filter.c in
    let of = λ (x : Node). made_of_filter p r c.args.s.now (node_tree x) e n in
    let is = filter_of_form p r c.args.s.now c.args.form.now c.in-Filter.a c.in-Filter.c n c.in-Filter.is in
    IfOk-weaker c.filter.result _ _ (λ q h. h ∙ ap (λ (x : Node). (of x).next) c.deref-in-Filter.ensures ∙ ap (λ (m : Made). m.next) is) c.filter.ensures.next
