use Rattle.std.proofs.Common.{◌≤◌, List, ap, length, map, subst, sym, ◌∙◌}
use Rattle.std.proofs.lemmas.List.{length-map}
use Rattle.std.proofs.lemmas.Result.{IfOk-weaker}
use Rattle.vtl_tree.specs.Names.{is_among}
use Rattle.vtl_tree.specs.RuleItems.{left_item}
use Rattle.vtl_tree.specs.Shown.{shown}
use Rattle.vtl_tree.specs.Structure.{columns_of}
use Rattle.vtl_meaning.specs.Turned.{other_identifiers}
use Rattle.vtl_rulings.specs.HierarchyChecks.{Ruled}
use Rattle.sql_tree.specs.Trees.{Text}
use Rattle.sql_tree.specs.View.{query_tree, statement_tree}
use Rattle.hierarchies_to_sql.specs.ItemTables.{tables_by}
use Rattle.hierarchies_to_sql.specs.RuleItems.{IsShaped, ruled_of, tables_in}
use Rattle.hierarchies_to_sql.proofs.ComputedForms.{Begins, last_is, query_is, tables_are}
use Rattle.hierarchies_to_sql.proofs.computed.computed_points.Goals as goal

pub returns-clause-query : goal.returns-clause-query
returns-clause-query c =
    let p = c.args.writer.now in
    let r = c.args.target.now in
    let rules = shown c.args.rules.now in
    let order = shown c.args.order.now in
    let h = ruled_of c.args.measured in
    let f = ruled_of c.in_ok-tabled.tabled.measured in
    let a = c.args.a.now.structure.now in
    let x = c.args.a.now.table.now in
    let n = c.args.draft.now.next in
    let given = c.deref.result.now in
    let k = c.tabled.new.draft.next in
    let keys = c.in_ok-tabled.tabled.keys in
    let T = tables_in c.in_ok-tabled.tabled.tables in
    let same = c.in_ok-tabled.ensures.measured in
    let some = subst (λ m. 1 ≤ m) (sym (length-map c.args.rules.now (λ z. z.now))) c.requires in
    let items = c.deref.ensures.value ∙ c.in_ok-given.ensures in
    let apart = c.in_ok-tabled.ensures.others ∙ sym (ap (λ (z : Ruled). other_identifiers z.id a) same) in
    let shaped : IsShaped f (shown c.deref-3.result.now) (shown c.deref-4.result.now) c.in_ok-known.known a given = record {
      others = ap shown c.deref-3.ensures.value ∙ apart;
      columns = ap shown c.deref-4.ensures.value ∙ c.in_ok-columns.ensures ∙ ap columns_of (c.in_ok-structure.ensures a (ap shown c.deref-2.ensures.value ∙ apart));
      given = λ q. c.in_ok-known.ensures q ∙ ap (is_among q) (c.deref-5.ensures.value ∙ sym c.deref.ensures.value);
    } in
    let begins : Begins p r c.args.mode c.args.input a x n order h given k keys T = record { keys = c.in_ok-tabled.ensures.keys; names = c.in_ok-tabled.ensures.names; next = c.in_ok-tabled.ensures.next } in
    let found = λ (q : Text). ap (λ (l : List Text). tables_by (map left_item order) l q) (c.deref-6.ensures.value ∙ c.in_ok-names.ensures.names a given shaped) in
    IfOk-weaker c.all_of_points.result _ _
    (λ q e. query_is p r c.args.mode c.args.input a x n order f h c.args.s.now rules given k keys T (tables_by (map left_item order) c.deref-6.result.now) (query_tree q) some items same begins e found) c.all_of_points.ensures

pub returns-clause-tables : goal.returns-clause-tables
returns-clause-tables c =
    let p = c.args.writer.now in
    let r = c.args.target.now in
    let rules = shown c.args.rules.now in
    let order = shown c.args.order.now in
    let h = ruled_of c.args.measured in
    let f = ruled_of c.in_ok-tabled.tabled.measured in
    let a = c.args.a.now.structure.now in
    let x = c.args.a.now.table.now in
    let n = c.args.draft.now.next in
    let given = c.deref.result.now in
    let k = c.tabled.new.draft.next in
    let keys = c.in_ok-tabled.tabled.keys in
    let T = tables_in c.in_ok-tabled.tabled.tables in
    let same = c.in_ok-tabled.ensures.measured in
    let some = subst (λ m. 1 ≤ m) (sym (length-map c.args.rules.now (λ z. z.now))) c.requires in
    let items = c.deref.ensures.value ∙ c.in_ok-given.ensures in
    let apart = c.in_ok-tabled.ensures.others ∙ sym (ap (λ (z : Ruled). other_identifiers z.id a) same) in
    let shaped : IsShaped f (shown c.deref-3.result.now) (shown c.deref-4.result.now) c.in_ok-known.known a given = record {
      others = ap shown c.deref-3.ensures.value ∙ apart;
      columns = ap shown c.deref-4.ensures.value ∙ c.in_ok-columns.ensures ∙ ap columns_of (c.in_ok-structure.ensures a (ap shown c.deref-2.ensures.value ∙ apart));
      given = λ q. c.in_ok-known.ensures q ∙ ap (is_among q) (c.deref-5.ensures.value ∙ sym c.deref.ensures.value);
    } in
    let begins : Begins p r c.args.mode c.args.input a x n order h given k keys T = record { keys = c.in_ok-tabled.ensures.keys; names = c.in_ok-tabled.ensures.names; next = c.in_ok-tabled.ensures.next } in
    let fact =
    tables_are p r c.args.mode c.args.input a x n order f h c.args.s.now rules given k keys T (map statement_tree c.args.draft.now.statements.items) (map statement_tree c.tabled.new.draft.statements.items) (map statement_tree c.run_tables.new.draft.statements.items) some items same begins
    c.in_ok-tabled.ensures.tables (c.in_ok-names.ensures.tables a given shaped)
    in
    IfOk-weaker c.all_of_points.result _ _ (λ q e. fact) c.all_of_points.ensures

pub returns-clause-next : goal.returns-clause-next
returns-clause-next c =
    let p = c.args.writer.now in
    let r = c.args.target.now in
    let rules = shown c.args.rules.now in
    let order = shown c.args.order.now in
    let h = ruled_of c.args.measured in
    let f = ruled_of c.in_ok-tabled.tabled.measured in
    let a = c.args.a.now.structure.now in
    let x = c.args.a.now.table.now in
    let n = c.args.draft.now.next in
    let given = c.deref.result.now in
    let k = c.tabled.new.draft.next in
    let keys = c.in_ok-tabled.tabled.keys in
    let T = tables_in c.in_ok-tabled.tabled.tables in
    let same = c.in_ok-tabled.ensures.measured in
    let some = subst (λ m. 1 ≤ m) (sym (length-map c.args.rules.now (λ z. z.now))) c.requires in
    let items = c.deref.ensures.value ∙ c.in_ok-given.ensures in
    let apart = c.in_ok-tabled.ensures.others ∙ sym (ap (λ (z : Ruled). other_identifiers z.id a) same) in
    let shaped : IsShaped f (shown c.deref-3.result.now) (shown c.deref-4.result.now) c.in_ok-known.known a given = record {
      others = ap shown c.deref-3.ensures.value ∙ apart;
      columns = ap shown c.deref-4.ensures.value ∙ c.in_ok-columns.ensures ∙ ap columns_of (c.in_ok-structure.ensures a (ap shown c.deref-2.ensures.value ∙ apart));
      given = λ q. c.in_ok-known.ensures q ∙ ap (is_among q) (c.deref-5.ensures.value ∙ sym c.deref.ensures.value);
    } in
    let begins : Begins p r c.args.mode c.args.input a x n order h given k keys T = record { keys = c.in_ok-tabled.ensures.keys; names = c.in_ok-tabled.ensures.names; next = c.in_ok-tabled.ensures.next } in
    let fact = last_is p r c.args.mode c.args.input a x n order f h c.args.s.now rules given k c.run_tables.new.draft.next keys T some items same begins (c.in_ok-names.ensures.next a given shaped) in
    IfOk-weaker c.all_of_points.result _ _ (λ q e. fact) c.all_of_points.ensures

pub all_of_points-requires : goal.all_of_points-requires
all_of_points-requires c = ap length c.deref-6.ensures.value ∙ c.in_ok-names.ensures.count
