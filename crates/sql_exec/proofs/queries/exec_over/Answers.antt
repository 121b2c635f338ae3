use Rattle.std.proofs.Common.{◌≡◌, ◌∙◌, List, length, map, sym, ap, subst, arith}
use Rattle.std.specs.Prelude.{zip}
use Rattle.std.specs.List.{AllByRecursion}
use Rattle.vtl_cell.specs.Outcome.{Outcome}
use Rattle.vtl_cell.specs.Row.{Row}
use Rattle.vtl_cell.specs.declared.kind.Kind.{Kind}
use Rattle.vtl_rows.specs.Tables.{Tabled, column_kinds}
use Rattle.sql_tree.specs.Trees.{QueryTree}
use Rattle.sql_tree.specs.View.{query_tree, select_tree}
use Rattle.sql_tree.specs.declared.statements.Item.{Item}
use Rattle.sql_tree.specs.declared.statements.Query.{Query}
use Rattle.sql_tree.specs.declared.statements.Select.{Select}
use Rattle.sql_check_parts.specs.Queries.{query_columns, shared_kinds}
use Rattle.sql_check_parts.specs.Scopes.{or_null}
use Rattle.sql_meaning.specs.Plans.{IsPlan, planned_selects, planned_value}
use Rattle.sql_meaning.specs.Selects.{appended, query_value}
use Rattle.sql_meaning.specs.Tables.{column_entry, kinds_of}
use Rattle.sql_from.specs.FromTables.{from_given}
use Rattle.sql_from.specs.Held.{base_held, tables_held}
use Rattle.sql_check_laws.specs.Selects.{IsSelectTyped}
use Rattle.sql_exec.specs.Outputs.{Adds, fault_seen}
use Rattle.sql_exec.specs.Parts.{IsPart}
use Rattle.sql_meaning.proofs.Planned.{plan_stands}
use Rattle.sql_meaning.proofs.HeldTables.{kinds_are}
use Rattle.sql_exec.proofs.PlannedSelects.{gives_same}
use Rattle.sql_exec.proofs.QueryParts.{query_parts}
use Rattle.sql_exec.proofs.WholeQueries.{answered_keeps, columns_are, columns_long, first_many, first_named, gives, query_kinds_are, some_selects}
use Rattle.sql_exec.proofs.queries.exec_over.Goals as goal

pub query_kinds-requires-clause-typed : goal.query_kinds-requires-clause-typed
query_kinds-requires-clause-typed g c =
    let is : map select_tree c.as_slice-selects.result.now ≡ query_tree c.args.plan.now.query = ap (map select_tree) c.as_slice-selects.ensures ∙ ap query_tree c.query.ensures.query in
    subst (AllByRecursion (IsSelectTyped c.args.p.now (tables_held c.args.tables.now))) (sym is) c.requires.typed.selects

pub query_kinds-requires-clause-from : goal.query_kinds-requires-clause-from
query_kinds-requires-clause-from g c =
    let is : map select_tree c.as_slice-selects.result.now ≡ query_tree c.args.plan.now.query = ap (map select_tree) c.as_slice-selects.ensures ∙ ap query_tree c.query.ensures.query in
    c.requires.from ∙ ap (map (from_given c.args.tables.now)) (sym is)

pub named_columns-requires : goal.named_columns-requires
named_columns-requires g c =
    let selects = c.as_slice-selects.result.now in
    let is : map select_tree selects ≡ query_tree c.args.plan.now.query = ap (map select_tree) c.as_slice-selects.ensures ∙ ap query_tree c.query.ensures.query in
    first_many (tables_held c.args.tables.now) selects c.index-selects-0.result c.deref.result.now (some_selects selects (query_tree c.args.plan.now.query) is c.requires.formed) (c.deref.ensures.value ∙ c.in_ok-kinds.ensures)
    ∙ ap (λ (items : List Item). length items) (sym c.as_slice.ensures)

pub new-out-requires : goal.new-out-requires
new-out-requires g c =
    let tables = tables_held c.args.tables.now in
    let q = query_tree c.args.plan.now.query in
    let selects = c.as_slice-selects.result.now in
    let is : map select_tree selects ≡ q = ap (map select_tree) c.as_slice-selects.ensures ∙ ap query_tree c.query.ensures.query in
    let kinds = c.deref.ensures.value ∙ c.in_ok-kinds.ensures in
    let made = c.in_ok-columns.ensures ∙ ap (λ (items : List Item). zip (map (λ (x : Item). x.name) items) c.deref.result.now) c.as_slice.ensures in
    let are : map column_entry c.in_ok-columns.columns.items ≡ query_columns tables q =
    columns_are tables selects c.index-selects-0.result c.deref.result.now c.in_ok-columns.columns.items (some_selects selects q is c.requires.formed) kinds made ∙ ap (query_columns tables) is in
    let long = columns_long tables q c.in_ok-columns.columns.items are in
    let some = first_named q c.requires.formed in
    omega (arith, long, some)

pub add_selects-requires-clause-parts : goal.add_selects-requires-clause-parts
add_selects-requires-clause-parts g c =
    let b = base_held c.args.p.now c.args.tables.now in
    let q = query_tree c.args.plan.now.query in
    let is : map select_tree c.as_slice-selects.result.now ≡ q = ap (map select_tree) c.as_slice-selects.ensures ∙ ap query_tree c.query.ensures.query in
    let kinds : c.deref-2.result.now ≡ kinds_of (query_columns b.tables q) = c.deref-2.ensures.value ∙ c.in_ok-kinds.ensures ∙ ap (λ (ss : QueryTree). map or_null (shared_kinds b.tables ss)) is ∙ sym (query_kinds_are b.tables q) in
    subst (λ (ks : List Kind). AllByRecursion (IsPart b ks) (map select_tree c.as_slice-selects.result.now)) (sym kinds)
    (subst (AllByRecursion (IsPart b (kinds_of (query_columns b.tables q)))) (sym is) (query_parts b q c.requires.typed))

pub add_selects-requires-clause-columns : goal.add_selects-requires-clause-columns
add_selects-requires-clause-columns g c =
    let tables = tables_held c.args.tables.now in
    let q = query_tree c.args.plan.now.query in
    let selects = c.as_slice-selects.result.now in
    let is : map select_tree selects ≡ q = ap (map select_tree) c.as_slice-selects.ensures ∙ ap query_tree c.query.ensures.query in
    let made = c.in_ok-columns.ensures ∙ ap (λ (items : List Item). zip (map (λ (x : Item). x.name) items) c.deref.result.now) c.as_slice.ensures in
    let are = columns_are tables selects c.index-selects-0.result c.deref.result.now c.in_ok-columns.columns.items (some_selects selects q is c.requires.formed) (c.deref.ensures.value ∙ c.in_ok-kinds.ensures) made in
    ap column_kinds c.new-out.ensures.columns ∙ kinds_are c.in_ok-columns.columns.items ∙ ap kinds_of are ∙ query_kinds_are tables (map select_tree selects) ∙ sym (c.deref-2.ensures.value ∙ c.in_ok-kinds.ensures)

pub returns-clause-columns : goal.returns-clause-columns
returns-clause-columns g c =
    let tables = tables_held c.args.tables.now in
    let q = query_tree c.args.plan.now.query in
    let selects = c.as_slice-selects.result.now in
    let is : map select_tree selects ≡ q = ap (map select_tree) c.as_slice-selects.ensures ∙ ap query_tree c.query.ensures.query in
    let made = c.in_ok-columns.ensures ∙ ap (λ (items : List Item). zip (map (λ (x : Item). x.name) items) c.deref.result.now) c.as_slice.ensures in
    let are = columns_are tables selects c.index-selects-0.result c.deref.result.now c.in_ok-columns.columns.items (some_selects selects q is c.requires.formed) (c.deref.ensures.value ∙ c.in_ok-kinds.ensures) made in
    let table = c.add_selects.new.out.table in
    answered_keeps (λ (t : Tabled). map column_entry t.columns ≡ query_columns tables q) c.finish.result (fault_seen c.add_selects.new.out) table c.finish.ensures
    (ap (map column_entry) (c.in_ok-add_selects.ensures.adds.columns ∙ c.new-out.ensures.columns) ∙ are ∙ ap (query_columns tables) is)

pub add_selects-requires-clause-from : goal.add_selects-requires-clause-from
add_selects-requires-clause-from g c =
    let is : map select_tree c.as_slice-selects.result.now ≡ query_tree c.args.plan.now.query = ap (map select_tree) c.as_slice-selects.ensures ∙ ap query_tree c.query.ensures.query in
    c.requires.from ∙ ap (map (from_given c.args.tables.now)) (sym is)

pub add_selects-requires-clause-plan : goal.add_selects-requires-clause-plan
add_selects-requires-clause-plan g c =
    subst (λ (l : List Select). IsPlan (map select_tree l) c.args.plan.now.ways) (sym c.as_slice-selects.ensures) c.query.ensures.plan

pub returns-clause-rows : goal.returns-clause-rows
returns-clause-rows g c =
    let b = base_held c.args.p.now c.args.tables.now in
    let q = query_tree c.args.plan.now.query in
    let w = c.args.plan.now.ways in
    let is : map select_tree c.as_slice-selects.result.now ≡ q = ap (map select_tree) c.as_slice-selects.ensures ∙ ap query_tree c.query.ensures.query in
    let kinds : c.deref-2.result.now ≡ kinds_of (query_columns b.tables q) = c.deref-2.ensures.value ∙ c.in_ok-kinds.ensures ∙ ap (λ (ss : QueryTree). map or_null (shared_kinds b.tables ss)) is ∙ sym (query_kinds_are b.tables q) in
    let adds : Adds (planned_value b w q) c.new-out.result c.add_selects.new.out =
    subst (λ (m : Outcome (List Row)). Adds m c.new-out.result c.add_selects.new.out) (λ i. appended (planned_selects b (kinds i) w 0 (is i))) c.in_ok-add_selects.ensures.adds in
    let plan : IsPlan q w = subst (λ (z : Query). IsPlan (query_tree z) w) c.query.ensures.query c.query.ensures.plan in
    gives_same (planned_value b w q) (query_value b q) c.finish.result (plan_stands b c.requires.lawful w q plan c.requires.typed)
    (gives (planned_value b w q) c.finish.result c.new-out.result c.add_selects.new.out c.finish.ensures c.new-out.ensures.fault c.new-out.ensures.rows adds)

pub returns-clause-steps : goal.returns-clause-steps
returns-clause-steps g c s one listed plain =
    let is : map select_tree c.as_slice-selects.result.now ≡ query_tree c.args.plan.now.query = ap (map select_tree) c.as_slice-selects.ensures ∙ ap query_tree c.query.ensures.query in
    c.add_selects.ensures.steps s (is ∙ one) listed plain
