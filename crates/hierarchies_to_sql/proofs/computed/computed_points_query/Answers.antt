use Rattle.std.proofs.Common.{◌≡◌, ◌≤◌, List, [], ◌∷◌, ◌++◌, ap, arith, length, map, subst, sym, ◌∙◌}
use Rattle.std.specs.Result.{IfOk, OnOk}
use Rattle.std.proofs.lemmas.List.{length-map}
use Rattle.std.proofs.lemmas.Result.{IfOk-weaker}
use Rattle.vtl_cell.specs.declared.kind.Kind.{Kind}
use Rattle.vtl_syntax.specs.declared.statements.HierRule.{HierRule}
use Rattle.vtl_tree.specs.ClauseShapes.{first_kind}
use Rattle.vtl_tree.specs.Columns.{measures_of}
use Rattle.vtl_tree.specs.RuleItems.{definitions}
use Rattle.vtl_tree.specs.Shown.{shown}
use Rattle.vtl_rulings.specs.HierarchyChecks.{Ruled, only_name, ruled_by}
use Rattle.sql_tree.specs.Trees.{Text}
use Rattle.sql_tree.specs.View.{query_tree, statement_tree}
use Rattle.selects_to_sql.specs.Queries.{name_of_first}
use Rattle.selects_to_sql.specs.Tables.{by_names, create_for}
use Rattle.vtl_rulings.specs.Ordered.{rules_at}
use Rattle.hierarchies_to_sql.specs.ComputedTables.{computed_by}
use Rattle.hierarchies_to_sql.proofs.CheckForms.{names_same}
use Rattle.hierarchies_to_sql.proofs.ComputedForms.{none_next, none_query, none_tables}
use Rattle.hierarchies_to_sql.proofs.computed.computed_points_query.Goals as goal

pub returns-then-is_empty-clause-query : goal.returns-then-is_empty-clause-query
returns-then-is_empty-clause-query c =
    let rules = c.args.rules.now.rules in
    let a = c.args.a.now.structure.now in
    let none : length c.in_ok-computing.computing.items ≡ 0 = grind (arith, c.is_empty.ensures, c.if-is_empty.true) in
    let empty = ap length (sym (c.in_ok-computing.ensures ∙ ap definitions c.as_slice-all.ensures)) ∙ length-map c.in_ok-computing.computing.items (λ z. z.now) ∙ none in
    IfOk-weaker c.no_points.result _ _ (λ q e. none_query c.args.writer.now c.args.target.now c.args.mode c.args.input a c.args.a.now.table.now c.args.draft.now.next (rules_at rules c.args.order.now) (ruled_by c.args.rules.now a) c.args.s.now (definitions rules) (query_tree q) empty e) c.no_points.ensures

pub returns-then-is_empty-clause-tables : goal.returns-then-is_empty-clause-tables
returns-then-is_empty-clause-tables c =
    let rules = c.args.rules.now.rules in
    let a = c.args.a.now.structure.now in
    let none : length c.in_ok-computing.computing.items ≡ 0 = grind (arith, c.is_empty.ensures, c.if-is_empty.true) in
    let empty = ap length (sym (c.in_ok-computing.ensures ∙ ap definitions c.as_slice-all.ensures)) ∙ length-map c.in_ok-computing.computing.items (λ z. z.now) ∙ none in
    IfOk-weaker c.no_points.result _ _ (λ q e. none_tables c.args.writer.now c.args.target.now c.args.mode c.args.input a c.args.a.now.table.now c.args.draft.now.next (rules_at rules c.args.order.now) (ruled_by c.args.rules.now a) c.args.s.now (definitions rules) (map statement_tree c.args.draft.now.statements.items) empty) c.no_points.ensures

pub returns-then-is_empty-clause-next : goal.returns-then-is_empty-clause-next
returns-then-is_empty-clause-next c =
    let rules = c.args.rules.now.rules in
    let a = c.args.a.now.structure.now in
    let none : length c.in_ok-computing.computing.items ≡ 0 = grind (arith, c.is_empty.ensures, c.if-is_empty.true) in
    let empty = ap length (sym (c.in_ok-computing.ensures ∙ ap definitions c.as_slice-all.ensures)) ∙ length-map c.in_ok-computing.computing.items (λ z. z.now) ∙ none in
    IfOk-weaker c.no_points.result _ _ (λ q e. none_next c.args.writer.now c.args.target.now c.args.mode c.args.input a c.args.a.now.table.now c.args.draft.now.next (rules_at rules c.args.order.now) (ruled_by c.args.rules.now a) c.args.s.now (definitions rules) empty) c.no_points.ensures

pub returns-clause-query : goal.returns-clause-query
returns-clause-query c =
    let p = c.args.writer.now in
    let rules = c.args.rules.now in
    let a = c.args.a.now.structure.now in
    let os = by_names (c.args.a.now.table.now ∷ []) c.args.draft.now.next in
    let measured = ap shown c.deref.ensures.value ∙ c.in_ok-measures.ensures in
    let kinds = ap shown c.deref-2.ensures.value ∙ c.in_ok-measures.ensures in
    let one : Text → Ruled = λ m. record { id = rules.variable; measure = m; kind = c.first_kind.result } in
    let two : Kind → Ruled = λ k. record { id = rules.variable; measure = only_name (measures_of a); kind = k } in
    let same = ap one (c.in_ok-measure.ensures ∙ ap name_of_first measured ∙ names_same (measures_of a)) ∙ ap two (c.first_kind.ensures ∙ ap first_kind kinds) in
    let defined = ap shown c.deref-3.ensures.value ∙ c.in_ok-computing.ensures ∙ ap definitions c.as_slice-all.ensures in
    let ordered = ap shown c.deref-4.ensures.value ∙ c.in_ok-ordered.ensures ∙ ap (λ (l : List HierRule). rules_at l c.args.order.now) c.as_slice-all.ensures in
    let made = λ (h : Ruled) (l o : List HierRule). computed_by p c.args.target.now h c.args.mode c.args.input l o a c.args.s.now os in
    let of = λ (h : Ruled) (l o : List HierRule). IfOk c.computed_points.result (λ q. query_tree q ≡ (made h l o).query) in
    subst (λ (o : List HierRule). of (ruled_by rules a) (definitions rules.rules) o) ordered
    (subst (λ (l : List HierRule). of (ruled_by rules a) l (shown c.deref-4.result.now)) defined
    (subst (λ (h : Ruled). of h (shown c.deref-3.result.now) (shown c.deref-4.result.now)) same c.computed_points.ensures.query))

pub returns-clause-tables : goal.returns-clause-tables
returns-clause-tables c =
    let p = c.args.writer.now in
    let rules = c.args.rules.now in
    let a = c.args.a.now.structure.now in
    let os = by_names (c.args.a.now.table.now ∷ []) c.args.draft.now.next in
    let measured = ap shown c.deref.ensures.value ∙ c.in_ok-measures.ensures in
    let kinds = ap shown c.deref-2.ensures.value ∙ c.in_ok-measures.ensures in
    let one : Text → Ruled = λ m. record { id = rules.variable; measure = m; kind = c.first_kind.result } in
    let two : Kind → Ruled = λ k. record { id = rules.variable; measure = only_name (measures_of a); kind = k } in
    let same = ap one (c.in_ok-measure.ensures ∙ ap name_of_first measured ∙ names_same (measures_of a)) ∙ ap two (c.first_kind.ensures ∙ ap first_kind kinds) in
    let defined = ap shown c.deref-3.ensures.value ∙ c.in_ok-computing.ensures ∙ ap definitions c.as_slice-all.ensures in
    let ordered = ap shown c.deref-4.ensures.value ∙ c.in_ok-ordered.ensures ∙ ap (λ (l : List HierRule). rules_at l c.args.order.now) c.as_slice-all.ensures in
    let made = λ (h : Ruled) (l o : List HierRule). computed_by p c.args.target.now h c.args.mode c.args.input l o a c.args.s.now os in
    let of = λ (h : Ruled) (l o : List HierRule). OnOk c.computed_points.result (map statement_tree c.computed_points.new.draft.statements.items ≡ map statement_tree c.args.draft.now.statements.items ++ map create_for (made h l o).tables) in
    subst (λ (o : List HierRule). of (ruled_by rules a) (definitions rules.rules) o) ordered
    (subst (λ (l : List HierRule). of (ruled_by rules a) l (shown c.deref-4.result.now)) defined
    (subst (λ (h : Ruled). of h (shown c.deref-3.result.now) (shown c.deref-4.result.now)) same c.computed_points.ensures.tables))

pub returns-clause-next : goal.returns-clause-next
returns-clause-next c =
    let p = c.args.writer.now in
    let rules = c.args.rules.now in
    let a = c.args.a.now.structure.now in
    let os = by_names (c.args.a.now.table.now ∷ []) c.args.draft.now.next in
    let measured = ap shown c.deref.ensures.value ∙ c.in_ok-measures.ensures in
    let kinds = ap shown c.deref-2.ensures.value ∙ c.in_ok-measures.ensures in
    let one : Text → Ruled = λ m. record { id = rules.variable; measure = m; kind = c.first_kind.result } in
    let two : Kind → Ruled = λ k. record { id = rules.variable; measure = only_name (measures_of a); kind = k } in
    let same = ap one (c.in_ok-measure.ensures ∙ ap name_of_first measured ∙ names_same (measures_of a)) ∙ ap two (c.first_kind.ensures ∙ ap first_kind kinds) in
    let defined = ap shown c.deref-3.ensures.value ∙ c.in_ok-computing.ensures ∙ ap definitions c.as_slice-all.ensures in
    let ordered = ap shown c.deref-4.ensures.value ∙ c.in_ok-ordered.ensures ∙ ap (λ (l : List HierRule). rules_at l c.args.order.now) c.as_slice-all.ensures in
    let made = λ (h : Ruled) (l o : List HierRule). computed_by p c.args.target.now h c.args.mode c.args.input l o a c.args.s.now os in
    let of = λ (h : Ruled) (l o : List HierRule). OnOk c.computed_points.result (c.computed_points.new.draft.next ≡ (made h l o).next) in
    subst (λ (o : List HierRule). of (ruled_by rules a) (definitions rules.rules) o) ordered
    (subst (λ (l : List HierRule). of (ruled_by rules a) l (shown c.deref-4.result.now)) defined
    (subst (λ (h : Ruled). of h (shown c.deref-3.result.now) (shown c.deref-4.result.now)) same c.computed_points.ensures.next))
