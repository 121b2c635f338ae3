use Rattle.std.proofs.Common.{◌≡◌, List, [], ◌∷◌, ◌++◌, ap, map, subst, ◌∙◌}
use Rattle.std.specs.Result.{IfOk, OnOk}
use Rattle.vtl_cell.specs.declared.kind.Kind.{Kind}
use Rattle.vtl_syntax.specs.declared.statements.HierRule.{HierRule}
use Rattle.vtl_tree.specs.ClauseShapes.{first_kind}
use Rattle.vtl_tree.specs.Columns.{measures_of}
use Rattle.vtl_tree.specs.Shown.{shown}
use Rattle.vtl_rulings.specs.HierarchyChecks.{Ruled, only_name, ruled_by}
use Rattle.sql_tree.specs.Trees.{Text}
use Rattle.sql_tree.specs.View.{query_tree, statement_tree}
use Rattle.selects_to_sql.specs.Queries.{name_of_first}
use Rattle.selects_to_sql.specs.Tables.{by_names, create_for}
use Rattle.hierarchies_to_sql.specs.CheckTables.{check_hierarchy_made}
use Rattle.hierarchies_to_sql.proofs.CheckForms.{names_same}
use Rattle.hierarchies_to_sql.proofs.checks.check_hierarchy_query.Goals as goal

pub returns-clause-query : goal.returns-clause-query
returns-clause-query c =
    let p = c.args.writer.now in
    let rules = c.args.rules.now in
    let a = c.args.a.now.structure.now in
    let os = by_names (c.args.a.now.table.now ∷ []) c.args.draft.now.next in
    let measured = ap shown c.deref.ensures.value ∙ c.in_ok-measures.ensures in
    let kinds = ap shown c.deref-2.ensures.value ∙ c.in_ok-measures.ensures in
    let one : Text → Ruled = λ m. record { id = rules.variable; measure = m; kind = c.first_kind.result } in
    let two : Kind → Ruled = λ k. record { id = rules.variable; measure = only_name (measures_of a); kind = k } in
    let same = ap one (c.in_ok-measure.ensures ∙ ap name_of_first measured ∙ names_same (measures_of a)) ∙ ap two (c.first_kind.ensures ∙ ap first_kind kinds) in
    let made = λ (h : Ruled) (l : List HierRule). check_hierarchy_made p c.args.target.now h c.args.mode c.args.output l a c.args.s.now os in
    let of = λ (h : Ruled) (l : List HierRule). IfOk c.ruled_query.result (λ q. query_tree q ≡ (made h l).query) in
    subst (λ (l : List HierRule). of (ruled_by rules a) l) c.as_slice-rules.ensures (subst (λ (h : Ruled). of h c.as_slice-rules.result.now) same c.ruled_query.ensures.query)

pub returns-clause-tables : goal.returns-clause-tables
returns-clause-tables c =
    let p = c.args.writer.now in
    let rules = c.args.rules.now in
    let a = c.args.a.now.structure.now in
    let os = by_names (c.args.a.now.table.now ∷ []) c.args.draft.now.next in
    let measured = ap shown c.deref.ensures.value ∙ c.in_ok-measures.ensures in
    let kinds = ap shown c.deref-2.ensures.value ∙ c.in_ok-measures.ensures in
    let one : Text → Ruled = λ m. record { id = rules.variable; measure = m; kind = c.first_kind.result } in
    let two : Kind → Ruled = λ k. record { id = rules.variable; measure = only_name (measures_of a); kind = k } in
    let same = ap one (c.in_ok-measure.ensures ∙ ap name_of_first measured ∙ names_same (measures_of a)) ∙ ap two (c.first_kind.ensures ∙ ap first_kind kinds) in
    let made = λ (h : Ruled) (l : List HierRule). check_hierarchy_made p c.args.target.now h c.args.mode c.args.output l a c.args.s.now os in
    let of = λ (h : Ruled) (l : List HierRule). OnOk c.ruled_query.result (map statement_tree c.ruled_query.new.draft.statements.items ≡ map statement_tree c.args.draft.now.statements.items ++ map create_for (made h l).tables) in
    subst (λ (l : List HierRule). of (ruled_by rules a) l) c.as_slice-rules.ensures (subst (λ (h : Ruled). of h c.as_slice-rules.result.now) same c.ruled_query.ensures.tables)

pub returns-clause-next : goal.returns-clause-next
returns-clause-next c =
    let p = c.args.writer.now in
    let rules = c.args.rules.now in
    let a = c.args.a.now.structure.now in
    let os = by_names (c.args.a.now.table.now ∷ []) c.args.draft.now.next in
    let measured = ap shown c.deref.ensures.value ∙ c.in_ok-measures.ensures in
    let kinds = ap shown c.deref-2.ensures.value ∙ c.in_ok-measures.ensures in
    let one : Text → Ruled = λ m. record { id = rules.variable; measure = m; kind = c.first_kind.result } in
    let two : Kind → Ruled = λ k. record { id = rules.variable; measure = only_name (measures_of a); kind = k } in
    let same = ap one (c.in_ok-measure.ensures ∙ ap name_of_first measured ∙ names_same (measures_of a)) ∙ ap two (c.first_kind.ensures ∙ ap first_kind kinds) in
    let made = λ (h : Ruled) (l : List HierRule). check_hierarchy_made p c.args.target.now h c.args.mode c.args.output l a c.args.s.now os in
    let of = λ (h : Ruled) (l : List HierRule). OnOk c.ruled_query.result (c.ruled_query.new.draft.next ≡ (made h l).next) in
    subst (λ (l : List HierRule). of (ruled_by rules a) l) c.as_slice-rules.ensures (subst (λ (h : Ruled). of h c.as_slice-rules.result.now) same c.ruled_query.ensures.next)
