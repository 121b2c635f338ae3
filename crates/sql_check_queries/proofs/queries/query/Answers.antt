use Rattle.std.proofs.Common.{◌∙◌, map, ap, sym, refl}
use Rattle.std.proofs.lemmas.List.{nil_from_length}
use Rattle.std.specs.List.{list_any}
use Rattle.sql_tree.specs.View.{query_tree, select_tree}
use Rattle.sql_check_parts.specs.Queries.{has_unnamed}
use Rattle.sql_check_parts.specs.Rules.{least, lesser}
use Rattle.sql_check_queries.specs.Told.{columns_breaks}
use Rattle.sql_check_queries.proofs.WholeQueries.{none_made, query_made}
use Rattle.sql_check_queries.proofs.queries.query.Goals as goal

pub returns-in_default : goal.returns-in_default
returns-in_default c =
    let none = nil_from_length c.as_slice-selects.result.now c.in_default.ensures.cases in
    none_made c.args.profile.now c.args.tables.now (query_tree c.args.query.now) c.no_columns.result (ap (map select_tree) (sym c.as_slice-selects.ensures ∙ none))
    c.no_columns.ensures.names c.no_columns.ensures.kinds c.no_columns.ensures.fault

pub returns : goal.returns
returns c =
    let t = c.args.tables.now in
    let u = c.in_ok-union.union in
    let split = ap (map select_tree) (sym c.as_slice-selects.ensures ∙ c.in-Some.ensures.cases.0) in
    let unnamed = c.any_unnamed-unnamed.ensures ∙ ap (λ ss. list_any (has_unnamed t) (map select_tree ss)) c.as_slice-selects.ensures in
    query_made c.args.profile.now t (query_tree c.args.query.now) (select_tree c.in-Some.first.now) (map select_tree c.in-Some.rest.now) u _ split c.in_ok-union.ensures refl c.in_ok-kinds.ensures
    (c.least_fault.ensures ∙ ap (λ m. lesser u.fault (least (columns_breaks u.names u.shared.items u.same_names m))) unnamed)
