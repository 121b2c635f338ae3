use Rattle.std.proofs.Common.{List, ap, map, ◌∙◌}
use Rattle.vtl_tree.specs.Columns.{identifiers_of}
use Rattle.vtl_tree.specs.Shown.{shown}
use Rattle.vtl_tree.specs.declared.structure.Component.{Component}
use Rattle.sql_tree.specs.View.{select_tree}
use Rattle.selects_to_sql.specs.Queries.{alias_of}
use Rattle.hierarchies_to_sql.specs.RuleItems.{checked_selects_as, ruled_of, tables_in}
use Rattle.hierarchies_to_sql.proofs.checks.checked_query.Goals as goal

pub returns : goal.returns
returns c =
    let tabled = c.args.tabled.now in
    let all = λ (ids ys : List Component). checked_selects_as c.args.writer.now (ruled_of tabled.measured) c.args.mode (alias_of 0) tabled.keys (shown tabled.others.items) (tables_in tabled.tables) c.args.output ids ys 1 c.args.rules.now in
    ap (map select_tree) c.of.ensures
    ∙ c.in_ok-selects.ensures
    ∙ ap (λ (ids : List Component). all ids (shown c.deref-2.result.now)) (ap shown c.deref.ensures.value ∙ c.in_ok-identifiers.ensures)
    ∙ ap (λ (ys : List Component). all (identifiers_of c.args.a.now) ys) (ap shown c.deref-2.ensures.value ∙ c.in_ok-result.ensures)
