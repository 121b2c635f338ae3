use Rattle.std.proofs.Common.{List, ap, length, map, sym, ◌∙◌}
use mathlib.Core.Path.{fun_ext}
use Rattle.std.proofs.lemmas.List.{length-map}
use Rattle.vtl_tree.specs.Columns.{identifiers_of}
use Rattle.vtl_tree.specs.RuleItems.{left_item}
use Rattle.vtl_tree.specs.Shown.{shown}
use Rattle.vtl_tree.specs.Structure.{columns_of}
use Rattle.vtl_tree.specs.declared.structure.Component.{Component}
use Rattle.sql_tree.specs.Trees.{Text}
use Rattle.sql_tree.specs.View.{select_tree}
use Rattle.hierarchies_to_sql.specs.ItemTables.{Tables, tables_by}
use Rattle.hierarchies_to_sql.specs.RuleItems.{points_as, ruled_of, tables_in}
use Rattle.hierarchies_to_sql.proofs.computed.all_of_points.Goals as goal

pub tables_by-requires : goal.tables_by-requires
tables_by-requires c =
    let items = ap length (c.deref.ensures.value ∙ c.in_ok-items.ensures) in
    let one = length-map (shown c.args.order.now) left_item in
    let two = length-map c.args.order.now (λ r. r.now) in
    c.requires ∙ sym two ∙ sym one ∙ sym items

pub returns : goal.returns
returns c =
    let h = ruled_of c.args.measured.now in
    let rules = shown c.args.rules.now in
    let a = c.args.a.now in
    let names = c.args.names.now in
    let all = λ (ids ys : List Component) (t : Tables). map (points_as h ids ys t) rules in
    let f = tables_in c.in_ok-computed.computed in
    ap (map select_tree) c.of.ensures
    ∙ c.in_ok-selects.ensures
    ∙ ap (λ (ids : List Component). all ids (shown c.deref-3.result.now) f) (ap shown c.deref-2.ensures.value ∙ c.in_ok-identifiers.ensures)
    ∙ ap (λ (ys : List Component). all (identifiers_of a) ys f) (ap shown c.deref-3.ensures.value ∙ c.in_ok-result.ensures)
    ∙ ap (λ (t : Tables). all (identifiers_of a) (columns_of c.args.s.now) t) (fun_ext c.in_ok-computed.ensures)
    ∙ ap (λ (l : List Text). all (identifiers_of a) (columns_of c.args.s.now) (tables_by l names)) (c.deref.ensures.value ∙ c.in_ok-items.ensures)
