use Rattle.std.proofs.Common.{◌∙◌, ◌++◌, List, Ok, subst}
use Rattle.std.proofs.lemmas.List.{length-map}
use Rattle.vtl_cell.specs.Outcome.{Outcome, after}
use Rattle.vtl_cell.specs.Row.{Row}
use Rattle.vtl_scalar.specs.Answers.{AnswersBy}
use Rattle.sql_tree.specs.View.{item_tree, select_tree}
use Rattle.sql_groups.proofs.SelectLemmas.{kinds_many, made_are, made_fit}
use Rattle.sql_groups.proofs.select.push_grouped.Goals as goal

pub resolve_groups-requires : goal.resolve_groups-requires
resolve_groups-requires g c =
    kinds_many c.args.p.now c.args.rows.now (select_tree c.args.select.now) c.args.kinds.now c.requires.lifted
    ∙ length-map c.args.select.now.items item_tree

pub push_groups-requires-clause-made : goal.push_groups-requires-clause-made
push_groups-requires-clause-made g c =
    made_fit c.args.p.now c.args.rows.now (select_tree c.args.select.now) c.args.kinds.now c.requires.lifted c.in_ok-resolved.resolved c.as_slice.result.now c.as_slice.ensures c.in_ok-resolved.ensures
    c.requires.grouped c.requires.typed c.requires.scope c.requires.fit c.args.table.now.columns c.requires.columns

pub returns-clause-rows : goal.returns-clause-rows
returns-clause-rows g c =
    let view : Unit {0} → List Row = λ u. c.push_groups.new.table.rows in
    subst (λ (m : Outcome (List Row)). AnswersBy view c.push_groups.result (after m (λ made. Ok (c.args.table.now.rows ++ made))))
    (made_are c.args.p.now c.args.rows.now (select_tree c.args.select.now) c.args.kinds.now c.requires.lifted c.in_ok-resolved.resolved c.as_slice.result.now c.as_slice.ensures c.in_ok-resolved.ensures)
    c.push_groups.ensures.rows
