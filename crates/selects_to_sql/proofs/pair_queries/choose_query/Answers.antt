use Rattle.std.proofs.Common.{[], ◌∷◌, ap, length, sym, ◌∙◌}
use Rattle.std.proofs.lemmas.Result.{IfOk-weaker}
use Rattle.vtl_tree.specs.Structure.{columns_of, key_width}
use Rattle.vtl_tree.specs.Columns.{measures_of}
use Rattle.sql_tree.specs.View.{select_tree}
use Rattle.selects_to_sql.specs.PairItems.{chosen, chosen_from, not_chosen}
use Rattle.selects_to_sql.proofs.PairForms.{choose_written}
use Rattle.selects_to_sql.proofs.pair_queries.choose_query.Goals as goal

pub returns : goal.returns
returns c =
    let t = c.args.tested.now in
    let a = c.args.a.now in
    let b = c.args.b.now in
    let s = c.args.s.now in
    let u = t.structure.now in
    let test = chosen (length (columns_of u)) (key_width u) (measures_of u) in
    let first = c.in_ok-first.ensures ∙ ap (λ e. chosen_from e u a.structure.now s t.table.now a.table.now) c.in_ok-is_chosen.ensures in
    let second = c.in_ok-second.ensures ∙ ap (λ e. chosen_from e u b.structure.now s t.table.now b.table.now) (c.in_ok-is_not_chosen.ensures ∙ ap not_chosen c.in_ok-chosen.ensures) in
    IfOk-weaker c.two_selects.result _ _
    (λ q e. e
    ∙ ap (λ x. x ∷ select_tree c.in_ok-second.second ∷ []) first
    ∙ ap (λ x. chosen_from test u a.structure.now s t.table.now a.table.now ∷ x ∷ []) second
    ∙ sym (choose_written c.args.writer.now u a.structure.now b.structure.now s t.table.now a.table.now b.table.now)) c.two_selects.ensures
