use Rattle.std.proofs.Common.{ap, sym, ◌∙◌}
use Rattle.std.specs.Option.{option_map}
use Rattle.std.proofs.lemmas.Result.{IfOk-weaker}
use Rattle.sql_tree.specs.View.{expr_tree}
use Rattle.selects_to_sql.specs.Items.{from_one}
use Rattle.vtl_to_sql.proofs.SetForms.{shown_written}
use Rattle.vtl_to_sql.proofs.set_queries.shown_select.Goals as goal

pub returns : goal.returns
returns c =
    let table = c.args.table.now in
    let condition = option_map expr_tree c.args.condition in
    IfOk-weaker c.from_one.result _ _ (λ x e a. e ∙ ap (λ l. from_one l condition table) c.in_ok-items.ensures ∙ sym (shown_written c.args.writer.now a c.args.s.now table condition)) c.from_one.ensures
