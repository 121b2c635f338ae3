use Rattle.std.proofs.Common.{ap, map, sym, None, ◌∙◌}
use Rattle.std.proofs.lemmas.Result.{IfOk-weaker}
use Rattle.selects_to_sql.specs.Items.{from_table}
use Rattle.vtl_tree.specs.NodeView.{item_tree as target_tree}
use Rattle.selects_to_sql.proofs.Forms.{calc_written}
use Rattle.selects_to_sql.proofs.queries.calc_query.Goals as goal

pub returns : goal.returns
returns c =
    let table = c.args.table.now in
    IfOk-weaker c.from_table.result _ _ (λ q e a. e ∙ ap (λ l. from_table l None table) c.in_ok-items.ensures ∙ sym (calc_written c.args.writer.now (map target_tree c.args.targets.now) a c.args.s.now table)) c.from_table.ensures
