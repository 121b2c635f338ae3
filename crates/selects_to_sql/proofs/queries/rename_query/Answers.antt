use Rattle.std.proofs.Common.{ap, sym, None, ◌∙◌}
use Rattle.std.proofs.lemmas.Result.{IfOk-weaker}
use Rattle.selects_to_sql.specs.Items.{from_table}
use Rattle.selects_to_sql.proofs.Forms.{rename_written}
use Rattle.selects_to_sql.proofs.queries.rename_query.Goals as goal

pub returns : goal.returns
returns c =
    let table = c.args.table.now in
    IfOk-weaker c.from_table.result _ _ (λ q e. e ∙ ap (λ l. from_table l None table) c.in_ok-items.ensures ∙ sym (rename_written c.args.writer.now c.args.a.now c.args.s.now table)) c.from_table.ensures
