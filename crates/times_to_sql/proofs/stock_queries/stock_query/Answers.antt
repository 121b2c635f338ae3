use Rattle.std.proofs.Common.{[], ◌∷◌, ap, sym, ◌∙◌}
use Rattle.std.proofs.lemmas.Result.{IfOk-weaker}
use Rattle.times_to_sql.proofs.FlowForms.{stock_written}
use Rattle.times_to_sql.proofs.stock_queries.stock_query.Goals as goal

pub returns : goal.returns
returns c =
    let a = c.args.a.now in
    IfOk-weaker c.one_select.result _ _
    (λ q e. e ∙ ap (λ x. x ∷ []) c.in_ok-select.ensures ∙ sym (stock_written c.args.writer.now a.structure.now c.args.s.now a.table.now c.args.parts.now)) c.one_select.ensures
