use Rattle.std.proofs.Common.{[], ◌∷◌, ap, sym, ◌∙◌}
use Rattle.std.proofs.lemmas.Result.{IfOk-weaker}
use Rattle.selects_to_sql.proofs.PairForms.{pair_written}
use Rattle.selects_to_sql.proofs.pair_queries.pair_query.Goals as goal

pub returns : goal.returns
returns c =
    let a = c.args.a.now in
    let b = c.args.b.now in
    IfOk-weaker c.one_select.result _ _
    (λ q e. e ∙ ap (λ x. x ∷ []) c.in_ok-select.ensures ∙ sym (pair_written c.args.writer.now c.args.op a.structure.now b.structure.now c.args.s.now a.table.now b.table.now)) c.one_select.ensures
