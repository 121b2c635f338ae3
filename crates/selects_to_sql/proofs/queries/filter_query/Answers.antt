use Rattle.std.proofs.Common.{ap, map, sym, Some, ◌∙◌}
use Rattle.std.proofs.lemmas.Result.{IfOk-weaker}
use Rattle.vtl_tree.specs.View.{comp_exp_of}
use Rattle.sql_tree.specs.View.{item_tree}
use Rattle.expressions_to_sql.specs.ToSql.{to_sql}
use Rattle.selects_to_sql.specs.Items.{from_table}
use Rattle.selects_to_sql.specs.Queries.{of_one}
use Rattle.selects_to_sql.proofs.Forms.{filter_written}
use Rattle.selects_to_sql.proofs.queries.filter_query.Goals as goal

pub returns : goal.returns
returns c =
    let table = c.args.table.now in
    let condition = to_sql c.args.writer.now of_one (comp_exp_of c.args.condition.now) in
    IfOk-weaker c.from_table.result _ _
    (λ q e. e ∙ ap (λ x. from_table (map item_tree c.in_ok-items.items.items) (Some x) table) c.in_ok-condition.ensures
    ∙ ap (λ l. from_table l (Some condition) table) c.in_ok-items.ensures ∙ sym (filter_written c.args.writer.now (comp_exp_of c.args.condition.now) c.args.s.now table)) c.from_table.ensures
