use Rattle.std.proofs.Common.{ap, map, sym, Some, ◌∙◌}
use Rattle.std.proofs.lemmas.Result.{IfOk-weaker}
use Rattle.sql_tree.specs.View.{item_tree}
use Rattle.selects_to_sql.specs.Items.{all_of, from_table, value_equality}
use Rattle.selects_to_sql.proofs.Forms.{sub_written}
use Rattle.selects_to_sql.proofs.queries.sub_query.Goals as goal

pub returns : goal.returns
returns c =
    let table = c.args.table.now in
    let condition = all_of (map (value_equality c.args.writer.now) c.args.values.now) in
    IfOk-weaker c.from_table.result _ _
    (λ q e a. e ∙ ap (λ x. from_table (map item_tree c.in_ok-items.items.items) (Some x) table) c.in_ok-condition.ensures
    ∙ ap (λ l. from_table l (Some condition) table) c.in_ok-items.ensures ∙ sym (sub_written c.args.writer.now c.args.values.now a c.args.s.now table)) c.from_table.ensures
