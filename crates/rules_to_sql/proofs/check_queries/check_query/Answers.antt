use Rattle.std.proofs.Common.{[], ◌∷◌, ◌++◌, List, Option, ap, sym, ◌∙◌}
use Rattle.std.proofs.lemmas.Result.{IfOk-weaker}
use Rattle.std.specs.Option.{option_map}
use Rattle.vtl_tree.specs.Columns.{identifiers_of}
use Rattle.vtl_tree.specs.Structure.{columns_of}
use Rattle.sql_tree.specs.Trees.{Exp, ItemTree}
use Rattle.sql_tree.specs.View.{expr_tree}
use Rattle.sql_tree.specs.declared.parts.Column.{Column}
use Rattle.expressions_to_sql.specs.ToSql.{column_of}
use Rattle.selects_to_sql.specs.Items.{from_one}
use Rattle.selects_to_sql.specs.NamedItems.{own_columns}
use Rattle.selects_to_sql.specs.Queries.{first_alias, items_as}
use Rattle.rules_to_sql.specs.Items.{checked_parts_as, checked_where_as, null_like, zero_as}
use Rattle.rules_to_sql.proofs.Forms.{check_written}
use Rattle.rules_to_sql.proofs.check_queries.check_query.Goals as goal

pub returns : goal.returns
returns c =
    let p = c.args.writer.now in
    let spec = c.args.spec.now in
    let a = c.args.a.now.structure.now in
    let s = c.args.s.now in
    let table = c.args.a.now.table.now in
    let truth = c.in_ok-truth.truth in
    let items = λ (t : Column). items_as (own_columns (identifiers_of a) ++ checked_parts_as t (null_like (zero_as p)) spec.errorcode spec.errorlevel) (columns_of s) in
    let condition = option_map expr_tree c.in_ok-condition.condition in
    let measure = c.in_ok-truth.ensures ∙ ap (column_of first_alias) c.in_ok-name.ensures in
    IfOk-weaker c.one_select.result _ _
    (λ q e. e ∙ ap (λ x. x ∷ [])
    (c.in_ok-select.ensures
    ∙ ap (λ (l : List ItemTree). from_one l condition table) c.in_ok-items.ensures
    ∙ ap (λ (o : Option Exp). from_one (items truth) o table) c.in_ok-condition.ensures
    ∙ ap (λ (t : Column). from_one (items t) (checked_where_as spec.output t) table) measure)
    ∙ sym (check_written p spec a s table)) c.one_select.ensures
