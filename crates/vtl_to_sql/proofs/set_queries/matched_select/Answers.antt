use Rattle.std.proofs.Common.{List, Some, ap, ◌∙◌}
use Rattle.std.proofs.lemmas.Result.{IfOk-weaker}
use Rattle.vtl_tree.specs.Shown.{shown}
use Rattle.vtl_tree.specs.declared.structure.Component.{Component}
use Rattle.sql_tree.specs.Trees.{Exp}
use Rattle.vtl_to_sql.specs.Sets.{is_matched, shown_select}
use Rattle.vtl_to_sql.proofs.set_queries.matched_select.Goals as goal

pub returns : goal.returns
returns c =
    let matched = c.in_ok-condition.ensures ∙ ap (λ (ids : List Component). is_matched c.args.wanted ids c.args.other.now) (ap shown c.deref.ensures.value ∙ c.in_ok-identifiers.ensures) in
    IfOk-weaker c.shown_select.result _ _ (λ x e a. e a ∙ ap (λ (z : Exp). shown_select c.args.writer.now a c.args.s.now c.args.table.now (Some z)) matched) c.shown_select.ensures
