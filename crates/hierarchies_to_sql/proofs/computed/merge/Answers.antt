use Rattle.std.proofs.Common.{[], ◌∷◌, ◌++◌, ap, map, ◌∙◌}
use Rattle.std.proofs.lemmas.Result.{IfOk-weaker}
use Rattle.vtl_tree.specs.Shown.{shown}
use Rattle.sql_tree.specs.Trees.{QueryTree, Text}
use Rattle.sql_tree.specs.View.{statement_tree}
use Rattle.selects_to_sql.specs.Queries.{alias_of}
use Rattle.selects_to_sql.specs.Tables.{create_for, numbered, table_of}
use Rattle.hierarchies_to_sql.specs.RuleItems.{merged_as, ruled_of}
use Rattle.hierarchies_to_sql.proofs.computed.merge.Goals as goal

pub returns-clause-tables : goal.returns-clause-tables
returns-clause-tables c =
    let shape = c.args.shape.now in
    let old = map statement_tree c.args.draft.now.statements.items in
    let written = λ (x : Text). merged_as (ruled_of shape.measured.now) (alias_of 0) shape.keys.now (shown shape.others.now) (shown shape.columns.now) c.args.made.now x ∷ [] in
    IfOk-weaker c.store.result _ _
    (λ t e. e ∙ ap (λ (q : QueryTree). old ++ create_for (table_of (numbered c.args.target.now c.args.draft.now.next) q) ∷ []) (c.in_ok-query.ensures ∙ ap written c.in_ok-own.ensures)) c.store.ensures.statements
