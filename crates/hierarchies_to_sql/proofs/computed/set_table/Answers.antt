use Rattle.std.proofs.Common.{[], ◌∷◌, ◌++◌, List, ap, sym, ◌∙◌}
use Rattle.sql_tree.specs.Trees.{Text}
use Rattle.hierarchies_to_sql.specs.RuleItems.{tables_in}
use Rattle.hierarchies_to_sql.proofs.RunForms.{put_table, set_one}
use Rattle.hierarchies_to_sql.proofs.computed.set_table.Goals as goal

pub returns-then-has : goal.returns-then-has
returns-then-has c = λ q. ap (λ (l : List (Text × Text)). tables_in l q) c.replace-before.ensures.replaced ∙ set_one q c.args.item.now c.args.table c.args.tables.now (sym c.has.ensures ∙ c.if-has.true)

pub returns : goal.returns
returns c = λ q.
    ap (λ (l : List (Text × Text)). tables_in l q) c.in_ok-put.ensures.put
    ∙ ap (λ (name : Text). tables_in (c.args.tables.now ++ (name, c.args.table) ∷ []) q) c.in_ok-share.ensures
    ∙ put_table q c.args.item.now c.args.table c.args.tables.now (sym c.has.ensures ∙ c.if-has.false)
