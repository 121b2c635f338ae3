use Rattle.std.proofs.Common.{[], ◌∷◌, ◌++◌, ap, sym, ◌∙◌}
use Rattle.std.specs.Map.{lookup}
use Rattle.vtl_text.specs.Texts.{same_text}
use Rattle.sql_tree.specs.Trees.{Text}
use Rattle.hierarchies_to_sql.proofs.ItemTableForms.{lookup_kept, lookup_more}
use Rattle.hierarchies_to_sql.proofs.item_tables.put_first.Goals as goal

pub returns-then-has : goal.returns-then-has
returns-then-has c = λ q. lookup_kept q c.args.item.now c.args.table c.args.tables.now (sym c.has.ensures ∙ c.if-has.true)

pub returns : goal.returns
returns c = λ q.
    ap (lookup (same_text q)) c.in_ok-put.ensures.put
    ∙ ap (λ (name : Text). lookup (same_text q) (c.args.tables.now ++ (name, c.args.table) ∷ [])) c.in_ok-share.ensures
    ∙ lookup_more q c.args.item.now c.args.table c.args.tables.now
