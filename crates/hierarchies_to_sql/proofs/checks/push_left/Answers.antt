use Rattle.std.proofs.Common.{[], ◌∷◌, subst}
use Rattle.vtl_tree.specs.Shown.{shown}
use Rattle.sql_tree.specs.Trees.{Exp}
use Rattle.selects_to_sql.specs.NamedItems.{AreNext}
use Rattle.hierarchies_to_sql.proofs.checks.push_left.Goals as goal

pub returns : goal.returns
returns c = subst (λ (e : Exp). AreNext c.args.items.now.items c.push_next.new.items.items (e ∷ []) (shown c.args.columns.now)) c.in_ok-left.ensures c.in_ok-push_next.ensures
