use Rattle.std.proofs.Common.{OnOk, ◌≡◌, ◌++◌, subst}
use Rattle.sql_tree.specs.Printing.{written_join}
use Rattle.sql_tree.specs.View.{join_tree}
use Rattle.sql_print.proofs.OntoLaws.{run-map}
use Rattle.sql_print.proofs.queries.all_joins.Goals as goal

pub returns : goal.returns
returns c = subst (λ ts. OnOk c.all.result (c.all.new.out.items ≡ c.args.out.now.items ++ ts)) (run-map join_tree written_join c.args.joins.now) c.all.ensures
