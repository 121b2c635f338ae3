use Rattle.std.proofs.Common.{OnOk, ◌≡◌, ◌++◌, subst}
use Rattle.sql_tree.specs.Printing.{written_statement}
use Rattle.sql_tree.specs.View.{statement_tree}
use Rattle.sql_print.proofs.OntoLaws.{run-map}
use Rattle.sql_print.proofs.statements.statements.Goals as goal

pub returns : goal.returns
returns c = subst (λ ts. OnOk c.all.result (c.all.new.out.items ≡ c.args.out.now.items ++ ts)) (run-map statement_tree written_statement c.args.items.now) c.all.ensures
