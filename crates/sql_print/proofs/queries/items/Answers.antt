use Rattle.std.proofs.Common.{OnOk, ◌≡◌, ◌++◌, subst}
use Rattle.sql_lexer.specs.declared.token.Word.TheVariants as w
use Rattle.sql_tree.specs.Printing.{just, written_item}
use Rattle.sql_tree.specs.View.{item_tree}
use Rattle.sql_print.proofs.OntoLaws.{between-map}
use Rattle.sql_print.proofs.queries.items.Goals as goal

pub returns : goal.returns
returns c = subst (λ ts. OnOk c.parted.result (c.parted.new.out.items ≡ c.args.out.now.items ++ ts)) (between-map (just w.Comma) item_tree written_item c.args.items.now) c.parted.ensures
