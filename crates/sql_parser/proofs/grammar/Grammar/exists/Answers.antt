use Rattle.std.proofs.Common.{suc, subst}
use Rattle.sql_tree.specs.Grammar.{exists}
use Rattle.sql_parser_parts.specs.Answers.{AnswersBy, kinds}
use Rattle.sql_parser.specs.Depths.{box_tree, deep_view, node_reads}
use Rattle.sql_parser.proofs.Views.{exists_seen}
use Rattle.sql_parser.proofs.grammar.Grammar.exists.Goals as goal

pub returns : goal.returns
unfolding exists
returns g c =
    rw c.in_ok-found.ensures
    (subst (λ e. AnswersBy (deep_view box_tree) (node_reads (suc c.args.self.now.budget) e 2 (kinds c.in_ok-found.found.rest.now)) c.node.result)
    (exists_seen c.in_ok-found.found.part.0 c.of.result c.in_ok-found.found.part.1.items c.of.ensures) c.node.ensures)
