use Rattle.std.proofs.Common.{◌∙◌, ◌+◌, map, ap, subst}
use Rattle.std.specs.List.{AllByRecursion}
use Rattle.std.proofs.lemmas.List.{append-nil}
use Rattle.vtl_tree.specs.NodeView.{node_tree}
use Rattle.vtl_check.specs.Names.{names_in, names_of}
use Rattle.vtl_interp.specs.Reads.{IsGone}
use Rattle.vtl_interp.proofs.last_reads.let_go.Goals as goal

pub returns-clause-gone : goal.returns-clause-gone
returns-clause-gone c =
    let n = node_tree c.args.node.now in
    let read = c.as_slice.ensures.value ∙ c.in_ok-names.ensures ∙ ap (λ l. names_of (map node_tree l)) c.from_ref.ensures.value ∙ append-nil (names_in n) in (
      λ unread. c.let_go_each.ensures.no_more c.args.name.now (c.let_go_of.ensures.gone unread),
      subst (AllByRecursion (IsGone (c.args.i + 1) c.args.last.now.entries c.let_go_each.new.known.entries)) read c.let_go_each.ensures.gone,
    )
