use Rattle.std.proofs.Common.{◌≡◌, ◌++◌, take}
use Rattle.vtl_lineage.specs.Shown.{lent_pairs, numbered_links, shown_links}
use Rattle.vtl_lineage.proofs.statements.push_component.Given as goal

abbrev pub invariant-loop-number : goal.invariant-loop-number
invariant-loop-number l = shown_links l.links.items ≡ shown_links l.fn.links.items ++ numbered_links (lent_pairs l.pairs) l.output (take l.number-index l.numbers) l.component
