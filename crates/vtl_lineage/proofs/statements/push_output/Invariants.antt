use Rattle.std.proofs.Common.{◌≡◌, ◌++◌, take}
use Rattle.std.specs.List.{flat_map}
use Rattle.vtl_tree.specs.Shown.{shown}
use Rattle.vtl_lineage.specs.Shown.{component_numbers, lent_pairs, numbered_links, shown_links}
use Rattle.vtl_lineage.proofs.statements.push_output.Given as goal

abbrev pub invariant-loop-column : goal.invariant-loop-column
invariant-loop-column l =
    shown_links l.links.items ≡ shown_links l.fn.links.items ++ flat_map (λ x. numbered_links (lent_pairs l.pairs) l.output (component_numbers l.d x) x.name) (shown (take l.column-index l.column-items))
