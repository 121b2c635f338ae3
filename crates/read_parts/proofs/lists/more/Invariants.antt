use Rattle.std.proofs.Common.{length, ◌≡◌, ◌-◌}
use Rattle.vtl_grammar.specs.Faults.{kinds}
use Rattle.vtl_grammar.specs.Reading.{more_items}
use Rattle.read_parts.proofs.lists.more.Given as goal

abbrev pub invariant-loop : goal.invariant-loop
invariant-loop g l =
    more_items g.I.Item.reads (length l.fn.tokens - l.index) l.items.items (kinds l.rest) ≡ more_items g.I.Item.reads (length (kinds l.fn.tokens)) l.fn.items.items (kinds l.fn.tokens)
