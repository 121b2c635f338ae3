use Rattle.std.proofs.Common.{◌≡◌, map, take}
use Rattle.vtl_rules.specs.Itemized.{taken_at}
use Rattle.vtl_rules.proofs.items.ItemPoints.find.Given as goal

abbrev pub invariant-loop-source : goal.invariant-loop-source
invariant-loop-source g l = record {
  found : l.at.found.items ≡ map (taken_at l.self l.fn.at.number l.fn.at.key.items) (take l.source-index l.sources);
  key : l.at.key.items ≡ l.fn.at.key.items;
  number : l.at.number ≡ l.fn.at.number;
}
