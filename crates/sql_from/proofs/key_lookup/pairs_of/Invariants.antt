use Rattle.std.proofs.Common.{◌≡◌, true, take}
use Rattle.sql_from.specs.Conditions.{trees_of}
use Rattle.sql_from.specs.Keys.{AllImplied, AllPaired, AreLinked}
use Rattle.sql_from.proofs.key_lookup.pairs_of.Given as goal

abbrev pub invariant-loop-condition : goal.invariant-loop-condition
invariant-loop-condition l = record {
  implied : AllImplied l.sources l.lead (trees_of (take l.condition-index l.conditions)) l.keys.items;
  paired : l.is_whole ≡ true → AllPaired l.sources l.lead (trees_of (take l.condition-index l.conditions)) l.keys.items;
  whole : AreLinked l.sources l.lead (trees_of l.conditions) → l.is_whole ≡ true;
}
