use Rattle.std.proofs.Common.{◌≡◌, true, take}
use Rattle.sql_from.specs.Partners.{AreTiedBy, AreTiesImplying}
use Rattle.sql_from.proofs.ties.tied_columns.Given as goal

abbrev pub invariant-loop-tie : goal.invariant-loop-tie
invariant-loop-tie l = record {
  implied : AreTiesImplying l.sources l.lead (take l.tie-index l.ties) l.keys.items;
  tied : l.is_whole ≡ true → AreTiedBy l.sources l.lead (take l.tie-index l.ties) l.keys.items;
}
