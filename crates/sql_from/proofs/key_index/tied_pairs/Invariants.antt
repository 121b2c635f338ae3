use Rattle.std.proofs.Common.{take}
use Rattle.sql_from.specs.KeyPartners.{AreTiedAs}
use Rattle.sql_from.proofs.key_index.tied_pairs.Given as goal

abbrev pub invariant-loop-tie : goal.invariant-loop-tie
invariant-loop-tie l = AreTiedAs (take l.tie-index l.ties) l.keys.items
