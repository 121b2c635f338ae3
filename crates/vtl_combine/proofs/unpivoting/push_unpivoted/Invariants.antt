use Rattle.std.proofs.Common.{◌≡◌, ◌++◌, map, take}
use Rattle.vtl_combine.specs.Unpivots.{measure_by, unpivoted}
use Rattle.vtl_combine.proofs.unpivoting.push_unpivoted.Given as goal

abbrev pub invariant-loop-measure : goal.invariant-loop-measure
invariant-loop-measure l = record {
  columns : l.out.columns ≡ l.initial.out.columns;
  rows : l.out.rows ≡ l.initial.out.rows ++ unpivoted l.identifiers (map measure_by (take l.measure-index l.measures)) l.row;
}
