use Rattle.std.proofs.Common.{◌≡◌, take}
use Rattle.std.specs.List.{flat_map}
use Rattle.vtl_times.specs.InOrder.{parts_of}
use Rattle.vtl_times.specs.Lists.{IsWhole, lists_of}
use Rattle.vtl_times.proofs.order.parts_in.Given as goal

abbrev pub invariant-loop-i : goal.invariant-loop-i
invariant-loop-i l = record {
  whole : IsWhole l.series;
  lists : lists_of l.series ≡ flat_map (parts_of l.time l.a.points) (take l.i l.groups);
}
