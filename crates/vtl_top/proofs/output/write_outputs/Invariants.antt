use Rattle.std.proofs.Common.{◌≡◌, ◌++◌, false, length, map}
use Rattle.std.specs.List.{AllByRecursion}
use Rattle.std.specs.Vec.Iter.{into_iter_items, into_iter_len}
use Rattle.vtl_top.specs.Answered.{Adds, OnlyWrites}
use Rattle.vtl_top.specs.OutputView.{NamesPath, output_view}
use Rattle.vtl_top.proofs.output.write_outputs.Given as goal

-- Those that came were written, whole and in order.
abbrev pub invariant-loop-output : goal.invariant-loop-output
invariant-loop-output g l = record {
  came : l.yielded ++ into_iter_items l.output-iterator ≡ into_iter_items l.initial.output-iterator;
  left : into_iter_len l.output-iterator ≡ length (into_iter_items l.output-iterator);
  named : AllByRecursion NamesPath (into_iter_items l.output-iterator);
  idle : g.F.Files.creating l.files ≡ false;
  writes : OnlyWrites g.F.Files l.fn.files l.files;
  done : Adds (g.F.Files.written l.fn.files) (g.F.Files.written l.files) (map output_view l.yielded);
}
