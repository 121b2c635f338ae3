use Rattle.std.proofs.Common.{◌≡◌, ◌++◌, drop, map}
use Rattle.std.specs.List.{AllByRecursion}
use Rattle.vtl_check.specs.Checked.{known_of}
use Rattle.vtl_top.specs.OutputView.{NamesPath, output_view}
use Rattle.vtl_top.specs.ResultTables.{file_for}
use Rattle.vtl_top.proofs.results.make_outputs.Given as goal

abbrev pub invariant-loop-i : goal.invariant-loop-i
invariant-loop-i l = record {
  view : map output_view l.outputs.items ++ drop l.i (map (file_for l.folder l.checked.settings (known_of l.checked)) l.tables) ≡ map (file_for l.folder l.checked.settings (known_of l.checked)) l.tables;
  named : AllByRecursion NamesPath l.outputs.items;
}
