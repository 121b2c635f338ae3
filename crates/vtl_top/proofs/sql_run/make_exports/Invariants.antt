use Rattle.std.proofs.Common.{◌≡◌, ◌++◌, drop, map}
use Rattle.std.specs.List.{AllByRecursion}
use Rattle.vtl_top.specs.OutputView.{NamesPath, output_view}
use Rattle.vtl_top.specs.SqlRun.{table_file}
use Rattle.vtl_top.proofs.sql_run.make_exports.Given as goal

abbrev pub invariant-loop-i : goal.invariant-loop-i
invariant-loop-i l = record {
  view : map output_view l.outputs.items ++ drop l.i (map (table_file l.folder l.profile) l.tables) ≡ map (table_file l.folder l.profile) l.tables;
  named : AllByRecursion NamesPath l.outputs.items;
}
