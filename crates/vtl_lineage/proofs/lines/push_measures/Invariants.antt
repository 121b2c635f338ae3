use Rattle.std.proofs.Common.{◌≡◌, [], ◌++◌, map, take}
use Rattle.vtl_tree.specs.Shown.{shown}
use Rattle.vtl_tree.specs.View.{comp_exp_of, comp_exps_of}
use Rattle.vtl_sources.specs.Sources.{source_named, with_expressions}
use Rattle.vtl_lineage.specs.Numbers.{merged}
use Rattle.vtl_lineage.proofs.lines.push_measures.Given as goal

abbrev pub invariant-loop-column : goal.invariant-loop-column
invariant-loop-column l =
    l.out.items ≡ l.fn.out.items ++ map (λ x. with_expressions merged [] l.a (with_expressions merged [] l.a (source_named merged [] l.a x.name) (comp_exps_of (map comp_exp_of l.op.before))) (comp_exps_of (map comp_exp_of l.op.after))) (shown (take l.column-index l.columns))
