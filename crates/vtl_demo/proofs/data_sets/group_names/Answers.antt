use Rattle.std.proofs.Common.{◌∙◌, ℕ, List, arith}
use Rattle.vtl_demo.specs.DataSets.{group_name}
use Rattle.vtl_demo.proofs.Numbered.{one_more}
use Rattle.vtl_demo.proofs.data_sets.group_names.Goals as goal

pub loop-digit-preserved : goal.loop-digit-preserved
loop-digit-preserved c =
    let digit = c.loop-digit.digit in
    ◌∙◌ {A = List (List ℕ)} c.in_ok-push.ensures.items
    (one_more group_name 0 digit digit c.loop-digit.names.items c.in_ok-group_name.field-0 (omega arith) c.loop-digit.invariant c.in_ok-group_name.ensures)
