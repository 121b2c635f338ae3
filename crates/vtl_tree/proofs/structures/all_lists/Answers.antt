use Rattle.std.proofs.Common.{ap, ◌∙◌}
use Rattle.std.specs.List.{list_any}
use Rattle.std.specs.Map.{keys_of}
use Rattle.vtl_tree.specs.NotNull.{NotNull}
use Rattle.vtl_tree.specs.Structure.{same_name}
use Rattle.vtl_tree.proofs.NotNullLemmas.{list_is_new, list_put}
use Rattle.vtl_tree.proofs.structures.all_lists.Goals as goal

pub put_list-requires : goal.put_list-requires
put_list-requires c =
    ap (λ (l : NotNull). list_any (same_name c.at.result.0.now) (keys_of l)) c.loop-i.invariant
    ∙ list_is_new c.args.held.now c.loop-i.i c.at.result.0.now c.at.result.1.now c.requires c.at.ensures

pub loop-i-preserved : goal.loop-i-preserved
loop-i-preserved c =
    list_put c.args.held.now c.loop-i.i c.at.result.0.now c.at.result.1.now c.as_slice.result.now c.loop-i.lists c.put_list.new.lists c.at.ensures c.as_slice.ensures c.loop-i.invariant c.in_ok-put_list.ensures
