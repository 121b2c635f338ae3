use Rattle.std.proofs.Common.{◌+◌, ◌++◌, List, Some, map, ap, ◌∙◌}
use Rattle.std.proofs.lemmas.List.{take_rest}
use Rattle.vtl_join.specs.declared.joined.Operand.{Operand}
use Rattle.vtl_join.specs.Finding.{sought_beside}
use Rattle.vtl_join.specs.Joining.{sets_of}
use Rattle.vtl_join.proofs.Stepping.{around_is}
use Rattle.vtl_join.proofs.sources.sources_around.Goals as goal

pub returns : goal.returns
returns g c =
    let a = c.args.lead.now in
    let os = c.args.operands.now in
    let behind = c.in_ok-push_beside-2.ensures ∙ ap (λ (l : List Operand). c.push.new.self.items ++ map (λ d. Some (sought_beside a d)) (sets_of l)) (take_rest os (c.args.place + 1)) in
    around_is a os c.args.place c.in_ok-sources.sources.items c.push_beside.new.sources.items c.push.new.self.items c.push_beside-2.new.sources.items c.in_ok-sources.ensures.items c.in_ok-push_beside.ensures c.in_ok-push.ensures.items behind
