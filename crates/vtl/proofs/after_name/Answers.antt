use Rattle.std.proofs.Common.{rules, ◌∙◌, ap}
use Rattle.std.specs.Vec.Iter.{into_iter_items, into_iter_len}
use Rattle.std.proofs.lemmas.Iterator.Adapters.{YieldsList-from_skip, YieldsList-from_vec, fact_from_collect}
use Rattle.vtl.proofs.after_name.Goals as goal

-- src/main.rt:41:1
pub returns : goal.returns
returns c =
    let source = YieldsList-from_vec (into_iter_items c.args.args) (ap into_iter_items c.skip.ensures.source) (ap into_iter_len c.skip.ensures.source ∙ c.args.args.rest.ok.0) in
    let collected = fact_from_collect _ c.collect.result c.collect.ensures.ran (YieldsList-from_skip 1 source c.skip.ensures.count) in
    search rules
