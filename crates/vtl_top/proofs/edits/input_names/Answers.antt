use Rattle.std.proofs.Common.{◌<◌, length, arith}
use Rattle.vtl_check.specs.Checked.{nodes_of}
use Rattle.vtl_backend.specs.Inputs.{inputs_of}
use Rattle.vtl_top.proofs.EditLemmas.{name_put, still_new}
use Rattle.vtl_top.proofs.InputLemmas.{inputs_are, place_within, readable}
use Rattle.vtl_top.proofs.edits.input_names.Goals as goal

pub put-requires : goal.put-requires
put-requires c =
    let t = c.args.checked.now in
    let ins = inputs_of t in
    let there : c.loop-i.i < length c.inputs-i-end.result.now = omega (arith, c.loop-i-test.true) in
    let within = place_within ins c.inputs-i-end.result.now c.loop-i.i c.inputs-i-end.ensures there in
    still_new ins c.loop-i.i (c.input_at.result.0.now, c.input_at.result.1.now) within c.input_at.ensures.at c.loop-i.names c.loop-i.invariant c.in_ok-share.field-0 (readable ins (inputs_are t.declared (nodes_of t) c.nodes-nodes.ensures.declared)) c.in_ok-share.ensures

pub loop-i-preserved : goal.loop-i-preserved
loop-i-preserved c =
    let ins = inputs_of c.args.checked.now in
    let there : c.loop-i.i < length c.inputs-i-end.result.now = omega (arith, c.loop-i-test.true) in
    let within = place_within ins c.inputs-i-end.result.now c.loop-i.i c.inputs-i-end.ensures there in
    name_put ins c.loop-i.i (c.input_at.result.0.now, c.input_at.result.1.now) within c.input_at.ensures.at c.loop-i.names c.loop-i.invariant c.put.new.self c.in_ok-share.field-0 tt c.in_ok-share.ensures c.in_ok-put.ensures.put
