use Rattle.std.proofs.Common.{◌+◌, ◌≤◌, ◌<◌, length, ap, subst, sym, ◌∙◌, arith}
use Rattle.vtl_check.proofs.LeftLemmas.{left}
use Rattle.rerun_laws.specs.Parts.{known_before}
use Rattle.script_parts.specs.Results.{AreResults}
use Rattle.script_parts.proofs.Places as places
use Rattle.script_parts.proofs.Places.{nodes_left}
use Rattle.script_parts.proofs.known.put_results.Goals as goal

pub overflow_sub-i-end : goal.overflow_sub-i-end
overflow_sub-i-end c = (places.within c.args.number c.args.statements.now c.requires.number).0

pub bounds-statements-i : goal.bounds-statements-i
bounds-statements-i c = omega (arith, c.loop-i-test.true, (places.within c.args.number c.args.statements.now c.requires.number).1)

pub offset_bounds-statements-i : goal.offset_bounds-statements-i
offset_bounds-statements-i c =
    let within : c.args.number ≤ length c.args.statements.now = (places.within c.args.number c.args.statements.now c.requires.number).1 in
    omega (arith, c.loop-i-test.true, within)

pub bounds-nodes-place : goal.bounds-nodes-place
bounds-nodes-place c =
    let s = c.index-statements-i in
    let a = c.in-Assignment in
    let within : c.loop-i.i < length c.args.statements.now = omega (arith, c.loop-i-test.true, (places.within c.args.number c.args.statements.now c.requires.number).1) in
    places.place_within c.loop-i.known.sets c.args.statements.now c.loop-i.i c.args.nodes.now c.loop-i.place s.result within s.is a.name a.kind a.value a.is c.loop-i.invariant.results

pub offset_bounds-nodes-place : goal.offset_bounds-nodes-place
offset_bounds-nodes-place c = let within : c.loop-i.place < length c.args.nodes.now = bounds-nodes-place c in omega (arith, within)

pub put-requires-clause-new_name : goal.put-requires-clause-new_name
put-requires-clause-new_name c =
    let s = c.index-statements-i in
    let a = c.in-Assignment in
    let n = c.index-nodes-place in
    let within : c.loop-i.i < length c.args.statements.now = omega (arith, c.loop-i-test.true, (places.within c.args.number c.args.statements.now c.requires.number).1) in
    places.name_new c.loop-i.known.sets c.args.statements.now c.loop-i.i c.args.nodes.now c.loop-i.place s.result within s.is a.name a.kind a.value a.is c.loop-i.invariant.results n.result

pub put-requires-clause-declarable : goal.put-requires-clause-declarable
put-requires-clause-declarable c =
    let s = c.index-statements-i in
    let a = c.in-Assignment in
    let n = c.index-nodes-place in
    let within : c.loop-i.i < length c.args.statements.now = omega (arith, c.loop-i-test.true, (places.within c.args.number c.args.statements.now c.requires.number).1) in
    places.declarable c.loop-i.known.sets c.args.statements.now c.loop-i.i c.args.nodes.now c.loop-i.place s.result within s.is a.name a.kind a.value a.is c.loop-i.invariant.results n.result

pub overflow_add-place : goal.overflow_add-place
overflow_add-place c =
    let s = c.index-statements-i in
    let a = c.in-Assignment in
    let within : c.loop-i.i < length c.args.statements.now = omega (arith, c.loop-i-test.true, (places.within c.args.number c.args.statements.now c.requires.number).1) in
    let less = places.place_within c.loop-i.known.sets c.args.statements.now c.loop-i.i c.args.nodes.now c.loop-i.place s.result within s.is a.name a.kind a.value a.is c.loop-i.invariant.results in
    omega (arith, less)

pub loop-i-preserved : goal.loop-i-preserved
loop-i-preserved c =
    let s = c.index-statements-i in
    let a = c.in-Assignment in
    let n = c.index-nodes-place in
    let ss = c.args.statements.now in
    let nodes = c.args.nodes.now in
    let within : c.loop-i.i < length c.args.statements.now = omega (arith, c.loop-i-test.true, (places.within c.args.number c.args.statements.now c.requires.number).1) in
    let put = c.in_ok-put.ensures.put in
    let results = places.results_on c.loop-i.known.sets ss c.loop-i.i nodes c.loop-i.place s.result within s.is a.name a.kind a.value a.is c.loop-i.invariant.results n.result in
    let on = places.known_on c.loop-i.known.sets ss c.loop-i.i nodes c.loop-i.place s.result within s.is a.name a.kind a.value a.is c.loop-i.invariant.results n.result c.args.number (omega (arith, c.loop-i-test.true)) in
    record {
      results = subst (λ sets. AreResults sets (left ss (c.loop-i.i + 1)) (nodes_left nodes (c.loop-i.place + 1))) (sym put) results;
      all = ap (λ sets. known_before c.args.number sets (left ss (c.loop-i.i + 1)) (nodes_left nodes (c.loop-i.place + 1))) put ∙ sym on ∙ c.loop-i.invariant.all;
      lists = c.in_ok-put.ensures.lists ∙ c.loop-i.invariant.lists;
    }

pub returns-clause-put : goal.returns-clause-put
returns-clause-put c =
    sym (places.none_more c.args.number c.loop-i.known.sets c.args.statements.now c.loop-i.i (nodes_left c.args.nodes.now c.loop-i.place) (omega (arith, c.loop-i-test.false)))
    ∙ c.loop-i.invariant.all
