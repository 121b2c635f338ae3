use Rattle.std.proofs.Common.{◌∙◌, ◌+◌, ◌<◌, ◌≤◌, drop, length, map, take, Ok, Err, arith, ap, sym, subst}
use Rattle.std.proofs.lemmas.List.{drop_all, length-map, take_all}
use Rattle.std.specs.Map.{keys_of}
use Rattle.std.proofs.lemmas.Map.Entries.{length-keys_of}
use Rattle.vtl_tree.specs.Structures.{Named}
use Rattle.vtl_backend.specs.Inputs.{input_of, rows_named}
use Rattle.vtl_meaning.specs.Profiles.{AllAreOfProfile}
use Rattle.vtl_top.specs.Answered.{Takes}
use Rattle.vtl_top.specs.Expected.{dataset_step, inputs_step, one_more_step, with_points}
use Rattle.vtl_top.specs.InputsRead.{all_wanted, all_wanted_from, wanted_from, wanted_of}
use Rattle.vtl_top.specs.Steps.{settled}
use Rattle.vtl_top.proofs.InputLemmas.{here_at, mapped_at, not_yet, one_more, structure_at}
use Rattle.vtl_top.proofs.RunLemmas.{settled_ok}
use Rattle.vtl_top.proofs.StepLemmas.{takes_onward, takes_stopped}
use Rattle.vtl_top.proofs.inputs.read_all_wanted.Goals as goal

pub add_input-requires-clause-new : goal.add_input-requires-clause-new
add_input-requires-clause-new g c =
    let ws = c.args.wanted.now in
    let i = c.loop-i.i in
    let one = c.wanted_at-one.result in
    let there : i < length ws = omega (arith, c.loop-i-test.true) in
    let within : i < length (all_wanted ws) = omega (arith, c.loop-i-test.true, length-map ws wanted_of) in
    not_yet c.args.profile.now (all_wanted ws) i (wanted_of one) c.loop-i.tables c.requires c.loop-i.invariant.so within (mapped_at wanted_of ws i one there c.wanted_at-one.ensures)

pub add_input-requires-clause-structure : goal.add_input-requires-clause-structure
add_input-requires-clause-structure g c =
    let ws = c.args.wanted.now in
    let one = c.wanted_at-one.result in
    let there : c.loop-i.i < length ws = omega (arith, c.loop-i-test.true) in
    let within : c.loop-i.i < length (all_wanted ws) = omega (arith, c.loop-i-test.true, length-map ws wanted_of) in
    structure_at (all_wanted ws) c.loop-i.i (wanted_of one) c.requires within (mapped_at wanted_of ws c.loop-i.i one there c.wanted_at-one.ensures)

pub returns-in-Err-clause-takes : goal.returns-in-Err-clause-takes
returns-in-Err-clause-takes g c =
    let ws = c.args.wanted.now in
    let i = c.loop-i.i in
    let one = c.wanted_at-one.result in
    let folder = c.args.folder.now in
    let p = c.args.profile.now in
    let w = wanted_from folder one in
    let all = all_wanted_from folder ws in
    let env = map (input_of c.loop-i.tables) (take i (all_wanted ws)) in
    let there : i < length ws = omega (arith, c.loop-i-test.true) in
    let within : i < length all = omega (arith, c.loop-i-test.true, length-map ws (wanted_from folder)) in
    let here = here_at all i w within (mapped_at (wanted_from folder) ws i one there c.wanted_at-one.ensures) in
    let first = takes_stopped g.F.Files (dataset_step p w) (λ points. settled (Ok (with_points env (wanted_of one) points))) c.loop-i.files c.add_input.new.files (λ (x : Unit {0}). rows_named one.name.now c.add_input.new.tables) (λ (x : Unit {0}). env) c.in-Err.status c.in-Err.ensures.takes in
    let whole = takes_stopped g.F.Files (one_more_step p env w) (λ more. inputs_step p more (drop (i + 1) all)) c.loop-i.files c.add_input.new.files (λ (x : Unit {0}). env) (λ t. map (input_of t) (all_wanted ws)) c.in-Err.status first in
    c.loop-i.invariant.takes c.add_input.new.files (Err c.in-Err.status)
    (subst (λ l. Takes g.F.Files c.loop-i.files c.add_input.new.files (inputs_step p env l) (λ t. map (input_of t) (all_wanted ws)) (Err c.in-Err.status)) (sym here) whole)

pub loop-i-preserved : goal.loop-i-preserved
loop-i-preserved g c =
    let ws = c.args.wanted.now in
    let i = c.loop-i.i in
    let one = c.wanted_at-one.result in
    let folder = c.args.folder.now in
    let p = c.args.profile.now in
    let w = wanted_from folder one in
    let e = wanted_of one in
    let all = all_wanted_from folder ws in
    let env = map (input_of c.loop-i.tables) (take i (all_wanted ws)) in
    let there : i < length ws = omega (arith, c.loop-i-test.true) in
    let within : i < length all = omega (arith, c.loop-i-test.true, length-map ws (wanted_from folder)) in
    let within_entries : i < length (all_wanted ws) = omega (arith, c.loop-i-test.true, length-map ws wanted_of) in
    let here = here_at all i w within (mapped_at (wanted_from folder) ws i one there c.wanted_at-one.ensures) in
    let more = one_more p (all_wanted ws) i e c.loop-i.tables c.add_input.new.tables c.requires c.loop-i.invariant.so within_entries (mapped_at wanted_of ws i one there c.wanted_at-one.ensures) c.in-Ok.ensures.put in
    let read = settled_ok g.F.Files c.add_input.new.files (λ (x : Unit {0}). map (input_of c.add_input.new.tables) (take (i + 1) (all_wanted ws))) tt (Ok (with_points env e (rows_named e.0 c.add_input.new.tables))) (ap Ok (sym more.env)) in
    let first =
    takes_onward g.F.Files (dataset_step p w) (λ points. settled (Ok (with_points env e points))) c.loop-i.files c.add_input.new.files c.add_input.new.files (λ (x : Unit {0}). rows_named e.0 c.add_input.new.tables)
    (λ (x : Unit {0}). map (input_of c.add_input.new.tables) (take (i + 1) (all_wanted ws))) c.in-Ok.field-0 (Ok tt) c.in-Ok.ensures.takes read in
    record {
      so = more.so;
      takes = λ now result rest.
          c.loop-i.invariant.takes now result
          (subst (λ l. Takes g.F.Files c.loop-i.files now (inputs_step p env l) (λ t. map (input_of t) (all_wanted ws)) result) (sym here)
          (takes_onward g.F.Files (one_more_step p env w) (λ more. inputs_step p more (drop (i + 1) all)) c.loop-i.files c.add_input.new.files now (λ (x : Unit {0}). map (input_of c.add_input.new.tables) (take (i + 1) (all_wanted ws))) (λ t. map (input_of t) (all_wanted ws)) tt result first rest));
    }

pub returns-clause-takes : goal.returns-clause-takes
returns-clause-takes g c =
    let ws = c.args.wanted.now in
    let ins = all_wanted ws in
    let i = c.loop-i.i in
    let p = c.args.profile.now in
    let all = all_wanted_from c.args.folder.now ws in
    let ended : length ins ≤ i = omega (arith, c.loop-i-test.false, length-map ws wanted_of) in
    let ended_all : length all ≤ i = omega (arith, c.loop-i-test.false, length-map ws (wanted_from c.args.folder.now)) in
    c.loop-i.invariant.takes c.loop-i.files (Ok c.loop-i.tables)
    (subst (λ l. Takes g.F.Files c.loop-i.files c.loop-i.files (inputs_step p (map (input_of c.loop-i.tables) (take i ins)) l) (λ t. map (input_of t) ins) (Ok c.loop-i.tables)) (sym (drop_all i all ended_all))
    (settled_ok g.F.Files c.loop-i.files (λ t. map (input_of t) ins) c.loop-i.tables (Ok (map (input_of c.loop-i.tables) (take i ins))) (ap (λ (l : Named). Ok (map (input_of c.loop-i.tables) l)) (take_all i ins ended))))

pub returns-clause-ranges : goal.returns-clause-ranges
returns-clause-ranges g c =
    let ins = all_wanted c.args.wanted.now in
    let i = c.loop-i.i in
    let ended : length ins ≤ i = omega (arith, c.loop-i-test.false, length-map c.args.wanted.now wanted_of) in
    subst (λ (l : Named). AllAreOfProfile c.args.profile.now (map (input_of c.loop-i.tables) l)) (take_all i ins ended) c.loop-i.invariant.so.ranges

pub returns-clause-names : goal.returns-clause-names
returns-clause-names g c =
    let ins = all_wanted c.args.wanted.now in
    let ended : length (keys_of ins) ≤ c.loop-i.i = omega (arith, c.loop-i-test.false, length-map c.args.wanted.now wanted_of, length-keys_of ins) in
    c.loop-i.invariant.so.names ∙ take_all c.loop-i.i (keys_of ins) ended
