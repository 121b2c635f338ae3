use Rattle.std.proofs.Common.{◌≡◌, ◌∙◌, Some, ap, length, refl, slice_get, subst, sym}
use Rattle.std.proofs.lemmas.Option.{slice_get_read}
use Rattle.vtl_backend.specs.Inputs.{AreInRange, AreInputs}
use Rattle.vtl_backend.specs.Runs.{script_meaning}
use Rattle.vtl_rerun.specs.Operands.{given_all}
use Rattle.vtl_rerun.specs.Told.{GivesOne}
use Rattle.vtl_rerun.proofs.Ready.{numbered, one_output, own_inputs, own_range, own_tells, placed}
use Rattle.vtl_rerun.proofs.runs.run_part.Goals as goal

pub statement-requires : goal.statement-requires
statement-requires g c =
    let x = c.index-parts-place.result in
    let at : slice_get c.args.parts.now c.args.place ≡ Some c.index-parts-place.result = slice_get_read c.args.parts.now (length c.args.parts.now) c.args.place x refl c.requires.within c.index-parts-place.is in
    numbered c.args.script.now c.args.place x (placed c.args.script.now c.args.place c.args.parts.now x c.requires.running.are_parts.each at)

pub only_output-requires-clause-inputs : goal.only_output-requires-clause-inputs
only_output-requires-clause-inputs g c =
    let x = c.index-parts-place.result in
    let at : slice_get c.args.parts.now c.args.place ≡ Some c.index-parts-place.result = slice_get_read c.args.parts.now (length c.args.parts.now) c.args.place x refl c.requires.within c.index-parts-place.is in
    let made = c.in_ok-own.ensures in
    subst (AreInputs c.in_ok-own.own) (sym (c.in_ok-tables.ensures ∙ ap (given_all c.args.inputs.now c.args.results.now) c.deref.ensures.value))
    (own_inputs c.args.script.now c.in_ok-own.own c.args.parts.now c.args.inputs.now c.args.results.now c.args.place x c.requires.running c.requires.before at made.part made.typed made.structures)

pub only_output-requires-clause-ranges : goal.only_output-requires-clause-ranges
only_output-requires-clause-ranges g c =
    let x = c.index-parts-place.result in
    let at : slice_get c.args.parts.now c.args.place ≡ Some c.index-parts-place.result = slice_get_read c.args.parts.now (length c.args.parts.now) c.args.place x refl c.requires.within c.index-parts-place.is in
    let made = c.in_ok-own.ensures in
    subst (AreInRange c.in_ok-own.own) (sym (c.in_ok-tables.ensures ∙ ap (given_all c.args.inputs.now c.args.results.now) c.deref.ensures.value))
    (own_range c.args.script.now c.in_ok-own.own c.args.parts.now c.args.inputs.now c.args.results.now c.args.place x c.requires.running c.requires.before at made.part made.typed made.structures)

pub only_output-requires-clause-one : goal.only_output-requires-clause-one
only_output-requires-clause-one g c =
    let x = c.index-parts-place.result in
    let at : slice_get c.args.parts.now c.args.place ≡ Some c.index-parts-place.result = slice_get_read c.args.parts.now (length c.args.parts.now) c.args.place x refl c.requires.within c.index-parts-place.is in
    let made = c.in_ok-own.ensures in
    one_output c.args.script.now c.in_ok-own.own c.args.parts.now c.args.inputs.now c.args.results.now c.args.place x c.requires.running c.requires.before at made.part made.typed made.structures

pub returns-clause-told : goal.returns-clause-told
returns-clause-told g c =
    let x = c.index-parts-place.result in
    let at : slice_get c.args.parts.now c.args.place ≡ Some c.index-parts-place.result = slice_get_read c.args.parts.now (length c.args.parts.now) c.args.place x refl c.requires.within c.index-parts-place.is in
    let made = c.in_ok-own.ensures in
    own_tells c.args.script.now c.in_ok-own.own c.args.parts.now c.args.inputs.now c.args.results.now c.args.place x c.requires.running c.requires.before at made.part made.typed made.structures c.only_output.result
    (subst (λ l. GivesOne (script_meaning c.in_ok-own.own l) c.only_output.result) (c.in_ok-tables.ensures ∙ ap (given_all c.args.inputs.now c.args.results.now) c.deref.ensures.value) c.only_output.ensures.output)
