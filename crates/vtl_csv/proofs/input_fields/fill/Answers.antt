use Rattle.std.specs.List.{zip}
use Rattle.std.proofs.Common.{None, Some}
use Rattle.vtl_csv.specs.InputFields.{field_cell}
use Rattle.vtl_csv.specs.InputSteps.{Goes}
use Rattle.vtl_csv.proofs.InputFieldLemmas.{filled_all, filled_more, filled_none, filled_stops}
use Rattle.vtl_csv.proofs.input_fields.fill.Goals as goal

pub loop-i-init : goal.loop-i-init
loop-i-init c = filled_none c.args.profile.now (zip c.args.columns.now c.args.fields.now) c.args.cells.now.items

pub returns-in-Some : goal.returns-in-Some
returns-in-Some c =
    let p = c.args.profile.now in
    let x = c.index-columns-i.result in
    let y = c.field-field.result.now in
    let after = c.push_field.new.cells.items in
    let goes : Goes c.loop-i.cells.items after (Some c.in-Some.kind) (field_cell p x y) = rw (← c.in-Some.is) c.in_ok-kind.ensures in
    filled_stops p c.args.columns.now c.args.fields.now c.loop-i.i c.args.cells.now.items c.loop-i.cells.items c.requires.fields c.loop-i.invariant x y c.loop-i-test.true c.index-columns-i.is c.field-field.ensures after c.in-Some.kind goes

pub loop-i-preserved : goal.loop-i-preserved
loop-i-preserved c =
    let p = c.args.profile.now in
    let x = c.index-columns-i.result in
    let y = c.field-field.result.now in
    let after = c.push_field.new.cells.items in
    let goes : Goes c.loop-i.cells.items after None (field_cell p x y) = rw (← c.in_default.is) c.in_ok-kind.ensures in
    filled_more p c.args.columns.now c.args.fields.now c.loop-i.i c.args.cells.now.items c.loop-i.cells.items c.requires.fields c.loop-i.invariant x y c.loop-i-test.true c.index-columns-i.is c.field-field.ensures after goes

pub returns : goal.returns
returns c = filled_all c.args.profile.now c.args.columns.now c.args.fields.now c.loop-i.i c.args.cells.now.items c.loop-i.cells.items c.requires.fields c.loop-i.invariant c.loop-i-test.false
