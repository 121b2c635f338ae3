use Rattle.std.proofs.Common.{Some, None, refl, sym, ap, ◌∙◌}
use Rattle.vtl_csv.proofs.InputFieldLemmas.{field_refused, field_value}
use Rattle.vtl_csv.proofs.input_fields.push_read.Goals as goal

pub returns-in-Some : goal.returns-in-Some
returns-in-Some c =
    let read = sym c.in-Some.is ∙ c.in_ok-cell.ensures in
    let kind = ap (λ x. x.kind) c.component.ensures in
    let coded = field_value c.args.profile.now c.args.column.now c.args.field.now c.in-Ok.text.now c.component.result.now.kind (Some c.in-Some.cell) c.requires c.in-Ok.ensures.cases.1 c.in-Ok.ensures.cases.0 kind read in
    rw (← coded) c.push_coded.ensures

pub returns-in-None : goal.returns-in-None
returns-in-None c =
    let read = sym c.in-None.is ∙ c.in_ok-cell.ensures in
    let kind = ap (λ x. x.kind) c.component.ensures in
    let bad = field_value c.args.profile.now c.args.column.now c.args.field.now c.in-Ok.text.now c.component.result.now.kind None c.requires c.in-Ok.ensures.cases.1 c.in-Ok.ensures.cases.0 kind read in
    rw (← bad) (refl, refl)

pub returns-in-Err : goal.returns-in-Err
returns-in-Err c = rw (field_refused c.args.profile.now c.args.column.now c.args.field.now c.in-Err.ensures.cases.0) (refl, refl)
