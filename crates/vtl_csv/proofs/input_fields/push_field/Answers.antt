use Rattle.std.proofs.Common.{sym, ◌∙◌}
use Rattle.vtl_csv.proofs.InputFieldLemmas.{field_empty}
use Rattle.vtl_csv.proofs.input_fields.push_field.Goals as goal

pub returns-then-is_empty : goal.returns-then-is_empty
returns-then-is_empty c =
    let none = sym c.is_empty.ensures ∙ c.if-is_empty.true in
    rw (← field_empty c.args.profile.now c.args.column.now c.args.field.now none) c.push_empty.ensures
