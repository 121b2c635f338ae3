use Rattle.std.proofs.Common.{refl, sym, ◌∙◌}
use Rattle.vtl_csv.proofs.InputFieldLemmas.{field_lost}
use Rattle.vtl_csv.proofs.input_fields.push_text.Goals as goal

pub returns-in-None : goal.returns-in-None
returns-in-None c p =
    let found = sym c.in-None.is ∙ c.in_ok-text.ensures in
    rw (← field_lost p c.args.column.now c.args.field.now found) (refl, refl)
