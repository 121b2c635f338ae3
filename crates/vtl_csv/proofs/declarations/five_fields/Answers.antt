use Rattle.std.proofs.Common.{arith}
use Rattle.vtl_csv.proofs.DeclarationLemmas.{five_there}
use Rattle.vtl_csv.proofs.declarations.five_fields.Goals as goal

pub returns : goal.returns
returns c =
    five_there c.args.fields.now c.field.result.now c.field-2.result.now c.field-3.result.now c.field-4.result.now c.field-5.result.now
    (omega arith) c.field.ensures c.field-2.ensures c.field-3.ensures c.field-4.ensures c.field-5.ensures
