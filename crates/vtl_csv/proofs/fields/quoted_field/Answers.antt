use Rattle.std.proofs.Common.{sym}
use Rattle.csv.specs.Records.{fields_of}
use Rattle.csv.proofs.RecordFacts.{field-get, field-there}
use Rattle.vtl_csv.proofs.PointLemmas.{read_there}
use Rattle.vtl_csv.proofs.fields.quoted_field.Goals as goal

pub unreachable-requires : goal.unreachable-requires
unreachable-requires c = field-there (fields_of c.args.row.now) c.args.i c.requires (sym c.in-None.ensures.value)

pub returns : goal.returns
returns c = read_there (fields_of c.args.row.now) c.args.i c.in-Some.field.now c.requires (field-get (fields_of c.args.row.now) c.args.i c.in-Some.field.now (sym c.in-Some.ensures.value))
