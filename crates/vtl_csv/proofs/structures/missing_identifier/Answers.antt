use Rattle.std.proofs.Common.{arith}
use Rattle.vtl_csv.proofs.DeclarationLemmas.{few_declaring}
use Rattle.vtl_csv.proofs.structures.missing_identifier.Goals as goal

pub without_identifier-requires : goal.without_identifier-requires
without_identifier-requires c =
    let few = few_declaring c.args.text.now c.new-reader.result c.skip_opening.new.reader c.args.version c.new-reader.ensures c.in_ok-skip_opening.ensures in
    omega (arith, few)
