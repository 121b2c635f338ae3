use Rattle.std.proofs.Common.{◌≡◌, drop, arith}
use Rattle.vtl_csv.specs.Opening.{headers_of}
use Rattle.vtl_csv.proofs.DeclarationLemmas.{few_declaring, of_ok}
use Rattle.vtl_csv.proofs.structures.add_lines.Goals as goal

pub add_records-requires : goal.add_records-requires
add_records-requires c =
    let rest = of_ok (λ o. c.read_opening.new.reader ≡ drop (headers_of o.version) c.new-reader.result) c.in_ok-opening.field-0 c.in-Ok.opening c.in-Ok.is c.in_ok-opening.ensures.rest in
    let few = few_declaring c.args.text.now c.new-reader.result c.read_opening.new.reader c.in-Ok.opening.version c.new-reader.ensures rest in
    omega (arith, few)
