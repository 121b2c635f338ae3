use Rattle.std.proofs.Common.{◌≡◌, Some, Ok, refl, sym, rules}
use Rattle.vtl_cell.specs.declared.cell.Cell.TheVariants.{Int}
use Rattle.vtl_cell.specs.declared.kind.Kind.TheVariants as k
use Rattle.vtl_csv.specs.InputFields.{field_cell}
use Rattle.vtl_csv.proofs.InputFieldLemmas.{field_value}
use Rattle.vtl_csv.proofs.input_fields.push_integer.Goals as goal

pub returns-in-Some : goal.returns-in-Some
returns-in-Some c =
    let p = c.args.profile.now in
    let x = c.args.column.now in
    let f = c.args.field.now in
    let taken : Ok (Int c.in-Some.n) ≡ field_cell p x f = field_value p x f f k.Int (Some (Int c.in-Some.n)) c.requires.some c.in-Some.ensures.utf8 refl (sym c.requires.integers) (sym c.in-Some.ensures.read) in
    rw (← taken) (search (rules, c.push_cell.ensures))
