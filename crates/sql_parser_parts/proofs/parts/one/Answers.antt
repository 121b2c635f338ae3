use Rattle.std.proofs.Common.{◌≡◌, ◌∙◌, sym, refl, [], ◌∷◌}
use Rattle.sql_parser_parts.proofs.Tables.{one-is}
use Rattle.sql_parser_parts.proofs.parts.one.Goals as goal

pub returns-in-Some-Int-default : goal.returns-in-Some-Int-default
returns-in-Some-Int-default c =
    let digits : c.in-Some-Int-default.digits ≡ 49 ∷ [] = one-is c.in-Some-Int-default.digits c.as_str.result.now c.as_str.ensures.bytes (sym c.if-eq.true ∙ c.eq.ensures) in
    rw (c.in-Some-Int-default.ensures, c.in-Some-Int-default.field-0-0-is, digits) refl
