use Rattle.std.proofs.Common.{◌≡◌, ◌+◌, ◌∙◌, chars, refl, take, drop, arith, subst, ap}
use Rattle.std.proofs.lemmas.Grind.{common_steps}
use Rattle.std.specs.Char.{is_ascii_digit}
use Rattle.vtl_lexer.specs.Found.{HasNoFraction, IsFractionOf}
use Rattle.vtl_lexer.proofs.NumberLemmas.{decimal-cut, decimal-token, digits-cut, integer-token}
use Rattle.vtl_lexer.proofs.SearchLemmas.{run-of_text}
use Rattle.vtl_lexer.proofs.numbers.number.Goals as goal

pub split_at-requires : goal.split_at-requires
split_at-requires c =
    (run-of_text is_ascii_digit c.as_bytes-bytes.result.now _ c.digits_len-whole.result c.digits_len-whole.ensures refl).within

pub range-requires-clause-end_boundary : goal.range-requires-clause-end_boundary
range-requires-clause-end_boundary c =
    let run = run-of_text is_ascii_digit c.args.text.now _ c.digits_len-whole.result c.digits_len-whole.ensures c.as_bytes-bytes.ensures.value in
    digits-cut c.args.text.now c.digits_len-whole.result c.utf8.text c.requires run

pub range-requires-in-Some-clause-end_boundary : goal.range-requires-in-Some-clause-end_boundary
range-requires-in-Some-clause-end_boundary c =
    let size = c.digits_len-whole.result in
    let run = run-of_text is_ascii_digit c.args.text.now _ size c.digits_len-whole.ensures c.as_bytes-bytes.ensures.value in
    let behind = c.split_at.ensures.back ∙ ap (drop size) c.as_bytes-bytes.ensures.value in
    decimal-cut c.args.text.now size c.in-Some.fraction c.requires run (subst (λ l. IsFractionOf l c.in-Some.fraction) behind c.in-Some.ensures) c.utf8.text

pub returns-in_ok-new-in-None : goal.returns-in_ok-new-in-None
returns-in_ok-new-in-None c =
    let size = c.digits_len-whole.result in
    let run = run-of_text is_ascii_digit c.args.text.now _ size c.digits_len-whole.ensures c.as_bytes-bytes.ensures.value in
    let behind = c.split_at.ensures.back ∙ ap (drop size) c.as_bytes-bytes.ensures.value in
    let front : c.range.result.now ≡ take size c.args.text.now = grind (arith, common_steps) in
    integer-token c.args.text.now c.in_ok-new-in-None.field-0 size c.requires run (subst HasNoFraction behind c.in-None.ensures) (c.in_ok-new-in-None.ensures ∙ ap chars front)

pub returns-in_ok-new-in-Some : goal.returns-in_ok-new-in-Some
returns-in_ok-new-in-Some c =
    let size = c.digits_len-whole.result in
    let run = run-of_text is_ascii_digit c.args.text.now _ size c.digits_len-whole.ensures c.as_bytes-bytes.ensures.value in
    let behind = c.split_at.ensures.back ∙ ap (drop size) c.as_bytes-bytes.ensures.value in
    let front : c.range-in-Some.result.now ≡ take (size + c.in-Some.fraction) c.args.text.now = grind (arith, common_steps) in
    decimal-token c.args.text.now size c.in-Some.fraction c.requires run (subst (λ l. IsFractionOf l c.in-Some.fraction) behind c.in-Some.ensures)
    c.in_ok-new-in-Some.field-0 (c.in_ok-new-in-Some.ensures ∙ ap chars front)
