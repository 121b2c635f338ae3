use Rattle.std.proofs.Common.{◌∙◌, sym}
use Rattle.vtl_lexer.proofs.SignLemmas.{comment-none, one-found, sign-none, two-found}
use Rattle.vtl_lexer.proofs.signs.sign.Goals as goal

pub returns-in-Some : goal.returns-in-Some
returns-in-Some c =
    two-found c.args.text.now c.in_ok-first.field-0.now c.byte_or_space-second.result c.in-Some.sign c.requires c.in_ok-first.ensures.value c.byte_or_space-second.ensures
    (sym c.sign_of_two.ensures ∙ c.in-Some.is)

pub returns-then-begins_comment : goal.returns-then-begins_comment
returns-then-begins_comment c =
    comment-none c.args.text.now c.in_ok-first.field-0.now c.byte_or_space-second.result c.in_ok-first.ensures.value c.byte_or_space-second.ensures
    (sym c.begins_comment.ensures ∙ c.if-begins_comment.true)

pub returns-in_err-sign_of_one : goal.returns-in_err-sign_of_one
returns-in_err-sign_of_one c =
    let none = sign-none c.args.text.now c.in_ok-first.field-0.now c.byte_or_space-second.result c.requires c.in_ok-first.ensures.value c.byte_or_space-second.ensures
    (sym c.sign_of_two.ensures ∙ c.in_default.is) (sym c.sign_of_one.ensures ∙ c.in_err-sign_of_one.was) in
    rw c.from_residual-in_err-sign_of_one.ensures none

pub returns : goal.returns
returns c =
    one-found c.args.text.now c.in_ok-first.field-0.now c.byte_or_space-second.result c.in_ok-sign_of_one.field-0 c.requires c.in_ok-first.ensures.value c.byte_or_space-second.ensures
    (sym c.sign_of_two.ensures ∙ c.in_default.is) (sym c.begins_comment.ensures ∙ c.if-begins_comment.false) (sym c.sign_of_one.ensures ∙ c.in_ok-sign_of_one.was)
