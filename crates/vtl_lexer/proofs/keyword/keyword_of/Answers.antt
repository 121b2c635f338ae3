use Rattle.std.proofs.Common.{◌∙◌, sym, chars}
use Rattle.vtl_lexer.proofs.ReservedLemmas.{placed, placed-below, unplaced}
use Rattle.vtl_lexer.proofs.keyword.keyword_of.Goals as goal

pub returns-in_err-reserved_place : goal.returns-in_err-reserved_place
returns-in_err-reserved_place c =
    let none = unplaced (chars c.args.word.now) (sym c.reserved_place.ensures ∙ c.in_err-reserved_place.was) in
    rw c.from_residual.ensures none

pub bounds-branch-branch : goal.bounds-branch-branch
bounds-branch-branch c = placed-below (chars c.args.word.now) c.in_ok-reserved_place.field-0 (sym c.reserved_place.ensures ∙ c.in_ok-reserved_place.was)

pub returns : goal.returns
returns c = placed (chars c.args.word.now) c.in_ok-reserved_place.field-0 _ (sym c.reserved_place.ensures ∙ c.in_ok-reserved_place.was)
