use Rattle.std.proofs.Common.{◌∙◌, drop, codes, sym, subst}
use Rattle.vtl_lexer.proofs.GapSearchLemmas.{block-found, first-splits, line-found, start-splits, white-found}
use Rattle.std.proofs.lemmas.List.{take_rest}
use Rattle.vtl_lexer.specs.Searches.{EndsFirst}
use Rattle.vtl_lexer.proofs.gaps.gap_len.Goals as goal

pub returns-then-is_white_space : goal.returns-then-is_white_space
returns-then-is_white_space c =
    let text = c.args.text.now in
    white-found text c.in_ok-first.field-0.now (drop 1 text) (first-splits text c.in_ok-first.field-0.now c.in_ok-first.ensures.value) (sym c.is_white_space.ensures ∙ c.if-is_white_space.true)

pub returns-then-starts_with : goal.returns-then-starts_with
returns-then-starts_with c =
    let text = c.args.text.now in
    let e = start-splits text (codes "//") (sym c.starts_with.ensures.value ∙ c.if-starts_with.true) in
    rw c.unwrap_or.ensures (line-found text (drop 2 text) c.place_of_byte.result e c.place_of_byte.ensures)

pub returns-then-starts_with-2 : goal.returns-then-starts_with-2
returns-then-starts_with-2 c =
    let text = c.args.text.now in
    let e = start-splits text (codes "/*") (sym c.starts_with-2.ensures.value ∙ c.if-starts_with-2.true) in
    let place = c.in_ok-place_of_end.field-0 in
    block-found text (drop 2 text) place e (subst (λ l. EndsFirst l place) (take_rest text 2) c.in_ok-place_of_end.ensures)
