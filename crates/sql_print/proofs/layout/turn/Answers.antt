use Rattle.std.proofs.Common.{◌+◌, ◌++◌, ◌∙◌, chars, ap, string_bytes, arith}
use Rattle.std.proofs.lemmas.Str.{IsUtf8-string_bytes, chars-append}
use Rattle.sql_lexer.specs.Spelling.{spelled}
use Rattle.sql_print.proofs.GapLaws.{token-more}
use Rattle.sql_print.proofs.layout.turn.Goals as goal

pub returns : goal.returns
returns c =
    let old = string_bytes c.args.out.now in
    let pushed = ap chars c.in_ok-push_str.ensures.bytes ∙ chars-append old c.text.result.now (IsUtf8-string_bytes c.args.out.now) ∙ ap (λ l. chars old ++ l) c.text.ensures in
    let kind = c.index-tokens-i.result in
    let fits = rw c.split_at.ensures.front at c.gap_behind-gap.ensures in
    token-more c.args.tokens.now c.args.i (c.args.i + 1) kind c.gap_behind-gap.result (chars old) (chars (string_bytes c.write_token.new.out)) c.requires (omega arith) c.index-tokens-i.is fits (c.in_ok-write_token.ensures ∙ ap (λ l. l ++ spelled kind) pushed)
