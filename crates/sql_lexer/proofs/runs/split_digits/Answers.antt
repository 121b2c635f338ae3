use Rattle.std.proofs.Common.{◌∙◌, ap}
use Rattle.std.specs.List.{prefix_len}
use Rattle.std.specs.Char.{is_ascii_digit}
use Rattle.sql_lexer.proofs.RunParts.{digit-ascii, run-at, run-within}
use Rattle.sql_lexer.proofs.runs.split_digits.Goals as goal

pub split_at-requires : goal.split_at-requires
split_at-requires c = run-within is_ascii_digit digit-ascii c.args.text.now c.digits_len.result c.utf8.text (c.digits_len.ensures ∙ ap (prefix_len is_ascii_digit) c.as_bytes.ensures.value)

pub returns : goal.returns
returns c =
    run-at is_ascii_digit digit-ascii c.args.text.now c.split_at.result.0.now c.split_at.result.1.now c.digits_len.result c.utf8.text (c.digits_len.ensures ∙ ap (prefix_len is_ascii_digit) c.as_bytes.ensures.value) c.split_at.ensures.front c.split_at.ensures.back
