use Rattle.std.proofs.Common.{◌∙◌, ap}
use Rattle.std.specs.List.{prefix_len}
use Rattle.sql_lexer.specs.Lexed.{is_white_space}
use Rattle.sql_lexer.proofs.RunParts.{white-ascii, run-at, run-within}
use Rattle.sql_lexer.proofs.runs.split_white_space.Goals as goal

pub split_at-requires : goal.split_at-requires
split_at-requires c = run-within is_white_space white-ascii c.args.text.now c.white_space_len.result c.utf8.text (c.white_space_len.ensures ∙ ap (prefix_len is_white_space) c.as_bytes.ensures.value)

pub returns : goal.returns
returns c =
    run-at is_white_space white-ascii c.args.text.now c.split_at.result.0.now c.split_at.result.1.now c.white_space_len.result c.utf8.text (c.white_space_len.ensures ∙ ap (prefix_len is_white_space) c.as_bytes.ensures.value) c.split_at.ensures.front c.split_at.ensures.back
