use Rattle.std.proofs.Common.{length, map, refl, arith}
use Rattle.sql_parser_parts.specs.Answers.{kinds}
use Rattle.sql_parser.specs.Parts.{setting_view}
use Rattle.sql_tree.specs.View.{statement_tree}
use Rattle.sql_parser.proofs.Told.{script-read}
use Rattle.sql_parser_parts.proofs.Turns.{kinds-length}
use Rattle.sql_parser.proofs.scripts.script.Goals as goal

pub returns : goal.returns
returns c =
    let setting = c.in_ok-setting.setting in
    let found = c.in_ok-statements.statements in
    rw c.of.ensures (script-read (length (kinds c.args.tokens.now)) c.saturating_sub-most.result (kinds c.args.tokens.now) (kinds setting.rest.now) (setting_view setting.part) (map statement_tree found.part.items) (kinds found.rest.now) (omega (arith, kinds-length c.args.tokens.now)) refl c.in_ok-setting.ensures c.in_ok-statements.ensures)
