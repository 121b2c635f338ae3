use Rattle.std.specs.Prelude.{string_bytes}
use Rattle.std.proofs.lemmas.Str.{IsUtf8-string_bytes}
use Rattle.sql_tree.specs.View.{script_tree}
use Rattle.vtl_backend.specs.Inputs.{inputs_of}
use Rattle.vtl_backend.specs.Statements.{statements_of}
use Rattle.sql_back.proofs.TextParts.{printed_is_text, printed_spells}
use Rattle.sql_back.proofs.texts.text_of.Goals as goal

pub returns-clause-text : goal.returns-clause-text
returns-clause-text c =
    printed_is_text c.args.script.now.settings c.args.script.now.not_null (inputs_of c.args.script.now) (statements_of c.args.script.now) (script_tree c.in_ok-translated.translated) c.in_ok-translated.ensures.script c.in_ok-translated.ensures.accepted
    string_bytes IsUtf8-string_bytes c.print.result c.print.ensures.script c.print.ensures.alone

pub returns-clause-script : goal.returns-clause-script
returns-clause-script c =
    printed_spells c.args.script.now.settings c.args.script.now.not_null (inputs_of c.args.script.now) (statements_of c.args.script.now) (script_tree c.in_ok-translated.translated) c.in_ok-translated.ensures.script c.in_ok-translated.ensures.accepted string_bytes IsUtf8-string_bytes c.print.result
    c.print.ensures.script
