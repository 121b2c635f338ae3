use Rattle.std.proofs.Common.{◌∙◌, chars, length, sym}
use Rattle.sql_lexer.specs.Spelling.{fits_name, has_no_control}
use Rattle.sql_lexer.proofs.NameParts.{both_pass, name-is, one_fails}
use Rattle.sql_lexer.proofs.names.is_name.Goals as goal

pub returns-then-fits_name : goal.returns-then-fits_name
returns-then-fits_name c =
    let text = c.args.text.now in
    both_pass (fits_name (length text)) (has_no_control (chars text)) c.has_no_control.result (sym c.fits_name.ensures ∙ c.if-fits_name.true) c.has_no_control.ensures ∙ sym (name-is text c.utf8.text)

pub returns-else-fits_name : goal.returns-else-fits_name
returns-else-fits_name c =
    let text = c.args.text.now in
    one_fails (fits_name (length text)) (has_no_control (chars text)) c.fits_name.result c.fits_name.ensures c.if-fits_name.false ∙ sym (name-is text c.utf8.text)
