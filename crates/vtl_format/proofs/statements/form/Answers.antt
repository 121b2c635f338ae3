use Rattle.std.proofs.Common.{◌≡◌, ◌∙◌, List, ap, subst, sym}
use Rattle.std.specs.List.{AllByRecursion}
use Rattle.std.proofs.lemmas.Result.{IfOk-weaker}
use Rattle.vtl_lexer.specs.Pieces.{IsCutAt, pieces_of}
use Rattle.vtl_lexer.specs.declared.parts.Part.{Part}
use Rattle.vtl_lexer.proofs.PieceLemmas.{parts-cut}
use Rattle.vtl_format.specs.Form.{form_of_pieces}
use Rattle.vtl_format.proofs.statements.form.Goals as goal

pub form_of-requires : goal.form_of-requires
form_of-requires c =
    let parted = c.in_ok-parts.field-0 in
    let same : c.into_vec.result.items ≡ parted.parts = cc (c.into_vec.ensures, c.in_ok-parts.parts-is) in
    subst (λ (l : List Part). AllByRecursion (IsCutAt c.args.text.now) l) (sym same) (parts-cut c.args.text.now parted.parts parted.bad c.utf8.text c.in_ok-parts.ensures)

pub returns : goal.returns
returns c =
    let parted = c.in_ok-parts.field-0 in
    let same : c.into_vec.result.items ≡ parted.parts = cc (c.into_vec.ensures, c.in_ok-parts.parts-is) in
    IfOk-weaker c.form_of.result _ _ (λ out is. (parted.parts, parted.bad, c.in_ok-parts.ensures, is ∙ ap (λ (l : List Part). form_of_pieces (pieces_of c.args.text.now l)) same)) c.form_of.ensures
