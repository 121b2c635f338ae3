use Rattle.std.proofs.Common.{Some, chars, sym, ap, subst, ◌∙◌}
use Rattle.std.specs.Prelude.{IsUtf8}
use Rattle.std.proofs.lemmas.Slice.Eq.{bytes_eq-Decides}
use Rattle.vtl_csv.proofs.DeclarationLemmas.{text_taken}
use Rattle.vtl_csv.proofs.text_pool.TextPool.held.Goals as goal

pub returns-in-Some-Some : goal.returns-in-Some-Some
returns-in-Some-Some c =
    let f = c.args.field.now in
    let tested = sym c.eq.ensures ∙ c.if-eq.true in
    let same = (bytes_eq-Decides c.as_bytes.result.now f).0 tested in
    let text = sym c.as_str.ensures.characters ∙ ap chars (sym c.as_bytes.ensures.value ∙ same) in
    ap Some text ∙ sym (text_taken f (subst IsUtf8 same c.as_bytes.ensures.utf8))
