use Rattle.std.proofs.Common.{◌++◌, ◌∙◌, ap, append-nil, string_bytes, sym}
use Rattle.std.proofs.lemmas.Result.{IfOk-weaker}
use Rattle.vtl_lists.proofs.Filters.{nothing_left}
use Rattle.vtl_format.specs.Form.{lexemes_at}
use Rattle.vtl_format.specs.Layout.{gap_behind, gap_text}
use Rattle.vtl_format.proofs.layout.write_gap_behind.Goals as goal

pub returns-in-Some : goal.returns-in-Some
returns-in-Some c =
    let old = string_bytes c.args.out.now in
    IfOk-weaker c.write_gap.result _ _
    (λ done is. λ text. is ∙ ap (λ g. old ++ gap_text g) c.gap_between.ensures ∙ ap (λ l. old ++ gap_behind c.args.style c.args.depth c.args.kind.now (lexemes_at text l)) (sym c.in-Some.ensures.cases.0)) c.write_gap.ensures

pub returns-in-None : goal.returns-in-None
returns-in-None c =
    let old = string_bytes c.args.out.now in
    λ text. sym (append-nil old) ∙ ap (λ l. old ++ gap_behind c.args.style c.args.depth c.args.kind.now (lexemes_at text l)) (sym (nothing_left c.args.rest.now c.in-None.ensures.cases))
