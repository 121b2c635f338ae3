use Rattle.std.proofs.Common.{◌++◌, ◌∷◌, [], append-nil, ap, sym, ◌∙◌}
use Rattle.std.specs.Option.{option_copied}
use Rattle.std.proofs.lemmas.List.{map-append}
use Rattle.vtl_lineage.specs.Shown.{shown_link, shown_links}
use Rattle.vtl_lineage.proofs.Numbering.{none_numbered, one_numbered}
use Rattle.vtl_lineage.proofs.statements.push_numbered.Goals as goal

pub returns-in_ok-push-in-Some : goal.returns-in_ok-push-in-Some
returns-in_ok-push-in-Some c =
    let before = c.args.links.now.items in
    let there = sym (ap option_copied c.in-Some.is) ∙ c.pair_at.ensures in
    ap shown_links c.in_ok-push-in-Some.ensures.items
    ∙ map-append shown_link before (c.in_ok-link-in-Some.field-0 ∷ [])
    ∙ ap (λ l. shown_links before ++ l ∷ []) c.in_ok-link-in-Some.ensures
    ∙ ap (λ l. shown_links before ++ l) (sym (one_numbered c.args.pairs.now c.args.output.now c.args.component.now c.args.number c.in-Some.pair.now there))

pub returns-in-None : goal.returns-in-None
returns-in-None c =
    let before = shown_links c.args.links.now.items in
    let nowhere = sym (ap option_copied c.in-None.is) ∙ c.pair_at.ensures in
    sym (append-nil before) ∙ ap (λ l. before ++ l) (sym (none_numbered c.args.pairs.now c.args.output.now c.args.component.now c.args.number nowhere))
