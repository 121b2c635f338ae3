use Rattle.std.proofs.Common.{◌∷◌, ◌∙◌, map, ap, sym}
use Rattle.std.proofs.lemmas.List.{take_all}
use Rattle.vtl_syntax.specs.declared.parts.SignedComp.{SignedComp}
use Rattle.vtl_tree.specs.Names.{name_of}
use Rattle.vtl_tree.specs.RuleItems.{signed_item}
use Rattle.vtl_tuples.proofs.Lists.{map-map}
use Rattle.vtl_rules.specs.Itemized.{Sourced, source_of}
use Rattle.vtl_rules.proofs.items.right_sources.Goals as goal

pub returns : goal.returns
returns c =
    let i = c.args.input in
    let made = c.args.made.now in
    let f : SignedComp → Sourced = λ o. source_of i made (signed_item o) in
    c.loop-other.invariant
    ∙ ap (λ l. source_of i made (name_of c.args.rule.now.first) ∷ l)
    (ap (map f) (take_all c.loop-other.other-index c.as_slice-other-items.result.now c.loop-other-test.false ∙ c.as_slice-other-items.ensures) ∙ sym (map-map (source_of i made) signed_item c.args.rule.now.others))
