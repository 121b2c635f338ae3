use Rattle.std.proofs.Common.{arith, ◌∷◌, [], ◌∙◌, ap}
use Rattle.std.proofs.lemmas.Grind.{common_steps}
use Rattle.std.specs.List.{filter}
use Rattle.std.proofs.lemmas.List.{take_all}
use Rattle.vtl_tree.specs.Choices.{is_chosen}
use Rattle.vtl_tree.specs.declared.choices.Choice.TheVariants as choice
use Rattle.vtl_rules.proofs.items.other_identifiers.Goals as goal

pub loop-component-preserved : goal.loop-component-preserved
loop-component-preserved c = grind (arith, common_steps)

pub returns : goal.returns
returns c =
    c.loop-component.invariant ∙ ap (filter (is_chosen choice.Except (c.args.id.now ∷ []))) (take_all c.loop-component.component-index c.as_slice-component-items.result.now c.loop-component-test.false ∙ c.as_slice-component-items.ensures)
