use Rattle.std.proofs.Common.{ap, inl, inr, sym, ◌∙◌}
use Rattle.std.specs.List.{flat_map}
use Rattle.vtl_syntax.specs.declared.word_groups.HierInput.{HierInput}
use Rattle.vtl_tree.specs.RuleItems.{right_items}
use Rattle.vtl_tree.specs.Shown.{shown}
use Rattle.vtl_tree.specs.Structure.{same_name}
use Rattle.vtl_tuples.specs.Keys.{each_once}
use Rattle.hierarchies_to_sql.specs.ComputedTables.{given_items}
use Rattle.hierarchies_to_sql.proofs.KnownNames.{all_given, each_given}
use Rattle.hierarchies_to_sql.proofs.computed.given_items.Goals as goal

pub returns-in-Dataset : goal.returns-in-Dataset
returns-in-Dataset c =
    let rules = shown c.args.rules.now in
    let all = each_once same_name (flat_map right_items rules) in
    let once = c.in_ok-items.ensures ∙ ap (each_once same_name) (c.deref.ensures.value ∙ c.in_ok-all.ensures) in
    elim c.in-Dataset.is [
      | inl e ↦ once ∙ sym (all_given rules all) ∙ ap (λ (i : HierInput). given_items i rules) (sym e)
      | inr e ↦ once ∙ sym (each_given rules all) ∙ ap (λ (i : HierInput). given_items i rules) (sym e)
    ]
