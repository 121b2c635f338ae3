use Rattle.std.proofs.Common.{◌≡◌, ap, sym, ◌∙◌}
use Rattle.std.specs.List.{list_all}
use Rattle.vtl_tree.specs.View.{comp_exp_of}
use Rattle.check_rules.specs.Calls.{sees_names}
use Rattle.check_rules.proofs.Columns.{call_sees}
use Rattle.check_rules.proofs.conditions.+seeing.Goals as goal

pub sees_names-returns-in-Apply : goal.sees_names-returns-in-Apply
sees_names-returns-in-Apply t c =
    c.all_see_names.ensures ∙ ap (list_all (λ e. sees_names (comp_exp_of e))) c.deref.ensures.value ∙ sym (call_sees c.args.e.now c.in-Apply.op c.in-Apply.kind c.in-Apply.args c.in-Apply.is)
