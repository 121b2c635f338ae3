use Rattle.std.proofs.Common.{ap, sym, subst, ◌∙◌}
use Rattle.std.specs.Option.{option_map}
use Rattle.vtl_top.specs.Answered.{EndsAs}
use Rattle.vtl_top.specs.Kinds.{told_by}
use Rattle.vtl_top.specs.RunView.{command_view}
use Rattle.vtl_top.specs.Informed.{Informs}
use Rattle.vtl_top.proofs.top.answer.Goals as goal

pub returns-in-Some-clause-ends : goal.returns-in-Some-clause-ends
returns-in-Some-clause-ends g c =
    subst (λ command. EndsAs g.F.Files g.O.Sink c.args.files.now c.carry_out.new.files c.args.out.now c.carry_out.new.out command c.carry_out.result (told_by c.carry_out.result))
    (sym (ap (option_map command_view) c.in-Some.is) ∙ c.command_of.ensures) c.carry_out.ensures.ends

pub returns-in-Some-clause-told : goal.returns-in-Some-clause-told
returns-in-Some-clause-told g c =
    subst (λ command. Informs g.F.Files c.args.files.now g.B.Backend.told c.args.back.now c.carry_out.new.back command c.carry_out.result)
    (sym (ap (option_map command_view) c.in-Some.is) ∙ c.command_of.ensures) c.carry_out.ensures.told
