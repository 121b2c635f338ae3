use Rattle.std.proofs.Common.{◌∙◌, ap, sym}
use Rattle.std.specs.Option.{option_copied}
use Rattle.vtl_top.proofs.InputLemmas.{named_is_structure, named_not_missing, named_structure, named_wanted}
use Rattle.vtl_top.proofs.inputs.wanted_named.Goals as goal

pub unreachable-requires : goal.unreachable-requires
unreachable-requires c = named_not_missing c.args.checked.now c.args.name.now c.requires (ap option_copied (sym c.in-None.is) ∙ c.structure.ensures)

pub returns-clause-wanted : goal.returns-clause-wanted
returns-clause-wanted c =
    named_wanted c.args.checked.now c.args.name.now c.requires c.in-Some.structure.now (ap option_copied (sym c.in-Some.is) ∙ c.structure.ensures) c.not_null.result.now c.not_null.ensures

pub returns-clause-found : goal.returns-clause-found
returns-clause-found c = named_structure c.args.checked.now c.args.name.now c.requires c.in-Some.structure.now (ap option_copied (sym c.in-Some.is) ∙ c.structure.ensures)

pub returns-clause-structure : goal.returns-clause-structure
returns-clause-structure c =
    named_is_structure c.args.checked.now c.args.name.now c.requires c.in-Some.structure.now (ap option_copied (sym c.in-Some.is) ∙ c.structure.ensures) c.nodes-nodes.ensures.declared
