use Rattle.std.proofs.Common.{ap, sym, subst, ◌∙◌}
use Rattle.std.specs.List.{AllByRecursion}
use Rattle.vtl_check.specs.Checked.{nodes_of}
use Rattle.vtl_backend.specs.Inputs.{inputs_of}
use Rattle.vtl_top.specs.InputsRead.{AreReadable, IsListed, all_wanted}
use Rattle.vtl_top.proofs.InputLemmas.{inputs_are, read_listed, readable}
use Rattle.vtl_top.proofs.inputs.read_inputs.Goals as goal

pub read_all_wanted-requires : goal.read_all_wanted-requires
read_all_wanted-requires g c =
    let t = c.args.checked.now in
    subst AreReadable (sym (ap all_wanted c.deref.ensures.value ∙ c.in_ok-wanted.ensures.entries)) (readable (inputs_of t) (inputs_are t.declared (nodes_of t) c.nodes-nodes.ensures.declared))

pub returns-clause-takes : goal.returns-clause-takes
returns-clause-takes g c =
    let t = c.args.checked.now in
    read_listed g.F.Files c.args.files.now c.read_all_wanted.new.files c.args.folder.now c.profile.result.now t.settings t.not_null c.deref.result.now (inputs_of t) c.read_all_wanted.result c.profile.ensures
    (subst (AllByRecursion (IsListed t.not_null)) (sym c.deref.ensures.value) c.in_ok-wanted.ensures.listed) (ap all_wanted c.deref.ensures.value ∙ c.in_ok-wanted.ensures.entries) c.read_all_wanted.ensures.takes
