use Rattle.std.proofs.Common.{map, ap, sym, subst, ◌∙◌}
use Rattle.sql_tree.specs.View.{script_tree, statement_tree}
use Rattle.vtl_top.specs.InputsRead.{AreReadable, all_wanted, as_wanted}
use Rattle.vtl_top.specs.SqlInputs.{input_structures, inputs_wanted, wanted_by}
use Rattle.vtl_top.specs.Wanted.{entry_wanted}
use Rattle.vtl_top.proofs.InputLemmas.{entries_wanted, read_in}
use Rattle.vtl_top.proofs.SqlReadable.{all_by_name, all_have_tables, all_in_range, script_readable, structures_wanted}
use Rattle.vtl_top.proofs.sql_inputs.read_sql_inputs.Goals as goal

pub read_all_wanted-requires : goal.read_all_wanted-requires
read_all_wanted-requires g c =
    let s = c.script.result.now in
    let all = ap (map as_wanted) c.deref-2.ensures.value ∙ c.in_ok-wanted.ensures ∙ ap (map wanted_by) c.deref.ensures.value ∙ c.in_ok-inputs.ensures ∙ ap (λ ss. inputs_wanted (map statement_tree ss)) c.as_slice.ensures in
    let same = entries_wanted c.deref-2.result.now ∙ ap (map entry_wanted) all ∙ structures_wanted (script_tree s) in
    subst AreReadable (sym same) (script_readable s c.script.ensures.formed c.script.ensures.typed)

pub returns-clause-rows : goal.returns-clause-rows
returns-clause-rows g c =
    let s = c.script.result.now in
    let all = ap (map as_wanted) c.deref-2.ensures.value ∙ c.in_ok-wanted.ensures ∙ ap (map wanted_by) c.deref.ensures.value ∙ c.in_ok-inputs.ensures ∙ ap (λ ss. inputs_wanted (map statement_tree ss)) c.as_slice.ensures in
    let same = entries_wanted c.deref-2.result.now ∙ ap (map entry_wanted) all ∙ structures_wanted (script_tree s) in
    let are = subst AreReadable (sym same) (script_readable s c.script.ensures.formed c.script.ensures.typed) in
    all_by_name (script_tree c.args.checked.now.script) (all_wanted c.deref-2.result.now) (same ∙ ap (λ x. input_structures (script_tree x)) c.script.ensures.script) c.read_all_wanted.result are.distinct c.read_all_wanted.ensures.names

pub returns-clause-tables : goal.returns-clause-tables
returns-clause-tables g c =
    let s = c.args.checked.now.script in
    let all = ap (map as_wanted) c.deref-2.ensures.value ∙ c.in_ok-wanted.ensures ∙ ap (map wanted_by) c.deref.ensures.value ∙ c.in_ok-inputs.ensures ∙ ap (λ ss. inputs_wanted (map statement_tree ss)) (c.as_slice.ensures ∙ ap (λ x. x.statements) c.script.ensures.script) in
    let same = entries_wanted c.deref-2.result.now ∙ ap (map entry_wanted) all ∙ structures_wanted (script_tree s) in
    all_have_tables (script_tree s) (all_wanted c.deref-2.result.now) same c.read_all_wanted.result c.read_all_wanted.ensures.inputs

pub returns-clause-ranges : goal.returns-clause-ranges
returns-clause-ranges g c =
    let s = c.args.checked.now.script in
    let all = ap (map as_wanted) c.deref-2.ensures.value ∙ c.in_ok-wanted.ensures ∙ ap (map wanted_by) c.deref.ensures.value ∙ c.in_ok-inputs.ensures ∙ ap (λ ss. inputs_wanted (map statement_tree ss)) (c.as_slice.ensures ∙ ap (λ x. x.statements) c.script.ensures.script) in
    let same = entries_wanted c.deref-2.result.now ∙ ap (map entry_wanted) all ∙ structures_wanted (script_tree s) in
    all_in_range (script_tree s) (all_wanted c.deref-2.result.now) same c.profile.result.now c.args.checked.now.settings c.read_all_wanted.result c.profile.ensures.settings c.read_all_wanted.ensures.ranges

pub returns-clause-takes : goal.returns-clause-takes
returns-clause-takes g c =
    let s = c.args.checked.now.script in
    let all = ap (map as_wanted) c.deref-2.ensures.value ∙ c.in_ok-wanted.ensures ∙ ap (map wanted_by) c.deref.ensures.value ∙ c.in_ok-inputs.ensures ∙ ap (λ ss. inputs_wanted (map statement_tree ss)) (c.as_slice.ensures ∙ ap (λ x. x.statements) c.script.ensures.script) in
    let same = entries_wanted c.deref-2.result.now ∙ ap (map entry_wanted) all ∙ structures_wanted (script_tree s) in
    read_in g.F.Files c.args.files.now c.read_all_wanted.new.files c.args.folder.now c.profile.result.now c.args.checked.now.settings c.deref-2.result.now (inputs_wanted (script_tree s)) (input_structures (script_tree s)) c.read_all_wanted.result c.profile.ensures.settings all same c.read_all_wanted.ensures.takes
