use Rattle.std.proofs.Common.{◌≡◌, sym, subst, Result}
use Rattle.std.specs.Prelude.{IfOk}
use Rattle.vtl_syntax.specs.View.{script_tree}
use Rattle.vtl_check.specs.Checked.{TypedScript, env_over, nodes_of}
use Rattle.vtl_check.specs.Script.{script_typed}
use Rattle.vtl_top.specs.Answered.{Takes}
use Rattle.vtl_top.specs.Expected.{settings_of, typed_or_fault, typed_step}
use Rattle.vtl_top.specs.Refusal.{SettlesBy}
use Rattle.vtl_top.specs.RunView.{source_view}
use Rattle.vtl_top.specs.Informed.{typed_view}
use Rattle.vtl_status.specs.declared.status.Status.{Status}
use Rattle.vtl_top.proofs.RunLemmas.{passed_on, same_tree, structures_refused, then_typed, typed_takes}
use Rattle.vtl_top.proofs.run.read_typed.Goals as goal

pub returns-in_err-declared : goal.returns-in_err-declared
returns-in_err-declared g c =
    let s = source_view c.args.source.now in
    subst (λ (res : Result TypedScript Status). Takes g.F.Files c.args.files.now c.read_structures_file.new.files (typed_step s) typed_view res)
    (sym (passed_on c.from_residual-in_err-declared.result c.in_err-declared.field-0.0 c.from_residual-in_err-declared.ensures.1))
    (structures_refused g.F.Files s typed_view c.args.files.now c.read_script.new.files c.in_ok-script.script c.in_ok-script.ensures.takes c.read_structures_file.new.files c.in_err-declared.field-0.0
    c.in_err-declared.ensures)

pub returns : goal.returns
returns g c =
    let s = source_view c.args.source.now in
    let declared = c.in_ok-declared.declared in
    let known = declared.structures.sets in
    let tree = script_tree c.in_ok-script.script in
    let same : c.profile-profile.result ≡ settings_of s declared = c.profile-profile.ensures in
    then_typed g.F.Files s typed_view c.args.files.now c.read_script.new.files c.in_ok-script.script c.in_ok-script.ensures.takes c.read_structures_file.new.files declared c.typed.result
    c.in_ok-declared.ensures
    (typed_takes g.F.Files s c.read_structures_file.new.files tree declared c.typed.result
    (subst (λ p. SettlesBy nodes_of (typed_or_fault (script_typed (env_over p known) tree)) c.typed.result) same c.typed.ensures.typing)
    (same_tree c.typed.result c.in_ok-script.script.statements c.typed.ensures.script) c.typed.ensures.declared c.typed.ensures.lists
    (subst (λ p. IfOk c.typed.result (λ t. t.settings ≡ p)) same c.typed.ensures.settings))
