use Rattle.std.proofs.Common.{◌++◌, ◌∙◌, ap, subst, sym}
use Rattle.std.specs.Prelude.{codes, flat_map}
use Rattle.std.proofs.lemmas.Result.{IfOk-weaker}
use Rattle.vtl_demo.specs.Said.{AreKnown, part_for}
use Rattle.vtl_demo.proofs.Demonstrated.{known_are}
use Rattle.vtl_demo.proofs.Meant.{meant}
use Rattle.vtl_demo.proofs.Shown.{said_of}
use Rattle.vtl_demo.proofs.demonstration.line.Goals as goal

pub line_for-requires-clause-known : goal.line_for-requires-clause-known
line_for-requires-clause-known g c =
    let said = said_of c.args.points c.in_ok-outputs.outputs (meant c.args.points c.requires.few) c.in_ok-outputs.ensures.shown in
    subst (λ k. AreKnown k c.in_ok-outputs.outputs) (sym (known_are c.args.script.now c.requires.script)) said.tables_known

pub returns-clause-line : goal.returns-clause-line
returns-clause-line g c =
    let said = said_of c.args.points c.in_ok-outputs.outputs (meant c.args.points c.requires.few) c.in_ok-outputs.ensures.shown in
    let word = c.args.word.now in
    IfOk-weaker c.line_for.result _ _
    (λ text e. e ∙ ap (λ k. word ++ (flat_map (part_for k) c.in_ok-outputs.outputs ++ codes "\n")) (known_are c.args.script.now c.requires.script) ∙ said.line_is word) c.line_for.ensures
