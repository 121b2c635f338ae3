use Rattle.std.proofs.Common.{◌∙◌}
use Rattle.sql_tree.specs.View.{script_tree}
use Rattle.sql_print.proofs.PrintLaws.{printed-alone, printed-script, printed-tokens}
use Rattle.sql_print.proofs.printing.print.Goals as goal

pub returns : goal.returns
returns c =
    let tokens = printed-tokens c.lay_out.result c.deref.result.now (script_tree c.args.script.now) (c.deref.ensures.value ∙ c.in_ok-tokens.ensures) c.lay_out.ensures in
    let script = printed-script c.lay_out.result (script_tree c.args.script.now) tokens in
    record { script = script; alone = printed-alone c.lay_out.result (script_tree c.args.script.now) script; tokens = tokens }
