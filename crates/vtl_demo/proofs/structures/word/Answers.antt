use Rattle.std.proofs.Common.{◌∙◌}
use Rattle.std.proofs.lemmas.Result.{IfOk-weaker}
use Rattle.vtl_demo.proofs.Words.{plain}
use Rattle.vtl_demo.proofs.structures.word.Goals as goal

pub returns : goal.returns
returns c = IfOk-weaker c.new.result _ _ (λ t e. e ∙ plain c.args.text.now c.requires) c.new.ensures
