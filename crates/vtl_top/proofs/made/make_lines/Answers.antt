use Rattle.std.proofs.Common.{[], ap, map, ℕ, ◌∙◌}
use Rattle.std.specs.Global.{Vec}
use Rattle.vtl_demo.specs.Said.{said}
use Rattle.vtl_top.specs.OutputView.{output_view}
use Rattle.vtl_top.proofs.MadeLemmas.{settles, told_of_demonstration}
use Rattle.vtl_top.proofs.made.make_lines.Goals as goal

pub returns-in-Ok-clause-made : goal.returns-in-Ok-clause-made
returns-in-Ok-clause-made g c =
    settles c.new.result c.into_bytes.result [] (said c.args.points.now) c.made_of.result c.made_of.ensures (ap (map output_view) c.new.ensures.items)
    (ap (λ (v : Vec ℕ). v.items) c.into_bytes.ensures.value ∙ c.in-Ok.ensures.said ∙ ap said c.count.ensures.value)

pub returns-in-Ok-clause-told : goal.returns-in-Ok-clause-told
returns-in-Ok-clause-told g c = λ h. told_of_demonstration _ c.in-Ok.ensures.told
