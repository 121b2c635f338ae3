use Rattle.std.proofs.Common.{[], ap, map, ℕ}
use Rattle.std.specs.Global.{Vec}
use Rattle.std.specs.Prelude.{string_bytes}
use Rattle.vtl_top.specs.Expected.{format_step}
use Rattle.vtl_top.specs.MadeView.{made_view}
use Rattle.vtl_top.specs.OutputView.{output_view}
use Rattle.vtl_top.specs.Steps.{only_text}
use Rattle.vtl_top.proofs.MadeLemmas.{settles}
use Rattle.vtl_top.proofs.RunLemmas.{wrapped, wrapped_refusal}
use Rattle.vtl_top.proofs.made.make_form.Goals as goal

pub returns-in-Ok-clause-takes : goal.returns-in-Ok-clause-takes
returns-in-Ok-clause-takes g c =
    wrapped g.F.Files c.args.files.now c.prepare_form.new.files (format_step c.args.path.now) only_text string_bytes made_view c.in-Ok.form c.made_of.result c.in-Ok.ensures
    (settles c.new.result c.into_bytes.result [] (string_bytes c.in-Ok.form) c.made_of.result c.made_of.ensures (ap (map output_view) c.new.ensures.items) (ap (λ (v : Vec ℕ). v.items) c.into_bytes.ensures.value))

pub returns-in-Err-clause-takes : goal.returns-in-Err-clause-takes
returns-in-Err-clause-takes g c =
    wrapped_refusal g.F.Files c.args.files.now c.prepare_form.new.files (format_step c.args.path.now) only_text string_bytes made_view c.in-Err.status c.in-Err.ensures
