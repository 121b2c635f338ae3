use Rattle.std.specs.Prelude.{string_bytes}
use Rattle.vtl_top.specs.RunView.{source_view}
use Rattle.vtl_top.proofs.RunLemmas.{text_made}
use Rattle.vtl_top.proofs.run.prepare_text.Goals as goal

pub returns : goal.returns
returns g c =
    text_made g.F.Files (source_view c.args.source.now) string_bytes c.args.files.now c.read_typed.new.files c.in_ok-checked.checked c.in_ok-checked.ensures c.in_ok-text_of.field-0 c.in_ok-text_of.ensures.text
