use Rattle.vtl_top.specs.RunView.{source_view}
use Rattle.vtl_top.proofs.RunLemmas.{links_made}
use Rattle.vtl_top.proofs.lineage.prepare_links.Goals as goal

pub returns : goal.returns
returns g c =
    links_made g.F.Files (source_view c.args.source.now) (λ text. text.items) c.args.files.now c.read_typed.new.files c.in_ok-checked.checked c.in_ok-checked.ensures c.in_ok-text_of.field-0 c.in_ok-text_of.ensures
