use Rattle.std.proofs.Common.{◌≡◌, [], ◌<◌, arith, ap, length, sym, ◌∙◌}
use Rattle.vtl_tree.specs.Columns.{identifiers_of}
use Rattle.vtl_tree.specs.Structure.{key_width}
use Rattle.vtl_sources.specs.Sources.{source_at}
use Rattle.vtl_lineage.specs.Numbers.{merged}
use Rattle.vtl_lineage.proofs.ByPlace.{at_identifier}
use Rattle.vtl_lineage.proofs.operand.Operand.source_at.Goals as goal

pub returns-then-place-width : goal.returns-then-place-width
returns-then-place-width c =
    let ids = identifiers_of c.self.inside.structure.now in
    let width : c.key_width-width.result ≡ length ids = c.key_width-width.ensures ∙ ap (λ o. key_width o.structure.now) c.self-inside.view_is in
    let within : c.args.place < length ids = omega (arith, width, c.if-place-width.true) in
    ap (λ o. o.nothing) c.self-inside.view_is ∙ c.self.invariant.1
    ∙ sym (at_identifier ids c.self.inside.found.others c.args.place within) ∙ ap (λ a. source_at merged [] a c.args.place) c.self.view_is
