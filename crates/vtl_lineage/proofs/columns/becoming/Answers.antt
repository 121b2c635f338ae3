use Rattle.std.proofs.Common.{◌≡◌, length, take, arith, ap, sym, ◌∙◌}
use Rattle.std.proofs.lemmas.List.{length-map, take-map}
use Rattle.vtl_tree.specs.Columns.{measures_of}
use Rattle.vtl_tree.specs.Shown.{shown}
use Rattle.vtl_lineage.proofs.columns.becoming.Goals as goal

pub returns : goal.returns
returns c =
    let made = c.in_ok-made.made in
    let many : c.len.result ≡ length made.items = omega (arith, c.len.ensures, made.ok) in
    let count : c.len.result ≡ length (measures_of c.args.s.now) = many ∙ sym (length-map made.items (λ x. x.now)) ∙ ap length c.in_ok-made.ensures in
    ap shown c.truncate.ensures.items
    ∙ sym (take-map (λ x. x.now) c.len.result c.in_ok-columns.columns.items) ∙ (λ i. take (count i) (c.in_ok-columns.ensures i))
