use Rattle.std.proofs.Common.{◌≡◌, IfOk, map, ap, subst, ◌∙◌}
use Rattle.vtl_csv.specs.TableText.{rows_text}
use Rattle.vtl_lineage.specs.Shown.{shown_links}
use Rattle.vtl_top.specs.Informed.{typed_view}
use Rattle.vtl_top.specs.Linked.{link_row, links_of}
use Rattle.vtl_top.proofs.lineage.text_of.Goals as goal

pub returns : goal.returns
returns c =
    let rows : c.in_ok-table.table.rows ≡ map link_row (links_of (typed_view c.args.checked.now)) =
    c.in_ok-table.ensures.rows ∙ ap (λ ls. map link_row (shown_links ls)) c.deref.ensures.value ∙ ap (map link_row) c.in_ok-links.ensures in
    subst (λ b. IfOk c.write_rows.result (λ text. text.items ≡ b)) (λ i. rows_text (c.profile.ensures i) (c.in_ok-table.ensures.columns i) (rows i)) c.write_rows.ensures
