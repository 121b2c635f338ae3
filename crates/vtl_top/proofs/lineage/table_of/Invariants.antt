use Rattle.std.proofs.Common.{◌≡◌, map, take}
use Rattle.vtl_lineage.specs.Shown.{shown_links}
use Rattle.vtl_top.specs.Linked.{link_columns, link_row}
use Rattle.vtl_top.proofs.lineage.table_of.Given as goal

abbrev pub invariant-loop-link : goal.invariant-loop-link
invariant-loop-link l = record {
  columns : l.table.columns ≡ link_columns;
  rows : l.table.rows ≡ map link_row (shown_links (take l.link-index l.links));
}
