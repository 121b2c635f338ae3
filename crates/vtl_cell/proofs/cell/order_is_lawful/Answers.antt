use Rattle.vtl_cell.proofs.Cells.{same_cell-is, same_cell-refl}
use Rattle.vtl_cell.proofs.Keys.{by_keys_total, window_order}
use Rattle.vtl_cell.proofs.Orders.{cell_cmp_total, cell_cmp-ties}
use Rattle.vtl_cell.proofs.Rows.{row_order}
use Rattle.vtl_cell.proofs.cell.order_is_lawful.Goals as goal

pub returns-clause-cells : goal.returns-clause-cells
returns-clause-cells c = cell_cmp_total

pub returns-clause-ties : goal.returns-clause-ties
returns-clause-ties c = cell_cmp-ties

pub returns-clause-equal : goal.returns-clause-equal
returns-clause-equal c = same_cell-is

pub returns-clause-reflexive : goal.returns-clause-reflexive
returns-clause-reflexive c = same_cell-refl

pub returns-clause-rows : goal.returns-clause-rows
returns-clause-rows c = row_order

pub returns-clause-keys : goal.returns-clause-keys
returns-clause-keys c = by_keys_total

pub returns-clause-windows : goal.returns-clause-windows
returns-clause-windows c = window_order
