-- Cells that tie are equal.
use Rattle.std.proofs.Common.{◌≡◌, true, ap}
use Rattle.std.specs.Cmp.{tied_itself, Equal-is}
use Rattle.std.specs.Ordering.{is_eq}
use Rattle.vtl_cell.proofs.Orders.{cell_cmp_total, cell_cmp-ties}
use Rattle.vtl_cell.specs.Order.{cell_cmp, same_cell}
use Rattle.vtl_cell.specs.declared.cell.Cell.{Cell}

pub same_cell-is : (a b : Cell) → same_cell a b ≡ true → a ≡ b
same_cell-is a b e = cell_cmp-ties a b ((Equal-is (cell_cmp a b)).0 e)

pub same_cell-refl : (a : Cell) → same_cell a a ≡ true
same_cell-refl a = ap is_eq (tied_itself cell_cmp_total a)
