use Rattle.std.proofs.Common.{◌≡◌, ℕ, ◌*◌, length, subst, sym}
use Rattle.std.specs.List.{flat_map}
use Rattle.vtl_cell.specs.declared.cell.Cell.TheVariants.{Null}
use Rattle.vtl_rows.specs.Flat.{cells_of, flat_rows, width_of}
use Rattle.vtl_rows.specs.Tables.{cells_at}
use Rattle.vtl_rows.proofs.cells.Cells.narrowed.Goals as goal

pub returns-clause-cells : goal.returns-clause-cells
returns-clause-cells c =
    subst (λ s. (n : ℕ) → length (cells_of s) ≡ n * width_of s → c.in_ok-narrowed-in-Own.field-0.items ≡ flat_map (cells_at c.args.places.now) (flat_rows (width_of s) n (cells_of s))) (sym c.in-Own.is)
    (λ n e. c.in_ok-narrowed-in-Own.ensures.items Null n e)
