use Rattle.std.proofs.Common.{◌≡◌, map, take}
use Rattle.vtl_rows.specs.Places.{row_at}
use Rattle.vtl_csv.specs.TableText.{rows_text}
use Rattle.vtl_csv.proofs.table_text.text_at.Given as goal

abbrev pub invariant-loop-i : goal.invariant-loop-i
invariant-loop-i l = l.text.items ≡ rows_text l.profile l.table.columns (map (row_at l.table.rows) (take l.i l.places))
