use Rattle.std.proofs.Common.{◌≡◌, take}
use Rattle.vtl_csv.specs.TableText.{rows_text}
use Rattle.vtl_csv.proofs.table_text.write_rows.Given as goal

abbrev pub invariant-loop-place : goal.invariant-loop-place
invariant-loop-place l = l.text.items ≡ rows_text l.profile l.table.columns (take l.place l.table.rows)
