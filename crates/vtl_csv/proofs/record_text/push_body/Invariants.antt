use Rattle.std.proofs.Common.{◌≡◌, ◌++◌, map, take}
use Rattle.csv.specs.Writing.{default_writer, row_body}
use Rattle.vtl_cell.specs.Writing.{text_of}
use Rattle.vtl_csv.proofs.record_text.push_body.Given as goal

abbrev pub invariant-loop-i : goal.invariant-loop-i
invariant-loop-i l = l.text.items ≡ l.initial.text.items ++ row_body default_writer (map (text_of l.profile) (take l.i l.row))
