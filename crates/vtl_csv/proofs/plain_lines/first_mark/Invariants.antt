use Rattle.std.proofs.Common.{◌≡◌, ◌+◌, drop}
use Rattle.std.specs.List.{position_or_len}
use Rattle.csv.specs.Quoting.{needs_byte}
use Rattle.csv.specs.Writing.{default_writer}
use Rattle.vtl_csv.proofs.plain_lines.first_mark.Given as goal

abbrev pub invariant-loop-i : goal.invariant-loop-i
invariant-loop-i l = l.i + position_or_len (needs_byte default_writer) (drop l.i l.text) ≡ position_or_len (needs_byte default_writer) l.text
