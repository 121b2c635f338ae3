use Rattle.std.proofs.Common.{◌≡◌, ◌+◌, drop}
use Rattle.std.specs.List.{position_or_len}
use Rattle.vtl_csv.specs.Declarations.{is_bar}
use Rattle.vtl_csv.proofs.declarations.first_bar.Given as goal

abbrev pub invariant-loop-i : goal.invariant-loop-i
invariant-loop-i l = l.i + position_or_len is_bar (drop l.i l.list) ≡ position_or_len is_bar l.list
