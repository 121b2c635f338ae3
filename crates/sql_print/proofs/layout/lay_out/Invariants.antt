use Rattle.std.proofs.Common.{chars, string_bytes, take}
use Rattle.sql_print.specs.Gaps.{WrittenAs}
use Rattle.sql_print.proofs.layout.lay_out.Given as goal

abbrev pub invariant-loop-i : goal.invariant-loop-i
invariant-loop-i l = WrittenAs l.tokens (take l.i l.tokens) (chars (string_bytes l.out))
