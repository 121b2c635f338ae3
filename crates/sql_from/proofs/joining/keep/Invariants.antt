use Rattle.std.proofs.Common.{◌≡◌, None, take}
use Rattle.sql_from.specs.Gains.{Gains}
use Rattle.sql_from.proofs.joining.keep.Given as goal

abbrev pub invariant-loop-i : goal.invariant-loop-i
invariant-loop-i g l = record {
  width : l.kept.rows.width ≡ l.width;
  gains : Gains (g.C.Condition.value l.condition) None (take l.i l.from.rows.tuples) l.initial.kept l.kept;
}
