use Rattle.std.proofs.Common.{◌≡◌, ◌-◌, ◌+◌, ◌++◌, length}
use Rattle.vtl_decimal.specs.Written.{last_digits}
use Rattle.vtl_decimal.proofs.writing.push_digits.Given as goal

abbrev pub invariant-loop : goal.invariant-loop
invariant-loop l = record {
  same : last_digits (l.width - l.counter) l.rest ++ l.line ≡ last_digits l.width l.n ++ l.initial.line;
  size : length l.line ≡ length l.initial.line + l.counter;
}
