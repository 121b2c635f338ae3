-- So many indentations are written.
use Rattle.std.proofs.Common.{◌≡◌, ◌*◌, ◌∷◌, ◌++◌, replicate, string_bytes}
use Rattle.vtl_format.proofs.gaps.write_line_end.Given as goal

abbrev pub invariant-loop : goal.invariant-loop
invariant-loop l = string_bytes l.out ≡ string_bytes l.fn.out ++ 10 ∷ replicate (2 * l.counter) 32
