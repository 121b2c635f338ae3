use Rattle.std.proofs.Common.{◌≡◌, ◌++◌, drop}
use Rattle.std.specs.Prelude.{codes, decimal, flat_map, string_bytes}
use Rattle.vtl_top.proofs.replay.ran_line.Given as goal

abbrev pub invariant-loop-number : goal.invariant-loop-number
invariant-loop-number l = string_bytes l.line ++ flat_map (λ n. codes " " ++ decimal n) (drop l.number-index l.numbers) ≡ codes "ran" ++ flat_map (λ n. codes " " ++ decimal n) l.numbers
