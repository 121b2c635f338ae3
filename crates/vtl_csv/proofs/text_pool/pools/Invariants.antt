use Rattle.std.proofs.Common.{◌≡◌, vec_len}
use Rattle.vtl_csv.proofs.text_pool.pools.Given as goal

abbrev pub invariant-loop : goal.invariant-loop
invariant-loop l = vec_len l.pools ≡ l.counter
