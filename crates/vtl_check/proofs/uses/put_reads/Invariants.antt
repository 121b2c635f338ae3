use Rattle.std.proofs.Common.{◌≡◌, drop}
use Rattle.vtl_check.specs.Uses.{read_behind}
use Rattle.vtl_check.proofs.uses.put_reads.Given as goal

abbrev pub invariant-loop-name : goal.invariant-loop-name
invariant-loop-name l = read_behind l.declared l.known (drop l.name-index l.names) ≡ read_behind l.declared l.fn.known l.names
