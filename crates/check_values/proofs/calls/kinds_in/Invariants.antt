use Rattle.std.proofs.Common.{◌≡◌, take}
use Rattle.std.specs.Prelude.{map}
use Rattle.vtl_tree.specs.View.{comp_exp_of}
use Rattle.vtl_tree.specs.Kinds.{exp_kind}
use Rattle.check_values.proofs.calls.kinds_in.Given as goal

abbrev pub invariant-loop-arg : goal.invariant-loop-arg
invariant-loop-arg l = l.kinds.items ≡ map exp_kind (map comp_exp_of (take l.arg-index l.args))
