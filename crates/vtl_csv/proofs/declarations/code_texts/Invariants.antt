use Rattle.std.proofs.Common.{◌≡◌, length}
use Rattle.vtl_lists.specs.Each.{each_some, onto}
use Rattle.vtl_csv.specs.Declarations.{code_in, parts}
use Rattle.vtl_csv.proofs.declarations.code_texts.Given as goal

abbrev pub invariant-loop-codes : goal.invariant-loop-codes
invariant-loop-codes l = onto l.codes.items (each_some code_in (parts l.rest)) ≡ each_some code_in (parts l.list)

abbrev pub decreases-loop-codes : goal.decreases-loop-codes
decreases-loop-codes l = length l.rest
