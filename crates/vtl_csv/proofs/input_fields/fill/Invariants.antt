use Rattle.std.specs.List.{zip}
use Rattle.vtl_csv.proofs.InputFieldLemmas.{IsFilled}
use Rattle.vtl_csv.proofs.input_fields.fill.Given as goal

abbrev pub invariant-loop-i : goal.invariant-loop-i
invariant-loop-i l = IsFilled l.profile (zip l.columns l.fields) l.i l.fn.cells.items l.cells.items
