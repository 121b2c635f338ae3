-- A fault as its line and its rule.
use Rattle.std.specs.Prelude.{Result, Ok, Err}
use Rattle.vtl_csv.specs.declared.structures.Fault.{Fault as Fields}
use Rattle.vtl_csv.specs.Opening.{Fault}

abbrev pub fault_of : Fields → Fault
fault_of f = (f.line, f.rule)

abbrev pub answer_of : {A : Type 0} → Result A Fields → Result A Fault
answer_of (Ok x) = Ok x
answer_of (Err f) = Err (fault_of f)
