-- How many operands are written.
use Rattle.std.proofs.Common.{◌≡◌, List, length}
use Rattle.std.specs.Prelude.{map}
use Rattle.vtl_syntax.specs.Trees.{Exp, exps_of}
use Rattle.check_values.specs.Operators.{exps_length}
use Rattle.check_values.proofs.LiteralLemmas as literals

pub as_many : {A : Type 0} (view : A → Exp) (xs : List A) → exps_length (exps_of (map view xs)) ≡ length xs
as_many view xs = literals.as_many view xs
