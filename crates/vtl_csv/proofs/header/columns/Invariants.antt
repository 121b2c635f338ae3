use Rattle.std.proofs.Common.{◌≡◌, [], drop, vec_len}
use Rattle.vtl_tree.specs.Shown.{shown}
use Rattle.vtl_csv.specs.InputFile.{columns_with}
use Rattle.vtl_csv.proofs.header.columns.Given as goal

abbrev pub invariant-loop-i : goal.invariant-loop-i
invariant-loop-i l =
    (columns_with l.components (shown l.columns.items) (drop l.i l.fields) ≡ columns_with l.components [] l.fields)
    × (vec_len l.columns ≡ l.i)
