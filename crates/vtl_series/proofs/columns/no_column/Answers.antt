use Rattle.std.proofs.Common.{ℕ, List, [], refl, ap, ◌∙◌}
use Rattle.std.proofs.StrCases.{chars_of_empty}
use Rattle.vtl_cell.specs.declared.kind.Kind.TheVariants as k
use Rattle.vtl_rows.specs.declared.column.Column.{Column}
use Rattle.vtl_series.proofs.columns.no_column.Goals as goal

pub returns : goal.returns
returns c = let named : List ℕ → Column = λ name. record { name = name; kind = k.Null } in ap named (c.in_ok-new.ensures ∙ chars_of_empty [] refl)
