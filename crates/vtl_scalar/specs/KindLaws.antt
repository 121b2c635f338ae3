-- What the law of the kinds speaks of.
use Rattle.std.specs.Prelude.{◌≡◌, true, IfOk}
use Rattle.vtl_cell.specs.Kinds.{kind_of}
use Rattle.vtl_cell.specs.Outcome.{Outcome}
use Rattle.vtl_cell.specs.ScalarKinds.{meets}
use Rattle.vtl_cell.specs.declared.cell.Cell.{Cell}
use Rattle.vtl_cell.specs.declared.kind.Kind.{Kind}

-- null, a value of the kind, or an integer that stands for a number
abbrev pub IsOfKind : Kind → Cell → Type 0
IsOfKind kind v = meets kind (kind_of v) ≡ true

-- the value is of the kind, if there is one
abbrev pub HasKind : Kind → Outcome Cell → Type 0
HasKind kind m = IfOk m (IsOfKind kind)
