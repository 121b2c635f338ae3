-- What the program tells of an expression.
use Rattle.std.specs.Prelude.{◌≡◌, List, Option, Some, None, if◌then◌else◌}
use Rattle.std.specs.Map.{keys_of}
use Rattle.vtl_cell.specs.declared.kind.Kind.{Kind}
use Rattle.sql_check_parts.specs.Rules.{least}
use Rattle.sql_check_parts.specs.Scopes.{Columns, repeats}
use Rattle.sql_check_parts.specs.declared.told.Told.{Told}
use Rattle.sql_check_parts.specs.declared.rules.SqlRule.{SqlRule}

-- its kind, and the least of the rules that it breaks
pub record IsTold (kind : Kind) (rules : List SqlRule) (t : Told) : Type 0 where
  pub kind_is : t.kind ≡ kind
  pub fault_is : t.fault ≡ least rules

-- columns of different names
abbrev pub distinct_columns : Columns → Option Columns
distinct_columns columns = if repeats (keys_of columns) then None else Some columns
