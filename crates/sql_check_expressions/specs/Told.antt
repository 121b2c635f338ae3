-- What the program tells of expressions and of their parts.
use Rattle.std.specs.Prelude.{◌≡◌, List, Option}
use Rattle.vtl_cell.specs.declared.kind.Kind.{Kind}
use Rattle.sql_tree.specs.Trees.{Exp}
use Rattle.sql_check_parts.specs.Expressions.{Site, breaks}
use Rattle.sql_check_parts.specs.Kinds.{kind_in}
use Rattle.sql_check_parts.specs.Rules.{least, lesser}
use Rattle.sql_check_parts.specs.Scopes.{Grouping}
use Rattle.sql_check_parts.specs.Told.{IsTold}
use Rattle.sql_check_parts.specs.declared.told.Told.{Told}
use Rattle.sql_check_parts.specs.declared.rules.SqlRule.{SqlRule}
use Rattle.sql_check_expressions.specs.declared.parts.Parts.{Parts}

-- the kind of an expression and the least of the rules that it breaks
abbrev pub IsToldAt : Site → Option Grouping → Exp → Told → Type 0
IsToldAt at g e = IsTold (kind_in at.scope e) (breaks at g e)

-- the kinds of parts and the least of the rules that they break
pub record AreParts (kinds : List Kind) (rules : List SqlRule) (p : Parts) : Type 0 where
  pub kinds_are : p.kinds.items ≡ kinds
  pub fault_is : p.fault ≡ least rules

-- a kind and rules, behind parts of which the least broken rule is `before`
pub record IsBehind (before : Option SqlRule) (kind : Kind) (rules : List SqlRule) (t : Told) : Type 0 where
  pub kind_is : t.kind ≡ kind
  pub fault_is : t.fault ≡ lesser before (least rules)
