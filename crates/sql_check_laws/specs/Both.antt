-- That one holds where another does, both ways; and the rules besides that of columns which are null alone.
use Rattle.std.specs.Prelude.{Bool, true, false, not, List, filter}
use Rattle.sql_check_parts.specs.declared.rules.SqlRule.{SqlRule}
use Rattle.sql_check_parts.specs.declared.rules.SqlRule.TheVariants as rule

pub record Iff (A B : Type 0) : Type 0 where
  pub to : A → B
  pub from : B → A

abbrev pub is_of_null : SqlRule → Bool
is_of_null rule.NullColumn = true
is_of_null r = false

-- the rules besides
abbrev pub besides_null : List SqlRule → List SqlRule
besides_null rules = filter (λ r. not (is_of_null r)) rules
