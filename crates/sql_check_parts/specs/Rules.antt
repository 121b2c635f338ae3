-- The rules that a part of a script breaks, and the least of them by their numbers.
use Rattle.std.specs.Prelude.{ℕ, Bool, nat_le, List, [], ◌∷◌, Option, Some, None, if◌then◌else◌}
use Rattle.sql_check_parts.specs.declared.rules.SqlRule.{SqlRule}
use Rattle.sql_check_parts.specs.declared.rules.SqlRule.TheVariants as rule

-- the number that is told of a rule
abbrev pub number_of : SqlRule → ℕ
number_of rule.UnknownTable = 1
number_of rule.MisnamedTable = 2
number_of rule.UnknownColumn = 3
number_of rule.MisnamedColumn = 4
number_of rule.UnfitKind = 5
number_of rule.UnfitLiteral = 6
number_of rule.UnlikeSelects = 7
number_of rule.OutsideGroup = 8
number_of rule.MisplacedWindow = 9
number_of rule.NullColumn = 10
number_of rule.UntiedEquality = 11
number_of rule.CodesOrCount = 12
number_of rule.MisnamedSeries = 13

-- rules, each with whether it is broken
abbrev pub Tests : Type 0
Tests = List (SqlRule × Bool)

-- those that are broken
abbrev pub broken : Tests → List SqlRule
broken [] = []
broken (test ∷ tests) = if test.1 then test.0 ∷ broken tests else broken tests

-- the rule of the lesser number
abbrev pub lesser_rule : SqlRule → SqlRule → SqlRule
lesser_rule a b = if nat_le (number_of a) (number_of b) then a else b

abbrev pub lesser : Option SqlRule → Option SqlRule → Option SqlRule
lesser None b = b
lesser (Some a) None = Some a
lesser (Some a) (Some b) = Some (lesser_rule a b)

-- the least of the rules that are broken, if any is
unfoldable pub least : List SqlRule → Option SqlRule
least [] = None
least (first ∷ rest) = lesser (Some first) (least rest)
