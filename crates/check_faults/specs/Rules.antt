-- Rules that a part of a script can break.
use Rattle.std.specs.Prelude.{ℕ, Bool, Result, Ok, Err, List, [], ◌∷◌, if◌then◌else◌}
use Rattle.check_faults.specs.declared.rules.Rule.{Rule}
use Rattle.check_faults.specs.declared.rules.Rule.TheVariants as rule

-- rules, each with whether it is broken
abbrev pub Tests : Type 0
Tests = List (Rule × Bool)

-- the first of the rules that is broken, or what is typed; the rules stand in the order of their numbers
abbrev pub ruled : {A : Type 0} → Tests → A → Result A Rule
ruled [] x = Ok x
ruled (test ∷ tests) x = if test.1 then Err test.0 else ruled tests x

-- the number that an answer gives for a rule
abbrev pub number_of : Rule → ℕ
number_of rule.UnknownDataset = 1
number_of rule.NameTaken = 2
number_of rule.UnknownRuleset = 3
number_of rule.UnknownComponent = 4
number_of rule.RepeatedName = 5
number_of rule.WrongRole = 6
number_of rule.WrongKind = 7
number_of rule.WrongLiteral = 8
number_of rule.IdentifiersDisagree = 9
number_of rule.MeasuresDisagree = 10
number_of rule.RepeatedComponent = 11
number_of rule.ComponentCount = 12
number_of rule.NoCodes = 13
number_of rule.DatasetOrValue = 14
number_of rule.AggregateMisuse = 15
number_of rule.AnalyticMisuse = 16
number_of rule.RepeatedRule = 17
number_of rule.CircularHierarchy = 18
number_of rule.NullKind = 19
number_of rule.TooManyNodes = 20
number_of rule.JoinMisuse = 21
number_of rule.NoTime = 22
