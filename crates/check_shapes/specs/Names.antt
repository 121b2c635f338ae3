-- Names of components, as an operator asks for them.
use Rattle.std.specs.Prelude.{ℕ, not, List, [], ◌∷◌, Option, Some, None, Result, Ok, Err}
use Rattle.vtl_tree.specs.declared.structure.Role.{Role}
use Rattle.vtl_tree.specs.declared.structure.Component.{Component}
use Rattle.vtl_lists.specs.Results.{◌>>=◌}
use Rattle.check_faults.specs.InTurn.{in_turn}
use Rattle.check_faults.specs.Rules.{ruled, Tests}
use Rattle.check_faults.specs.declared.rules.Rule.{Rule}
use Rattle.check_faults.specs.declared.rules.Rule.TheVariants as rule
use Rattle.vtl_tree.specs.declared.names.Wanted.{Wanted}
use Rattle.vtl_tree.specs.Names.{is_among, component_of, serves}

-- the rules that a component's name can break behind other names: it stands there already, or its role does not serve
abbrev pub name_tests : Wanted → List (List ℕ) → List ℕ → Role → Tests
name_tests w before name r = (rule.RepeatedName, is_among name before) ∷ (rule.WrongRole, not (serves w r)) ∷ []

abbrev pub known_as : Wanted → List (List ℕ) → List ℕ → Option Component → Result Component Rule
known_as w before name None = Err rule.UnknownComponent
known_as w before name (Some x) = ruled (name_tests w before name x.role) x

-- the component that a name stands for behind other names, or the rule that the name breaks: there is none of this name, or
-- one of the tests
abbrev pub known : Wanted → List Component → List (List ℕ) → List ℕ → Result Component Rule
known w xs before name = known_as w before name (component_of name xs)

-- the name itself, where it stands for a component behind other names
abbrev pub known_name : Wanted → List Component → List (List ℕ) → List ℕ → Result (List ℕ) Rule
known_name w xs before name = known w xs before name >>= λ x. Ok name

-- these names, each behind those before it
abbrev pub all_known : Wanted → List Component → List (List ℕ) → Result (List (List ℕ)) Rule
all_known w xs names = in_turn (known_name w xs) [] names
