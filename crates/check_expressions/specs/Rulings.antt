-- What expressions are typed by: the data sets that are known, and what calls of rulesets give.
use Rattle.std.specs.Prelude.{ℕ, List, Option, Result, Err}
use Rattle.vtl_decimal.specs.Settings.{Settings}
use Rattle.vtl_syntax.specs.declared.parts.Comp.{Comp}
use Rattle.vtl_syntax.specs.declared.word_groups.CheckOut.{CheckOut}
use Rattle.vtl_syntax.specs.declared.word_groups.HierInput.{HierInput}
use Rattle.vtl_syntax.specs.declared.word_groups.HierOut.{HierOut}
use Rattle.vtl_syntax.specs.declared.word_groups.Mode.{Mode}
use Rattle.vtl_tree.specs.Structures.{Named}
use Rattle.check_faults.specs.declared.rules.Rule.{Rule}
use Rattle.check_faults.specs.declared.rules.Rule.TheVariants as rule
use Rattle.check_operators.specs.Places.{Env, env_of}
use Rattle.check_operators.specs.Typed.{TypedTree}
use Rattle.check_operators.specs.declared.scope.Scope.{Scope}

-- What a call of the ruleset of a name gives of its typed operand. The conditions of a datapoint ruleset are typed at the call, where
-- these data sets are known.
pub record Rulings : Type 0 where
  pub datapoint : Env → List ℕ → Option CheckOut → TypedTree → Result TypedTree Rule
  pub check_hierarchy : List ℕ → (rule : Option Comp) → Option Mode → Option CheckOut → TypedTree → Result TypedTree Rule
  pub hierarchy : List ℕ → (rule : Option Comp) → Option Mode → Option HierInput → Option HierOut → TypedTree → Result TypedTree Rule

-- no ruleset is known
abbrev pub no_rulings : Rulings
no_rulings = record { datapoint = λ env name o x. Err rule.UnknownRuleset; check_hierarchy = λ name r m o x. Err rule.UnknownRuleset; hierarchy = λ name r m i o x. Err rule.UnknownRuleset }

pub record Sight : Type 0 where
  pub settings : Settings
  pub known : Named
  pub called : Rulings

-- without rulesets
abbrev pub names_in : Sight → Env
names_in sight = record { settings = sight.settings; known = sight.known }

abbrev pub sight_of : Env → Rulings → Sight
sight_of env called = record { settings = env.settings; known = env.known; called = called }

abbrev pub plain_sight : Env → Sight
plain_sight env = sight_of env no_rulings

-- what a scope knows, and what calls give
abbrev pub sight_in : Scope → Rulings → Sight
sight_in scope called = sight_of (env_of scope) called
