-- Calls of rulesets that are sound: what they give of operands that are well typed is well typed.
use Rattle.std.specs.Prelude.{◌≡◌, ℕ, List, Option, Result, Ok}
use Rattle.std.specs.List.{AllByRecursion}
use Rattle.vtl_decimal.specs.Settings.{Settings}
use Rattle.vtl_syntax.specs.Trees as tree
use Rattle.vtl_syntax.specs.Trees.{StatementTree}
use Rattle.vtl_syntax.specs.declared.parts.Comp.{Comp}
use Rattle.vtl_syntax.specs.declared.word_groups.CheckOut.{CheckOut}
use Rattle.vtl_syntax.specs.declared.word_groups.HierInput.{HierInput}
use Rattle.vtl_syntax.specs.declared.word_groups.HierOut.{HierOut}
use Rattle.vtl_syntax.specs.declared.word_groups.Mode.{Mode}
use Rattle.vtl_tree.specs.Structures.{Named}
use Rattle.check_operators.specs.Places.{Env}
use Rattle.check_operators.specs.Typed.{TypedTree}
use Rattle.check_operators.specs.declared.places.Place.{Place}
use Rattle.check_operators.specs.declared.places.Place.TheVariants as place
use Rattle.check_faults.specs.declared.rules.Rule.{Rule}
use Rattle.check_rules.specs.Definitions.{datapoint_defined, hierarchical_defined}
use Rattle.check_expressions.specs.Rulesets.{Definitions}
use Rattle.check_expressions.specs.Rulings.{Rulings}
use Rattle.check_laws.specs.Gives.{Gives}
use Rattle.check_laws.specs.WellTyped.{AreShaped, IsWellTyped}

abbrev pub env_of : Settings → Named → Env
env_of p known = record { settings = p; known = known }

-- whichever data sets are known, and wherever the call stands
abbrev pub IsSoundCall : Settings → (Env → TypedTree → Result TypedTree Rule) → Type 0
IsSoundCall p call = (known : Named) → AreShaped known → (at : Place) (x : TypedTree) → IsWellTyped (env_of p known) place.Outside x → Gives (IsWellTyped (env_of p known) at) (call (env_of p known) x)

pub record AreSoundRulings (p : Settings) (called : Rulings) : Type 0 where
  pub datapoint : (name : List ℕ) (o : Option CheckOut) → IsSoundCall p (λ env. called.datapoint env name o)
  pub check_hierarchy : (name : List ℕ) (r : Option Comp) (m : Option Mode) (o : Option CheckOut) → IsSoundCall p (λ env. called.check_hierarchy name r m o)
  pub hierarchy : (name : List ℕ) (r : Option Comp) (m : Option Mode) (i : Option HierInput) (o : Option HierOut) → IsSoundCall p (λ env. called.hierarchy name r m i o)

-- ---- definitions
-- a definition that is what a ruleset has to be
abbrev pub IsAccepted : Settings → StatementTree → Type 0
IsAccepted p (tree.assignment name kind e) = ⊥
IsAccepted p (tree.datapoint name variables rules last) = datapoint_defined p variables rules ≡ Ok tt
IsAccepted p (tree.hierarchical name item rules last) = hierarchical_defined p rules ≡ Ok tt

abbrev pub AreAccepted : Settings → Definitions → Type 0
AreAccepted p definitions = AllByRecursion (λ d. IsAccepted p d.1) definitions
