-- What typing gives of the order in which the rules of a hierarchy are run.
use Rattle.std.specs.Prelude.{ℕ, List, [], slice_get, Option, None, Some}
use Rattle.std.specs.List.{filter_map}
use Rattle.std.specs.Option.{option_map_or}
use Rattle.vtl_lists.specs.Perm.{Perm}
use Rattle.vtl_syntax.specs.declared.statements.HierRule.{HierRule}
use Rattle.vtl_tree.specs.RuleItems.{definitions}
use Rattle.vtl_rulings.specs.Running.{AreOrdered}

-- the rules at places
abbrev pub rules_at : List HierRule → (places : List ℕ) → List HierRule
rules_at rules places = filter_map (slice_get rules) places

-- the places of all rules that define an item, each behind those that define its right items
pub record IsOrder (rules : List HierRule) (places : List ℕ) : Type 0 where
  pub all : Perm (rules_at rules places) (definitions rules)
  pub ordered : AreOrdered (rules_at rules places)

-- there is one
abbrev pub HasOrder : List HierRule → Option (List ℕ) → Type 0
HasOrder rules None = ⊥
HasOrder rules (Some places) = IsOrder rules places

abbrev pub places_or_none : Option (List ℕ) → List ℕ
places_or_none order = option_map_or (λ places. places) order []
