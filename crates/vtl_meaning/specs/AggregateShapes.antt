-- How the structure of an aggregate's result fits its operand.
use Rattle.std.specs.Prelude.{◌≡◌, false, IsSome, ℕ, List, ◌++◌, map, Option, Some, None, option_and_then, unwrap_or}
use Rattle.std.specs.List.{AllByRecursion}
use Rattle.vtl_cell.specs.declared.operator.AggKind.{AggKind}
use Rattle.vtl_cell.specs.declared.operator.AggKind.TheVariants as agg
use Rattle.vtl_cell.specs.AggregateKinds.{aggregate_kind}
use Rattle.vtl_tree.specs.Structure.{IsStructure, columns_of, names_of, same_role}
use Rattle.vtl_tree.specs.declared.expression.AggCall.{AggCall}
use Rattle.vtl_tree.specs.declared.structure.Component.{Component}
use Rattle.vtl_tree.specs.declared.structure.Role.TheVariants as role
use Rattle.vtl_tree.specs.declared.structure.Structure.{Structure}
use Rattle.vtl_cell.specs.declared.kind.Kind.{Kind}
use Rattle.vtl_cell.specs.declared.kind.Kind.TheVariants as k
use Rattle.vtl_tree.specs.Trees.{AggTree}
use Rattle.vtl_tree.specs.declared.specifications.AggItems.{AggItems}
use Rattle.vtl_tree.specs.declared.specifications.AggItems.TheVariants as items
use Rattle.vtl_tree.specs.declared.specifications.AggTarget.{AggTarget}
use Rattle.vtl_tree.specs.Choices.{chosen}
use Rattle.vtl_tree.specs.Columns.{identifiers_of, others_of}
use Rattle.vtl_tree.specs.Measures.{Gives, given_measures, made, measures}
use Rattle.vtl_tree.specs.Names.{component_of}
use Rattle.vtl_tree.specs.declared.choices.Choice.TheVariants as choice
use Rattle.vtl_tree.specs.declared.measures.Outcome.{Outcome}
use Rattle.vtl_tree.specs.declared.measures.Outcome.TheVariants as outcome
use Rattle.vtl_meaning.specs.Aggregates.{call_for}

-- the kind that an aggregate of a component gives, where there is such a component and its values are taken; without a component it is the
-- number of points
abbrev pub given_of : List Component → AggKind → Option (List ℕ) → Option Kind
given_of xs f (Some name) = option_and_then (λ x. aggregate_kind f x.kind) (component_of name xs)
given_of xs agg.Count None = Some k.Int
given_of xs f None = None

abbrev pub given_kind : List Component → AggCall → Option Kind
given_kind xs a = given_of xs a.kind a.component

-- ---- the columns that are made

-- `count` of a data set gives one measure, every other aggregate each measure
abbrev pub outcome_of : AggKind → Outcome
outcome_of agg.Count = outcome.Count
outcome_of f = outcome.All

abbrev pub of_measure : AggKind → Gives
of_measure f x y = aggregate_kind f x

-- a target is a measure where no role is written
abbrev pub target_component : List Component → AggTarget → Component
target_component xs t = made t.target (unwrap_or t.role role.Measure) (unwrap_or (given_kind xs t.call) k.Null)

abbrev pub made_components : AggItems → List Component → List Component
made_components (items.Measures f) xs = given_measures (outcome_of f) (of_measure f) None xs
made_components (items.Targets ts) xs = map (target_component xs) ts

-- ---- structures

-- a column that is made is of the kind that its aggregate gives
abbrev pub IsMadeColumn : AggItems → List Component → Component → Type 0
IsMadeColumn i xs y = option_and_then (given_kind xs) (call_for i y.name) ≡ Some y.kind

-- The grouping identifiers as the operand has them, then the columns that are made. It is the structure that typing gives (`shape`); the
-- other fields say what follows for its columns.
pub record IsAggregated (spec : AggTree) (a s : Structure) : Type 0 where
  pub well_formed : IsStructure s
  pub grouping : names_of (identifiers_of s) ≡ spec.grouping
  pub identifiers : AllByRecursion (λ y. component_of y.name (columns_of a) ≡ Some y) (identifiers_of s)
  pub columns : AllByRecursion (IsMadeColumn spec.items (columns_of a)) (others_of s)
  pub shape : s.components ≡ chosen choice.By spec.grouping a.components ++ made_components spec.items a.components

-- ---- what typing tells of an aggregate
-- each aggregate takes the values of its component, and no target is an identifier
abbrev pub AreTaken : AggItems → List Component → Type 0
AreTaken (items.Measures f) xs = AllByRecursion (λ x. IsSome (aggregate_kind f x.kind)) (measures xs)
AreTaken (items.Targets ts) xs = AllByRecursion (λ t. IsSome (given_kind xs t.call) × (same_role (unwrap_or t.role role.Measure) role.Identifier ≡ false)) ts

-- the aggregates, the grouping identifiers in the operand's order, and the structure that is made of both
pub record IsTypedAggregate (spec : AggTree) (a s : Structure) : Type 0 where
  pub operand : IsStructure a
  pub well_formed : IsStructure s
  pub taken : AreTaken spec.items a.components
  pub grouping : spec.grouping ≡ names_of (chosen choice.By spec.grouping a.components)
  pub shape : s.components ≡ chosen choice.By spec.grouping a.components ++ made_components spec.items a.components
