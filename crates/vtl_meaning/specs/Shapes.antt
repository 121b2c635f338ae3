-- Structures of results: what operators give of measures, and what clauses give of components.
use Rattle.std.specs.Prelude.{ℕ, ◌≡◌, Bool, true, false, List, [], ◌∷◌, ◌++◌, map, filter}
use Rattle.std.specs.List.{AllByRecursion}
use Rattle.std.specs.Option.{option_map_or}
use Rattle.vtl_cell.specs.ScalarKinds.{kinds_of}
use Rattle.vtl_cell.specs.declared.kind.Kind.{Kind}
use Rattle.vtl_cell.specs.declared.kind.Kind.TheVariants as k
use Rattle.vtl_cell.specs.declared.operator.ScalarOp.{ScalarOp}
use Rattle.vtl_cell.specs.declared.operator.ScalarOp.TheVariants as op
use Rattle.vtl_tree.specs.Structure.{IsStructure}
use Rattle.vtl_tree.specs.Structures.{is_null_kind}
use Rattle.vtl_tree.specs.declared.structure.Component.{Component}
use Rattle.vtl_tree.specs.declared.structure.Structure.{Structure}
use Rattle.vtl_tree.specs.Trees as nodes
use Rattle.vtl_tree.specs.Trees.{ItemTree, MeasureTree, ValueTree}
use Rattle.vtl_syntax.specs.declared.word_groups.JoinKind.{JoinKind}
use Rattle.vtl_tree.specs.Joins.{held_names, joined_components}
use Rattle.vtl_tree.specs.declared.joins.Operand.{Operand}
use Rattle.vtl_tree.specs.Choices.{chosen}
use Rattle.vtl_tree.specs.ClauseShapes.{calculated, is_new, renamed, target_component}
use Rattle.vtl_tree.specs.Measures.{Gives}
use Rattle.vtl_tree.specs.Names.{component_of, serves}
use Rattle.vtl_tree.specs.declared.choices.Choice.{Choice}
use Rattle.vtl_tree.specs.declared.measures.Outcome.{Outcome}
use Rattle.vtl_tree.specs.declared.measures.Outcome.TheVariants as outcome
use Rattle.vtl_tree.specs.declared.names.Wanted.{Wanted}
use Rattle.vtl_tree.specs.declared.renaming.Renaming.{Renaming}
use Rattle.vtl_tree.specs.declared.targets.Target.{Target}
use Rattle.vtl_tree.specs.Kinds.{exp_kind, given_kind}

-- a structure whose components all have kinds
pub record IsShaped (s : Structure) : Type 0 where
  pub well_formed : IsStructure s
  pub kinds : AllByRecursion (λ x. is_null_kind x.kind ≡ false) s.components

-- ---- operators on measures
-- comparisons and tests take one measure and give `bool_var`; the others give each measure
abbrev pub outcome_of : ScalarOp → Outcome
outcome_of op.Equal = outcome.Truth
outcome_of op.NotEqual = outcome.Truth
outcome_of op.Less = outcome.Truth
outcome_of op.LessOrEqual = outcome.Truth
outcome_of op.Greater = outcome.Truth
outcome_of op.GreaterOrEqual = outcome.Truth
outcome_of op.Between = outcome.Truth
outcome_of op.In = outcome.Truth
outcome_of op.NotIn = outcome.Truth
outcome_of op.IsNull = outcome.Truth
outcome_of o = outcome.Each

-- the kind that an operator gives of a measure between values
abbrev pub given_between : MeasureTree → Gives
given_between m x y = kinds_of m.op (map exp_kind m.before ++ x ∷ map exp_kind m.after)

-- the kind that it gives of a measure and its namesake
abbrev pub given_of_two : ScalarOp → Gives
given_of_two o x y = kinds_of o (x ∷ y ∷ [])

-- ---- clauses
-- the kind of a value that is made of these components
abbrev pub tree_kind : List Component → ValueTree → Kind
tree_kind xs (nodes.scalar e) = exp_kind e
tree_kind xs (nodes.analytic call) = given_kind call.op (option_map_or (λ name. option_map_or (λ x. x.kind) (component_of name xs) k.Null) call.component k.Null)

-- a target of `calc` with the kind of its value
abbrev pub target_of : List Component → ItemTree → Target
target_of xs i = record { name = i.target; role = i.role; kind = tree_kind xs i.value }

-- the components as the targets leave them, then the targets that are new
abbrev pub calculated_components : List Target → List Component → List Component
calculated_components ts xs = map (calculated ts) xs ++ map target_component (filter (is_new xs) ts)

-- the name is that of a component whose role serves
abbrev pub is_known : Wanted → List Component → List ℕ → Bool
is_known w xs name = option_map_or (λ x. serves w x.role) (component_of name xs) false

-- what is chosen by these names, each of which is known
pub record IsChosen (w : Wanted) (c : Choice) (names : List (List ℕ)) (a s : Structure) : Type 0 where
  pub known : AllByRecursion (λ name. is_known w a.components name ≡ true) names
  pub shape : s.components ≡ chosen c names a.components

-- the same components, with the names that the pairs give them
abbrev pub IsRenamedBy : List Renaming → Structure → Structure → Type 0
IsRenamedBy pairs a s = s.components ≡ map (renamed pairs) a.components

-- ---- joins
-- the identifiers, and then the other components operand by operand; a name that several operands hold behind its operand's alias
abbrev pub IsJoinedFrom : JoinKind → List Operand → Structure → Type 0
IsJoinedFrom kind os s = s.components ≡ joined_components kind (held_names kind os) os
