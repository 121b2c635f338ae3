-- How the structure of an analytic operator's result fits its operand.
use Rattle.std.specs.Prelude.{◌≡◌, Bool, true, false, IfOk, ℕ, List, [], ◌++◌, map, Option, Some, None, option_and_then, unwrap_or, if◌then◌else◌}
use Rattle.std.specs.List.{AllByRecursion}
use Rattle.vtl_lists.specs.Apart.{all_apart}
use Rattle.vtl_cell.specs.Kinds.{is_of, kind_of}
use Rattle.vtl_cell.specs.Profile.{IsOfProfile}
use Rattle.vtl_cell.specs.Row.{Row}
use Rattle.vtl_cell.specs.ScalarKinds.{meets}
use Rattle.vtl_decimal.specs.Settings.{Settings}
use Rattle.vtl_cell.specs.declared.cell.Cell.{Cell}
use Rattle.vtl_cell.specs.declared.cell.Cell.TheVariants as c
use Rattle.vtl_cell.specs.AggregateKinds.{is_number}
use Rattle.vtl_tree.specs.CompExp.{CompExp}
use Rattle.vtl_tree.specs.DataSet.{is_point}
use Rattle.vtl_tree.specs.Structure.{IsStructure, columns_of, same_name, same_role}
use Rattle.vtl_tree.specs.Value.{value}
use Rattle.vtl_tree.specs.declared.structure.Component.{Component}
use Rattle.vtl_tree.specs.declared.structure.Role.TheVariants as role
use Rattle.vtl_tree.specs.declared.structure.Structure.{Structure}
use Rattle.vtl_cell.specs.declared.kind.Kind.{Kind}
use Rattle.vtl_cell.specs.declared.kind.Kind.TheVariants as k
use Rattle.vtl_tree.specs.Trees as nodes
use Rattle.vtl_tree.specs.Trees.{AnalyticTree, ItemTree, ValueTree}
use Rattle.vtl_tree.specs.declared.calls.AnalyticOp.{AnalyticOp}
use Rattle.vtl_tree.specs.declared.calls.AnalyticOp.TheVariants as op
use Rattle.vtl_tree.specs.Choices.{chosen, is_identifier_name}
use Rattle.vtl_tree.specs.Columns.{identifiers_of, others_of}
use Rattle.vtl_tree.specs.Measures.{Gives, given_measures, measures}
use Rattle.vtl_tree.specs.Names.{component_of}
use Rattle.vtl_tree.specs.declared.choices.Choice.TheVariants as choice
use Rattle.vtl_tree.specs.declared.measures.Outcome.TheVariants as outcome
use Rattle.vtl_tree.specs.Kinds.{given_kind}
use Rattle.vtl_meaning.specs.Analytics.{value_for}
use Rattle.vtl_meaning.specs.Shapes.{calculated_components, target_of, tree_kind}

-- ---- kinds

-- whether an operator takes values of a kind; the default of `lag` and `lead` stands beside them, and an integer beside numbers for a number
abbrev pub takes : AnalyticOp → Kind → Bool
takes op.Sum kind = is_number kind
takes op.Avg kind = is_number kind
takes op.RatioToReport kind = is_number kind
takes (op.Lag n default) kind = meets kind (kind_of default)
takes (op.Lead n default) kind = meets kind (kind_of default)
takes o kind = true

abbrev pub taken : AnalyticOp → Kind → Option Kind
taken o kind = if takes o kind then Some (given_kind o kind) else None

-- the kind that a call on a component gives, where there is such a component and its values are taken; `rank` has none and gives an integer
abbrev pub given_of : List Component → AnalyticOp → Option (List ℕ) → Option Kind
given_of xs o (Some name) = option_and_then (λ x. taken o x.kind) (component_of name xs)
given_of xs op.Rank None = Some k.Int
given_of xs o None = None

-- the cell that stands in an operator
abbrev pub default_in : AnalyticOp → Cell
default_in (op.Lag n default) = default
default_in (op.Lead n default) = default
default_in o = c.Null

-- At each point of these columns the value of an expression is null or of a kind, and an integer of the profile where those of the point are.
pub record IsEvaluated (p : Settings) (xs : List Component) (kind : Kind) (e : CompExp) : Type 0 where
  pub of_kind : (r : Row) → is_point xs r ≡ true → IfOk (value p e r) (λ v. is_of kind v ≡ true)
  pub of_profile : (r : Row) → AllByRecursion (IsOfProfile p) r → IfOk (value p e r) (IsOfProfile p)

-- what is made has values of a kind
abbrev pub IsMadeBy : Settings → List Component → Kind → ValueTree → Type 0
IsMadeBy p xs kind (nodes.scalar e) = IsEvaluated p xs kind e
IsMadeBy p xs kind (nodes.analytic call) = (given_of xs call.op call.component ≡ Some kind) × IsOfProfile p (default_in call.op)

-- ---- structures

-- a column is made, or stays as it is
abbrev pub IsMadeOrStays : Settings → List Component → Component → Option ValueTree → Type 0
IsMadeOrStays p xs y None = component_of y.name xs ≡ Some y
IsMadeOrStays p xs y (Some v) = IsMadeBy p xs y.kind v

abbrev pub IsMadeColumn : Settings → AnalyticTree → List Component → Component → Type 0
IsMadeColumn p spec xs y = IsMadeOrStays p xs y (value_for spec y)

abbrev pub of_measure : AnalyticOp → Gives
of_measure o x y = taken o x

-- The components of the result. On a data set they are the identifiers, and each measure with the kind that is given; in `calc` the components
-- as its targets leave them, and then the targets that are new.
abbrev pub analyzed_components : AnalyticTree → List Component → List Component
analyzed_components (nodes.of_measures o w) xs = chosen choice.Except [] xs ++ given_measures outcome.All (of_measure o) None xs
analyzed_components (nodes.of_items items) xs = calculated_components (map (target_of xs) items) xs

-- The same identifiers, none of which is made, and columns that are made or stay. It is the structure that typing gives (`shape`); the other
-- fields say what follows for its columns.
pub record IsAnalyzed (p : Settings) (spec : AnalyticTree) (a s : Structure) : Type 0 where
  pub well_formed : IsStructure s
  pub identifiers : identifiers_of s ≡ identifiers_of a
  pub free : AllByRecursion (λ x. value_for spec x ≡ None) (identifiers_of s)
  pub columns : AllByRecursion (IsMadeColumn p spec (columns_of a)) (others_of s)
  pub shape : s.components ≡ analyzed_components spec a.components

-- ---- what typing tells of an analytic operator

-- the operator takes the values of each measure
abbrev pub AreMeasuresTaken : Settings → AnalyticOp → List Component → Type 0
AreMeasuresTaken p o xs = AllByRecursion (λ x. takes o x.kind ≡ true) (measures xs) × IsOfProfile p (default_in o)

-- a target has values of its kind, and is no identifier
pub record IsTakenItem (p : Settings) (a : Structure) (i : ItemTree) : Type 0 where
  pub made : IsMadeBy p (columns_of a) (tree_kind a.components i.value) i.value
  pub free : is_identifier_name a.components i.target ≡ false
  pub role : same_role (unwrap_or i.role role.Measure) role.Identifier ≡ false

-- and no two targets have the same name
abbrev pub AreTaken : Settings → Structure → AnalyticTree → Type 0
AreTaken p a (nodes.of_measures o w) = AreMeasuresTaken p o a.components
AreTaken p a (nodes.of_items items) = AllByRecursion (IsTakenItem p a) items × (all_apart same_name (map (λ i. i.target) items) ≡ true)

-- the values that are taken, and the structure that is made
pub record IsTypedAnalytic (p : Settings) (spec : AnalyticTree) (a s : Structure) : Type 0 where
  pub operand : IsStructure a
  pub well_formed : IsStructure s
  pub taken : AreTaken p a spec
  pub shape : s.components ≡ analyzed_components spec a.components
