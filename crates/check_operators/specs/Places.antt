-- Where an expression stands, and what its names stand for there.
use Rattle.std.specs.Prelude.{ℕ, not, List, [], ◌∷◌, Option, Some, None, Result, Ok, Err}
use Rattle.std.specs.Map.{lookup}
use Rattle.vtl_decimal.specs.Settings.{Settings}
use Rattle.vtl_syntax.specs.declared.parts.Comp.{Comp}
use Rattle.vtl_syntax.specs.declared.parts.Comp.TheVariants as comp
use Rattle.vtl_syntax.specs.declared.parts.Constant.{Constant}
use Rattle.vtl_syntax.specs.declared.parts.Reference.{Reference}
use Rattle.vtl_syntax.specs.declared.parts.Reference.TheVariants as reference
use Rattle.vtl_syntax.specs.Trees as tree
use Rattle.vtl_syntax.specs.Trees.{Exp}
use Rattle.std.specs.Option.{option_map}
use Rattle.vtl_tree.specs.CompExp.{CompExp}
use Rattle.vtl_tree.specs.Structure.{columns_of, names_of, same_name}
use Rattle.vtl_tree.specs.Structures.{Named}
use Rattle.vtl_tree.specs.declared.structure.Component.{Component}
use Rattle.vtl_tree.specs.declared.structure.Structure.{Structure}
use Rattle.check_joins.specs.Joins as joins
use Rattle.vtl_tree.specs.Trees.{NodeTree, named, node, structure_of}
use Rattle.vtl_lists.specs.Results.{◌>>=◌}
use Rattle.check_faults.specs.Rules.{ruled}
use Rattle.check_faults.specs.declared.rules.Rule.{Rule}
use Rattle.check_faults.specs.declared.rules.Rule.TheVariants as rule
use Rattle.vtl_tree.specs.Names.{is_among, name_of}
use Rattle.check_values.specs.Columns.{column_typed}
use Rattle.check_values.specs.Literals.{constant_typed}
use Rattle.check_operators.specs.Typed.{TypedTree, dataset, of_value}
use Rattle.check_operators.specs.declared.places.Inside.{Inside}
use Rattle.check_operators.specs.declared.places.Joined.{Joined}
use Rattle.check_operators.specs.declared.places.Place.{Place}
use Rattle.check_operators.specs.declared.scope.Scope.{Scope}
use Rattle.check_operators.specs.declared.written_names.WrittenName.{WrittenName}
use Rattle.std.specs.Borrow.{Bor}
use Rattle.check_operators.specs.declared.places.Place.TheVariants as place

-- what a script is typed by: how numbers are read, and the data sets that are known, declared ones and earlier results
pub record Env : Type 0 where
  pub settings : Settings
  pub known : Named

abbrev pub env_of : Scope → Env
env_of s = record { settings = s.profile; known = s.known }

-- a name where a data set is needed: an unknown one breaks `UnknownDataset`, and a quoted one, which names a component,
-- `DatasetOrValue`
abbrev pub known_by : List ℕ → Option Structure → Result TypedTree Rule
known_by name None = Err rule.UnknownDataset
known_by name (Some s) = Ok (dataset (node s (named name)))

abbrev pub dataset_named : Named → Comp → Result TypedTree Rule
dataset_named known (comp.Name name) = known_by name (lookup (same_name name) known)
dataset_named known (comp.Quoted name) = Err rule.DatasetOrValue

-- in the condition of groups, and in a target of `aggr`, a component stands alone only where it is a grouping identifier or in an
-- aggregate
abbrev pub alone : Option (List (List ℕ)) → List ℕ → CompExp → Result TypedTree Rule
alone None name e = of_value e
alone (Some names) name e = ruled ((rule.AggregateMisuse, not (is_among name names)) ∷ []) (tt {0}) >>= λ u. of_value e

abbrev pub component_typed : Inside → List ℕ → Result TypedTree Rule
component_typed i name = column_typed name i.components >>= alone i.grouping name

abbrev pub name_typed : Env → Place → Comp → Result TypedTree Rule
name_typed env place.Outside c = dataset_named env.known c
name_typed env (place.Inside i) c = component_typed i (name_of c)

abbrev pub constant_form : Settings → Constant → Result TypedTree Rule
constant_form p c = constant_typed p c >>= of_value

-- a component as it is written: with an alias, or without
pub record Written : Type 0 where
  pub alias : Option (List ℕ)
  pub name : List ℕ

abbrev pub plainly : Comp → Written
plainly c = record { alias = None; name = name_of c }

abbrev pub with_alias : List ℕ → Comp → Written
with_alias alias c = record { alias = Some alias; name = name_of c }

-- the component that an expression is: a name, or a name behind an alias
abbrev pub member_written : Exp → Comp → Option Written
member_written (tree.component (comp.Name alias)) c = Some (with_alias alias c)
member_written e c = None

abbrev pub written_in : Exp → Option Written
written_in (tree.component c) = Some (plainly c)
written_in (tree.member e c) = member_written e c
written_in e = None

-- the same of a reference
abbrev pub written_by : Reference → Written
written_by (reference.Component c) = plainly c
written_by (reference.Member alias c) = with_alias alias c

-- the name of the component; `alias#name` stands for a name of the joined set, and breaks `UnknownComponent` outside of a join's
-- body
abbrev pub member_name : Option Joined → List ℕ → List ℕ → Result (List ℕ) Rule
member_name None alias name = Err rule.UnknownComponent
member_name (Some j) alias name = joins.member_form j.kind j.operands j.held alias name

abbrev pub name_by : Option Joined → List ℕ → Option (List ℕ) → Result (List ℕ) Rule
name_by j name None = Ok name
name_by j name (Some alias) = member_name j alias name

abbrev pub name_written : Option Joined → Written → Result (List ℕ) Rule
name_written j w = name_by j w.name w.alias

-- a component as an expression
unfoldable pub written_typed : Inside → Written → Result TypedTree Rule
written_typed i w = name_written i.joined w >>= component_typed i

-- the component that `operand#component` is inside, where it is one
abbrev pub member_inside : Place → Exp → Comp → Option (Inside × Written)
member_inside place.Outside e c = None
member_inside (place.Inside i) e c = option_map (λ w. (i, w)) (member_written e c)

-- the components that names inside a data set's brackets stand for, in column order
abbrev pub columns_in : NodeTree → List Component
columns_in n = columns_of (structure_of n)

-- the points of a data set
abbrev pub at_points : Option Joined → NodeTree → Inside
at_points j n = record { components = columns_in n; grouping = None; joined = j }

-- its groups, with the identifiers by which they are formed
abbrev pub at_groups : Option Joined → NodeTree → List (List ℕ) → Inside
at_groups j n names = record { components = columns_in n; grouping = Some names; joined = j }

-- groups of the points, or of the groups, of a place
abbrev pub regrouped : Inside → List (List ℕ) → Inside
regrouped i names = record i { grouping = Some names }

-- the operand of an aggregate over groups, where each component may stand
abbrev pub in_aggregate : Place → Place
in_aggregate place.Outside = place.Outside
in_aggregate (place.Inside i) = place.Inside (record i { grouping = option_map (λ names. names_of i.components) i.grouping })

-- the components that names stand for at a place, of which there are none outside
abbrev pub columns_at : Place → List Component
columns_at place.Outside = []
columns_at (place.Inside i) = i.components

-- the place of a component as the program finds it
abbrev pub written_view : WrittenName → Written
written_view w = record { alias = option_map (λ t. t.now) w.alias; name = w.name.now }

abbrev pub inside_view : Bor Inside × WrittenName → Inside × Written
inside_view w = (w.0.now, written_view w.1)
