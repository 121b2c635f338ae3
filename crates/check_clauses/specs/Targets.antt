-- The targets of `calc` and `aggr`, behind their values.
use Rattle.std.specs.Prelude.{ℕ, Bool, true, false, List, [], ◌∷◌, ◌++◌, Option, Some, None, Result, Ok, Err, map, cond}
use Rattle.std.specs.List.{list_any}
use Rattle.std.specs.Option.{option_map_or}
use Rattle.vtl_cell.specs.declared.kind.Kind.{Kind}
use Rattle.vtl_cell.specs.declared.kind.Kind.TheVariants as k
use Rattle.vtl_syntax.specs.Trees as tree
use Rattle.vtl_syntax.specs.Trees.{Exp}
use Rattle.vtl_syntax.specs.declared.parts.Comp.{Comp}
use Rattle.vtl_syntax.specs.declared.parts.GroupPart.{GroupPart}
use Rattle.vtl_syntax.specs.declared.word_groups.WrittenRole.{WrittenRole}
use Rattle.vtl_syntax.specs.declared.word_groups.WrittenRole.TheVariants as written
use Rattle.vtl_tree.specs.CompExp as exp
use Rattle.vtl_tree.specs.CompExp.{CompExp}
use Rattle.vtl_tree.specs.declared.expression.AggCall.{AggCall}
use Rattle.vtl_tree.specs.declared.structure.Component.{Component}
use Rattle.vtl_tree.specs.declared.structure.Role.{Role}
use Rattle.vtl_tree.specs.declared.structure.Structure.{Structure}
use Rattle.vtl_tree.specs.declared.structure.Role.TheVariants as role
use Rattle.vtl_tree.specs.Trees as nodes
use Rattle.vtl_tree.specs.Trees.{AggTree, FormTree, ItemTree, NodeTree, ValueTree}
use Rattle.vtl_tree.specs.declared.specifications.AggItems.TheVariants as items
use Rattle.vtl_tree.specs.declared.specifications.AggTarget.{AggTarget}
use Rattle.vtl_lists.specs.Results.{◌>>=◌}
use Rattle.check_faults.specs.Rules.{ruled}
use Rattle.check_faults.specs.declared.rules.Rule.{Rule}
use Rattle.check_faults.specs.declared.rules.Rule.TheVariants as rule
use Rattle.check_shapes.specs.Clauses.{aggr_form, calc_form, target_tests}
use Rattle.vtl_tree.specs.Names.{component_of, is_among, name_of}
use Rattle.vtl_tree.specs.declared.targets.Target.{Target}
use Rattle.check_values.specs.Groupings.{grouping_choice, grouping_names, grouping_of}
use Rattle.vtl_tree.specs.Kinds.{exp_kind, given_kind}
use Rattle.check_operators.specs.Typed.{TypedTree, components_in, value_in}
use Rattle.check_clauses.specs.Clauses.{made_of}
use Rattle.check_clauses.specs.declared.targets.Made.{Made}

abbrev pub role_of : Option WrittenRole → Option Role
role_of None = None
role_of (Some written.Measure) = Some role.Measure
role_of (Some written.Attribute) = Some role.Attribute

-- ---- `calc`
abbrev pub item_names : List ItemTree → List (List ℕ)
item_names items = map (λ i. i.target) items

-- the name of a target behind others
abbrev pub calc_name : NodeTree → List ItemTree → Comp → Result (Unit {0}) Rule
calc_name n done c = ruled (target_tests (components_in n) (item_names done) (name_of c)) (tt {0})

abbrev pub item_of : Option WrittenRole → Comp → ValueTree → ItemTree
item_of r c v = record { role = role_of r; target = name_of c; value = v }

abbrev pub with_item : Option WrittenRole → Comp → List ItemTree → ValueTree → Result (List ItemTree) Rule
with_item r c done v = Ok (done ++ item_of r c v ∷ [])

-- the kind of a component, or of none
abbrev pub component_kind : List Component → Option (List ℕ) → Kind
component_kind xs None = k.Null
component_kind xs (Some name) = option_map_or (λ x. x.kind) (component_of name xs) k.Null

abbrev pub value_kind : List Component → ValueTree → Kind
value_kind xs (nodes.scalar e) = exp_kind e
value_kind xs (nodes.analytic call) = given_kind call.op (component_kind xs call.component)

abbrev pub target_of : List Component → ItemTree → Target
target_of xs i = record { name = i.target; role = i.role; kind = value_kind xs i.value }

abbrev pub is_analytic_value : ValueTree → Bool
is_analytic_value (nodes.scalar e) = false
is_analytic_value (nodes.analytic call) = true

abbrev pub is_analytic : ItemTree → Bool
is_analytic i = is_analytic_value i.value

-- `calc`, by whether there is an analytic call among the targets
abbrev pub calc_tree : NodeTree → List ItemTree → FormTree
calc_tree n items = cond (list_any is_analytic items) (nodes.analytic_of n (nodes.of_items items)) (nodes.calc n items)

unfoldable pub calc_clause : NodeTree → List ItemTree → Result NodeTree Rule
calc_clause n items = calc_form (map (target_of (components_in n)) items) (components_in n) >>= made_of (calc_tree n items)

-- ---- `aggr`
abbrev pub made_names : List Made → List (List ℕ)
made_names done = map (λ m. m.target.target) done

abbrev pub aggr_name : List Made → Comp → Result (Unit {0}) Rule
aggr_name done c = ruled ((rule.RepeatedName, is_among (name_of c) (made_names done)) ∷ []) (tt {0})

abbrev pub is_aggregate : Exp → Bool
is_aggregate (tree.aggregate f e g h) = true
is_aggregate e = false

-- a target is an aggregate call and nothing else
abbrev pub call_in : Bool → CompExp → Result (AggCall × Kind) Rule
call_in true (exp.aggregate call kind) = Ok (call, kind)
call_in _ e = Err rule.AggregateMisuse

abbrev pub made_as : Option WrittenRole → Comp → AggCall × Kind → Made
made_as r c call = record { target = record { role = role_of r; target = name_of c; call = call.0 }; kind = call.1 }

unfoldable pub with_made : Option WrittenRole → Comp → Exp → List Made → TypedTree → Result (List Made) Rule
with_made r c e done x = value_in x >>= λ v. call_in (is_aggregate e) v >>= λ call. Ok (done ++ made_as r c call ∷ [])

abbrev pub made_target : Made → Target
made_target m = record { name = m.target.target; role = m.target.role; kind = m.kind }

abbrev pub targets_in : List Made → List AggTarget
targets_in made = map (λ m. m.target) made

abbrev pub aggr_tree : Option GroupPart → NodeTree → List Made → Option CompExp → AggTree
aggr_tree g n made having = record { items = items.Targets (targets_in made); grouping = grouping_of g (components_in n); having = having }

-- the structure that `aggr` gives, and the identifiers by which its groups are formed
abbrev pub grouped : Option GroupPart → NodeTree → List Made → Result (Structure × List (List ℕ)) Rule
grouped g n made =
    aggr_form (grouping_choice g) (grouping_names g) (map made_target made) (components_in n) >>= λ s. Ok (s, grouping_of g (components_in n))

unfoldable pub aggr_clause : Option GroupPart → NodeTree → List Made → Option CompExp → Result NodeTree Rule
aggr_clause g n made having =
    aggr_form (grouping_choice g) (grouping_names g) (map made_target made) (components_in n)
    >>= made_of (nodes.aggregate n (aggr_tree g n made having))
