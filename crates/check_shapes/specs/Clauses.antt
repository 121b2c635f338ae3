-- What clauses make of the components of their operand.
use Rattle.std.specs.Prelude.{ℕ, Bool, not, ◌||◌, ◌++◌, List, [], ◌∷◌, Option, Some, None, Result, Ok, Err, map, filter, length, nat_eq}
use Rattle.std.specs.List.{list_all}
use Rattle.vtl_cell.specs.Kinds.{same_kind}
use Rattle.vtl_text.specs.Words.{is_component_name}
use Rattle.vtl_tree.specs.declared.structure.Role.TheVariants as role
use Rattle.vtl_tree.specs.declared.structure.Component.{Component}
use Rattle.vtl_tree.specs.declared.structure.Structure.{Structure}
use Rattle.vtl_tree.specs.Choices.{chosen, is_identifier_name}
use Rattle.vtl_tree.specs.Measures.{made, measures}
use Rattle.vtl_tree.specs.Names.{is_among}
use Rattle.check_shapes.specs.Names.{known}
use Rattle.vtl_lists.specs.Results.{◌>>=◌}
use Rattle.check_faults.specs.Rules.{ruled, Tests}
use Rattle.check_faults.specs.declared.rules.Rule.{Rule}
use Rattle.check_faults.specs.declared.rules.Rule.TheVariants as rule
use Rattle.check_shapes.specs.Shape.{shaped}
use Rattle.vtl_tree.specs.declared.choices.Choice.{Choice}
use Rattle.vtl_tree.specs.declared.choices.Choice.TheVariants as choice
use Rattle.vtl_tree.specs.declared.names.Wanted.TheVariants as wanted
use Rattle.vtl_tree.specs.declared.targets.Target.{Target}
use Rattle.vtl_tree.specs.declared.renaming.Renaming.{Renaming}
use Rattle.vtl_tree.specs.ClauseShapes.{calculated, target_component, is_new, renamed, pivot_components, first_kind, names_column}

-- `calc`: a target's name, behind other targets, stands there already or is that of an identifier
abbrev pub target_tests : List Component → List (List ℕ) → List ℕ → Tests
target_tests xs before name =
    (rule.RepeatedName, is_among name before)
    ∷ (rule.WrongRole, is_identifier_name xs name) ∷ []

-- `calc`: the components as the targets leave them, then the targets that are new
abbrev pub calc_form : List Target → List Component → Result Structure Rule
calc_form ts xs = shaped (map (calculated ts) xs ++ map target_component (filter (is_new xs) ts))

-- `aggr`: the grouping identifiers, then the targets
abbrev pub aggr_form : Choice → List (List ℕ) → List Target → List Component → Result Structure Rule
aggr_form c names ts xs = shaped (chosen c names xs ++ map target_component ts)

-- `rename`: all at once, in their places
abbrev pub rename_form : List Renaming → List Component → Result Structure Rule
rename_form rs xs = shaped (map (renamed rs) xs)

-- `pivot`: one measure for each code of the identifier, of the kind of the measure
abbrev pub pivot_codes : Option (List (List ℕ)) → Result (List (List ℕ)) Rule
pivot_codes None = Err rule.NoCodes
pivot_codes (Some texts) = Ok texts

abbrev pub has_no_name : List (List ℕ) → Bool
has_no_name texts = not (list_all is_component_name texts)

abbrev pub pivot_form : List ℕ → List ℕ → List Component → Result Structure Rule
pivot_form name measure xs =
    (known wanted.Identifier xs [] name >>= λ x. pivot_codes x.codes)
    >>= λ texts. known wanted.Measure xs [] measure
    >>= λ m. ruled ((rule.RepeatedComponent, has_no_name texts) ∷ []) (tt {0})
    >>= λ u. shaped (pivot_components name m.kind texts xs)

-- there is no measure, or they have several kinds
abbrev pub are_unlike : List Component → Bool
are_unlike ms = nat_eq (length ms) 0 || not (list_all (λ x. same_kind (first_kind ms) x.kind) ms)

abbrev pub unpivot_form : List ℕ → List ℕ → List Component → Result Structure Rule
unpivot_form name measure xs =
    ruled ((rule.MeasuresDisagree, are_unlike (measures xs)) ∷ []) (tt {0})
    >>= λ u. shaped (chosen choice.Except [] xs ++ names_column name (measures xs) ∷ made measure role.Measure (first_kind (measures xs)) ∷ [])
