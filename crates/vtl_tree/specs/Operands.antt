-- Components of several operands.
use Rattle.std.specs.Prelude.{ℕ, Bool, true, false, not, ◌&&◌, ◌||◌, List, Option, Some, None, map, filter, cond, nat_eq, length}
use Rattle.std.specs.List.{list_all}
use Rattle.std.specs.Cmp.Lexicographic.{pointwise}
use Rattle.std.specs.Option.{option_map_or}
use Rattle.vtl_cell.specs.Kinds.{same_kind}
use Rattle.vtl_cell.specs.ScalarKinds.{meets}
use Rattle.vtl_cell.specs.declared.kind.Kind.{Kind}
use Rattle.vtl_tree.specs.Structure.{same_name, same_role}
use Rattle.vtl_tree.specs.declared.structure.Role.{Role}
use Rattle.vtl_tree.specs.declared.structure.Component.{Component}
use Rattle.vtl_tree.specs.declared.structure.Structure.{Structure}
use Rattle.vtl_tree.specs.Choices.{is_identifier}
use Rattle.vtl_tree.specs.Measures.{measures}
use Rattle.vtl_tree.specs.Names.{component_of}
use Rattle.vtl_tree.specs.declared.operands.Compared.{Compared}
use Rattle.vtl_tree.specs.declared.operands.Compared.TheVariants as compared

-- two components of one name are alike
abbrev pub is_alike : Compared → Component → Component → Bool
is_alike compared.Names x y = same_role x.role y.role
is_alike compared.Kinds x y = same_role x.role y.role && same_kind x.kind y.kind

-- a component like this one is among the operand's
abbrev pub is_there : Compared → List Component → Component → Bool
is_there c ys x = option_map_or (is_alike c x) (component_of x.name ys) false

-- each component of the role is among the other operand's
abbrev pub is_within : Compared → Role → List Component → List Component → Bool
is_within c r xs ys = list_all (is_there c ys) (filter (λ x. same_role x.role r) xs)

-- two operands have the same components of the role
abbrev pub agree : Compared → Role → List Component → List Component → Bool
agree c r xs ys = is_within c r xs ys && is_within c r ys xs

abbrev pub all_agree : Compared → Role → List Component → List Structure → Bool
all_agree c r xs others = list_all (λ s. agree c r xs s.components) others

-- the same list of texts, or none
abbrev pub same_codes : Option (List (List ℕ)) → Option (List (List ℕ)) → Bool
same_codes None None = true
same_codes None (Some ds) = false
same_codes (Some cs) None = false
same_codes (Some cs) (Some ds) = pointwise same_name cs ds

-- the operand has no identifier of this name, or one with the same codes
abbrev pub is_coded_alike : Component → List Component → Bool
is_coded_alike x ys = option_map_or (λ y. not (is_identifier y) || same_codes x.codes y.codes) (component_of x.name ys) true

-- an identifier keeps its codes only where all operands that have it declare the same list
abbrev pub agreed : List Structure → Component → Component
agreed others x = cond (list_all (λ s. is_coded_alike x s.components) others) x (record x { codes = None })

-- the identifiers of an operand, beside other operands
abbrev pub agreed_identifiers : List Structure → List Component → List Component
agreed_identifiers others xs = map (agreed others) (filter is_identifier xs)

-- each measure has a kind that may stand where the wanted one is
unfoldable pub all_meet : Kind → List Component → Bool
all_meet kind xs = list_all (λ x. meets kind x.kind) (measures xs)

-- there is one measure alone, of the wanted kind
abbrev pub has_one_measure : Kind → List Component → Bool
has_one_measure kind xs = nat_eq (length (measures xs)) 1 && all_meet kind xs
