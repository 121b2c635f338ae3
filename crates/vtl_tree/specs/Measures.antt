-- The measures that an operator gives.
use Rattle.std.specs.Prelude.{ℕ, Bool, false, not, ◌&&◌, List, [], ◌∷◌, Option, Some, None, map, filter, nat_eq, codes, is_none, cond, unwrap_or}
use Rattle.std.specs.List.{list_any}
use Rattle.vtl_cell.specs.declared.kind.Kind.{Kind}
use Rattle.vtl_cell.specs.declared.kind.Kind.TheVariants as k
use Rattle.vtl_tree.specs.Structure.{same_role}
use Rattle.vtl_tree.specs.declared.structure.Role.{Role}
use Rattle.vtl_tree.specs.declared.structure.Role.TheVariants as role
use Rattle.vtl_tree.specs.declared.structure.Component.{Component}
use Rattle.vtl_tree.specs.Names.{component_of}
use Rattle.vtl_tree.specs.declared.measures.Outcome.{Outcome}
use Rattle.vtl_tree.specs.declared.measures.Outcome.TheVariants as outcome

-- of the kinds of a measure and of its namesake, the kind that an operator gives, or none where they do not meet its row
abbrev pub Gives : Type 0
Gives = Kind → Kind → Option Kind

abbrev pub is_measure : Component → Bool
is_measure x = same_role x.role role.Measure

-- the measures, in their order
abbrev pub measures : List Component → List Component
measures xs = filter is_measure xs

-- a component without codes
abbrev pub made : List ℕ → Role → Kind → Component
made name r kind = record { name = name; role = r; kind = kind; codes = None }

abbrev pub measure_kind : Option Component → Option Kind
measure_kind None = None
measure_kind (Some y) = cond (is_measure y) (Some y.kind) None

-- the kind of a measure's namesake in the other operand; with one operand alone the measure is its own namesake
abbrev pub namesake : Option (List Component) → Component → Option Kind
namesake None x = Some x.kind
namesake (Some ys) x = measure_kind (component_of x.name ys)

-- the kind that is given; a measure without a namesake keeps its own
abbrev pub paired : Gives → Kind → Option Kind → Option Kind
paired f a None = Some a
paired f a (Some b) = f a b

-- a measure that does not meet the operator's row
abbrev pub is_unmet : Gives → Option (List Component) → Component → Bool
is_unmet f others x = is_measure x && is_none (paired f x.kind (namesake others x))

abbrev pub any_unmet : Gives → Option (List Component) → List Component → Bool
any_unmet f others xs = list_any (is_unmet f others) xs

abbrev pub given_measure : Gives → Option (List Component) → Component → Component
given_measure f others x = made x.name role.Measure (unwrap_or (paired f x.kind (namesake others x)) x.kind)

abbrev pub bool_var : Component
bool_var = made (codes "bool_var") role.Measure k.Bool

abbrev pub int_var : Component
int_var = made (codes "int_var") role.Measure k.Int

-- the operand has another number of measures than the operator asks for
abbrev pub is_miscounted : Outcome → ℕ → Bool
is_miscounted outcome.Each n = nat_eq n 0
is_miscounted outcome.All n = false
is_miscounted outcome.Truth n = not (nat_eq n 1)
is_miscounted outcome.Count n = false

-- the measures of the result
abbrev pub given_measures : Outcome → Gives → Option (List Component) → List Component → List Component
given_measures outcome.Each f others xs = map (given_measure f others) (measures xs)
given_measures outcome.All f others xs = map (given_measure f others) (measures xs)
given_measures outcome.Truth f others xs = bool_var ∷ []
given_measures outcome.Count f others xs = int_var ∷ []
