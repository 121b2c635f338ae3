-- Operators on several data sets.
use Rattle.std.specs.Prelude.{Bool, not, ◌&&◌, ◌||◌, ◌++◌, List, [], ◌∷◌, Some, Result, filter, length, nat_eq}
use Rattle.std.specs.List.{list_any, list_all}
use Rattle.vtl_cell.specs.declared.kind.Kind.TheVariants as k
use Rattle.vtl_tree.specs.declared.structure.Role.TheVariants as role
use Rattle.vtl_tree.specs.declared.structure.Component.{Component}
use Rattle.vtl_tree.specs.declared.structure.Structure.{Structure}
use Rattle.vtl_tree.specs.Choices.{is_identifier}
use Rattle.vtl_tree.specs.Measures.{Gives, any_unmet, bool_var, given_measures, is_miscounted, measures}
use Rattle.vtl_tree.specs.Operands.{agree, agreed_identifiers, all_agree, all_meet, has_one_measure, is_there}
use Rattle.vtl_lists.specs.Results.{◌>>=◌}
use Rattle.check_faults.specs.Rules.{ruled, Tests}
use Rattle.check_faults.specs.declared.rules.Rule.{Rule}
use Rattle.check_faults.specs.declared.rules.Rule.TheVariants as rule
use Rattle.check_shapes.specs.Shape.{shaped}
use Rattle.vtl_tree.specs.declared.measures.Outcome.{Outcome}
use Rattle.vtl_tree.specs.declared.operands.Compared.TheVariants as compared
use Rattle.vtl_tree.specs.Pairs.{contains, pair_identifiers, is_common, check_measures}

-- an operand's identifiers, beside other operands, and then measures
abbrev pub identified : List Structure → Structure → List Component → Result Structure Rule
identified others s ms = shaped (agreed_identifiers others s.components ++ ms)

-- an operator on the measures of two data sets
abbrev pub pair_tests : Outcome → Gives → Structure → Structure → Tests
pair_tests o f s t =
    (rule.WrongKind, any_unmet f (Some t.components) s.components)
    ∷ (rule.IdentifiersDisagree, not (contains s t || contains t s))
    ∷ (rule.MeasuresDisagree, not (agree compared.Names role.Measure s.components t.components) || is_miscounted o (length (measures s.components))) ∷ []

abbrev pub pair_form : Outcome → Gives → Structure → Structure → Result Structure Rule
pair_form o f s t =
    ruled (pair_tests o f s t) (tt {0})
    >>= λ u. shaped (pair_identifiers s t ++ given_measures o f (Some t.components) s.components)

-- `if` on data sets: a condition with one boolean measure, and two choices with its identifiers and the same measures
abbrev pub are_choices : Structure → Structure → Structure → Bool
are_choices c a b =
    nat_eq (length (measures c.components)) 1
    && not (nat_eq (length (measures a.components)) 0)
    && agree compared.Kinds role.Measure a.components b.components

abbrev pub if_tests : Structure → Structure → Structure → Tests
if_tests c a b =
    (rule.WrongKind, not (all_meet k.Bool c.components))
    ∷ (rule.IdentifiersDisagree, not (all_agree compared.Kinds role.Identifier c.components (a ∷ b ∷ [])))
    ∷ (rule.MeasuresDisagree, not (are_choices c a b)) ∷ []

abbrev pub if_form : Structure → Structure → Structure → Result Structure Rule
if_form c a b = ruled (if_tests c a b) (tt {0}) >>= λ u. identified (a ∷ b ∷ []) c (measures a.components)

-- `union`, `intersect`, `setdiff`, `symdiff`: the same identifiers and the same measures
abbrev pub set_tests : Structure → List Structure → Tests
set_tests s others =
    (rule.IdentifiersDisagree, not (all_agree compared.Kinds role.Identifier s.components others))
    ∷ (rule.MeasuresDisagree, not (all_agree compared.Kinds role.Measure s.components others)) ∷ []

abbrev pub set_form : Structure → List Structure → Result Structure Rule
set_form s others = ruled (set_tests s others) (tt {0}) >>= λ u. identified others s (measures s.components)

abbrev pub is_at_odds : Structure → Component → Bool
is_at_odds t x = is_common t x && not (is_there compared.Kinds t.components x)

-- `exists_in`: at least one common identifier, each of one kind
abbrev pub exists_tests : Structure → Structure → Tests
exists_tests s t =
    (rule.IdentifiersDisagree, not (list_any (is_common t) (filter is_identifier s.components)) || list_any (is_at_odds t) (filter is_identifier s.components)) ∷ []

abbrev pub exists_form : Structure → Structure → Result Structure Rule
exists_form s t = ruled (exists_tests s t) (tt {0}) >>= λ u. identified (t ∷ []) s (bool_var ∷ [])

-- `check`: one boolean measure; the imbalance, of which there is one or none, has the same identifiers and one measure, a number
abbrev pub has_one_number : Structure → Bool
has_one_number t = has_one_measure k.Num t.components

abbrev pub check_tests : Structure → List Structure → Tests
check_tests s others =
    (rule.IdentifiersDisagree, not (all_agree compared.Kinds role.Identifier s.components others))
    ∷ (rule.MeasuresDisagree, not (has_one_measure k.Bool s.components) || not (list_all has_one_number others)) ∷ []

abbrev pub check_form : Structure → List Structure → Result Structure Rule
check_form s others = ruled (check_tests s others) (tt {0}) >>= λ u. identified others s check_measures
