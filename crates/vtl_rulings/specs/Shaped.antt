-- What typing gives of checks: how the structure of a result fits the operand and the rules.
use Rattle.std.specs.Prelude.{◌≡◌, true, List, [], ◌∷◌, ◌++◌, Option}
use Rattle.std.specs.List.{AllByRecursion}
use Rattle.std.specs.Option.{IfSome, option_to_list}
use Rattle.vtl_decimal.specs.Settings.{Settings}
use Rattle.vtl_lists.specs.Apart.{all_apart}
use Rattle.vtl_cell.specs.Profile.{IsOfProfile}
use Rattle.vtl_cell.specs.ScalarKinds.{meets}
use Rattle.vtl_cell.specs.declared.cell.Cell.TheVariants as c
use Rattle.vtl_cell.specs.declared.kind.Kind.{Kind}
use Rattle.vtl_cell.specs.declared.kind.Kind.TheVariants as k
use Rattle.vtl_syntax.specs.declared.word_groups.CheckOut.{CheckOut}
use Rattle.vtl_tree.specs.Columns.{identifiers_of, measures_of, others_of}
use Rattle.vtl_tree.specs.CompExp.{CompExp}
use Rattle.vtl_tree.specs.Kinds.{exp_kind}
use Rattle.vtl_tree.specs.Operands.{agreed_identifiers}
use Rattle.vtl_tree.specs.Pairs.{check_measures}
use Rattle.vtl_tree.specs.Structure.{IsStructure, columns_of, same_name}
use Rattle.vtl_tree.specs.Trees.{PointRuleTree}
use Rattle.vtl_tree.specs.declared.specifications.CheckSpec.{CheckSpec}
use Rattle.vtl_tree.specs.declared.structure.Component.{Component}
use Rattle.vtl_tree.specs.declared.structure.Structure.{Structure}
use Rattle.vtl_meaning.specs.Made.{AreAmong, HasIdentifiers, IsTyped, component_kinds}
use Rattle.vtl_tree.specs.Checks.{ruled_measures, ruleid}
use Rattle.vtl_rulings.specs.PointChecks.{point_rules}

-- ---- `check_datapoint`
-- a condition on points of these columns: a boolean, or null throughout
abbrev pub IsConditionOver : Settings → List Component → CompExp → Type 0
IsConditionOver p xs e = IsTyped p xs e × (meets k.Bool (exp_kind e) ≡ true)

pub record IsPointRuleOver (p : Settings) (xs : List Component) (r : PointRuleTree) : Type 0 where
  pub antecedent : IfSome r.antecedent (IsConditionOver p xs)
  pub condition : IsConditionOver p xs r.condition
  pub level : IfSome r.errorlevel (λ n. IsOfProfile p (c.Int n))

pub record IsPointChecked (p : Settings) (o : CheckOut) (rules : List PointRuleTree) (a s : Structure) : Type 0 where
  pub well_formed : IsStructure s
  pub identifiers : HasIdentifiers s (identifiers_of a ++ ruleid ∷ [])
  pub others : component_kinds (others_of s) ≡ component_kinds (ruled_measures o a)
  pub typed : AllByRecursion (IsPointRuleOver p (columns_of a)) rules
  -- no two rules have one identifier
  pub apart : all_apart (λ x y. same_name x.0 y.0) (point_rules rules) ≡ true
  pub shape : s.components ≡ identifiers_of a ++ ruleid ∷ ruled_measures o a

-- ---- `check`
-- an imbalance has the operand's identifiers, in any order, and one measure, an integer or a number
pub record IsImbalance (a d : Structure) : Type 0 where
  pub there : AreAmong (identifiers_of d) (identifiers_of a)
  pub back : AreAmong (identifiers_of a) (identifiers_of d)
  pub kind : Kind
  pub measured : component_kinds (measures_of d) ≡ kind ∷ []
  pub numeric : meets k.Num kind ≡ true

pub record IsChecked (p : Settings) (spec : CheckSpec) (imbalance : Option Structure) (a s : Structure) : Type 0 where
  pub well_formed : IsStructure s
  pub identifiers : HasIdentifiers s (identifiers_of a)
  pub others : component_kinds (others_of s) ≡ component_kinds check_measures
  pub measured : component_kinds (measures_of a) ≡ k.Bool ∷ []
  pub fits : IfSome imbalance (IsImbalance a)
  pub level : IfSome spec.errorlevel (λ n. IsOfProfile p (c.Int n))
  pub shape : s.components ≡ agreed_identifiers (option_to_list imbalance) a.components ++ check_measures
