-- What typing gives of checks by hierarchical rules and of hierarchies: how the structure of a result fits the operand.
use Rattle.std.specs.Prelude.{◌≡◌, true, List, [], ◌∷◌, ◌++◌}
use Rattle.vtl_lists.specs.Apart.{all_apart}
use Rattle.vtl_cell.specs.declared.kind.Kind.{Kind}
use Rattle.vtl_cell.specs.declared.kind.Kind.TheVariants as k
use Rattle.vtl_syntax.specs.declared.statements.HierRule.{HierRule}
use Rattle.vtl_syntax.specs.declared.word_groups.CheckOut.{CheckOut}
use Rattle.vtl_tree.specs.Columns.{identifiers_of, measures_of, others_of, place_of}
use Rattle.vtl_tree.specs.Structure.{IsStructure, columns_of, same_name}
use Rattle.vtl_tree.specs.declared.structure.Structure.{Structure}
use Rattle.vtl_meaning.specs.Made.{HasIdentifiers, IsAlternative, IsColumnAt, component_kinds}
use Rattle.vtl_rulings.specs.HierarchyChecks.{Ruled, sided_rules}
use Rattle.vtl_tree.specs.Checks.{ruleid, sided_measures, without_codes}
use Rattle.vtl_tree.specs.RuleItems.{definitions, left_item}

-- of integers or of numbers
abbrev pub IsNumeric : Kind → Type 0
IsNumeric k.Int = Unit {0}
IsNumeric k.Num = Unit {0}
IsNumeric other = ⊥

-- the identifier of the items holds texts, and the only measure integers or numbers
pub record IsItemized (h : Ruled) (a : Structure) : Type 0 where
  pub coded : IsColumnAt (place_of h.id (identifiers_of a)) h.id k.Text (identifiers_of a)
  pub measured : IsColumnAt (place_of h.measure (columns_of a)) h.measure h.kind (columns_of a)
  pub only : component_kinds (measures_of a) ≡ h.kind ∷ []
  pub numeric : IsNumeric h.kind

pub record IsHierarchyChecked (o : CheckOut) (h : Ruled) (rules : List HierRule) (a s : Structure) : Type 0 where
  pub well_formed : IsStructure s
  pub identifiers : HasIdentifiers s (identifiers_of a ++ ruleid ∷ [])
  pub others : component_kinds (others_of s) ≡ component_kinds (sided_measures o a)
  pub itemized : IsItemized h a
  -- no two rules have one identifier
  pub apart : all_apart (λ x y. same_name x.0 y.0) (sided_rules rules) ≡ true
  pub shape : s.components ≡ without_codes h.id (identifiers_of a) ++ ruleid ∷ sided_measures o a

-- `hierarchy`: the operand's identifiers and its measure
pub record IsHierarchyMade (h : Ruled) (rules : List HierRule) (a s : Structure) : Type 0 where
  pub well_formed : IsStructure s
  pub identifiers : HasIdentifiers s (identifiers_of a)
  pub others : component_kinds (others_of s) ≡ h.kind ∷ []
  pub no_attributes : columns_of s ≡ identifiers_of s ++ measures_of s
  pub operand : IsAlternative s a s
  pub itemized : IsItemized h a
  -- no two rules define one item
  pub apart : all_apart (λ q r. same_name (left_item q) (left_item r)) (definitions rules) ≡ true
  pub shape : s.components ≡ without_codes h.id (identifiers_of a) ++ measures_of a
