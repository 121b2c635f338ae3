-- `hierarchy`: points that rules compute of items, by recursion over how left items depend on right ones.
use Rattle.std.specs.Prelude.{ℕ, zero, suc, Bool, cond, List, [], ◌∷◌, ◌++◌, length, map, Option, Some, None, option_map}
use Rattle.std.specs.List.{filter_map, find, flat_map}
use Rattle.std.specs.Option.{option_map_or}
use Rattle.vtl_decimal.specs.Settings.{Settings}
use Rattle.vtl_decimal.specs.declared.number.Fault.{Fault}
use Rattle.vtl_cell.specs.Kinds.{is_null}
use Rattle.vtl_cell.specs.Outcome.{Outcome, fault_in, faults_by, unless}
use Rattle.vtl_cell.specs.Row.{Row}
use Rattle.vtl_cell.specs.declared.cell.Cell.{Cell}
use Rattle.vtl_cell.specs.declared.kind.Kind.{Kind}
use Rattle.vtl_syntax.specs.declared.statements.HierRule.{HierRule}
use Rattle.vtl_syntax.specs.declared.word_groups.HierInput.{HierInput}
use Rattle.vtl_syntax.specs.declared.word_groups.HierInput.TheVariants as input
use Rattle.vtl_syntax.specs.declared.word_groups.HierOut.{HierOut}
use Rattle.vtl_syntax.specs.declared.word_groups.HierOut.TheVariants as out
use Rattle.vtl_syntax.specs.declared.word_groups.Mode.{Mode}
use Rattle.vtl_tree.specs.Environment.{DataSet}
use Rattle.vtl_tree.specs.Structure.{key_width, same_name}
use Rattle.vtl_tree.specs.declared.structure.Structure.{Structure}
use Rattle.vtl_meaning.specs.Operators.{left_of}
use Rattle.vtl_meaning.specs.Points.{cell_or_null}
use Rattle.vtl_meaning.specs.Sets.{united}
use Rattle.vtl_rulings.specs.HierarchyChecks.{Ruled, combinations, items_at, key_at}
use Rattle.vtl_rulings.specs.Modes.{Found, Items, appears}
use Rattle.vtl_rulings.specs.Sides.{right_side}
use Rattle.vtl_tree.specs.RuleItems.{definitions, left_item, right_items}

-- a rule is about an item
abbrev pub defines : (item : List ℕ) → HierRule → Bool
defines item r = same_name (left_item r) item

-- ---- at one combination
-- what a rule computes: a value or its fault, where it has a point; the items concerned are those on the right
abbrev pub computed : Settings → Mode → Kind → Items → HierRule → Option (Outcome Cell)
computed p m kind items r = cond (appears m (map items (right_items r))) (Some (right_side p m kind items r)) None

-- What a rule takes for an item that another one defines: what the operand has of it, the computed point, or the computed point
-- where it appears and is not null, and otherwise the operand's. A fault counts as null here: the whole call has it.
abbrev pub taken : HierInput → (given : Found) → (made : Option (Outcome Cell)) → Found
taken input.Dataset given made = given
taken input.Rule given made = option_map cell_or_null made
taken input.RulePriority given made = option_map_or (λ v. cond (is_null (cell_or_null v)) given (Some (cell_or_null v))) made given

module _ (p : Settings) (m : Mode) (kind : Kind) (i : HierInput) (rules : List HierRule) (given : Items) where
  -- items down to a depth of rules below them
  abbrev pub items_within : ℕ → Items
  items_within zero item = given item
  items_within (suc depth) item = option_map_or (λ r. taken i (given item) (computed p m kind (items_within depth) r)) (find (defines item) rules) (given item)

  -- where no item depends on itself, no chain of rules is longer than there are rules
  abbrev pub items_of : Items
  items_of = items_within (length rules)

-- ---- at all combinations
module _ (p : Settings) (h : Ruled) (m : Mode) (i : HierInput) (rules : List HierRule) (a : DataSet) where
  abbrev pub made_at : HierRule → (combination : Row) → Option (Outcome Cell)
  made_at r combination = computed p m h.kind (items_of p m h.kind i (definitions rules) (items_at h a combination)) r

  abbrev pub made_fault : HierRule → (combination : Row) → Option Fault
  made_fault r combination = option_map_or fault_in (made_at r combination) None

  abbrev pub made_point : HierRule → (combination : Row) → Option Row
  made_point r combination = option_map (λ v. key_at h.id a.structure combination (left_item r) ++ (cell_or_null v ∷ [])) (made_at r combination)

  abbrev pub made_points : List Row
  made_points = flat_map (λ r. filter_map (made_point r) (combinations h.id a)) (definitions rules)

  -- the computed points alone, or these and the operand's other points
  abbrev pub shown_points : HierOut → Structure → List Row
  shown_points out.Computed s = made_points
  shown_points out.All s = united (key_width s) (made_points ∷ left_of a s ∷ [])

  abbrev pub hierarchy_of : HierOut → Structure → Outcome (List Row)
  hierarchy_of o s = unless (faults_by (λ r. faults_by (made_fault r) (combinations h.id a)) (definitions rules)) (shown_points o s)
