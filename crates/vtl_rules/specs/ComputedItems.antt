-- Rules of a hierarchy that are run one after the other: a column of values, one at each combination, of each rule.
use Rattle.std.specs.Prelude.{ℕ, cond, List, [], ◌∷◌, ◌++◌, map, Option, None, Some, option_map, slice_index_or}
use Rattle.std.specs.List.{filter_map, list_any}
use Rattle.std.specs.Map.{keys_of, lookup}
use Rattle.std.specs.Option.{option_map_or}
use Rattle.vtl_decimal.specs.Settings.{Settings}
use Rattle.vtl_decimal.specs.declared.number.Fault.{Fault}
use Rattle.vtl_text.specs.Texts.{same_text}
use Rattle.vtl_cell.specs.Outcome.{Outcome, fault_in, faults_by, join}
use Rattle.vtl_cell.specs.Row.{Row}
use Rattle.vtl_cell.specs.declared.cell.Cell.{Cell}
use Rattle.vtl_cell.specs.declared.kind.Kind.{Kind}
use Rattle.vtl_rows.specs.Tables.{cells_at}
use Rattle.vtl_syntax.specs.declared.statements.HierRule.{HierRule}
use Rattle.vtl_syntax.specs.declared.word_groups.HierInput.{HierInput}
use Rattle.vtl_syntax.specs.declared.word_groups.Mode.{Mode}
use Rattle.vtl_tree.specs.RuleItems.{left_item, right_items}
use Rattle.vtl_meaning.specs.Points.{cell_or_null}
use Rattle.vtl_rulings.specs.Modes.{Found, appears}
use Rattle.vtl_rules.specs.Itemized.{Computed, Itemized, combination_at, item_key, numbers_of, source_of, taken_at}
use Rattle.vtl_rules.specs.SideValues.{right_value}

-- ---- a run
-- what a rule computes of what there is of its right items
abbrev pub computed_of : Settings → Mode → Kind → HierRule → List Found → Option (Outcome Cell)
computed_of p m kind r right = cond (appears m right) (Some (right_value p m kind r right)) None

abbrev pub value_or_null : Option (Outcome Cell) → Found
value_or_null v = option_map cell_or_null v

abbrev pub fault_of : Option (Outcome Cell) → Option Fault
fault_of v = option_map_or fault_in v None

module _ (p : Settings) (m : Mode) (kind : Kind) (i : HierInput) (x : Itemized) where
  -- at the combination of a number, of what was computed before
  abbrev pub computed_at : Computed → HierRule → ℕ → Option (Outcome Cell)
  computed_at made r n = computed_of p m kind r (map (taken_at x n (combination_at x n)) (map (source_of i made) (right_items r)))

  abbrev pub column_by : Computed → HierRule → List Found
  column_by made r = map (λ n. value_or_null (computed_at made r n)) (numbers_of x)

  abbrev pub fault_by : Computed → HierRule → Option Fault
  fault_by made r = faults_by (λ n. fault_of (computed_at made r n)) (numbers_of x)

  -- with the column of one rule more, unless there is one of its item
  abbrev pub with_column : Computed → HierRule → Computed
  with_column made r = cond (list_any (same_text (left_item r)) (keys_of made)) made (made ++ (left_item r, column_by made r) ∷ [])

  -- with those of all, one rule after the other
  abbrev pub ran_columns : Computed → List HierRule → Computed
  ran_columns made [] = made
  ran_columns made (r ∷ rs) = ran_columns (with_column made r) rs

  abbrev pub ran_fault : Computed → List HierRule → Option Fault
  ran_fault made [] = None
  ran_fault made (r ∷ rs) = join (fault_by made r) (ran_fault (with_column made r) rs)

-- ---- the points
module _ (x : Itemized) where
  -- of a rule at the combination of a number
  abbrev pub made_row : HierRule → List Found → ℕ → Option Row
  made_row r column n = option_map (λ v. cells_at x.places (item_key (combination_at x n) (left_item r)) ++ v ∷ []) (slice_index_or column n None)

  abbrev pub made_rows : Computed → HierRule → List Row
  made_rows made r = option_map_or (λ column. filter_map (made_row r column) (numbers_of x)) (lookup (same_text (left_item r)) made) []
