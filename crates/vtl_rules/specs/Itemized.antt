-- The points of an operand by the combinations of its other identifiers and by items, and where rules take items from.
use Rattle.std.specs.Prelude.{ℕ, ◌+◌, cond, List, [], ◌∷◌, ◌++◌, length, Option, None, Some, option_map, slice_index_or}
use Rattle.std.specs.List.{find, range_with_len}
use Rattle.std.specs.Map.{lookup}
use Rattle.std.specs.Option.{option_map_or}
use Rattle.vtl_text.specs.Texts.{same_text}
use Rattle.vtl_cell.specs.Kinds.{is_null}
use Rattle.vtl_cell.specs.Row.{Row, column_of}
use Rattle.vtl_cell.specs.declared.cell.Cell.TheVariants as c
use Rattle.vtl_rows.specs.Places.{row_at}
use Rattle.vtl_rows.specs.Tables.{cells_at}
use Rattle.vtl_index.specs.Groups.{firsts}
use Rattle.vtl_index.specs.Leads.{leads_of}
use Rattle.vtl_index.specs.Seekers.{Sought, is_meant}
use Rattle.vtl_syntax.specs.declared.word_groups.HierInput.{HierInput}
use Rattle.vtl_syntax.specs.declared.word_groups.HierInput.TheVariants as input
use Rattle.vtl_tree.specs.Columns.{identifiers_of, place_of, places_in}
use Rattle.vtl_tree.specs.Environment.{DataSet}
use Rattle.vtl_tree.specs.Structure.{columns_of, key_width}
use Rattle.vtl_tree.specs.declared.structure.Structure.{Structure}
use Rattle.vtl_meaning.specs.Turned.{other_identifiers}
use Rattle.vtl_rulings.specs.Modes.{Found, Items}

-- the places of the other identifiers
abbrev pub other_places : (id : List ℕ) → Structure → List ℕ
other_places id a = places_in (columns_of a) (other_identifiers id a)

-- the points by the other identifiers and by the item behind them, which keys have in this order
abbrev pub sought_items : (id : List ℕ) → DataSet → Sought
sought_items id d = record {
  own = other_places id d.structure ++ place_of id (columns_of d.structure) ∷ [];
  asked = range_with_len 0 (length (other_places id d.structure) + 1);
  rows = d.points;
}

-- The points, where the other identifiers and the measure stand in them, where a point's identifiers stand in keys, and the first row
-- of each combination.
pub record Itemized : Type 0 where
  pub sought : Sought
  pub others : List ℕ
  pub measure : ℕ
  pub places : List ℕ
  pub leading : List ℕ

abbrev pub itemized_by : (id : List ℕ) → DataSet → Itemized
itemized_by id d = record {
  sought = sought_items id d;
  others = other_places id d.structure;
  measure = key_width d.structure;
  places = places_in (other_identifiers id d.structure) (identifiers_of d.structure);
  leading = firsts (leads_of (cells_at (other_places id d.structure)) d.points);
}

-- the combination of a number
abbrev pub combination_at : Itemized → ℕ → Row
combination_at x k = cells_at x.others (row_at x.sought.rows (slice_index_or x.leading k 0))

-- the numbers of all
abbrev pub numbers_of : Itemized → List ℕ
numbers_of x = range_with_len 0 (length x.leading)

-- a combination with an item behind it
abbrev pub item_key : Row → (item : List ℕ) → Row
item_key combination item = combination ++ c.Text item ∷ []

-- the operand's value of an item at a combination, where it has a point there
abbrev pub given_at : Itemized → (combination : Row) → Items
given_at x combination item = option_map (column_of x.measure) (find (is_meant x.sought (item_key combination item)) x.sought.rows)

-- ---- where a rule takes an item from
-- what was computed of items: for each item a value at each combination, where there is one
abbrev pub Computed : Type 0
Computed = List (List ℕ × List Found)

-- an item, which points a rule takes, and what was computed of the item
pub record Sourced : Type 0 where
  pub item : List ℕ
  pub input : HierInput
  pub column : Option (List Found)

abbrev pub source_of : HierInput → Computed → (item : List ℕ) → Sourced
source_of i made item = record { item = item; input = i; column = lookup (same_text item) made }

-- what a rule takes, of the operand's value and the computed one
abbrev pub chosen_value : HierInput → (given made : Found) → Found
chosen_value input.Dataset given made = given
chosen_value input.Rule given made = made
chosen_value input.RulePriority given made = option_map_or (λ v. cond (is_null v) given (Some v)) made given

-- what it takes at the combination of a number
abbrev pub taken_at : Itemized → ℕ → (combination : Row) → Sourced → Found
taken_at x k combination s = option_map_or (λ column. chosen_value s.input (given_at x combination s.item) (slice_index_or column k None)) s.column (given_at x combination s.item)
