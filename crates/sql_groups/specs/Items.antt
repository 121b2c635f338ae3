-- The rows of a grouped select, with places in place of names.
use Rattle.std.specs.Prelude.{ℕ, Bool, true, false, List, map, filter, Option, Some, None, Ok, Err, if◌then◌else◌}
use Rattle.vtl_cell.specs.Conversion.{as_kind}
use Rattle.vtl_decimal.specs.declared.number.Fault.{Fault}
use Rattle.vtl_cell.specs.Outcome.{Outcome, after, fault_in, faults_by, join, unless}
use Rattle.vtl_cell.specs.Outcomes.{is_true}
use Rattle.vtl_cell.specs.Row.{Row}
use Rattle.vtl_decimal.specs.Settings.{Settings}
use Rattle.vtl_cell.specs.declared.cell.Cell.{Cell}
use Rattle.sql_tree.specs.Trees.{Text}
use Rattle.sql_tree.specs.declared.parts.Column.{Column}
use Rattle.sql_meaning.specs.Groups.{keys_by, rows_with}
use Rattle.sql_meaning.specs.Outcomes.{cell_or_null}
use Rattle.sql_meaning.specs.Values.{place_in}
use Rattle.sql_eval.specs.Placed.{placed_value}
use Rattle.sql_eval.specs.View.{placed_of}
use Rattle.sql_eval.specs.declared.resolved.Resolved.{Resolved}
use Rattle.sql_from.specs.declared.tuple_rows.TupleRows.{TupleRows}
use Rattle.sql_groups.specs.Kept.{rows_of, scope_of, tables_of}
use Rattle.sql_groups.specs.declared.items.GroupItem.{GroupItem}
use Rattle.sql_groups.specs.declared.items.GroupSelect.{GroupSelect}

-- ---- at a group: of its key, and of its rows

-- whether HAVING keeps it; without HAVING each group is kept
abbrev pub tested : Settings → (Text → List Row) → Option Resolved → Row → List Row → Outcome Bool
tested p tables None key rows = Ok true
tested p tables (Some e) key rows = after (placed_value p tables (placed_of e) key rows) (λ v. Ok (is_true (Ok v)))

abbrev pub passes : Outcome Bool → Bool
passes (Ok b) = b
passes (Err f) = false

-- an item, as a value of its column's kind
abbrev pub item_at : Settings → (Text → List Row) → Row → List Row → GroupItem → Outcome Cell
item_at p tables key rows i = after (placed_value p tables (placed_of i.exp) key rows) (as_kind p i.kind)

-- the items, null standing for those that have a fault
abbrev pub row_for : Settings → (Text → List Row) → Row → List Row → GroupSelect → Row
row_for p tables key rows s = map (λ i. cell_or_null (item_at p tables key rows i)) s.items.items

-- the fault of HAVING, and of the items where the group is kept
abbrev pub fault_for : Settings → (Text → List Row) → Row → List Row → GroupSelect → Option Fault
fault_for p tables key rows s =
    let test = tested p tables s.having key rows in
    join (fault_in test) (if passes test then faults_by (λ i. fault_in (item_at p tables key rows i)) s.items.items else None)

-- ---- at each of the keys, whose rows are a function of the key

-- what groups are seen in: the settings, the tables that EXISTS asks, and the rows of a key
pub record Around : Type 0 where
  pub settings : Settings
  pub tables : Text → List Row
  pub members : Row → List Row

abbrev pub is_kept : Around → GroupSelect → Row → Bool
is_kept a s key = passes (tested a.settings a.tables s.having key (a.members key))

abbrev pub row_of_key : Around → GroupSelect → Row → Row
row_of_key a s key = row_for a.settings a.tables key (a.members key) s

abbrev pub fault_of_key : Around → GroupSelect → Row → Option Fault
fault_of_key a s key = fault_for a.settings a.tables key (a.members key) s

-- a row of the items for each group that is kept, unless there is a fault
abbrev pub groups_made : Around → GroupSelect → List Row → Outcome (List Row)
groups_made a s keys = unless (faults_by (fault_of_key a s) keys) (map (row_of_key a s) (filter (is_kept a s) keys))

-- ---- of the groups of rows by columns

abbrev pub places_of : TupleRows → List Column → List ℕ
places_of rows group = map (place_in (scope_of rows)) group

abbrev pub around : Settings → TupleRows → List Column → Around
around p rows group = record { settings = p; tables = tables_of rows; members = rows_with (places_of rows group) (rows_of rows) }

abbrev pub keys_in : TupleRows → List Column → List Row
keys_in rows group = keys_by (places_of rows group) (rows_of rows)
