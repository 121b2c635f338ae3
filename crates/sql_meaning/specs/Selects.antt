-- The rows of selects and of queries.
use Rattle.std.specs.Prelude.{ℕ, cond, List, [], map, filter, zip, Option, Some, None, Ok, Err}
use Rattle.std.specs.List.{flat_map}
use Rattle.vtl_cell.specs.Conversion.{as_kind}
use Rattle.vtl_decimal.specs.declared.number.Fault.{Fault}
use Rattle.vtl_cell.specs.Outcome.{Outcome, after, fault_in, faults_by, join, unless}
use Rattle.vtl_cell.specs.Outcomes.{is_true}
use Rattle.vtl_cell.specs.Row.{Row}
use Rattle.vtl_cell.specs.declared.cell.Cell.{Cell}
use Rattle.vtl_cell.specs.declared.cell.Cell.TheVariants as c
use Rattle.vtl_cell.specs.declared.kind.Kind.{Kind}
use Rattle.sql_tree.specs.Trees as tree
use Rattle.sql_tree.specs.Trees.{Exp, ItemTree, QueryTree, SelectTree, ValueTree}
use Rattle.sql_tree.specs.declared.parts.Column.{Column}
use Rattle.sql_check_parts.specs.Queries.{is_grouped, query_columns, scope_of}
use Rattle.sql_meaning.specs.From.{source_rows}
use Rattle.sql_meaning.specs.Groups.{keys_by, rows_with}
use Rattle.sql_meaning.specs.Outcomes.{row_fault, row_at}
use Rattle.sql_meaning.specs.Tables.{Base, kinds_of}
use Rattle.sql_meaning.specs.Values.{View, at_groups, at_rows, value}
use Rattle.sql_meaning.specs.Windows.{told_apart, window_value}

-- an item, and the kind that the selects of the query share at its place
abbrev pub Wanted : Type 0
Wanted = ItemTree × Kind

-- a value as one of this kind
abbrev pub as_wanted : View → Wanted → Outcome Cell → Outcome Cell
as_wanted v i m = after m (as_kind v.base.settings i.1)

-- ---- a select that is not grouped

abbrev pub row_value : View → List Row → ValueTree → Row × ℕ → Outcome Cell
row_value v rows (tree.expression e) x = value v e x.0 []
row_value v rows (tree.window w) x = window_value v w rows x

abbrev pub item_value : View → List Row → Wanted → Row × ℕ → Outcome Cell
item_value v rows i x = as_wanted v i (row_value v rows i.0.value x)

-- a row of the items for each row
abbrev pub plain_rows : View → List Wanted → List Row → Outcome (List Row)
plain_rows v items rows =
    unless (faults_by (row_fault (item_value v rows) items) (told_apart rows)) (map (row_at (item_value v rows) items) (told_apart rows))

-- ---- a grouped select

-- a value of a group: of its key and its rows
abbrev pub at_key : View → (Row → List Row) → Exp → Row → Outcome Cell
at_key v members e key = value v e key (members key)

-- a window stands in no grouped select that is typed
abbrev pub key_value : View → (Row → List Row) → ValueTree → Row → Outcome Cell
key_value v members (tree.expression e) key = at_key v members e key
key_value v members (tree.window w) key = Ok c.Null

abbrev pub group_item : View → (Row → List Row) → Wanted → Row → Outcome Cell
group_item v members i key = as_wanted v i (key_value v members i.0.value key)

-- HAVING keeps the groups where it is true
abbrev pub kept_keys : View → (Row → List Row) → Option Exp → List Row → List Row
kept_keys v members None keys = keys
kept_keys v members (Some e) keys = filter (λ key. is_true (at_key v members e key)) keys

abbrev pub having_fault : View → (Row → List Row) → Option Exp → List Row → Option Fault
having_fault v members None keys = None
having_fault v members (Some e) keys = faults_by (λ key. fault_in (at_key v members e key)) keys

-- a row of the items for each group that is kept
abbrev pub group_rows : View → List Wanted → Option Exp → (Row → List Row) → List Row → Outcome (List Row)
group_rows v items having members keys =
    unless (join (having_fault v members having keys) (faults_by (row_fault (group_item v members) items) (kept_keys v members having keys)))
    (map (row_at (group_item v members) items) (kept_keys v members having keys))

abbrev pub grouped_rows : View → List Wanted → List Column → Option Exp → List Row → Outcome (List Row)
grouped_rows v items group having rows =
    let places = map v.place group in
    group_rows (at_groups v.base v.scope group) items having (rows_with places rows) (keys_by places rows)

-- ---- selects

abbrev pub second_phase : View → List Wanted → SelectTree → List Row → Outcome (List Row)
second_phase v items s rows = cond (is_grouped s) (grouped_rows v items s.group s.having rows) (plain_rows v items rows)

-- HAVING, windows and items are evaluated only where no ON and no WHERE of the select has a fault
abbrev pub select_value : Base → List Kind → SelectTree → Outcome (List Row)
select_value b kinds s = after (source_rows b s) (second_phase (at_rows b (scope_of b.tables s)) (zip s.items kinds) s)

-- ---- queries

abbrev pub rows_in : Outcome (List Row) → List Row
rows_in (Ok rows) = rows
rows_in (Err f) = []

-- the rows of all selects one behind the other, unless one of them has a fault
abbrev pub appended : List (Outcome (List Row)) → Outcome (List Row)
appended ms = unless (faults_by fault_in ms) (flat_map rows_in ms)

abbrev pub query_value : Base → QueryTree → Outcome (List Row)
query_value b q = appended (map (select_value b (kinds_of (query_columns b.tables q))) q)
