-- Which faults count: every whole expression and window that a query evaluates, and the worst of their faults.
use Rattle.std.specs.Prelude.{Bool, true, false, List, [], ◌∷◌, ◌++◌, map, zip, Option, Some, None, if◌then◌else◌}
use Rattle.std.specs.List.{flat_map, list_any}
use Rattle.std.specs.Option.{is_none}
use Rattle.vtl_decimal.specs.declared.number.Fault.TheVariants.{DivZero, Range}
use Rattle.vtl_decimal.specs.declared.number.Fault.{Fault}
use Rattle.vtl_cell.specs.Outcome.{fault_in}
use Rattle.vtl_cell.specs.Row.{Row}
use Rattle.vtl_cell.specs.declared.kind.Kind.{Kind}
use Rattle.sql_tree.specs.Trees as tree
use Rattle.sql_tree.specs.Trees.{Exp, JoinTree, QueryTree, SelectTree}
use Rattle.sql_check_parts.specs.Queries.{is_grouped, query_columns, scope_of}
use Rattle.sql_check_parts.specs.Scopes.{with_source}
use Rattle.sql_meaning.specs.From.{Joined, fault_at, first_of, joined, kept, pairs, with_join}
use Rattle.sql_meaning.specs.Groups.{keys_by, rows_with}
use Rattle.sql_meaning.specs.Selects.{Wanted, at_key, group_item, item_value, kept_keys}
use Rattle.sql_meaning.specs.Tables.{Base, kinds_of, rows_from}
use Rattle.sql_meaning.specs.Values.{View, at_groups, at_rows}
use Rattle.sql_meaning.specs.Windows.{told_apart}

-- what each of many evaluations has: a fault, or none
abbrev pub Evaluations : Type 0
Evaluations = List (Option Fault)

abbrev pub is_division : Option Fault → Bool
is_division (Some DivZero) = true
is_division other = false

abbrev pub is_range : Option Fault → Bool
is_range (Some Range) = true
is_range other = false

-- division by zero where any has it, else out of range where any has that
abbrev pub worst : Evaluations → Option Fault
worst es = if list_any is_division es then Some DivZero else if list_any is_range es then Some Range else None

-- ---- the first phase: ON and WHERE

-- a condition at each of these rows
abbrev pub at_each : View → Exp → List Row → Evaluations
at_each v e rows = map (fault_at v e) rows

-- ON at each pair of the rows so far and those of its source
abbrev pub at_join : Base → Joined → JoinTree → Evaluations
at_join b f (tree.on kind s e) = at_each (at_rows b (with_source b.tables f.scope s)) e (pairs f.rows (rows_from b s))
at_join b f (tree.cross s) = []

abbrev pub at_joins : Base → Joined → List JoinTree → Evaluations
at_joins b f [] = []
at_joins b f (j ∷ js) = at_join b f j ++ at_joins b (with_join b f j) js

abbrev pub at_condition : View → Option Exp → List Row → Evaluations
at_condition v None rows = []
at_condition v (Some e) rows = at_each v e rows

-- every ON, and WHERE at each row of FROM
abbrev pub first_evaluations : Base → SelectTree → Evaluations
first_evaluations b s = at_joins b (first_of b s.source) s.joins ++ at_condition (at_rows b (scope_of b.tables s)) s.condition (joined b s).rows

-- ---- the second phase: HAVING, windows and items

-- each item and window at each row that WHERE keeps
abbrev pub at_plain : View → List Wanted → List Row → Evaluations
at_plain v items rows = flat_map (λ x. map (λ i. fault_in (item_value v rows i x)) items) (told_apart rows)

abbrev pub at_having : View → (Row → List Row) → Option Exp → List Row → Evaluations
at_having v members None keys = []
at_having v members (Some e) keys = map (λ key. fault_in (at_key v members e key)) keys

-- HAVING at each group, and each item at each group that it keeps
abbrev pub at_keys : View → List Wanted → Option Exp → (Row → List Row) → List Row → Evaluations
at_keys v items having members keys = at_having v members having keys ++ flat_map (λ key. map (λ i. fault_in (group_item v members i key)) items) (kept_keys v members having keys)

abbrev pub at_grouped : View → List Wanted → SelectTree → List Row → Evaluations
at_grouped v items s rows = at_keys (at_groups v.base v.scope s.group) items s.having (rows_with (map v.place s.group) rows) (keys_by (map v.place s.group) rows)

abbrev pub second_evaluations : View → List Wanted → SelectTree → List Row → Evaluations
second_evaluations v items s rows = if is_grouped s then at_grouped v items s rows else at_plain v items rows

-- ---- selects and queries

-- the second phase is evaluated only where the first one has no fault
abbrev pub evaluations : Base → List Kind → SelectTree → Evaluations
evaluations b kinds s =
    let v = at_rows b (scope_of b.tables s) in
    first_evaluations b s ++ (if is_none (worst (first_evaluations b s)) then second_evaluations v (zip s.items kinds) s (kept v s.condition (joined b s).rows) else [])

-- of all selects
abbrev pub query_evaluations : Base → QueryTree → Evaluations
query_evaluations b q = flat_map (evaluations b (kinds_of (query_columns b.tables q))) q
