-- Items of a select that is not grouped, at the rows of FROM.
use Rattle.std.specs.Prelude.{◌≡◌, ◌<◌, ℕ, IsSome, List, [], get_or, length, map, Ok}
use Rattle.vtl_cell.specs.Conversion.{as_kind}
use Rattle.vtl_cell.specs.Outcome.{Outcome, after}
use Rattle.vtl_cell.specs.Row.{Row}
use Rattle.vtl_decimal.specs.Settings.{Settings}
use Rattle.vtl_cell.specs.declared.cell.Cell.{Cell}
use Rattle.vtl_cell.specs.declared.cell.Cell.TheVariants as c
use Rattle.sql_tree.specs.Trees as tree
use Rattle.sql_tree.specs.Trees.{ItemTree, Text, ValueTree}
use Rattle.sql_check_parts.specs.Windows.{call_kind}
use Rattle.sql_check_parts.specs.Scopes.{Scope}
use Rattle.sql_meaning.specs.Selects.{Wanted, item_value, row_value}
use Rattle.sql_meaning.specs.Values.{View}
use Rattle.sql_meaning.specs.Windows.{told_apart}
use Rattle.sql_eval.specs.Placed.{placed_value}
use Rattle.sql_eval.specs.View.{placed_of}
use Rattle.sql_exec.specs.declared.items.ItemValues.{ItemValues}
use Rattle.sql_exec.specs.declared.items.ItemValues.TheVariants as values
use Rattle.sql_exec.specs.declared.items.RowItem.{RowItem}

-- ---- with places

-- at a row and its number among those of FROM; null past the last row
abbrev pub made_value : Settings → (Text → List Row) → ItemValues → Row × ℕ → Outcome Cell
made_value p tables (values.Expression e) x = placed_value p tables (placed_of e) x.0 []
made_value p tables (values.Window cells) x = get_or cells.items x.1 (Ok c.Null)

abbrev pub made_at_row : Settings → (Text → List Row) → RowItem → Row × ℕ → Outcome Cell
made_at_row p tables i x = after (made_value p tables i.values x) (as_kind p i.kind)

-- ---- beside those with names

-- a row by its number, with that number; and as it is told apart from those that are alike
abbrev pub numbered_row : List Row → ℕ → Row × ℕ
numbered_row rows i = (get_or rows i [], i)

abbrev pub told_row : List Row → ℕ → Row × ℕ
told_row rows i = get_or (told_apart rows) i ([], 0)

-- at each of the rows it has the value of the item
abbrev pub HasValuesOf : View → List Row → ValueTree → ItemValues → Type 0
HasValuesOf v rows w x = (i : ℕ) → i < length rows → made_value v.base.settings v.base.rows x (numbered_row rows i) ≡ row_value v rows w (told_row rows i)

-- at each of the rows they have the values of these items
abbrev pub HaveValuesOf : View → List Row → List Wanted → List RowItem → Type 0
HaveValuesOf v rows wanted items = (i : ℕ) → i < length rows → map (λ x. made_at_row v.base.settings v.base.rows x (numbered_row rows i)) items ≡ map (λ w. item_value v rows w (told_row rows i)) wanted

-- ---- kinds

-- the call of a window takes the kind of its column
abbrev pub HasCallKind : Scope → ValueTree → Type 0
HasCallKind scope (tree.expression e) = Unit {0}
HasCallKind scope (tree.window w) = IsSome (call_kind scope w.call)

abbrev pub IsKindKnown : Scope → ItemTree → Type 0
IsKindKnown scope i = HasCallKind scope i.value
