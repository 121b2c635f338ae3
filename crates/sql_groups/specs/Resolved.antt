-- When HAVING and items with places in place of names have the values of those of a grouped select.
use Rattle.std.specs.Prelude.{◌≡◌, List, [], ◌∷◌, Option, Some, None, Ok}
use Rattle.vtl_cell.specs.Outcome.{Outcome}
use Rattle.vtl_cell.specs.Row.{Row}
use Rattle.vtl_decimal.specs.Settings.{Settings}
use Rattle.vtl_cell.specs.declared.cell.Cell.{Cell}
use Rattle.vtl_cell.specs.declared.cell.Cell.TheVariants as c
use Rattle.vtl_cell.specs.declared.kind.Kind.{Kind}
use Rattle.vtl_scalar.specs.KindLaws.{IsOfKind}
use Rattle.sql_tree.specs.Trees as tree
use Rattle.sql_tree.specs.Trees.{Exp, Text, ValueTree}
use Rattle.sql_tree.specs.declared.parts.Column.{Column}
use Rattle.sql_check_parts.specs.Scopes.{Scope, Tables}
use Rattle.sql_meaning.specs.Selects.{Wanted}
use Rattle.sql_meaning.specs.Values.{View, at_groups, value}
use Rattle.sql_eval.specs.Placed.{placed_value}
use Rattle.sql_eval.specs.View.{placed_of}
use Rattle.sql_eval.specs.declared.resolved.Resolved.{Resolved}
use Rattle.sql_groups.specs.declared.items.GroupItem.{GroupItem}
use Rattle.sql_groups.specs.declared.items.GroupSelect.{GroupSelect}

-- what is known when a grouped select is resolved: all but the rows of the tables
pub record GroupSight : Type 0 where
  pub settings : Settings
  pub tables : Tables
  pub scope : Scope
  pub group : List Column

abbrev pub group_sight : Settings → Tables → Scope → List Column → GroupSight
group_sight p tables scope group = record { settings = p; tables = tables; scope = scope; group = group }

-- what expressions see once the rows are there
abbrev pub view_of : GroupSight → (Text → List Row) → View
view_of s rows = at_groups (record { settings = s.settings; tables = s.tables; rows = rows }) s.scope s.group

-- of a key and its rows; a window stands in no grouped select that is typed
abbrev pub group_value : View → ValueTree → Row → List Row → Outcome Cell
group_value v (tree.expression e) key rows = value v e key rows
group_value v (tree.window w) key rows = Ok c.Null

abbrev pub HasValueOf : GroupSight → ValueTree → Resolved → Type 0
HasValueOf s w x = (rows : Text → List Row) (key : Row) (group : List Row) → placed_value s.settings rows (placed_of x) key group ≡ group_value (view_of s rows) w key group

-- an item: of the kind that is wanted, and with the value
pub record StandsFor (s : GroupSight) (i : Wanted) (x : GroupItem) : Type 0 where
  pub kind_is : x.kind ≡ i.1
  pub value_is : HasValueOf s i.0.value x.exp

abbrev pub AllStand : GroupSight → List Wanted → List GroupItem → Type 0
AllStand s [] [] = Unit {0}
AllStand s [] (x ∷ xs) = ⊥
AllStand s (i ∷ is) [] = ⊥
AllStand s (i ∷ is) (x ∷ xs) = StandsFor s i x × AllStand s is xs

abbrev pub HavingStands : GroupSight → Option Exp → Option Resolved → Type 0
HavingStands s None None = Unit {0}
HavingStands s None (Some x) = ⊥
HavingStands s (Some e) None = ⊥
HavingStands s (Some e) (Some x) = HasValueOf s (tree.expression e) x

pub record IsResolved (s : GroupSight) (items : List Wanted) (having : Option Exp) (x : GroupSelect) : Type 0 where
  pub having_is : HavingStands s having x.having
  pub items_are : AllStand s items x.items.items

-- ---- kinds

-- what is of a kind is of each kind that it is lifted to
abbrev pub IsLifted : Kind → Kind → Type 0
IsLifted kind own = (v : Cell) → IsOfKind own v → IsOfKind kind v

-- the kinds of the columns of a query, to which those of a select's items are lifted
abbrev pub AreLifted : List Kind → List Kind → Type 0
AreLifted [] [] = Unit {0}
AreLifted [] (o ∷ os) = ⊥
AreLifted (x ∷ xs) [] = ⊥
AreLifted (x ∷ xs) (o ∷ os) = IsLifted x o × AreLifted xs os
