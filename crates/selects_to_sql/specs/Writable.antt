-- What is asked of the parts of a select: their names and constants can be written, and no expression is too deep to be printed.
use Rattle.std.specs.Prelude.{◌≡◌, ◌≤◌, ℕ, false, List}
use Rattle.std.specs.List.{AllByRecursion}
use Rattle.vtl_cell.specs.Held.{IsHeld}
use Rattle.vtl_cell.specs.Kinds.{is_null}
use Rattle.vtl_cell.specs.Profile.{IsOfProfile}
use Rattle.vtl_decimal.specs.Settings.{Settings}
use Rattle.vtl_tree.specs.CompExp.{CompExp}
use Rattle.vtl_tree.specs.declared.structure.Component.{Component}
use Rattle.vtl_tree.specs.declared.clauses.SubItem.{SubItem}
use Rattle.sql_tree.specs.Formed.{IsName}
use Rattle.vtl_tree.specs.Depths.{comp_depth}
use Rattle.expressions_to_sql.specs.Held.{HoldsValues}

-- the deepest expression that is translated: its translation is at most one deeper, and can be printed
abbrev pub most_depth : ℕ
most_depth = 200

-- the most conditions that are joined to one
abbrev pub most_joined : ℕ
most_joined = 256

pub record CanBeWritten (e : CompExp) : Type 0 where
  pub constants : HoldsValues e
  pub shallow : comp_depth e ≤ most_depth

abbrev pub AllCanBeWritten : List CompExp → Type 0
AllCanBeWritten es = AllByRecursion CanBeWritten es

-- the names of columns
abbrev pub HaveNames : List Component → Type 0
HaveNames xs = AllByRecursion (λ x. IsName x.name) xs

-- the value of an identifier, as typing gives it
pub record HasValue (p : Settings) (i : SubItem) : Type 0 where
  pub held : IsHeld i.value
  pub ranged : IsOfProfile p i.value
  pub filled : is_null i.value ≡ false
