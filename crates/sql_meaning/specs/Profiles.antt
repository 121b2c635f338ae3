-- Tables whose integers are of the profile: each can be written into a field at the scale of the settings.
use Rattle.std.specs.Prelude.{◌≤◌, List}
use Rattle.std.specs.List.{AllByRecursion}
use Rattle.vtl_cell.specs.Profile.{IsOfProfile}
use Rattle.vtl_cell.specs.Row.{Row}
use Rattle.vtl_decimal.specs.Settings.{Settings}
use Rattle.sql_tree.specs.Trees.{Text}
use Rattle.sql_meaning.specs.Scripts.{Data, Inputs}
use Rattle.sql_meaning.specs.Tables.{Base, TablesFit}

abbrev pub IsRowOfProfile : Settings → Row → Type 0
IsRowOfProfile p r = AllByRecursion (IsOfProfile p) r

abbrev pub AreOfProfile : Settings → List Row → Type 0
AreOfProfile p rows = AllByRecursion (IsRowOfProfile p) rows

abbrev pub TablesOfProfile : Base → Type 0
TablesOfProfile b = (name : Text) → AreOfProfile b.settings (b.rows name)

abbrev pub InputsOfProfile : Settings → Inputs → Type 0
InputsOfProfile p inputs = AllByRecursion (λ t. AreOfProfile p t.1) inputs

abbrev pub HeldOfProfile : Settings → Data → Type 0
HeldOfProfile p held = AllByRecursion (λ t. AreOfProfile p t.1.rows) held

-- what queries of a run rest on: a scale that there is, and tables whose rows fit their columns and are of the profile
pub record IsLawful (b : Base) : Type 0 where
  pub scale : b.settings.scale ≤ 9
  pub fit : TablesFit b
  pub ranged : TablesOfProfile b
