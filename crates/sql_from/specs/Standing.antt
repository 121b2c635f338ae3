-- What the sources and the tuples of row numbers stand for.
use Rattle.std.specs.Prelude.{◌≡◌, List, [], map, length, Option, None, Some}
use Rattle.std.specs.List.{AllByRecursion}
use Rattle.vtl_decimal.specs.declared.number.Fault.{Fault}
use Rattle.vtl_cell.specs.Row.{Row}
use Rattle.vtl_decimal.specs.Settings.{Settings}
use Rattle.sql_tree.specs.Trees.{Exp}
use Rattle.sql_meaning.specs.From.{Joined}
use Rattle.sql_meaning.specs.Profiles.{IsLawful}
use Rattle.sql_meaning.specs.Tables.{Base}
use Rattle.sql_meaning.specs.Values.{View, at_rows, value}
use Rattle.sql_from.specs.Held.{base_held}
use Rattle.sql_from.specs.Joins.{Test}
use Rattle.sql_from.specs.Rows.{combined}
use Rattle.sql_from.specs.Sources.{IsWide, Sourced, parts_of, scope_held}
use Rattle.sql_from.specs.Tuples.{Numbered}

-- the rows of FROM that tuples stand for
abbrev pub rows_for : Sourced → Numbered → List Row
rows_for s t = map (combined (parts_of s.sources)) t.tuples

-- what expressions see at a row of these sources
abbrev pub sight_of : Settings → Sourced → View
sight_of p s = at_rows (base_held p s.held) (scope_held s.sources)

-- a condition at tuples of row numbers
abbrev pub condition_at : Settings → Sourced → Exp → Test
condition_at p s e x = value (sight_of p s) e (combined (parts_of s.sources) x) []

-- where look-ups are wanted, the tables fit their columns and are of the profile
abbrev pub MayLookUp : {A : Type 0} → Base → Option A → Type 0
MayLookUp b None = Unit {0}
MayLookUp b (Some joins) = IsLawful b

-- The sources so far, their tuples and the fault so far are those of the meaning; each tuple has a number for each source.
pub record StandsFor (f : Joined) (s : Sourced) (t : Numbered) (seen : Option Fault) : Type 0 where
  pub scope : scope_held s.sources ≡ f.scope
  pub width : t.width ≡ length s.sources
  pub whole : AllByRecursion (λ x. length x ≡ length s.sources) t.tuples
  pub wide : AllByRecursion IsWide (parts_of s.sources)
  pub rows : rows_for s t ≡ f.rows
  pub fault : seen ≡ f.fault
