-- Items that are columns and windows.
use Rattle.std.specs.Prelude.{◌≡◌, List, [], ◌∷◌}
use Rattle.sql_tree.specs.Trees as tree
use Rattle.sql_check_parts.specs.Scopes.{Scope}
use Rattle.sql_meaning.specs.Selects.{Wanted}
use Rattle.sql_exec.specs.Gathered.{IsColumnAt}
use Rattle.sql_exec.specs.declared.simple_items.SimpleItem.{SimpleItem}
use Rattle.sql_exec.specs.declared.simple_items.SimpleItem.TheVariants as simple

-- it is the column at that place, of its kind, or that window
abbrev pub IsSimple : Scope → Wanted → SimpleItem → Type 0
IsSimple scope w (simple.Column place) = IsColumnAt scope w place
IsSimple scope w (simple.Window window) = w.0.value ≡ tree.window window.now

-- and so is each of some items
abbrev pub AreSimple : Scope → List Wanted → List SimpleItem → Type 0
AreSimple scope [] [] = Unit {0}
AreSimple scope (w ∷ ws) (x ∷ xs) = IsSimple scope w x × AreSimple scope ws xs
AreSimple scope ws xs = ⊥
