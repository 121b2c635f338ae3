-- The last statement that reads each table.
use Rattle.std.specs.Prelude.{◌≡◌, ℕ, ◌+◌, Bool, true, false, ◌≤◌, List, [], ◌∷◌, nat_le, Option, Some, None}
use Rattle.std.specs.List.{AllByRecursion}
use Rattle.std.specs.Map.{lookup}
use Rattle.vtl_text.specs.Texts.{same_text}
use Rattle.sql_tree.specs.Trees as tree
use Rattle.sql_tree.specs.Trees.{StatementTree, Text}
use Rattle.sql_check_parts.specs.Scopes.{Named}
use Rattle.sql_engine.specs.Exported.{exports_in}
use Rattle.sql_engine.specs.Reads.{EachOfQuery}

-- names, each with the place of the last statement that reads it
abbrev pub LastPlaces : Type 0
LastPlaces = Named ℕ

abbrev pub is_from : ℕ → Option ℕ → Bool
is_from i None = false
is_from i (Some place) = nat_le i place

-- a statement at this place or a later one reads the name
abbrev pub is_read_from : ℕ → LastPlaces → Text → Bool
is_read_from i last name = is_from i (lookup (same_text name) last)

abbrev pub IsReadFrom : ℕ → LastPlaces → Text → Type 0
IsReadFrom i last name = is_read_from i last name ≡ true

-- what is noted as read from a place on is noted so still
abbrev pub StaysRead : ℕ → LastPlaces → LastPlaces → Type 0
StaysRead place before now = (i : ℕ) (name : Text) → i ≤ place → IsReadFrom i before name → IsReadFrom i now name

-- what a CREATE reads, if the statement is one
abbrev pub EachCreated : (Text → Type 0) → StatementTree → Type 0
EachCreated P (tree.create name q) = EachOfQuery P q
EachCreated P other = Unit {0}

-- the CREATEs of statements from a place on are noted where they stand, or later
abbrev pub AreNoted : LastPlaces → ℕ → List StatementTree → Type 0
AreNoted last i [] = Unit {0}
AreNoted last i (s ∷ ss) = EachCreated (IsReadFrom i last) s × AreNoted last (i + 1) ss

-- What is read is noted with this place: it stays so whatever is noted with this place or a later one. What is read is told by a condition
-- on each of its names.
pub record IsNoted (place : ℕ) (before now : LastPlaces) (Each : (Text → Type 0) → Type 0) : Type 0 where
  pub stays : StaysRead place before now
  pub read : (later : LastPlaces) → StaysRead place now later → Each (IsReadFrom place later)

-- the tables of EXPORTs
abbrev pub EachExported : (Text → Type 0) → List StatementTree → Type 0
EachExported P ss = AllByRecursion (λ s. P s.name) (exports_in ss)
