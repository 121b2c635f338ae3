-- Where the data sets come from that a part reads, and their tables.
use Rattle.std.specs.Prelude.{ℕ, suc, Bool, List, [], ◌∷◌, ◌++◌, Option, None, Some, is_none, slice_get, if◌then◌else◌}
use Rattle.std.specs.List.{list_any}
use Rattle.std.specs.Map.{keys_of, lookup}
use Rattle.vtl_rows.specs.Named.{NamedTables, table_of}
use Rattle.vtl_rows.specs.Tables.{Listed}
use Rattle.vtl_tree.specs.Structure.{same_name}
use Rattle.vtl_rerun.specs.declared.part.Operand.{Operand}
use Rattle.vtl_rerun.specs.declared.part.Part.{Part}
use Rattle.vtl_rerun.specs.declared.part.Source.{Source}
use Rattle.vtl_rerun.specs.declared.part.Source.TheVariants as source

-- ---- places of results
-- names with their places, the first of which is this
abbrev pub places_from : ℕ → List (List ℕ) → List (List ℕ × ℕ)
places_from i [] = []
places_from i (name ∷ names) = (name, i) ∷ places_from (suc i) names

-- a name that is none of a result is that of an input
abbrev pub source_of : Option ℕ → Source
source_of None = source.Input
source_of (Some place) = source.Part place

abbrev pub operand_of : List (List ℕ × ℕ) → List ℕ → Operand
operand_of places name = record { name = name; source = source_of (lookup (same_name name) places) }

-- ---- tables
abbrev pub joined : {X : Type 0} → Option (Option X) → Option X
joined None = None
joined (Some found) = found

-- the table that the part at a place holds
abbrev pub held_at : List (Option Listed) → ℕ → Option Listed
held_at results place = joined (slice_get results place)

abbrev pub table_from : NamedTables → List (Option Listed) → List ℕ → Source → Option Listed
table_from inputs results name source.Input = table_of name inputs
table_from inputs results name (source.Part place) = held_at results place

-- one more table, where there is one and none has its name
abbrev pub with_table : NamedTables → List ℕ → Option Listed → NamedTables
with_table tables name None = tables
with_table tables name (Some t) = if list_any (same_name name) (keys_of tables) then tables else tables ++ (name, t) ∷ []

-- the tables of operands that are there, each once, behind others
abbrev pub given_behind : NamedTables → List (Option Listed) → NamedTables → List Operand → NamedTables
given_behind inputs results tables [] = tables
given_behind inputs results tables (o ∷ os) = given_behind inputs results (with_table tables o.name (table_from inputs results o.name o.source)) os

abbrev pub given_all : NamedTables → List (Option Listed) → List Operand → NamedTables
given_all inputs results os = given_behind inputs results [] os

-- ---- what is lost
-- where an input of this name is replaced, and parts hold these tables: it is this input, or a result that no part holds
abbrev pub is_lost_from : List ℕ → List (Option Listed) → List ℕ → Source → Bool
is_lost_from replaced results name source.Input = same_name name replaced
is_lost_from replaced results name (source.Part place) = is_none (held_at results place)

abbrev pub is_lost : List ℕ → List (Option Listed) → Operand → Bool
is_lost replaced results o = is_lost_from replaced results o.name o.source

-- one of the operands is
abbrev pub any_lost : List ℕ → List (Option Listed) → List Operand → Bool
any_lost replaced results os = list_any (is_lost replaced results) os

-- ---- outputs
abbrev pub written_by : Part → Option Listed → NamedTables
written_by x None = []
written_by x (Some t) = if x.is_written then (x.name, t) ∷ [] else []

-- the tables of the parts whose result the script writes
abbrev pub written_all : List Part → List (Option Listed) → NamedTables
written_all (x ∷ xs) (r ∷ rs) = written_by x r ++ written_all xs rs
written_all xs rs = []

-- those of the parts whose result the script writes, each once, behind others
abbrev pub written_behind : NamedTables → List Part → List (Option Listed) → NamedTables
written_behind tables (x ∷ xs) (r ∷ rs) = written_behind (if x.is_written then with_table tables x.name r else tables) xs rs
written_behind tables xs rs = tables
