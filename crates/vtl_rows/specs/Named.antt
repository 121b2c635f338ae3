-- Tables by name.
use Rattle.std.specs.Prelude.{ℕ, List, [], ◌∷◌, nat_eq, Option, None, Some, if◌then◌else◌}
use lib.Pointwise.{pointwise}
use Rattle.vtl_rows.specs.Tables.{Listed}

-- the characters of each name, with the table
abbrev pub NamedTables : Type 0
NamedTables = List (List ℕ × Listed)

-- the first table of a name
abbrev pub table_of : List ℕ → NamedTables → Option Listed
table_of name [] = None
table_of name (t ∷ ts) = if pointwise nat_eq name t.0 then Some t.1 else table_of name ts
