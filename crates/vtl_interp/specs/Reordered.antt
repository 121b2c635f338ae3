-- Tables whose rows stand in another order.
use Rattle.std.specs.Prelude.{◌≡◌, ℕ, List, [], ◌∷◌, ◌++◌, Option, None, Some}
use Rattle.vtl_lists.specs.Perm.{Perm}
use Rattle.vtl_rows.specs.Named.{NamedTables, table_of}
use Rattle.vtl_rows.specs.Tables.{Listed}

-- the same columns, and the same rows in any order
pub record IsReordered (t u : Listed) : Type 0 where
  pub columns : t.columns ≡ u.columns
  pub rows : Perm t.rows u.rows

-- both are there, and the one is the other with its rows in any order, or neither is
abbrev pub AreBothReordered : Option Listed → Option Listed → Type 0
AreBothReordered None None = Unit {0}
AreBothReordered None (Some u) = ⊥
AreBothReordered (Some t) None = ⊥
AreBothReordered (Some t) (Some u) = IsReordered t u

-- under each name the same table, with its rows in any order
abbrev pub AreReordered : NamedTables → NamedTables → Type 0
AreReordered tables others = (name : List ℕ) → AreBothReordered (table_of name tables) (table_of name others)

-- a table that was found under a name is left as it is; else one with these rows in any order stands behind the others
abbrev pub IsPutUnless : Option Listed → List ℕ → Listed → (before now : NamedTables) → Type 0
IsPutUnless (Some found) name t before now = now ≡ before
IsPutUnless None name t before now = (u : Listed) × IsReordered t u × (now ≡ before ++ (name, u) ∷ [])

-- the table is there, with its rows in any order, unless its name was taken
abbrev pub IsPut : List ℕ → Listed → (before now : NamedTables) → Type 0
IsPut name t before now = IsPutUnless (table_of name before) name t before now
