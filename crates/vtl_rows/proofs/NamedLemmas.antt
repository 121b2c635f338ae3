-- Look-ups in a list of tables by name.
use Rattle.std.proofs.Common.{◌≡◌, ℕ, List, [], ◌∷◌, Bool, true, false, cond, ◌||◌, nat_eq, None, Some, refl, ap}
use Rattle.std.specs.List.{list_any}
use Rattle.std.specs.Map.{keys_of, lookup}
use lib.Pointwise.{pointwise}
use Rattle.vtl_text.specs.Texts.{same_text}
use Rattle.vtl_rows.specs.Named.{NamedTables, table_of}

pub lookup_is : (name : List ℕ) (tables : NamedTables) → lookup (same_text name) tables ≡ table_of name tables
lookup_is name [] = refl
lookup_is name (t ∷ ts) = ap (cond (pointwise nat_eq name t.0) (Some t.1)) (lookup_is name ts)

-- a name without a table is none of the names
pub free_key : (name : List ℕ) (tables : NamedTables) → table_of name tables ≡ None → list_any (same_text name) (keys_of tables) ≡ false
free_key name [] e = refl
free_key name (t ∷ ts) e = go (pointwise nat_eq name t.0) e (free_key name ts)
  where
    go : (b : Bool) → cond b (Some t.1) (table_of name ts) ≡ None → (table_of name ts ≡ None → list_any (same_text name) (keys_of ts) ≡ false) → (b || list_any (same_text name) (keys_of ts)) ≡ false
    go true e ih = cc
    go false e ih = ih e
