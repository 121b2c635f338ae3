-- Look-ups in tables that are held.
use Rattle.std.proofs.Common.{◌≡◌, Bool, true, false, cond, ◌||◌, [], ◌∷◌, ◌++◌, map, Option, Some, None, IsSome, refl, sym, ap, ◌∙◌, subst}
use Rattle.std.specs.Prelude.{option_map}
use Rattle.std.specs.Cmp.Lexicographic.{bytes_decides, nat_list_eq_equiv}
use Rattle.std.specs.Map.{keys_of, set_value}
use Rattle.vtl_text.specs.Texts.{same_text}
use Rattle.vtl_rows.specs.Named.{NamedTables, table_of}
use Rattle.vtl_rows.specs.Tables.{Listed}
use Rattle.sql_tree.specs.Trees.{Text}
use Rattle.sql_check_parts.specs.Scopes.{Columns, columns_of, is_among}
use Rattle.sql_meaning.specs.Tables.{column_entry}
use Rattle.sql_from.specs.Held.{tables_held}

-- the first of two that is there
abbrev pub or_else : {X : Type 0} → Option X → Option X → Option X
or_else (Some x) o = Some x
or_else None o = o

pub or_else_none : {X : Type 0} (o : Option X) → or_else o None ≡ o
or_else_none (Some x) = refl
or_else_none None = refl

pub or_else_again : {X : Type 0} (a b c : Option X) → or_else (or_else a b) c ≡ or_else a (or_else b c)
or_else_again (Some x) b c = refl
or_else_again None b c = refl

abbrev pub columns_in : Listed → Columns
columns_in t = map column_entry t.columns

pub columns_looked : (name : Text) (held : NamedTables) → columns_of (tables_held held) name ≡ option_map columns_in (table_of name held)
columns_looked name [] = refl
columns_looked name (t ∷ held) = go (same_text name t.0) (columns_looked name held)
  where
    go : (b : Bool) → columns_of (tables_held held) name ≡ option_map columns_in (table_of name held) → cond b (Some (columns_in t.1)) (columns_of (tables_held held) name) ≡ option_map columns_in (cond b (Some t.1) (table_of name held))
    go true ih = refl
    go false ih = ih

pub table_behind : (name : Text) (held more : NamedTables) → table_of name (held ++ more) ≡ or_else (table_of name held) (table_of name more)
table_behind name [] more = refl
table_behind name (t ∷ held) more = go (same_text name t.0) (table_behind name held more)
  where
    go : (b : Bool) → table_of name (held ++ more) ≡ or_else (table_of name held) (table_of name more) → cond b (Some t.1) (table_of name (held ++ more)) ≡ or_else (cond b (Some t.1) (table_of name held)) (table_of name more)
    go true ih = refl
    go false ih = ih

pub keys_held : (held : NamedTables) → keys_of (tables_held held) ≡ keys_of held
keys_held [] = refl
keys_held (t ∷ held) = ap (λ l. t.0 ∷ l) (keys_held held)

pub free_name : (name : Text) (held : NamedTables) → is_among name (keys_of held) ≡ false → table_of name held ≡ None
free_name name [] h = refl
free_name name (t ∷ held) h = go (same_text name t.0) (free_name name held) h
  where
    go : (b : Bool) → (is_among name (keys_of held) ≡ false → table_of name held ≡ None) → (b || is_among name (keys_of held)) ≡ false → cond b (Some t.1) (table_of name held) ≡ None
    go true ih q = cc
    go false ih q = ih q

-- ---- a table in place of another

pub there_is : {X Y : Type 0} (o : Option X) (p : Option Y) (f : X → Y) → option_map f o ≡ p → IsSome p → IsSome o
there_is None p f e h = let q : IsSome (option_map f None) = subst IsSome (sym e) h in cc
there_is (Some x) p f e h = refl

pub looked_other : (name other : Text) (held : NamedTables) (t : Listed) → same_text name other ≡ false → table_of other (set_value (same_text name) held t) ≡ table_of other held
looked_other name other [] t unlike = refl
looked_other name other (x ∷ held) t unlike = go (same_text name x.0) refl (looked_other name other held t unlike)
  where
    go : (b : Bool) → same_text name x.0 ≡ b → table_of other (set_value (same_text name) held t) ≡ table_of other held
        → table_of other (cond b ((x.0, t) ∷ held) (x ∷ set_value (same_text name) held t)) ≡ cond (same_text other x.0) (Some x.1) (table_of other held)
    go true here ih =
        let apart : same_text other x.0 ≡ false = nat_list_eq_equiv.symm other x.0 ∙ ap (λ (n : Text). same_text n other) (sym ((bytes_decides name x.0).0 here)) ∙ unlike in
        ap (λ b. cond b (Some t) (table_of other held)) apart ∙ sym (ap (λ b. cond b (Some x.1) (table_of other held)) apart)
    go false here ih = ap (cond (same_text other x.0) (Some x.1)) ih
