-- The tables that are held stand for those of the meaning.
use Rattle.std.proofs.Common.{◌≡◌, inl, inr, ◌≤◌, Bool, true, false, cond, List, [], ◌∷◌, ◌++◌, Option, Some, None, refl, sym, ap, ◌∙◌, subst}
use Rattle.std.specs.Prelude.{option_map, unwrap_or}
use Rattle.std.specs.Map.{lookup}
use Rattle.std.proofs.lemmas.List.{map-append}
use Rattle.vtl_lists.proofs.Perms.{Perm-refl}
use Rattle.vtl_cell.specs.Outcomes.{Same}
use Rattle.vtl_lists.specs.Perm.{Perm}
use Rattle.vtl_cell.specs.Row.{Row}
use Rattle.vtl_decimal.specs.Settings.{Settings}
use Rattle.vtl_text.specs.Texts.{same_text}
use Rattle.vtl_rows.specs.Named.{NamedTables, table_of}
use Rattle.vtl_rows.specs.Tables.{Listed, column_kinds}
use Rattle.sql_tree.specs.Trees.{QueryTree, Text}
use Rattle.sql_check_parts.specs.Scopes.{Tables, columns_of}
use Rattle.sql_meaning.specs.Orders.{with_rows}
use Rattle.sql_meaning.specs.Profiles.{AreOfProfile, IsLawful}
use Rattle.sql_meaning.specs.Scripts.{Data, Table, base_of, no_table, table_named, tables_in}
use Rattle.sql_meaning.specs.Selects.{query_value}
use Rattle.sql_meaning.specs.Tables.{Base, HasColumns, HasTable, RowsFit, rows_of}
use Rattle.sql_meaning.proofs.HeldTables.{held_fit}
use Rattle.sql_meaning.proofs.Orders as orders
use Rattle.sql_from.specs.Held.{base_held, tables_held}
use Rattle.sql_engine.specs.Held.{MayLetGo, StandFor, without_rows}
use Rattle.sql_engine.specs.Reads.{EachOfQuery}
use Rattle.sql_engine.proofs.LettingGo.{LooksAs, columns_stay, looked_up}
use Rattle.sql_engine.proofs.OnlyRead as only
use Rattle.sql_engine.proofs.ReadMaps.{query_so}
use Rattle.sql_engine.proofs.TableLookups.{columns_in, columns_looked, or_else, table_behind}

-- ---- look-ups on both sides

pub columns_named : (name : Text) (tables : Data) → columns_of (tables_in tables) name ≡ option_map (λ t. t.columns) (lookup (same_text name) tables)
columns_named name [] = refl
columns_named name (t ∷ tables) = go (same_text name t.0) (columns_named name tables)
  where
    go : (b : Bool) → columns_of (tables_in tables) name ≡ option_map (λ t. t.columns) (lookup (same_text name) tables) → cond b (Some t.1.columns) (columns_of (tables_in tables) name) ≡ option_map (λ t. t.columns) (cond b (Some t.1) (lookup (same_text name) tables))
    go true ih = refl
    go false ih = ih

pub named_behind : (name : Text) (tables more : Data) → lookup (same_text name) (tables ++ more) ≡ or_else (lookup (same_text name) tables) (lookup (same_text name) more)
named_behind name [] more = refl
named_behind name (t ∷ tables) more = go (same_text name t.0) (named_behind name tables more)
  where
    go : (b : Bool) → lookup (same_text name) (tables ++ more) ≡ or_else (lookup (same_text name) tables) (lookup (same_text name) more) → cond b (Some t.1) (lookup (same_text name) (tables ++ more)) ≡ or_else (cond b (Some t.1) (lookup (same_text name) tables)) (lookup (same_text name) more)
    go true ih = refl
    go false ih = ih

-- a table is there on both sides, with the same columns, or on neither
pub both_there : (tables : Data) (held : NamedTables) → tables_in tables ≡ tables_held held → (name : Text) → option_map (λ t. t.columns) (lookup (same_text name) tables) ≡ option_map columns_in (table_of name held)
both_there tables held same name = sym (columns_named name tables) ∙ ap (λ l. columns_of l name) same ∙ columns_looked name held

-- ---- at the start

pub none_stand : (p : Settings) (is_kept : Text → Bool) (held : NamedTables) → held ≡ [] → StandFor p is_kept [] held
none_stand p is_kept held e =
    subst (StandFor p is_kept []) (sym e) (record { same = refl; rows = λ name k. Perm-refl []; fit = λ name t q. absurd (nothing t q); ranged = λ name. tt })
  where
    nothing : (t : Listed) → ◌≡◌ {A = Option Listed} None (Some t) → ⊥
    nothing t q = cc

-- fewer tables are still read
pub fewer_stand : (p : Settings) (is_kept is_still : Text → Bool) (tables : Data) (held : NamedTables) → ((name : Text) → is_still name ≡ true → is_kept name ≡ true) → StandFor p is_kept tables held → StandFor p is_still tables held
fewer_stand p is_kept is_still tables held f s = record { same = s.same; rows = λ name k. s.rows name (f name k); fit = s.fit; ranged = s.ranged }

-- ---- one table more

module _ (p : Settings) (is_kept : Text → Bool) (tables : Data) (held : NamedTables) (s : StandFor p is_kept tables held) (name : Text) (t : Table) (u : Listed) where
  -- the table of a name behind these
  abbrev last : Text → Option Listed
  last n = cond (same_text n name) (Some u) None

  held_at : (n : Text) → table_of n (held ++ (name, u) ∷ []) ≡ or_else (table_of n held) (last n)
  held_at n = table_behind n held ((name, u) ∷ [])

  pub one_stands : t.columns ≡ columns_in u → Perm t.rows u.rows → RowsFit (column_kinds u.columns) u.rows → AreOfProfile p u.rows → StandFor p is_kept (tables ++ (name, t) ∷ []) (held ++ (name, u) ∷ [])
  one_stands columns rows fit ranged =
      record {
        same = map-append (λ (x : Text × Table). (x.0, x.1.columns)) tables ((name, t) ∷ []) ∙ (λ i. s.same i ++ (name, columns i) ∷ []) ∙ sym (map-append (λ (x : Text × Listed). (x.0, columns_in x.1)) held ((name, u) ∷ []));
        rows = λ n k.
            subst (λ o. Perm (unwrap_or o no_table).rows (rows_of (table_of n (held ++ (name, u) ∷ [])))) (sym (named_behind n tables ((name, t) ∷ [])))
            (subst (λ o. Perm (unwrap_or (or_else (lookup (same_text n) tables) (cond (same_text n name) (Some t) None)) no_table).rows (rows_of o)) (sym (held_at n))
            (each (lookup (same_text n) tables) (table_of n held) (both_there tables held s.same n) (s.rows n k) (same_text n name)));
        fit = λ n x e. fits n x (table_of n held) refl (same_text n name) (sym (held_at n) ∙ e);
        ranged = λ n. subst (λ o. AreOfProfile p (rows_of o)) (sym (held_at n)) (in_range (table_of n held) (s.ranged n) (same_text n name));
      }
    where
      each : (a : Option Table) (b : Option Listed) → option_map (λ x. x.columns) a ≡ option_map columns_in b → Perm (unwrap_or a no_table).rows (rows_of b) → (c : Bool) → Perm (unwrap_or (or_else a (cond c (Some t) None)) no_table).rows (rows_of (or_else b (cond c (Some u) None)))
      each (Some x) (Some y) e q c = q
      each (Some x) None e q c = cc
      each None (Some y) e q c = cc
      each None None e q true = rows
      each None None e q false = q

      fits : (n : Text) (x : Listed) (b : Option Listed) → table_of n held ≡ b → (c : Bool) → or_else b (cond c (Some u) None) ≡ Some x → RowsFit (column_kinds x.columns) x.rows
      fits n x (Some y) e c q = s.fit n x (e ∙ q)
      fits n x None e true q = let same : u ≡ x = cc in subst (λ (z : Listed). RowsFit (column_kinds z.columns) z.rows) same fit
      fits n x None e false q = cc

      in_range : (b : Option Listed) → AreOfProfile p (rows_of b) → (c : Bool) → AreOfProfile p (rows_of (or_else b (cond c (Some u) None)))
      in_range (Some y) h c = h
      in_range None h true = ranged
      in_range None h false = tt

-- ---- rows are let go

pub still_stand : (p : Settings) (is_kept : Text → Bool) (tables : Data) (held now : NamedTables) → MayLetGo is_kept held now → StandFor p is_kept tables held → StandFor p is_kept tables now
still_stand p is_kept tables held now gone s =
    record {
      same = s.same ∙ sym (columns_stay is_kept held now gone);
      rows = λ n k. kept n k (looked_up is_kept n held now gone);
      fit = λ n x e. fits n x e (looked_up is_kept n held now gone);
      ranged = λ n. in_range n (looked_up is_kept n held now gone);
    }
  where
    kept : (n : Text) → is_kept n ≡ true → LooksAs is_kept n (table_of n held) (table_of n now) → Perm (table_named tables n).rows (rows_of (table_of n now))
    kept n k (inl e) = subst (λ o. Perm (table_named tables n).rows (rows_of o)) (sym e) (s.rows n k)
    kept n k (inr e) = let f : is_kept n ≡ false = e.0 in cc

    lost : (x : Listed) (o : Option Listed) → option_map without_rows o ≡ Some x → RowsFit (column_kinds x.columns) x.rows
    lost x None q = cc
    lost x (Some y) q = let same : without_rows y ≡ x = cc in subst (λ (z : Listed). RowsFit (column_kinds z.columns) z.rows) same tt

    fits : (n : Text) (x : Listed) → table_of n now ≡ Some x → LooksAs is_kept n (table_of n held) (table_of n now) → RowsFit (column_kinds x.columns) x.rows
    fits n x q (inl e) = s.fit n x (sym e ∙ q)
    fits n x q (inr e) = lost x (table_of n held) (sym e.1 ∙ q)

    no_rows : (o : Option Listed) → AreOfProfile p (rows_of (option_map without_rows o))
    no_rows None = tt
    no_rows (Some y) = tt

    in_range : (n : Text) → LooksAs is_kept n (table_of n held) (table_of n now) → AreOfProfile p (rows_of (table_of n now))
    in_range n (inl e) = subst (λ o. AreOfProfile p (rows_of o)) (sym e) (s.ranged n)
    in_range n (inr e) = subst (λ o. AreOfProfile p (rows_of o)) (sym e.1) (no_rows (table_of n held))

-- ---- queries

-- the rows that are still read are those that are held, and the others those of the meaning
pub query_stands : (p : Settings) (is_kept : Text → Bool) (tables : Data) (held : NamedTables) → StandFor p is_kept tables held → (q : QueryTree) → EachOfQuery (λ name. is_kept name ≡ true) q → Same (query_value (base_of p tables) q) (query_value (base_held p held) q)
query_stands p is_kept tables held s q read =
    let b : Base = base_of p tables in
    let now : Text → List Row = λ name. rows_of (table_of name held) in
    let mixed : Text → List Row = λ name. cond (is_kept name) (now name) (b.rows name) in
    let one = orders.query_same b mixed (λ name. mixes name (is_kept name) (s.rows name)) q in
    let two = only.query_same (with_rows b mixed) now q (query_so (λ name k. ap (λ c. cond c (now name) (b.rows name)) k) q read) in
    let three : query_value (with_rows b now) q ≡ query_value (base_held p held) q = ap (λ (l : Tables). query_value (record { settings = p; tables = l; rows = now }) q) s.same in
    subst (Same (query_value b q)) (two ∙ three) one
  where
    mixes : (name : Text) (c : Bool) → (c ≡ true → Perm (table_named tables name).rows (rows_of (table_of name held))) → Perm (table_named tables name).rows (cond c (rows_of (table_of name held)) (table_named tables name).rows)
    mixes name true f = f refl
    mixes name false f = Perm-refl (table_named tables name).rows

has_columns : (held : NamedTables) → HasColumns (tables_held held) held
has_columns held name columns e = go (table_of name held) (sym (columns_looked name held) ∙ e)
  where
    go : (o : Option Listed) → option_map columns_in o ≡ Some columns → HasTable columns o
    go None q = cc
    go (Some t) q = cc

pub lawful : (p : Settings) (is_kept : Text → Bool) (tables : Data) (held : NamedTables) → StandFor p is_kept tables held → p.scale ≤ 9 → IsLawful (base_held p held)
lawful p is_kept tables held s scale = record { scale = scale; fit = held_fit p (tables_held held) held (has_columns held) s.fit; ranged = s.ranged }
