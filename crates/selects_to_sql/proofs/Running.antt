-- Tables by name, and runs of tables one behind the other.
use Rattle.std.proofs.Common.{◌≡◌, Bool, true, false, ◌||◌, cond, List, [], ◌∷◌, ◌++◌, Some, Ok, Err, refl, ap, sym, ◌∙◌, subst}
use Rattle.std.specs.List.{AllByRecursion}
use Rattle.std.specs.Map.{keys_of, lookup}
use Rattle.std.proofs.lemmas.List.{map-append}
use Rattle.vtl_decimal.specs.declared.number.Fault.{Fault}
use Rattle.vtl_cell.specs.Outcome.{Outcome}
use Rattle.vtl_cell.specs.Outcomes.{Same}
use Rattle.vtl_lists.specs.Perm.{Perm}
use Rattle.vtl_lists.specs.Results.{◌>>=◌}
use Rattle.vtl_cell.specs.Row.{Row}
use Rattle.vtl_decimal.specs.Settings.{Settings}
use Rattle.vtl_text.specs.Texts.{same_text}
use Rattle.vtl_tree.specs.Structure.{columns_of}
use Rattle.vtl_tree.specs.declared.structure.Structure.{Structure}
use Rattle.sql_tree.specs.Trees.{QueryTree, Text}
use Rattle.sql_check_parts.specs.Queries.{query_columns}
use Rattle.sql_check_parts.specs.Scopes.{Tables, columns_of as table_columns, is_among}
use Rattle.sql_check_parts.specs.Statements.{is_taken}
use Rattle.sql_meaning.specs.Scripts.{Data, NamedFault, Table as Held, base_of, created, fault_name, or_named, tables_in}
use Rattle.sql_meaning.specs.Selects.{query_value}
use Rattle.selects_to_sql.specs.Means.{Means}
use Rattle.selects_to_sql.specs.Runs.{AreLawful, entries, given_behind, held, run}
use Rattle.selects_to_sql.specs.Tables.{Table, table_of}

-- ---- tables by name

pub there_still : (now more : Data) (f : Text → Bool) (t : Held) → lookup f now ≡ Some t → lookup f (now ++ more) ≡ Some t
there_still [] more f t h = cc
there_still (u ∷ us) more f t h = go (f u.0) h (there_still us more f t)
  where
    go : (b : Bool) → cond b (Some u.1) (lookup f us) ≡ Some t → (lookup f us ≡ Some t → lookup f (us ++ more) ≡ Some t) → cond b (Some u.1) (lookup f (us ++ more)) ≡ Some t
    go true e ih = e
    go false e ih = ih e

pub there_last : (now : Data) (f : Text → Bool) (name : Text) (t : Held) → AllByRecursion (λ u. f u.0 ≡ false) now → f name ≡ true → lookup f (now ++ (name, t) ∷ []) ≡ Some t
there_last [] f name t all h = rw h refl
there_last (u ∷ us) f name t all h = rw all.0 (there_last us f name t all.1 h)

-- typing knows its columns
pub columns_there : (now : Data) (name : Text) (t : Held) → lookup (same_text name) now ≡ Some t → table_columns (tables_in now) name ≡ Some t.columns
columns_there [] name t h = cc
columns_there (u ∷ us) name t h = go (same_text name u.0) h (columns_there us name t)
  where
    go : (b : Bool) → cond b (Some u.1) (lookup (same_text name) us) ≡ Some t → (lookup (same_text name) us ≡ Some t → table_columns (tables_in us) name ≡ Some t.columns) → cond b (Some u.1.columns) (table_columns (tables_in us) name) ≡ Some t.columns
    go true e ih = let same : u.1 ≡ t = cc in ap (λ v. Some v.columns) same
    go false e ih = ih e

-- a name that no table has is free
pub name_free : (now : Data) (name : Text) → AllByRecursion (λ u. same_text name u.0 ≡ false) now → is_taken (tables_in now) name ≡ false
name_free [] name all = refl
name_free (u ∷ us) name all = ap (λ b. b || is_among name (keys_of (tables_in us))) all.0 ∙ name_free us name all.1

pub tables_behind : (now : Data) (name : Text) (t : Held) → tables_in (now ++ (name, t) ∷ []) ≡ tables_in now ++ (name, t.columns) ∷ []
tables_behind now name t = map-append (λ u. (u.0, u.1.columns)) now ((name, t) ∷ [])

-- ---- outcomes up to order

pub same_ok : (m : Outcome (List Row)) (d : List Row) → Same m (Ok d) → (e : List Row) × (m ≡ Ok e) × Perm e d
same_ok (Ok e) d h = (e, refl, h)
same_ok (Err f) d h = absurd h

pub same_err : (m : Outcome (List Row)) (f : Fault) → Same m (Err f) → m ≡ Err f
same_err (Ok e) f h = absurd h
same_err (Err g) f h = ap (λ (x : Fault). Err x) h

-- ---- runs

abbrev pub behind : Data → Table → List Row → Data
behind before t rows = before ++ (t.name, created before t.query rows) ∷ []

pub run_on : (p : Settings) (before now : Data) (ts us : List Table) → run p before ts ≡ Ok now → run p before (ts ++ us) ≡ run p now us
run_on p before now [] us e = let same : before ≡ now = cc in ap (λ d. run p d us) same
run_on p before now (t ∷ ts) us e = go (query_value (base_of p before) t.query) e (λ rows. run_on p (behind before t rows) now ts us)
  where
    go : (m : Outcome (List Row)) → or_named t.name m >>= (λ rows. run p (behind before t rows) ts) ≡ Ok now → ((rows : List Row) → run p (behind before t rows) ts ≡ Ok now → run p (behind before t rows) (ts ++ us) ≡ run p now us) → or_named t.name m >>= (λ rows. run p (behind before t rows) (ts ++ us)) ≡ run p now us
    go (Ok rows) i ih = ih rows i
    go (Err f) i ih = cc

pub run_stops : (p : Settings) (before : Data) (ts us : List Table) (f : NamedFault) → run p before ts ≡ Err f → run p before (ts ++ us) ≡ Err f
run_stops p before [] us f e = cc
run_stops p before (t ∷ ts) us f e = go (query_value (base_of p before) t.query) e (λ rows. run_stops p (behind before t rows) ts us f)
  where
    go : (m : Outcome (List Row)) → or_named t.name m >>= (λ rows. run p (behind before t rows) ts) ≡ Err f → ((rows : List Row) → run p (behind before t rows) ts ≡ Err f → run p (behind before t rows) (ts ++ us) ≡ Err f) → or_named t.name m >>= (λ rows. run p (behind before t rows) (ts ++ us)) ≡ Err f
    go (Ok rows) i ih = ih rows i
    go (Err g) i ih = i

-- one table, by its meaning
pub run_one : (p : Settings) (now : Data) (name : Text) (q : QueryTree) (s : Structure) (e : List Row) → query_value (base_of p now) q ≡ Ok e → query_columns (tables_in now) q ≡ entries (columns_of s) → run p now (table_of name q ∷ []) ≡ Ok (now ++ (name, held s e) ∷ [])
run_one p now name q s e h i =
    ap (λ m. or_named name m >>= (λ rows. run p (behind now (table_of name q) rows) [])) h
    ∙ ap (λ cs. Ok (now ++ (name, record { columns = cs; rows = e }) ∷ [])) i

pub run_fault : (p : Settings) (now : Data) (name : Text) (q : QueryTree) (s : Structure) (f : Fault) → Means p now q s (Err f) → run p now (table_of name q ∷ []) ≡ Err (f, fault_name name)
run_fault p now name q s f h = ap (λ m. or_named name m >>= (λ rows. run p (behind now (table_of name q) rows) [])) (same_err (query_value (base_of p now) q) f h.rows)

-- ---- tables that break no rule

-- what typing knows behind tables is what their run has
pub given_is : (p : Settings) (before now : Data) (ts : List Table) → run p before ts ≡ Ok now → given_behind (tables_in before) ts ≡ tables_in now
given_is p before now [] e = let same : before ≡ now = cc in ap tables_in same
given_is p before now (t ∷ ts) e = go (query_value (base_of p before) t.query) e (λ rows. given_is p (behind before t rows) now ts)
  where
    go : (m : Outcome (List Row)) → or_named t.name m >>= (λ rows. run p (behind before t rows) ts) ≡ Ok now → ((rows : List Row) → run p (behind before t rows) ts ≡ Ok now → given_behind (tables_in (behind before t rows)) ts ≡ tables_in now) → given_behind (tables_in before ++ (t.name, query_columns (tables_in before) t.query) ∷ []) ts ≡ tables_in now
    go (Ok rows) i ih = ap (λ g. given_behind g ts) (sym (tables_behind before t.name (created before t.query rows))) ∙ ih rows i
    go (Err f) i ih = cc

lawful_both : (p : Settings) (given : Tables) (ts us : List Table) → AreLawful p given ts → AreLawful p (given_behind given ts) us → AreLawful p given (ts ++ us)
lawful_both p given [] us h i = i
lawful_both p given (t ∷ ts) us h i = (h.0, h.1, lawful_both p (given ++ (t.name, query_columns given t.query) ∷ []) ts us h.2 i)

pub lawful_on : (p : Settings) (before now : Data) (ts us : List Table) → run p before ts ≡ Ok now → AreLawful p (tables_in before) ts → AreLawful p (tables_in now) us → AreLawful p (tables_in before) (ts ++ us)
lawful_on p before now ts us e h i = lawful_both p (tables_in before) ts us h (subst (λ g. AreLawful p g us) (sym (given_is p before now ts e)) i)
