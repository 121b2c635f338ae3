-- A run, one statement after the other.
use Rattle.std.proofs.Common.{◌≡◌, ◌≤◌, ◌+◌, ℕ, Bool, true, false, cond, List, [], ◌∷◌, ◌++◌, Option, Some, None, Result, Ok, Err, refl, sym, ap, ◌∙◌, subst, arith}
use Rattle.std.specs.Prelude.{IfOk, fold, nat_le, unwrap_or}
use Rattle.std.specs.Map.{keys_of, lookup}
use Rattle.std.proofs.lemmas.List.{map-append}
use Rattle.vtl_lists.proofs.Perms.{AllByRecursion-Perm}
use Rattle.vtl_decimal.specs.declared.number.Fault.TheVariants.{DivZero, Range}
use Rattle.vtl_decimal.specs.declared.number.Fault.{Fault}
use Rattle.vtl_cell.specs.Outcome.{Outcome}
use Rattle.vtl_cell.specs.Outcomes.{Same}
use Rattle.vtl_lists.specs.Perm.{Perm, chain}
use Rattle.vtl_lists.specs.Results.{◌>>=◌}
use Rattle.vtl_cell.specs.Row.{Row}
use Rattle.vtl_decimal.specs.Settings.{Settings}
use Rattle.vtl_text.specs.Texts.{same_text}
use Rattle.vtl_cell.specs.declared.kind.Kind.{Kind}
use Rattle.vtl_rows.specs.Named.{NamedTables, table_of}
use Rattle.vtl_rows.specs.Tables.{Listed, column_kinds, fits_kinds}
use Rattle.grammar_forms.specs.Written.{Each}
use Rattle.sql_tree.specs.Formed.{IsStatement}
use Rattle.sql_tree.specs.Grammar.{most_levels}
use Rattle.sql_tree.specs.Trees as tree
use Rattle.sql_tree.specs.Trees.{QueryTree, StatementTree, Text}
use Rattle.sql_tree.specs.declared.statements.SqlInput.{SqlInput}
use Rattle.sql_check_parts.specs.Queries.{query_columns}
use Rattle.sql_check_parts.specs.Scopes.{Columns, Tables, is_among}
use Rattle.sql_tree.specs.declared.statements.SqlExport.{SqlExport}
use Rattle.sql_check_parts.specs.Statements.{Given, after, input_columns, is_taken, nothing}
use Rattle.sql_check_laws.specs.Selects.{IsQueryTyped}
use Rattle.sql_check_laws.specs.Statements.{AreTyped}
use Rattle.sql_meaning.specs.Profiles.{AreOfProfile, IsRowOfProfile}
use Rattle.sql_meaning.specs.Scripts.{Made, NamedFault, Table, and_table, base_of, created, export_of, fault_name, input_table, nothing_made, or_named, rows_read, statements_made, table_named}
use Rattle.sql_meaning.specs.Selects.{query_value}
use Rattle.sql_meaning.specs.Tables.{RowsFit, kinds_of, rows_of}
use Rattle.sql_meaning.proofs.Lists.{under}
use Rattle.sql_meaning.proofs.Profiled.{query_are}
use Rattle.sql_meaning.proofs.QueryKinds.{query_fit}
use Rattle.sql_meaning.proofs.HeldTables.{kinds_are}
use Rattle.sql_from.specs.Held.{base_held, tables_held}
use Rattle.sql_engine.specs.Exported.{exports_in}
use Rattle.sql_engine.specs.Held.{HaveMade, MayLetGo, StandFor}
use Rattle.sql_engine.specs.InputTables.{AreInputsInRange, HaveInputTables, rows_given}
use Rattle.sql_engine.specs.LastReads.{AreNoted, EachExported, IsReadFrom, LastPlaces, is_from, is_read_from}
use Rattle.sql_engine.specs.Runs.{FaultIs}
use Rattle.sql_engine.specs.Statements.{HasFault, HasRun, IsPut, MayRun}
use Rattle.vtl_scalar.specs.declared.run_error.RunErr.{RunErr}
use Rattle.vtl_scalar.specs.declared.run_error.RunErr.TheVariants as run
use Rattle.sql_engine.proofs.LettingGo.{columns_stay}
use Rattle.sql_engine.proofs.Standing.{fewer_stand, lawful, none_stand, one_stands, query_stands, still_stand}
use Rattle.sql_engine.proofs.TableLookups.{columns_in, free_name, keys_held}

-- before the statements from a place on, over the tables that are held
pub record Running (p : Settings) (inputs : NamedTables) (last : LastPlaces) (final : Given) (whole : Result Made NamedFault) (place : ℕ) (rest : List StatementTree) (held : NamedTables) : Type 0 where
  pub made : Made
  pub given : Given
  pub known : given.tables ≡ tables_held held
  pub ends : fold after given rest ≡ final
  pub typed : AreTyped p given rest
  pub formed : Each (IsStatement most_levels) rest
  pub there : HaveInputTables inputs rest
  pub in_range : AreInputsInRange p inputs rest
  pub noted : AreNoted last place rest
  pub stands : StandFor p (is_read_from place last) made.tables held
  pub whole_is : statements_made p (rows_given inputs) made rest ≡ whole

-- ---- small facts

rows_looked : (name : Text) (inputs : NamedTables) → rows_read (rows_given inputs) name ≡ rows_of (table_of name inputs)
rows_looked name [] = refl
rows_looked name (t ∷ inputs) = go (same_text name t.0) (rows_looked name inputs)
  where
    go : (b : Bool) → rows_read (rows_given inputs) name ≡ rows_of (table_of name inputs) → unwrap_or (cond b (Some t.1.rows) (lookup (same_text name) (rows_given inputs))) [] ≡ rows_of (cond b (Some t.1) (table_of name inputs))
    go true ih = refl
    go false ih = ih

-- up to order, twice
same_ok : (m n : Outcome (List Row)) (rows : List Row) → Same m n → Same n (Ok rows) → (made : List Row) × (m ≡ Ok made) × Perm made rows
same_ok (Ok xs) (Ok ys) rows s t = (xs, refl, chain s t)
same_ok (Ok xs) (Err f) rows s t = absurd s
same_ok (Err f) (Ok ys) rows s t = absurd s
same_ok (Err f) (Err g) rows s t = absurd t

own_rows : (n : Outcome (List Row)) (rows : List Row) → Same n (Ok rows) → (made : List Row) × (n ≡ Ok made) × Perm made rows
own_rows (Ok ys) rows t = (ys, refl, t)
own_rows (Err g) rows t = absurd t

read_later : (place : ℕ) (last : LastPlaces) (name : Text) → is_read_from (place + 1) last name ≡ true → is_read_from place last name ≡ true
read_later place last name h = go (lookup (same_text name) last) h
  where
    le_less : (n : ℕ) → nat_le (place + 1) n ≡ true → nat_le place n ≡ true
    le_less n e = grind (arith, e)

    go : (o : Option ℕ) → is_from (place + 1) o ≡ true → is_from place o ≡ true
    go None e = e
    go (Some n) e = le_less n e

module _ (p : Settings) (inputs : NamedTables) (last : LastPlaces) (final : Given) (whole : Result Made NamedFault) (place : ℕ) (rest : List StatementTree) (held : NamedTables) where
  abbrev Before : StatementTree → Type 0
  Before s = Running p inputs last final whole place (s ∷ rest) held

  abbrev Behind : NamedTables → Type 0
  Behind now = Running p inputs last final whole (place + 1) rest now

  -- ---- what a statement asks for

  free : (name : Text) (given : Given) → given.tables ≡ tables_held held → is_taken given.tables name ≡ false → is_among name (keys_of held) ≡ false
  free name given known h = ap (is_among name) (sym (ap keys_of known ∙ keys_held held)) ∙ h

  pub may_run : (s : StatementTree) → p.scale ≤ 9 → Before s → MayRun p inputs s held
  may_run (tree.setting digits rounding) scale r = tt
  may_run (tree.input s) scale r = (free_name s.name held (free s.name r.given r.known r.typed.0.free), r.there.0.columns)
  may_run (tree.create name q) scale r = (
    free_name name held (free name r.given r.known r.typed.0.0),
    record {
      formed = r.formed.0.1;
      typed = subst (λ (l : Tables). IsQueryTyped p l q) r.known r.typed.0.1.0;
      lawful = lawful p (is_read_from place last) r.made.tables held r.stands scale;
    },
  )
  may_run (tree.export s) scale r = tt

  -- ---- behind a statement

  still_reads : (tables : List (Text × Table)) (now : NamedTables) → StandFor p (is_read_from place last) tables now → StandFor p (is_read_from (place + 1) last) tables now
  still_reads tables now s = fewer_stand p (is_read_from place last) (is_read_from (place + 1) last) tables now (read_later place last) s

  known_more : (name : Text) (columns : Columns) (u : Listed) (given : Given) (now : NamedTables) → given.tables ≡ tables_held held → columns_in u ≡ columns → now ≡ held ++ (name, u) ∷ [] → given.tables ++ (name, columns) ∷ [] ≡ tables_held now
  known_more name columns u given now known e put =
      (λ i. known i ++ (name, sym e i) ∷ []) ∙ sym (map-append (λ (x : Text × Listed). (x.0, columns_in x.1)) held ((name, u) ∷ [])) ∙ sym (ap tables_held put)

  fitting : (kinds : List Kind) (u : Listed) (rows : List Row) → column_kinds u.columns ≡ kinds → RowsFit kinds rows → Perm rows u.rows → RowsFit (column_kinds u.columns) u.rows
  fitting kinds u rows e fit q = subst (λ ks. RowsFit ks u.rows) (sym e) (AllByRecursion-Perm (λ r. fits_kinds kinds r ≡ true) q fit)

  stands_more : (name : Text) (t : Table) (u : Listed) (made : Made) (now : NamedTables) → StandFor p (is_read_from place last) made.tables held → t.columns ≡ columns_in u → Perm t.rows u.rows → RowsFit (column_kinds u.columns) u.rows → AreOfProfile p u.rows
      → now ≡ held ++ (name, u) ∷ [] → StandFor p (is_read_from (place + 1) last) (made.tables ++ (name, t) ∷ []) now
  stands_more name t u made now s columns rows fit ranged put =
      subst (StandFor p (is_read_from (place + 1) last) (made.tables ++ (name, t) ∷ [])) (sym put)
      (still_reads (made.tables ++ (name, t) ∷ []) (held ++ (name, u) ∷ []) (one_stands p (is_read_from place last) made.tables held s name t u columns rows fit ranged))

  input_run : (s : SqlInput) (now : NamedTables) → Before (tree.input s) → IsPut s.name (input_columns s) (Ok (rows_of (table_of s.name inputs))) held now → Behind now
  input_run s now r put =
      let u = put.table in
      let rows = rows_of (table_of s.name inputs) in
      let t = input_table (rows_given inputs) s in
      let is : t.rows ≡ rows = rows_looked s.name inputs in
      record {
        made = and_table r.made s.name t;
        given = after r.given (tree.input s);
        known = known_more s.name (input_columns s) u r.given now r.known put.columns_are put.put;
        ends = r.ends;
        typed = r.typed.1;
        formed = r.formed.1;
        there = r.there.1;
        in_range = r.in_range.1;
        noted = r.noted.1;
        stands = stands_more s.name t u r.made now r.stands (sym put.columns_are) (subst (λ l. Perm l u.rows) (sym is) put.rows_are)
            (fitting (kinds_of (input_columns s)) u rows (kinds_are u.columns ∙ ap kinds_of put.columns_are) r.there.0.fit put.rows_are) (AllByRecursion-Perm (IsRowOfProfile p) put.rows_are r.in_range.0) put.put;
        whole_is = r.whole_is;
      }

  create_run : (name : Text) (q : QueryTree) (now : NamedTables) → p.scale ≤ 9 → Before (tree.create name q) → IsPut name (query_columns (tables_held held) q) (query_value (base_held p held) q) held now → Behind now
  create_run name q now scale r put =
      let u = put.table in
      let base = base_of p r.made.tables in
      let one = same_ok (query_value base q) (query_value (base_held p held) q) u.rows (query_stands p (is_read_from place last) r.made.tables held r.stands q r.noted.0) put.rows_are in
      let own = own_rows (query_value (base_held p held) q) u.rows put.rows_are in
      let is_lawful = lawful p (is_read_from place last) r.made.tables held r.stands scale in
      let typed = subst (λ (l : Tables). IsQueryTyped p l q) r.known r.typed.0.1.0 in
      let fit = query_fit (base_held p held) is_lawful.fit q own.0 typed own.1 in
      let t = created r.made.tables q one.0 in
      let columns : t.columns ≡ columns_in u = ap (λ (l : Tables). query_columns l q) r.stands.same ∙ sym put.columns_are in
      record {
        made = and_table r.made name t;
        given = after r.given (tree.create name q);
        known = known_more name (query_columns r.given.tables q) u r.given now r.known (put.columns_are ∙ ap (λ (l : Tables). query_columns l q) (sym r.known)) put.put;
        ends = r.ends;
        typed = r.typed.1;
        formed = r.formed.1;
        there = r.there.1;
        in_range = r.in_range.1;
        noted = r.noted.1;
        stands = stands_more name t u r.made now r.stands columns one.2 (fitting (kinds_of (query_columns (tables_held held) q)) u own.0 (kinds_are u.columns ∙ ap kinds_of put.columns_are) fit own.2)
            (AllByRecursion-Perm (IsRowOfProfile p) own.2 (ranged (query_value (base_held p held) q) own.0 own.1 (query_are (base_held p held) r.stands.ranged q))) put.put;
        whole_is = ap (λ (m : Outcome (List Row)). (or_named name m >>= (λ rows. Ok (and_table r.made name (created r.made.tables q rows)))) >>= (λ n. statements_made p (rows_given inputs) n rest)) (sym one.1) ∙ r.whole_is;
      }
    where
      ranged : (m : Outcome (List Row)) (rows : List Row) → m ≡ Ok rows → IfOk m (AreOfProfile p) → AreOfProfile p rows
      ranged m rows e h = subst (λ x. IfOk x (AreOfProfile p)) e h

  pub has_run : (s : StatementTree) (now : NamedTables) → p.scale ≤ 9 → Before s → HasRun p inputs s held now → Behind now
  has_run (tree.setting digits rounding) now scale r h = absurd r.formed.0
  has_run (tree.input s) now scale r h = input_run s now r h
  has_run (tree.create name q) now scale r h = create_run name q now scale r h
  has_run (tree.export s) now scale r h =
      subst Behind (sym h)
      (record {
        made = record { tables = r.made.tables; exports = r.made.exports ++ export_of s (table_named r.made.tables s.name) ∷ [] };
        given = after r.given (tree.export s);
        known = r.known;
        ends = r.ends;
        typed = r.typed.1;
        formed = r.formed.1;
        there = r.there.1;
        in_range = r.in_range.1;
        noted = r.noted.1;
        stands = still_reads r.made.tables held r.stands;
        whole_is = r.whole_is;
      })

  -- ---- the first fault

  faulted : (name : Text) (q : QueryTree) (m n : Outcome (List Row)) → Same m n → (made : Made) → ((or_named name m >>= (λ rows. Ok (and_table made name (created made.tables q rows)))) >>= (λ k. statements_made p (rows_given inputs) k rest)) ≡ whole
      → (e : RunErr) → FaultIs (or_named name n) e → FaultIs whole e
  faulted name q (Ok xs) (Ok ys) s made w (run.DivZero x) h = cc
  faulted name q (Ok xs) (Ok ys) s made w (run.Range x) h = cc
  faulted name q (Err f) (Err g) s made w (run.DivZero x) h = sym w ∙ ap (λ (y : Fault). Err (y, fault_name name)) s ∙ err_is h
    where
      err_is : ◌≡◌ {A = Result (List Row) NamedFault} (Err (g, fault_name name)) (Err (DivZero, x)) → ◌≡◌ {A = Result Made NamedFault} (Err (g, fault_name name)) (Err (DivZero, x))
      err_is h = cc
  faulted name q (Err f) (Err g) s made w (run.Range x) h = sym w ∙ ap (λ (y : Fault). Err (y, fault_name name)) s ∙ err_is h
    where
      err_is : ◌≡◌ {A = Result (List Row) NamedFault} (Err (g, fault_name name)) (Err (Range, x)) → ◌≡◌ {A = Result Made NamedFault} (Err (g, fault_name name)) (Err (Range, x))
      err_is h = cc
  faulted name q (Ok xs) (Err g) s made w e h = absurd s
  faulted name q (Err f) (Ok ys) s made w e h = absurd s
  faulted name q m n s made w run.OutOfMemory h = tt

  pub has_fault : (s : StatementTree) (e : RunErr) → Before s → HasFault p s held e → FaultIs whole e
  has_fault (tree.setting digits rounding) e r h = subst (FaultIs whole) (sym h) tt
  has_fault (tree.input s) e r h = subst (FaultIs whole) (sym h) tt
  has_fault (tree.create name q) e r h =
      faulted name q (query_value (base_of p r.made.tables) q) (query_value (base_held p held) q) (query_stands p (is_read_from place last) r.made.tables held r.stands q r.noted.0) r.made r.whole_is e h
  has_fault (tree.export s) e r h = subst (FaultIs whole) (sym h) tt

-- ---- rows are let go

pub let_go_running : (p : Settings) (inputs : NamedTables) (last : LastPlaces) (final : Given) (whole : Result Made NamedFault) (place : ℕ) (rest : List StatementTree) (held now : NamedTables) → MayLetGo (is_read_from place last) held now
    → Running p inputs last final whole place rest held → Running p inputs last final whole place rest now
let_go_running p inputs last final whole place rest held now gone r =
    let stands = still_stand p (is_read_from place last) r.made.tables held now gone r.stands in
    record {
      made = r.made;
      given = r.given;
      known = r.known ∙ sym (columns_stay (is_read_from place last) held now gone);
      ends = r.ends;
      typed = r.typed;
      formed = r.formed;
      there = r.there;
      in_range = r.in_range;
      noted = r.noted;
      stands = stands;
      whole_is = r.whole_is;
    }

-- ---- the beginning and the end

-- what holds of the names of all EXPORTs
exported_under : (P Q : Text → Type 0) → ((name : Text) → P name → Q name) → (ss : List StatementTree) → EachExported P ss → EachExported Q ss
exported_under P Q f ss all = under {P = λ (s : SqlExport). P s.name} {Q = λ (s : SqlExport). Q s.name} (λ s h. f s.name h) (exports_in ss) all

module _ (p : Settings) (inputs : NamedTables) (last : LastPlaces) (ss : List StatementTree) where
  abbrev pub Whole : Result Made NamedFault
  Whole = statements_made p (rows_given inputs) nothing_made ss

  pub run_begins : (held : NamedTables) → held ≡ [] → AreTyped p nothing ss → Each (IsStatement most_levels) ss → HaveInputTables inputs ss → AreInputsInRange p inputs ss → AreNoted last 0 ss
      → Running p inputs last (fold after nothing ss) Whole 0 ss held
  run_begins held e typed formed there in_range noted =
      record {
        made = nothing_made;
        given = nothing;
        known = sym (ap tables_held e);
        ends = refl;
        typed = typed;
        formed = formed;
        there = there;
        in_range = in_range;
        noted = noted;
        stands = none_stand p (is_read_from 0 last) held e;
        whole_is = refl;
      }

  pub run_ends : (place : ℕ) (rest : List StatementTree) (held : NamedTables) → rest ≡ [] → EachExported (IsReadFrom place last) ss → Running p inputs last (fold after nothing ss) Whole place rest held → HaveMade p inputs ss held
  run_ends place rest held e exported r = ended (subst (λ (l : List StatementTree). Running p inputs last (fold after nothing ss) Whole place l held) e r)
    where
      ended : Running p inputs last (fold after nothing ss) Whole place [] held → HaveMade p inputs ss held
      ended here = record {
        made = here.made;
        made_is = sym here.whole_is;
        same = here.stands.same;
        given = ap (λ (g : Given). g.tables) (sym here.ends) ∙ here.known;
        rows = exported_under (IsReadFrom place last) (λ name. Perm (table_named here.made.tables name).rows (rows_of (table_of name held))) here.stands.rows ss exported;
      }
