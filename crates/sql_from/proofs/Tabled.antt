-- The table of rows of FROM.
use Rattle.std.proofs.Common.{◌≡◌, ℕ, ◌+◌, ◌<◌, List, [], ◌∷◌, ◌++◌, map, length, get_or, take, arith, refl, sym, ap, ◌∙◌, append_assoc, length-append, All}
use Rattle.std.specs.List.{AllByRecursion, range_with_len}
use Rattle.std.proofs.lemmas.List.{append-nil, get_or-map, get_or_default, length-map, map-append, take_more}
use Rattle.std.proofs.lemmas.List.FromFn.{fill_by_all}
use Rattle.vtl_cell.specs.declared.kind.Kind.{Kind}
use Rattle.vtl_cell.specs.declared.kind.Kind.TheVariants as k
use Rattle.vtl_rows.specs.Gathered.{part_at, picked, picked_kind}
use Rattle.vtl_rows.specs.Named.{NamedTables}
use Rattle.vtl_rows.specs.Tables.{Listed, column_at, column_kinds}
use Rattle.vtl_rows.specs.declared.column.Column.{Column}
use Rattle.vtl_rows.specs.declared.gather.Pick.{Pick}
use Rattle.sql_tree.specs.Trees.{Text}
use Rattle.sql_meaning.specs.Tables.{column_entry}
use Rattle.sql_from.specs.Columns.{columns_below, line_feed, source_columns}
use Rattle.sql_from.specs.Rows.{combined, picks_at, picks_from}
use Rattle.sql_from.specs.Sources.{parts_of, scope_held}
use Rattle.sql_from.proofs.Parted.{get_behind, got_at, pick_among, picked_all}

-- ---- kinds

kinds_below : (alias : Text) (columns : List Column) → column_kinds (columns_below alias (map column_entry columns)) ≡ map (λ c. c.kind) columns
kinds_below alias [] = refl
kinds_below alias (x ∷ columns) = ap (λ l. x.kind ∷ l) (kinds_below alias columns)

kinds_at : (parts : List Listed) (t : Listed) (n : ℕ) → part_at parts n ≡ t → map (λ c. c.kind) t.columns ≡ map (picked_kind parts) (picks_at n (length t.columns))
kinds_at parts t n e =
    fill_by_all (λ j. (column_at t.columns j).kind) (map (λ c. c.kind) t.columns) (length t.columns) k.Null (length-map t.columns (λ c. c.kind))
    (λ j h. get_or-map (λ c. c.kind) t.columns j (record { name = []; kind = k.Null }) k.Null h)
    ∙ each (range_with_len 0 (length t.columns))
  where
    each : (js : List ℕ) → map (λ j. (column_at t.columns j).kind) js ≡ map (picked_kind parts) (map (λ j. record { part = n; column = j }) js)
    each [] = refl
    each (j ∷ js) = λ i. (column_at (sym e i).columns j).kind ∷ each js i

kinds_from : (before : List Listed) (ss : NamedTables) (n : ℕ) → n ≡ length before → column_kinds (source_columns (scope_held ss)) ≡ map (picked_kind (before ++ parts_of ss)) (picks_from n (parts_of ss))
kinds_from before [] n e = refl
kinds_from before (s ∷ ss) n e =
    let t = s.1 in
    let parts = before ++ t ∷ parts_of ss in
    let moved : (before ++ t ∷ []) ++ parts_of ss ≡ parts = append_assoc before (t ∷ []) (parts_of ss) in
    let one = length-append before (t ∷ []) in
    let here : part_at parts n ≡ t = ap (part_at parts) e ∙ get_behind before t (parts_of ss) (record { columns = []; rows = [] }) in
    map-append (λ c. c.kind) (columns_below s.0 (map column_entry t.columns)) (source_columns (scope_held ss))
    ∙ (λ i. (kinds_below s.0 t.columns ∙ kinds_at parts t n here) i
    ++ (kinds_from (before ++ t ∷ []) ss (n + 1) (omega (arith, e, one)) ∙ ap (λ (ps : List Listed). map (picked_kind ps) (picks_from (n + 1) (parts_of ss))) moved) i)
    ∙ sym (map-append (picked_kind parts) (picks_at n (length t.columns)) (picks_from (n + 1) (parts_of ss)))

pub kinds_picked : (ss : NamedTables) → column_kinds (source_columns (scope_held ss)) ≡ map (picked_kind (parts_of ss)) (picks_from 0 (parts_of ss))
kinds_picked ss = kinds_from [] ss 0 refl

-- ---- picks

pub picks_within : (ts : List Listed) (picks : List Pick) (n : ℕ) → picks ≡ picks_from 0 ts → length ts ≡ n → All (λ p. p.part < n) picks
picks_within ts picks n are e j d h =
    let w = pick_among ts picks are j (get_or picks j d) (got_at picks j (get_or picks j d) h (get_or_default picks j d (get_or picks j d) h)) in
    omega (arith, w, e)

-- ---- rows

pub rows_picked : (ts : List Listed) (tuples : List (List ℕ)) → AllByRecursion (λ x. length x ≡ length ts) tuples → map (picked ts (picks_from 0 ts)) tuples ≡ map (combined ts) tuples
rows_picked ts [] all = refl
rows_picked ts (x ∷ xs) all = λ i. picked_all ts x all.0 i ∷ rows_picked ts xs all.1 i

-- ---- columns, one more

pub below_more : (alias : Text) (own : List Column) (i : ℕ) (x : Column) (old now then : List Column) (name : Text) → i < length own → x ≡ get_or own i x → name ≡ alias ++ line_feed ∷ x.name
    → now ≡ old ++ columns_below alias (map column_entry (take i own)) → then ≡ now ++ record { name = name; kind = x.kind } ∷ [] → then ≡ old ++ columns_below alias (map column_entry (take (i + 1) own))
below_more alias own i x old now then name h at named e is =
    let up : Column → Column = λ c. record { name = alias ++ line_feed ∷ c.name; kind = c.kind } in
    is ∙ (λ j. e j ++ record { name = named j; kind = x.kind } ∷ []) ∙ append_assoc old (columns_below alias (map column_entry (take i own))) (up x ∷ [])
    ∙ ap (λ l. old ++ l) (sym (ap (λ l. columns_below alias (map column_entry l)) (take_more own i x h ∙ ap (λ y. take i own ++ y ∷ []) (sym at))
    ∙ ap (columns_below alias) (map-append column_entry (take i own) (x ∷ [])) ∙ map-append (λ (c : Text × Kind). record { name = alias ++ line_feed ∷ c.0; kind = c.1 }) (map column_entry (take i own)) (column_entry x ∷ [])))

pub columns_last : (ss : NamedTables) (alias : Text) (t : Listed) → source_columns (scope_held (ss ++ (alias, t) ∷ [])) ≡ source_columns (scope_held ss) ++ columns_below alias (map column_entry t.columns)
columns_last [] alias t = append-nil (columns_below alias (map column_entry t.columns))
columns_last (s ∷ ss) alias t =
    ap (λ l. columns_below s.0 (map column_entry s.1.columns) ++ l) (columns_last ss alias t)
    ∙ sym (append_assoc (columns_below s.0 (map column_entry s.1.columns)) (source_columns (scope_held ss)) (columns_below alias (map column_entry t.columns)))
