-- The rows that a CSV file gives are the points of a data set, of the profile.
use Rattle.std.proofs.Common.{◌≡◌, ℕ, ◌+◌, List, [], ◌∷◌, ◌++◌, Bool, true, false, cond, not, ◌&&◌, ◌||◌, Result, Ok, Err, length, map, take, refl, sym, ap, ◌∙◌, subst}
use Rattle.std.specs.List.{AllByRecursion, list_any}
use Rattle.std.proofs.lemmas.List.{take-map}
use Rattle.vtl_lists.specs.Aliases.{Name}
use Rattle.vtl_lists.specs.Results.{◌>>=◌}
use Rattle.vtl_decimal.specs.Settings.{Settings}
use Rattle.vtl_lists.specs.Apart.{all_apart}
use Rattle.vtl_lists.proofs.Alls.{all_push}
use Rattle.vtl_cell.specs.Profile.{IsOfProfile}
use Rattle.vtl_cell.specs.Row.{Row, column_of, same_key, same_row}
use Rattle.vtl_rows.specs.Keys.{agree, apart}
use Rattle.vtl_rows.specs.Tables.{Listed, cells_at}
use Rattle.vtl_tree.specs.DataSet.{AreOfProfile, IsDataSet, is_point}
use Rattle.vtl_tree.specs.declared.structure.Component.{Component}
use Rattle.vtl_tree.specs.declared.structure.Structure.{Structure}
use Rattle.vtl_tree.specs.Structure.{IsStructure, columns_of, key_width}
use Rattle.vtl_sets.specs.TableOf.{IsTableOf, table_columns}
use Rattle.vtl_csv.specs.declared.input.InputKind.TheVariants as i
use Rattle.vtl_csv.specs.InputFields.{Flaw, ReadColumn, components_in, read_columns, record_row}
use Rattle.vtl_csv.specs.InputFile.{Fault, Layout, dataset_rows, is_repeat, layout_of, of_header, rows_below, rows_in_records, rows_with, unless_repeated}
use Rattle.vtl_csv.specs.InputSteps.{IsLayout}
use Rattle.vtl_csv.specs.StructuresFile.{◌at_line◌, records_in}
use Rattle.vtl_csv.proofs.InputLayoutLemmas.{layout_points}
use Rattle.vtl_csv.proofs.InputPointLemmas.{ArePoints, ok_same, record_good}
use Rattle.vtl_csv.proofs.ProfileLemmas.{record_of_profile, rows_of_profile}
use Rattle.vtl_csv.proofs.RepeatLemmas.{still_apart}

-- ---- the rows in the order of the file
pub record AreRows (p : Settings) (columns : List ReadColumn) (keys : List ℕ) (rows : List Row) : Type 0 where
  pub apart : apart keys rows ≡ true
  pub points : ArePoints (components_in columns) rows
  pub of_profile : AreOfProfile p rows

rows_good : (p : Settings) (columns : List ReadColumn) (keys : List ℕ) (rest : List (List (List ℕ))) (before rows : List Row) → AreRows p columns keys before → rows_with p columns keys before rest ≡ Ok rows → AreRows p columns keys rows
rows_good p columns keys [] before rows are e = subst (AreRows p columns keys) (ok_same e) are
rows_good p columns keys (fields ∷ rest) before rows are e = go (record_row p columns (length before) fields) refl (λ longer. rows_good p columns keys rest longer rows) e
  where
    next : List Row → Result (List Row) Fault
    next longer = rows_with p columns keys longer rest

    go : (r : Result Row Flaw) → record_row p columns (length before) fields ≡ r
        → ((longer : List Row) → AreRows p columns keys longer → rows_with p columns keys longer rest ≡ Ok rows → AreRows p columns keys rows)
        → ((r >>= unless_repeated keys before) at_line (length before + 2) >>= λ longer. rows_with p columns keys longer rest) ≡ Ok rows → AreRows p columns keys rows
    go (Err flaw) t ih q = cc
    go (Ok row) t ih q = new (is_repeat keys before row) refl q
      where
        new : (b : Bool) → is_repeat keys before row ≡ b
            → (cond b (Err (1, i.DuplicateKey)) (Ok (before ++ row ∷ [])) at_line (length before + 2) >>= λ longer. rows_with p columns keys longer rest) ≡ Ok rows → AreRows p columns keys rows
        new true s u = cc
        new false s u =
            ih (before ++ row ∷ []) (record {
              apart = still_apart keys before row are.apart s;
              points = all_push (λ r. is_point (components_in columns) r ≡ true) before row are.points (record_good p columns (length before) fields row t);
              of_profile = all_push (AllByRecursion (IsOfProfile p)) before row are.of_profile (record_of_profile p columns (length before) fields row t);
            }) u

-- ---- the rows in column order
list_any-map : {X Y : Type 0} (f : X → Y) (p : Y → Bool) (xs : List X) → list_any p (map f xs) ≡ list_any (λ x. p (f x)) xs
list_any-map f p [] = refl
list_any-map f p (x ∷ xs) = ap (λ b. p (f x) || b) (list_any-map f p xs)

apart-map : {X Y : Type 0} (f : X → Y) (same : Y → Y → Bool) (xs : List X) → all_apart same (map f xs) ≡ all_apart (λ x y. same (f x) (f y)) xs
apart-map f same [] = refl
apart-map f same (x ∷ xs) = ap (λ b. not b && all_apart same (map f xs)) (list_any-map f (same (f x)) xs) ∙ ap (λ b. not (list_any (λ y. same (f x) (f y)) xs) && b) (apart-map f same xs)

keys_first : (n : ℕ) (places : List ℕ) (rows : List Row) → all_apart (same_key n) (map (cells_at places) rows) ≡ apart (take n places) rows
keys_first n places rows = apart-map (cells_at places) (same_key n) rows ∙ ap (λ same. all_apart same rows) one
  where
    each : (r s : Row) → same_key n (cells_at places r) (cells_at places s) ≡ agree (take n places) r s
    each r s =
        ap (λ a. same_row a (take n (cells_at places s))) (take-map (λ i. column_of i r) n places)
        ∙ ap (λ b. same_row (cells_at (take n places) r) b) (take-map (λ i. column_of i s) n places)

    one : (λ (r s : Row). same_key n (cells_at places r) (cells_at places s)) ≡ agree (take n places)
    one = λ i r s. each r s i

points-map : (s : Structure) (layout : Layout) → IsStructure s → IsLayout s layout → (rows : List Row) → ArePoints layout.columns rows → ArePoints (columns_of s) (map (cells_at layout.places) rows)
points-map s layout well found [] all = tt
points-map s layout well found (row ∷ rows) all = (layout_points s layout well found row all.0, points-map s layout well found rows all.1)

-- ---- the whole file
pub components_read : (not_null : List Name) (xs : List Component) → components_in (read_columns not_null xs) ≡ xs
components_read not_null [] = refl
components_read not_null (x ∷ xs) = ap (λ l. x ∷ l) (components_read not_null xs)

record AreRead (p : Settings) (s : Structure) (rows : List Row) : Type 0 where
  pub points : IsDataSet s rows
  pub of_profile : AreOfProfile p rows

dataset_read : (p : Settings) (s : Structure) (not_null : List Name) (text : List ℕ) (rows : List Row) → IsStructure s → dataset_rows p s not_null text ≡ Ok rows → AreRead p s rows
dataset_read p s not_null text rows well e = records_go (records_in text) e
  where
    arranged : (layout : Layout) → IsLayout s layout → (r : Result (List Row) Fault) → ((read : List Row) → r ≡ Ok read → AreRows p (read_columns not_null layout.columns) (take (key_width s) layout.places) read)
        → (r >>= λ read. Ok (map (cells_at layout.places) read)) ≡ Ok rows → AreRead p s rows
    arranged layout found (Err fault) are q = cc
    arranged layout found (Ok read) are q =
        let a = are read refl in
        subst (AreRead p s) (ok_same q) (record {
          points = record {
            well_formed = well;
            typed = points-map s layout well found read (subst (λ xs. ArePoints xs read) (components_read not_null layout.columns) a.points);
            distinct = keys_first (key_width s) layout.places read ∙ a.apart;
          };
          of_profile = rows_of_profile p layout.places read a.of_profile;
        })

    layout_go : (fields : List (List ℕ)) (rest : List (List (List ℕ))) (r : Result Layout ℕ) → layout_of s fields ≡ r → (of_header r >>= λ layout. rows_below p s not_null layout rest) ≡ Ok rows → AreRead p s rows
    layout_go fields rest (Err column) t q = cc
    layout_go fields rest (Ok layout) t q =
        let keys = take (key_width s) layout.places in
        arranged layout (fields, t) (rows_with p (read_columns not_null layout.columns) keys [] rest) (λ read. rows_good p (read_columns not_null layout.columns) keys rest [] read (record { apart = refl; points = tt; of_profile = tt })) q

    records_go : (rs : List (List (List ℕ))) → rows_in_records p s not_null rs ≡ Ok rows → AreRead p s rows
    records_go [] q = cc
    records_go (header ∷ rest) q = layout_go header rest (layout_of s header) refl q

pub dataset_good : (p : Settings) (s : Structure) (not_null : List Name) (text : List ℕ) (rows : List Row) → IsStructure s → dataset_rows p s not_null text ≡ Ok rows → IsDataSet s rows
dataset_good p s not_null text rows well e = (dataset_read p s not_null text rows well e).points

pub dataset_of_profile : (p : Settings) (s : Structure) (not_null : List Name) (text : List ℕ) (rows : List Row) → IsStructure s → dataset_rows p s not_null text ≡ Ok rows → AreOfProfile p rows
dataset_of_profile p s not_null text rows well e = (dataset_read p s not_null text rows well e).of_profile

-- a table with those rows is one of the data set
pub dataset_table : (p : Settings) (s : Structure) (not_null : List Name) (text : List ℕ) (t : Listed) → IsStructure s → t.columns ≡ table_columns s → dataset_rows p s not_null text ≡ Ok t.rows → IsTableOf s t
dataset_table p s not_null text t well c e = record { columns = c; points = dataset_good p s not_null text t.rows well e }

-- rows that are read, and then put in column order
pub rows_arranged : (places : List ℕ) (what : Result (List Row) Fault) (rows out : List Row) → Ok rows ≡ what → out ≡ map (cells_at places) rows → (what >>= λ read. Ok (map (cells_at places) read)) ≡ Ok out
rows_arranged places what rows out e o = ap (λ r. r >>= λ read. Ok (map (cells_at places) read)) (sym e) ∙ ap (λ l. Ok l) (sym o)
