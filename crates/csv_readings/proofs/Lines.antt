-- Line by line, a file holds what the definition gives that goes down the lines with the rows so far.
use Rattle.std.proofs.Common.{◌≡◌, ℕ, ◌+◌, Bool, true, false, ◌||◌, List, [], ◌∷◌, ◌++◌, length, map, take, get_or, Result, Ok, Err, refl, sym, ap, ◌∙◌}
use Rattle.std.specs.Prelude.{if◌then◌else◌, nat_le}
use Rattle.std.specs.List.{list_any, range_with_len}
use Rattle.std.proofs.lemmas.List.{append-nil, length-append, length-map, map-append}
use Rattle.vtl_lists.specs.Aliases.{Bytes, Name, Record}
use Rattle.vtl_lists.specs.Results.{◌>>=◌}
use Rattle.vtl_decimal.specs.Settings.{Settings}
use Rattle.vtl_cell.specs.Row.{Row}
use Rattle.vtl_rows.specs.Keys.{agree}
use Rattle.vtl_rows.specs.Tables.{cells_at}
use Rattle.vtl_tree.specs.declared.structure.Structure.{Structure}
use Rattle.vtl_csv.specs.InputFields.{Flaw, ReadColumn, most_points, read_columns, record_row}
use Rattle.vtl_csv.specs.InputFile.{Fault, Layout, dataset_rows, is_repeat, layout_of, of_header, rows_below, rows_in_records, rows_with, unless_repeated}
use Rattle.vtl_csv.specs.StructuresFile.{◌at_line◌, records_in}
use Rattle.vtl_csv.specs.declared.input.InputKind.TheVariants as i
use Rattle.csv_readings.specs.Lines.{all_of, identifier_places, is_like, row_at, row_behind, rows_at, rows_in_file, rows_of_records, unless_there}

-- ---- lists in two parts
seam : {X : Type 0} (xs : List X) (y : X) (ys : List X) (d : X) → get_or (xs ++ y ∷ ys) (length xs) d ≡ y
seam [] y ys d = refl
seam (x ∷ xs) y ys d = seam xs y ys d

front : {X : Type 0} (xs ys : List X) → take (length xs) (xs ++ ys) ≡ xs
front [] ys = refl
front (x ∷ xs) ys = ap (λ l. x ∷ l) (front xs ys)

joined : {X : Type 0} (xs : List X) (y : X) (ys : List X) → (xs ++ y ∷ []) ++ ys ≡ xs ++ y ∷ ys
joined [] y ys = refl
joined (x ∷ xs) y ys = ap (λ l. x ∷ l) (joined xs y ys)

-- ---- the lines before are the rows before
abbrev Spelled : Settings → List ReadColumn → List Record → List Row → Type 0
Spelled p columns lines rows = map (record_row p columns 0) lines ≡ map (λ r. Ok r) rows

-- as many of them
as_many : (p : Settings) (columns : List ReadColumn) (lines : List Record) (rows : List Row) → Spelled p columns lines rows → length lines ≡ length rows
as_many p columns lines rows e =
    let ok : Row → Result Row Flaw = λ r. Ok r in
    sym (length-map lines (record_row p columns 0)) ∙ ap length e ∙ length-map rows ok

-- a record that is a row is one whatever stands before it
anywhere : (p : Settings) (columns : List ReadColumn) (count : ℕ) (fields : Record) (row : Row) → record_row p columns count fields ≡ Ok row → record_row p columns 0 fields ≡ Ok row
anywhere p columns count fields row = go (nat_le most_points count)
  where
    go : (b : Bool) → (if b then Err (1, i.TooManyRows) else record_row p columns 0 fields) ≡ Ok row → record_row p columns 0 fields ≡ Ok row
    go true e = cc
    go false e = e

spelled_more : (p : Settings) (columns : List ReadColumn) (lines : List Record) (rows : List Row) (fields : Record) (row : Row) → Spelled p columns lines rows → record_row p columns 0 fields ≡ Ok row → Spelled p columns (lines ++ fields ∷ []) (rows ++ row ∷ [])
spelled_more p columns lines rows fields row e h =
    let ok : Row → Result Row Flaw = λ r. Ok r in
    map-append (record_row p columns 0) lines (fields ∷ [])
    ∙ ap (λ l. l ++ record_row p columns 0 fields ∷ []) e
    ∙ ap (λ m. map ok rows ++ m ∷ []) h
    ∙ sym (map-append ok rows (row ∷ []))

like_rows : (keys : List ℕ) (row : Row) (rows : List Row) → list_any (is_like keys row) (map (λ r. Ok r) rows) ≡ is_repeat keys rows row
like_rows keys row [] = refl
like_rows keys row (r ∷ rows) = ap (λ b. agree keys r row || b) (like_rows keys row rows)

-- ---- one line
line_is : (p : Settings) (s : Structure) (not_null : List Name) (layout : Layout) (before : List Record) (rows : List Row) (fields : Record) (rest : List Record) → Spelled p (read_columns not_null layout.columns) before rows
    → row_at p s not_null layout (before ++ fields ∷ rest) (length before) ≡ ((record_row p (read_columns not_null layout.columns) (length rows) fields >>= unless_there (identifier_places s layout) (map (λ r. Ok r) rows)) at_line (length rows + 2))
line_is p s not_null layout before rows fields rest e =
    let keys = identifier_places s layout in
    ap (λ l. row_behind p s not_null layout l (get_or (before ++ fields ∷ rest) (length before) []) at_line (length before + 2)) (front before (fields ∷ rest))
    ∙ ap (λ f. row_behind p s not_null layout before f at_line (length before + 2)) (seam before fields rest [])
    ∙ ap (λ n. (record_row p (read_columns not_null layout.columns) n fields >>= unless_there keys (map (record_row p (read_columns not_null layout.columns) 0) before)) at_line (n + 2)) (as_many p (read_columns not_null layout.columns) before rows e)
    ∙ ap (λ l. (record_row p (read_columns not_null layout.columns) (length rows) fields >>= unless_there keys l) at_line (length rows + 2)) e

-- rows behind others
abbrev Onto : List Row → Result (List Row) Fault → Result (List Row) Fault
Onto rows m = m >>= λ more. Ok (rows ++ more)

onto_one : (rows : List Row) (row : Row) (m : Result (List Row) Fault) → Onto (rows ++ row ∷ []) m ≡ Onto rows (m >>= λ more. Ok (row ∷ more))
onto_one rows row (Ok more) = ap (λ l. Ok l) (joined rows row more)
onto_one rows row (Err f) = refl

-- ---- line after line
down : (p : Settings) (s : Structure) (not_null : List Name) (layout : Layout) (before : List Record) (rows : List Row) (rest lines : List Record) → lines ≡ before ++ rest → Spelled p (read_columns not_null layout.columns) before rows
    → rows_with p (read_columns not_null layout.columns) (identifier_places s layout) rows rest ≡ Onto rows (all_of (map (row_at p s not_null layout lines) (range_with_len (length before) (length rest))))
down p s not_null layout before rows [] lines h e = ap (λ l. Ok l) (sym (append-nil rows))
down p s not_null layout before rows (fields ∷ rest) lines h e =
    go (record_row p (read_columns not_null layout.columns) (length rows) fields) (λ row g. down p s not_null layout (before ++ fields ∷ []) (rows ++ row ∷ []) rest lines (h ∙ sym (joined before fields rest)) (spelled_more p (read_columns not_null layout.columns) before rows fields row e (anywhere p (read_columns not_null layout.columns) (length rows) fields row g)))
    ∙ ap (λ m. Onto rows (m >>= λ row. later >>= λ more. Ok (row ∷ more))) (sym (line_is p s not_null layout before rows fields rest e) ∙ ap (λ l. row_at p s not_null layout l (length before)) (sym h))
  where
    keys : List ℕ
    keys = identifier_places s layout

    later : Result (List Row) Fault
    later = all_of (map (row_at p s not_null layout lines) (range_with_len (length before + 1) (length rest)))

    next : length (before ++ fields ∷ []) ≡ length before + 1
    next = length-append before (fields ∷ [])

    with_row : (row : Row) (b : Bool) → rows_with p (read_columns not_null layout.columns) keys (rows ++ row ∷ []) rest ≡ Onto (rows ++ row ∷ []) (all_of (map (row_at p s not_null layout lines) (range_with_len (length (before ++ fields ∷ [])) (length rest))))
        → (((if b then Err (1, i.DuplicateKey) else Ok (rows ++ row ∷ [])) at_line (length rows + 2)) >>= λ longer. rows_with p (read_columns not_null layout.columns) keys longer rest)
        ≡ Onto rows (((if b then Err (1, i.DuplicateKey) else Ok row) at_line (length rows + 2)) >>= λ first. later >>= λ more. Ok (first ∷ more))
    with_row row true ih = refl
    with_row row false ih = ih ∙ ap (λ n. Onto (rows ++ row ∷ []) (all_of (map (row_at p s not_null layout lines) (range_with_len n (length rest))))) next ∙ onto_one rows row later

    go : (m : Result Row Flaw) → ((row : Row) → m ≡ Ok row → rows_with p (read_columns not_null layout.columns) keys (rows ++ row ∷ []) rest ≡ Onto (rows ++ row ∷ []) (all_of (map (row_at p s not_null layout lines) (range_with_len (length (before ++ fields ∷ [])) (length rest)))))
        → (((m >>= unless_repeated keys rows) at_line (length rows + 2)) >>= λ longer. rows_with p (read_columns not_null layout.columns) keys longer rest)
        ≡ Onto rows (((m >>= unless_there keys (map (λ r. Ok r) rows)) at_line (length rows + 2)) >>= λ first. later >>= λ more. Ok (first ∷ more))
    go (Err flaw) ih = refl
    go (Ok row) ih =
        with_row row (is_repeat keys rows row) (ih row refl)
        ∙ ap (λ b. Onto rows (((if b then Err (1, i.DuplicateKey) else Ok row) at_line (length rows + 2)) >>= λ first. later >>= λ more. Ok (first ∷ more))) (sym (like_rows keys row rows))

-- nothing stands before the first line
onto_none : (m : Result (List Row) Fault) → Onto [] m ≡ m
onto_none (Ok rows) = refl
onto_none (Err f) = refl

below : (p : Settings) (s : Structure) (not_null : List Name) (layout : Layout) (lines : List Record) → (rows_at p s not_null layout lines >>= λ rows. Ok (map (cells_at layout.places) rows)) ≡ rows_below p s not_null layout lines
below p s not_null layout lines = ap (λ m. m >>= λ rows. Ok (map (cells_at layout.places) rows)) (sym (down p s not_null layout [] [] lines lines refl refl ∙ onto_none (rows_at p s not_null layout lines)))

records_are : (p : Settings) (s : Structure) (not_null : List Name) (records : List Record) → rows_of_records p s not_null records ≡ rows_in_records p s not_null records
records_are p s not_null [] = refl
records_are p s not_null (header ∷ lines) = go (of_header (layout_of s header))
  where
    go : (m : Result Layout Fault) → (m >>= λ layout. rows_at p s not_null layout lines >>= λ rows. Ok (map (cells_at layout.places) rows)) ≡ (m >>= λ layout. rows_below p s not_null layout lines)
    go (Ok layout) = below p s not_null layout lines
    go (Err f) = refl

pub by_lines : (p : Settings) (s : Structure) (not_null : List Name) (text : Bytes) → rows_in_file p s not_null text ≡ dataset_rows p s not_null text
by_lines p s not_null text = records_are p s not_null (records_in text)
