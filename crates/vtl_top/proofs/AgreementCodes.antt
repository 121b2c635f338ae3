-- The texts that a CSV file gives are among the codes that the structure lists.
use Rattle.std.proofs.Common.{◌≡◌, ℕ, zero, suc, ◌+◌, ◌<◌, List, [], ◌∷◌, ◌++◌, Bool, true, false, cond, Option, Some, None, Result, Ok, Err, length, map, take, get_or, nat_le, arith, refl, sym, ap, ◌∙◌, subst, append_assoc}
use Rattle.std.specs.Prelude.{◌==◌, min}
use Rattle.std.specs.List.{zip, AllByRecursion}
use Rattle.std.specs.Str.{is_utf8}
use Rattle.std.proofs.lemmas.Bool.{and_from, and_parts}
use Rattle.std.proofs.lemmas.Bool.Decides.{nat_tests}
use Rattle.std.proofs.lemmas.List.{append-nil}
use Rattle.vtl_lists.specs.Results.{◌>>=◌}
use Rattle.vtl_lists.proofs.Alls.{all_push}
use Rattle.vtl_cell.specs.declared.cell.Cell.{Cell}
use Rattle.vtl_cell.specs.declared.cell.Cell.TheVariants as c
use Rattle.vtl_cell.specs.Reading.{reads}
use Rattle.vtl_cell.specs.Row.{Row, column_of}
use Rattle.vtl_decimal.specs.Settings.{Settings}
use Rattle.vtl_rows.specs.Tables.{cells_at}
use Rattle.vtl_tree.specs.declared.structure.Component.{Component}
use Rattle.vtl_tree.specs.declared.structure.Structure.{Structure}
use Rattle.vtl_tree.specs.Structure.{IsStructure, columns_of, key_width}
use Rattle.vtl_csv.specs.declared.input.InputKind.{InputKind}
use Rattle.vtl_csv.specs.declared.input.InputKind.TheVariants as i
use Rattle.vtl_csv.specs.InputFields.{Flaw, ReadColumn, at_column, coded_cell, components_in, field_cell, is_coded, most_points, read_columns, record_row, row_with, text_cell}
use Rattle.vtl_csv.specs.InputFile.{Fault, Layout, dataset_rows, is_repeat, layout_of, of_header, rows_below, rows_in_records, rows_with, unless_repeated}
use Rattle.vtl_csv.specs.InputSteps.{IsLayout}
use Rattle.vtl_csv.specs.StructuresFile.{◌at_line◌, is_identifier, records_in}
use Rattle.vtl_csv.proofs.InputDataSetLemmas.{components_read}
use Rattle.vtl_csv.proofs.InputLayoutLemmas.{IsLaidOut, IsPlaceOf, layout_lays_out}
use Rattle.vtl_csv.proofs.InputPointLemmas.{ok_if, ok_same, ok_unless, first_of_pairs}
use Rattle.vtl_to_sql.specs.Inputs.{are_listed, is_listed}

abbrev AreListed : List Component → List Row → Type 0
AreListed xs rows = AllByRecursion (λ r. are_listed xs r ≡ true) rows

-- ---- a field
coded_listed : (x : Component) (v : Cell) → is_coded x v ≡ true → is_listed x v ≡ true
coded_listed x (c.Text t) h = h
coded_listed x v h = refl

cell_listed : (x : Component) (o : Option Cell) (v : Cell) → coded_cell x o ≡ Ok v → is_listed x v ≡ true
cell_listed x None v e = cc
cell_listed x (Some w) v e =
    let h = ok_if (is_coded x w) (Ok w) i.NotInCodes v e in
    subst (λ u. is_listed x u ≡ true) (ok_same h.1) (coded_listed x w h.0)

text_listed : (p : Settings) (x : ReadColumn) (f : List ℕ) (v : Cell) → text_cell p x f ≡ Ok v → is_listed x.component v ≡ true
text_listed p x [] v e =
    let h = ok_unless (is_identifier x.component) (cond x.not_null (Err i.NotNull) (Ok c.Null)) i.NullIdentifier v e in
    subst (λ u. is_listed x.component u ≡ true) (ok_same (ok_unless x.not_null (Ok c.Null) i.NotNull v h.1).1) refl
text_listed p x (b ∷ bs) v e = cell_listed x.component (reads p x.component.kind (b ∷ bs)) v e

field_listed : (p : Settings) (x : ReadColumn) (f : List ℕ) (v : Cell) → field_cell p x f ≡ Ok v → is_listed x.component v ≡ true
field_listed p x f v e = text_listed p x f v (ok_if (is_utf8 f) (text_cell p x f) i.NotText v e).1

-- ---- a row
row_listed : (p : Settings) (xs : List (ReadColumn × List ℕ)) (row out : Row) → row_with p row xs ≡ Ok out → (more : Row) × (out ≡ row ++ more) × (are_listed (map (λ x. x.0.component) xs) more ≡ true)
row_listed p [] row out e = ([], sym (ok_same e) ∙ sym (append-nil row), refl)
row_listed p (x ∷ xs) row out e = go (field_cell p x.0 x.1) refl (λ longer. row_listed p xs longer out) e
  where
    go : (r : Result Cell InputKind) → field_cell p x.0 x.1 ≡ r
        → ((longer : Row) → row_with p longer xs ≡ Ok out → (more : Row) × (out ≡ longer ++ more) × (are_listed (map (λ x. x.0.component) xs) more ≡ true))
        → at_column row (λ longer. row_with p longer xs) r ≡ Ok out
        → (more : Row) × (out ≡ row ++ more) × (are_listed (map (λ x. x.0.component) (x ∷ xs)) more ≡ true)
    go (Err kind) t ih q = cc
    go (Ok v) t ih q =
        let g = ih (row ++ v ∷ []) q in
        (v ∷ g.0, g.1 ∙ append_assoc row (v ∷ []) g.0, and_from (is_listed x.0.component v) (are_listed (map (λ x. x.0.component) xs) g.0) (field_listed p x.0 x.1 v t) g.2)

record_listed : (p : Settings) (columns : List ReadColumn) (count : ℕ) (fields : List (List ℕ)) (row : Row) → record_row p columns count fields ≡ Ok row → are_listed (components_in columns) row ≡ true
record_listed p columns count fields row e =
    let few = ok_unless (nat_le most_points count) (cond (length fields == length columns) (row_with p [] (zip columns fields)) (Err (min (length fields) (length columns) + 1, i.WrongWidth))) (1, i.TooManyRows) row e in
    let wide = ok_if (length fields == length columns) (row_with p [] (zip columns fields)) (min (length fields) (length columns) + 1, i.WrongWidth) row few.1 in
    let same : length fields ≡ length columns = let t = wide.0 in grind (arith, nat_tests) in
    let g = row_listed p (zip columns fields) [] row wide.1 in
    ap (are_listed (components_in columns)) g.1 ∙ ap (λ xs. are_listed xs g.0) (sym (first_of_pairs columns fields same)) ∙ g.2

-- ---- the rows in the order of the file
rows_listed : (p : Settings) (columns : List ReadColumn) (keys : List ℕ) (rest : List (List (List ℕ))) (before rows : List Row) → AreListed (components_in columns) before → rows_with p columns keys before rest ≡ Ok rows → AreListed (components_in columns) rows
rows_listed p columns keys [] before rows are e = subst (AreListed (components_in columns)) (ok_same e) are
rows_listed p columns keys (fields ∷ rest) before rows are e = go (record_row p columns (length before) fields) refl (λ longer. rows_listed p columns keys rest longer rows) e
  where
    go : (r : Result Row Flaw) → record_row p columns (length before) fields ≡ r
        → ((longer : List Row) → AreListed (components_in columns) longer → rows_with p columns keys longer rest ≡ Ok rows → AreListed (components_in columns) rows)
        → ((r >>= unless_repeated keys before) at_line (length before + 2) >>= λ longer. rows_with p columns keys longer rest) ≡ Ok rows → AreListed (components_in columns) rows
    go (Err flaw) t ih q = cc
    go (Ok row) t ih q = new (is_repeat keys before row) q
      where
        new : (b : Bool) → (cond b (Err (1, i.DuplicateKey)) (Ok (before ++ row ∷ [])) at_line (length before + 2) >>= λ longer. rows_with p columns keys longer rest) ≡ Ok rows → AreListed (components_in columns) rows
        new true u = cc
        new false u = ih (before ++ row ∷ []) (all_push (λ r. are_listed (components_in columns) r ≡ true) before row are (record_listed p columns (length before) fields row t)) u

-- ---- the rows in column order
listed_at : (ys : List Component) (row : Row) (n : ℕ) (d : Component) → are_listed ys row ≡ true → n < length ys → is_listed (get_or ys n d) (column_of n row) ≡ true
listed_at [] row n d e h = absurd (omega arith)
listed_at (y ∷ ys) [] n d e h = refl
listed_at (y ∷ ys) (v ∷ vs) zero d e h = (and_parts (is_listed y v) (are_listed ys vs) e).0
listed_at (y ∷ ys) (v ∷ vs) (suc n) d e h = listed_at ys vs n d (and_parts (is_listed y v) (are_listed ys vs) e).1 (omega arith)

-- each place is that of its component
abbrev ArePlaces : List Component → List Component → List ℕ → Type 0
ArePlaces ys [] [] = Unit {0}
ArePlaces ys [] (n ∷ ns) = ⊥
ArePlaces ys (x ∷ xs) [] = ⊥
ArePlaces ys (x ∷ xs) (n ∷ ns) = IsPlaceOf ys x n × ArePlaces ys xs ns

listed_there : (ys : List Component) (row : Row) → are_listed ys row ≡ true → (xs : List Component) (places : List ℕ) → ArePlaces ys xs places → are_listed xs (cells_at places row) ≡ true
listed_there ys row e [] places h = refl
listed_there ys row e (x ∷ xs) [] h = refl
listed_there ys row e (x ∷ xs) (n ∷ ns) h =
    and_from (is_listed x (column_of n row)) (are_listed xs (cells_at ns row)) (subst (λ y. is_listed y (column_of n row) ≡ true) (h.0.there x) (listed_at ys row n x e h.0.within)) (listed_there ys row e xs ns h.1)

rows_there : (ys : List Component) (rows : List Row) → AreListed ys rows → (xs : List Component) (places : List ℕ) → ArePlaces ys xs places → AreListed xs (map (cells_at places) rows)
rows_there ys [] all xs places h = tt
rows_there ys (row ∷ rows) all xs places h = (listed_there ys row all.0 xs places h, rows_there ys rows all.1 xs places h)

-- rows of the file are rows of the structure
rows_arranged : (s : Structure) (layout : Layout) (rows : List Row) → IsLaidOut s layout → AreListed layout.columns rows → AreListed (columns_of s) (map (cells_at layout.places) rows)
rows_arranged s layout rows laid all = rows_there layout.columns rows all (columns_of s) layout.places laid.places

-- ---- the whole file
pub codes_listed : (p : Settings) (s : Structure) (list : List (List ℕ)) (text : List ℕ) (rows : List Row) → IsStructure s → dataset_rows p s list text ≡ Ok rows → AllByRecursion (λ r. are_listed (columns_of s) r ≡ true) rows
codes_listed p s list text rows well e = records_go (records_in text) e
  where
    arranged : (layout : Layout) → IsLayout s layout → (r : Result (List Row) Fault) → ((read : List Row) → r ≡ Ok read → AreListed layout.columns read) → (r >>= λ read. Ok (map (cells_at layout.places) read)) ≡ Ok rows → AreListed (columns_of s) rows
    arranged layout found (Err fault) are q = cc
    arranged layout found (Ok read) are q =
        subst (AreListed (columns_of s)) (ok_same q) (rows_arranged s layout read (layout_lays_out s layout well found) (are read refl))

    layout_go : (fields : List (List ℕ)) (rest : List (List (List ℕ))) (r : Result Layout ℕ) → layout_of s fields ≡ r → (of_header r >>= λ layout. rows_below p s list layout rest) ≡ Ok rows → AreListed (columns_of s) rows
    layout_go fields rest (Err column) t q = cc
    layout_go fields rest (Ok layout) t q =
        let keys = take (key_width s) layout.places in
        arranged layout (fields, t) (rows_with p (read_columns list layout.columns) keys [] rest)
        (λ read e. subst (λ xs. AreListed xs read) (components_read list layout.columns) (rows_listed p (read_columns list layout.columns) keys rest [] read tt e)) q

    records_go : (rs : List (List (List ℕ))) → rows_in_records p s list rs ≡ Ok rows → AreListed (columns_of s) rows
    records_go [] q = cc
    records_go (header ∷ rest) q = layout_go header rest (layout_of s header) refl q
