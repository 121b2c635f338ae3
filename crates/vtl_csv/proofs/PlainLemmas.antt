-- What is read of a CSV file depends on the plain columns of the structure alone.
use Rattle.std.proofs.Common.{◌≡◌, ℕ, suc, ◌+◌, List, [], ◌∷◌, ◌++◌, Bool, true, false, cond, Option, Some, None, Result, Ok, Err, length, map, take, refl, sym, ap, ◌∙◌, true≢false}
use Rattle.std.specs.Prelude.{◌==◌, min, nat_le, ok_or, option_map}
use Rattle.std.specs.List.{filter, zip}
use Rattle.std.specs.Option.{is_some}
use Rattle.std.specs.Str.{is_utf8}
use Rattle.std.proofs.lemmas.List.{length-map, map-append}
use Rattle.std.proofs.lemmas.Slice.Eq.{bytes_eq-Decides}
use Rattle.vtl_lists.specs.Aliases.{Bytes, Field, Name, Record}
use Rattle.vtl_lists.specs.Results.{◌>>=◌}
use Rattle.vtl_decimal.specs.Settings.{Settings}
use Rattle.vtl_lists.specs.Apart.{all_apart}
use Rattle.vtl_lists.specs.Each.{cons_if, each_some}
use Rattle.vtl_lists.specs.Perm.{Perm, empty, keep, cross, chain}
use Rattle.vtl_cell.specs.declared.cell.Cell.{Cell}
use Rattle.vtl_cell.specs.declared.cell.Cell.TheVariants as c
use Rattle.vtl_cell.specs.Reading.{reads}
use Rattle.vtl_cell.specs.Row.{Row}
use Rattle.vtl_lists.proofs.Aparts.{all_apart-Perm, apart_parts}
use Rattle.vtl_lists.proofs.Perms.{Perm-filter, length-Perm}
use Rattle.vtl_rows.specs.Tables.{cells_at}
use Rattle.vtl_tree.specs.declared.structure.Component.{Component}
use Rattle.vtl_tree.specs.declared.structure.Role.TheVariants as role
use Rattle.vtl_tree.specs.declared.structure.Structure.{Structure}
use Rattle.vtl_tree.specs.Structure.{IsStructure, columns_of, key_width, same_name, same_role}
use Rattle.vtl_sets.specs.TableOf.{column_for, table_columns}
use Rattle.vtl_csv.specs.declared.input.InputKind.{InputKind}
use Rattle.vtl_csv.specs.declared.input.InputKind.TheVariants as i
use Rattle.vtl_csv.specs.InputFields.{ReadColumn, at_column, coded_cell, field_cell, is_coded, most_points, read_column, read_columns, record_row, row_with, text_cell}
use Rattle.vtl_csv.specs.InputFile.{Fault, Layout, columns_with, dataset_rows, layout_of, named_by, newly_named, of_header, place_from, place_in, rows_below, rows_in_records, rows_with, unless_repeated}
use Rattle.vtl_csv.specs.Plain.{plain, plain_columns}
use Rattle.vtl_csv.specs.StructuresFile.{◌at_line◌, is_identifier, records_in}
use Rattle.vtl_csv.proofs.ReadAgainLemmas.{by_role, columns_apart, name_text, names_turn, same_names, texts_differ}

-- ---- the component that a field names, whatever the order of components with distinct names
one_named : (f : Field) (x y : Component) (o : Option Component) → same_names x y ≡ false
    → cond (same_name f (name_text x)) (Some x) (cond (same_name f (name_text y)) (Some y) o) ≡ cond (same_name f (name_text y)) (Some y) (cond (same_name f (name_text x)) (Some x) o)
one_named f x y o differ = go (same_name f (name_text x)) refl (same_name f (name_text y)) refl
  where
    go : (a : Bool) → same_name f (name_text x) ≡ a → (b : Bool) → same_name f (name_text y) ≡ b → cond a (Some x) (cond b (Some y) o) ≡ cond b (Some y) (cond a (Some x) o)
    go false e b h = refl
    go true e false h = refl
    go true e true h =
        let both : name_text x ≡ name_text y = sym ((bytes_eq-Decides f (name_text x)).0 e) ∙ (bytes_eq-Decides f (name_text y)).0 h in
        absurd (true≢false (sym ((bytes_eq-Decides (name_text x) (name_text y)).1 both) ∙ texts_differ x y differ))

named-Perm : (f : Field) {xs ys : List Component} → Perm xs ys → all_apart same_names xs ≡ true → named_by xs f ≡ named_by ys f
named-Perm f empty apart = refl
named-Perm f (keep x h) apart = ap (cond (same_name f (name_text x)) (Some x)) (named-Perm f h (apart_parts same_names x _ apart).1)
named-Perm f (cross x y xs) apart = one_named f x y (named_by xs f) (apart_parts same_names x (y ∷ xs) apart).0.0
named-Perm f (chain h k) apart = named-Perm f h apart ∙ named-Perm f k (sym (all_apart-Perm same_names names_turn h) ∙ apart)

named_in_order : (s : Structure) → IsStructure s → (f : Field) → named_by s.components f ≡ named_by (columns_of s) f
named_in_order s ok f = sym (named-Perm f (by_role s.components) (columns_apart s ok))

named_plain : (xs : List Component) (f : Field) → option_map plain (named_by xs f) ≡ named_by (map plain xs) f
named_plain [] f = refl
named_plain (x ∷ xs) f = go (same_name f (name_text x)) (named_plain xs f)
  where
    go : (b : Bool) → option_map plain (named_by xs f) ≡ named_by (map plain xs) f → option_map plain (cond b (Some x) (named_by xs f)) ≡ cond b (Some (plain x)) (named_by (map plain xs) f)
    go true e = refl
    go false e = e

some_plain : (o : Option Component) → is_some (option_map plain o) ≡ is_some o
some_plain None = refl
some_plain (Some x) = refl

-- the component that a field names newly, in one list and in a list with the same plain components for the fields
newly_plain : (xs plains before : List Component) (f : Field) → option_map plain (named_by xs f) ≡ named_by plains f → option_map plain (newly_named xs before f) ≡ newly_named plains (map plain before) f
newly_plain xs plains before f e =
    go (is_some (named_by before f)) ∙ ap (λ b. cond b None (named_by plains f)) (sym (some_plain (named_by before f)) ∙ ap is_some (named_plain before f))
  where
    go : (b : Bool) → option_map plain (cond b None (named_by xs f)) ≡ cond b None (named_by plains f)
    go true = refl
    go false = e

-- ---- results with plain components
abbrev plain_result : Result (List Component) ℕ → Result (List Component) ℕ
plain_result (Ok columns) = Ok (map plain columns)
plain_result (Err column) = Err column

columns_plain : (xs plains : List Component) → ((f : Field) → option_map plain (named_by xs f) ≡ named_by plains f) → (fs : Record) (before : List Component)
    → plain_result (columns_with xs before fs) ≡ columns_with plains (map plain before) fs
columns_plain xs plains same [] before = refl
columns_plain xs plains same (f ∷ fs) before =
    go (newly_named xs before f) (λ longer. columns_plain xs plains same fs longer)
    ∙ ap (λ o. ok_or o (length (map plain before) + 1) >>= λ x. columns_with plains (map plain before ++ x ∷ []) fs) (newly_plain xs plains before f (same f))
  where
    go : (o : Option Component) → ((longer : List Component) → plain_result (columns_with xs longer fs) ≡ columns_with plains (map plain longer) fs)
        → plain_result (ok_or o (length before + 1) >>= λ x. columns_with xs (before ++ x ∷ []) fs) ≡ (ok_or (option_map plain o) (length (map plain before) + 1) >>= λ x. columns_with plains (map plain before ++ x ∷ []) fs)
    go None ih = ap (λ n. Err (n + 1)) (sym (length-map before plain))
    go (Some x) ih = ih (before ++ x ∷ []) ∙ ap (λ l. columns_with plains l fs) (map-append plain before (x ∷ []))

-- ---- the places of components
place_plain : (n : ℕ) (ys : List Component) (x : Component) → place_from n ys x ≡ place_from n (map plain ys) (plain x)
place_plain n [] x = refl
place_plain n (y ∷ ys) x = ap (cond (same_name x.name y.name) (Some n)) (place_plain (n + 1) ys x)

each_place : (ys xs : List Component) → each_some (place_in ys) xs ≡ each_some (place_in (map plain ys)) (map plain xs)
each_place ys [] = refl
each_place ys (x ∷ xs) = ap (λ o. cons_if o (each_some (place_in ys) xs)) (place_plain 0 ys x) ∙ ap (cons_if (place_in (map plain ys) (plain x))) (each_place ys xs)

-- ---- cells and rows
identifier_plain : (x : Component) → is_identifier (plain x) ≡ is_identifier x
identifier_plain x = go (is_identifier x)
  where
    go : (b : Bool) → same_role (cond b role.Identifier role.Measure) role.Identifier ≡ b
    go true = refl
    go false = refl

coded_plain : (x : Component) (v : Cell) → is_coded x v ≡ is_coded (plain x) v
coded_plain x c.Null = refl
coded_plain x (c.Bool b) = refl
coded_plain x (c.Int n) = refl
coded_plain x (c.Num n) = refl
coded_plain x (c.Text t) = refl
coded_plain x (c.Day d) = refl
coded_plain x (c.Period q) = refl

coded_cell_plain : (x : Component) (o : Option Cell) → coded_cell x o ≡ coded_cell (plain x) o
coded_cell_plain x None = refl
coded_cell_plain x (Some v) = ap (λ b. cond b (Ok v) (Err i.NotInCodes)) (coded_plain x v)

-- a column of a file with its plain component
abbrev plain_read : ReadColumn → ReadColumn
plain_read x = record { component = plain x.component; not_null = x.not_null }

reads_plain : (not_null : List Name) (xs : List Component) → map plain_read (read_columns not_null xs) ≡ read_columns not_null (map plain xs)
reads_plain not_null [] = refl
reads_plain not_null (x ∷ xs) = ap (λ l. read_column not_null (plain x) ∷ l) (reads_plain not_null xs)

text_plain : (p : Settings) (x : ReadColumn) (f : Field) → text_cell p x f ≡ text_cell p (plain_read x) f
text_plain p x [] = ap (λ b. cond b (Err i.NullIdentifier) (cond x.not_null (Err i.NotNull) (Ok c.Null))) (sym (identifier_plain x.component))
text_plain p x (b ∷ bs) = coded_cell_plain x.component (reads p x.component.kind (b ∷ bs))

field_plain : (p : Settings) (x : ReadColumn) (f : Field) → field_cell p x f ≡ field_cell p (plain_read x) f
field_plain p x f = ap (λ r. cond (is_utf8 f) r (Err i.NotText)) (text_plain p x f)

row_plain : (p : Settings) (columns : List ReadColumn) (fields : Record) (row : Row) → row_with p row (zip columns fields) ≡ row_with p row (zip (map plain_read columns) fields)
row_plain p [] fields row = refl
row_plain p (x ∷ columns) [] row = refl
row_plain p (x ∷ columns) (f ∷ fields) row =
    ap (at_column row (λ longer. row_with p longer (zip columns fields))) (field_plain p x f)
    ∙ go (field_cell p (plain_read x) f) (λ longer. row_plain p columns fields longer)
  where
    go : (r : Result Cell InputKind) → ((longer : Row) → row_with p longer (zip columns fields) ≡ row_with p longer (zip (map plain_read columns) fields))
        → at_column row (λ longer. row_with p longer (zip columns fields)) r ≡ at_column row (λ longer. row_with p longer (zip (map plain_read columns) fields)) r
    go (Err kind) ih = refl
    go (Ok v) ih = ih (row ++ v ∷ [])

record_plain : (p : Settings) (columns : List ReadColumn) (count : ℕ) (fields : Record) → record_row p columns count fields ≡ record_row p (map plain_read columns) count fields
record_plain p columns count fields =
    ap (λ r. cond (nat_le most_points count) (Err (1, i.TooManyRows)) (cond (length fields == length columns) r (Err (min (length fields) (length columns) + 1, i.WrongWidth)))) (row_plain p columns fields [])
    ∙ ap (λ n. cond (nat_le most_points count) (Err (1, i.TooManyRows)) (cond (length fields == n) (row_with p [] (zip (map plain_read columns) fields)) (Err (min (length fields) n + 1, i.WrongWidth)))) (sym (length-map columns plain_read))

rows_plain : (p : Settings) (columns : List ReadColumn) (keys : List ℕ) (rest : List Record) (before : List Row) → rows_with p columns keys before rest ≡ rows_with p (map plain_read columns) keys before rest
rows_plain p columns keys [] before = refl
rows_plain p columns keys (fields ∷ rest) before =
    ap (λ r. (r >>= unless_repeated keys before) at_line (length before + 2) >>= λ rows. rows_with p columns keys rows rest) (record_plain p columns (length before) fields)
    ∙ go ((record_row p (map plain_read columns) (length before) fields >>= unless_repeated keys before) at_line (length before + 2)) (λ rows. rows_plain p columns keys rest rows)
  where
    go : (r : Result (List Row) Fault) → ((rows : List Row) → rows_with p columns keys rows rest ≡ rows_with p (map plain_read columns) keys rows rest)
        → (r >>= λ rows. rows_with p columns keys rows rest) ≡ (r >>= λ rows. rows_with p (map plain_read columns) keys rows rest)
    go (Err fault) ih = refl
    go (Ok rows) ih = ih rows

-- ---- how many identifiers there are
count_plain : (xs : List Component) → length (filter (λ x. same_role x.role role.Identifier) xs) ≡ length (filter (λ x. same_role x.role role.Identifier) (map plain xs))
count_plain [] = refl
count_plain (x ∷ xs) = go (is_identifier x) (count_plain xs) ∙ ap (λ b. length (cond b (plain x ∷ filter is_identifier (map plain xs)) (filter is_identifier (map plain xs)))) (sym (identifier_plain x))
  where
    go : (b : Bool) → length (filter is_identifier xs) ≡ length (filter is_identifier (map plain xs))
        → length (cond b (x ∷ filter is_identifier xs) (filter is_identifier xs)) ≡ length (cond b (plain x ∷ filter is_identifier (map plain xs)) (filter is_identifier (map plain xs)))
    go true e = ap suc e
    go false e = e

key_count : (s : Structure) → key_width s ≡ length (filter (λ x. same_role x.role role.Identifier) (plain_columns s))
key_count s = sym (length-Perm (Perm-filter is_identifier (by_role s.components))) ∙ count_plain (columns_of s)

-- ---- the layout, and the rows below it
abbrev plain_layout : Layout → Layout
plain_layout layout = record { columns = map plain layout.columns; places = layout.places }

abbrev plain_laid : Result Layout ℕ → Result Layout ℕ
plain_laid (Ok layout) = Ok (plain_layout layout)
plain_laid (Err column) = Err column

abbrev laid : List Component → List ℕ → Result Layout ℕ
laid columns places = Ok (record { columns = columns; places = places })

abbrev placed : List Component → List Component → Result Layout ℕ
placed all columns = ok_or (each_some (place_in columns) all) (length columns + 1) >>= laid columns

-- what a header says of columns, and the rows below it
abbrev layout_in : List Component → Record → Result Layout ℕ
layout_in all fields = columns_with all [] fields >>= placed all

abbrev rows_under : Settings → List Name → ℕ → List Record → Layout → Result (List Row) Fault
rows_under p not_null count rest layout = rows_with p (read_columns not_null layout.columns) (take count layout.places) [] rest >>= λ rows. Ok (map (cells_at layout.places) rows)

abbrev rows_by : Settings → List Name → ℕ → List Component → List Record → Result (List Row) Fault
rows_by p not_null count all [] = Err (1, (1, i.BadHeader))
rows_by p not_null count all (header ∷ rest) = of_header (layout_in all header) >>= rows_under p not_null count rest

placed_plain : (all columns : List Component) → plain_laid (placed all columns) ≡ placed (map plain all) (map plain columns)
placed_plain all columns =
    go (each_some (place_in columns) all)
    ∙ ap (λ o. ok_or o (length (map plain columns) + 1) >>= laid (map plain columns)) (each_place columns all)
  where
    go : (o : Option (List ℕ)) → plain_laid (ok_or o (length columns + 1) >>= laid columns) ≡ (ok_or o (length (map plain columns) + 1) >>= laid (map plain columns))
    go None = ap (λ n. Err (n + 1)) (sym (length-map columns plain))
    go (Some places) = refl

module _ (s : Structure) (ok : IsStructure s) where
  layout_plain : (fields : Record) → plain_laid (layout_of s fields) ≡ layout_in (plain_columns s) fields
  layout_plain fields =
      go (columns_with s.components [] fields)
      ∙ ap (λ r. r >>= placed (plain_columns s)) (columns_plain s.components (plain_columns s) (λ f. ap (option_map plain) (named_in_order s ok f) ∙ named_plain (columns_of s) f) fields [])
    where
      go : (r : Result (List Component) ℕ) → plain_laid (r >>= placed (columns_of s)) ≡ (plain_result r >>= placed (plain_columns s))
      go (Err column) = refl
      go (Ok columns) = placed_plain (columns_of s) columns

  records_plain : (p : Settings) (not_null : List Name) (records : List Record) → rows_in_records p s not_null records ≡ rows_by p not_null (key_width s) (plain_columns s) records
  records_plain p not_null [] = refl
  records_plain p not_null (header ∷ rest) = go (layout_of s header) ∙ ap (λ r. of_header r >>= rows_under p not_null (key_width s) rest) (layout_plain header)
    where
      go : (r : Result Layout ℕ) → (of_header r >>= λ layout. rows_below p s not_null layout rest) ≡ (of_header (plain_laid r) >>= rows_under p not_null (key_width s) rest)
      go (Err column) = refl
      go (Ok layout) =
          let keys = take (key_width s) layout.places in
          ap (λ r. r >>= λ rows. Ok (map (cells_at layout.places) rows))
          (rows_plain p (read_columns not_null layout.columns) keys rest [] ∙ ap (λ columns. rows_with p columns keys [] rest) (reads_plain not_null layout.columns))

-- ---- two structures with the same plain columns
pub plain_rows_same : (p : Settings) (s t : Structure) (not_null : List Name) (text : Bytes) → IsStructure s → IsStructure t → plain_columns s ≡ plain_columns t → dataset_rows p s not_null text ≡ dataset_rows p t not_null text
plain_rows_same p s t not_null text ok good e =
    let counts : key_width s ≡ key_width t = key_count s ∙ ap (λ (xs : List Component). length (filter (λ x. same_role x.role role.Identifier) xs)) e ∙ sym (key_count t) in
    records_plain s ok p not_null (records_in text)
    ∙ ap (λ all. rows_by p not_null (key_width s) all (records_in text)) e
    ∙ ap (λ n. rows_by p not_null n (plain_columns t) (records_in text)) counts
    ∙ sym (records_plain t good p not_null (records_in text))

columns_below : (xs : List Component) → map column_for xs ≡ map column_for (map plain xs)
columns_below [] = refl
columns_below (x ∷ xs) = ap (λ l. column_for x ∷ l) (columns_below xs)

pub plain_columns_same : (s t : Structure) → plain_columns s ≡ plain_columns t → table_columns s ≡ table_columns t
plain_columns_same s t e = columns_below (columns_of s) ∙ ap (λ (xs : List Component). map column_for xs) e ∙ sym (columns_below (columns_of t))
