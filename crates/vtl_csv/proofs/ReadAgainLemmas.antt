-- The text of a data set is read again as its points in order.
use Rattle.std.proofs.Common.{◌≡◌, ℕ, zero, suc, ◌+◌, ◌<◌, ◌≤◌, ◌∷◌, ◌++◌, [], List, length, length-append, map, flat_map, take, Bool, true, false, cond, ◌&&◌, ◌||◌, not, Some, None, Result, Ok, arith, refl, sym, ap, ◌∙◌, true≢false, append_assoc, encode_utf8_all, subst, zero-add, lit<, ◌==◌}
use Rattle.std.specs.List.{AllByRecursion, filter, list_any, range_with_len, zip}
use Rattle.std.proofs.lemmas.Bool.{eq-eqb, lt-leb, ne_eqb}
use Rattle.std.proofs.lemmas.List.{append-nil, length-map, take-map}
use Rattle.std.proofs.lemmas.Str.{encodes_same}
use Rattle.std.proofs.lemmas.Slice.Eq.{bytes_eq-Decides}
use Rattle.std.specs.Cmp.Lexicographic.{nat_list_eq_equiv}
use Rattle.std.specs.Prelude.{ok_or}
use Rattle.csv.specs.Reading.{default_config, is_bom, records, records_from, strip_bom}
use Rattle.csv.specs.Writing.{default_writer, escaped, field_text, fields_text, is_blank, needs_quotes, quoted, read_back, row_body, row_text}
use Rattle.csv.specs.declared.parser.State.TheVariants as st
use Rattle.csv.proofs.RoundTrip.{read-write}
use Rattle.vtl_lists.specs.Results.{◌>>=◌}
use Rattle.vtl_decimal.specs.Settings.{Settings}
use Rattle.vtl_lists.specs.Apart.{all_apart}
use Rattle.vtl_lists.specs.Each.{each_some}
use Rattle.vtl_lists.specs.Perm.{Perm, empty, keep, chain}
use Rattle.vtl_lists.proofs.Aparts.{all_apart-Perm, apart_parts}
use Rattle.vtl_lists.specs.Sorting.{le_by, sorted_by}
use Rattle.vtl_lists.proofs.Perms.{AllByRecursion-Perm, Perm-append_back, Perm-middle, Perm-sym, length-Perm}
use Rattle.vtl_lists.proofs.Sorts.{Perm-sorted_by}
use Rattle.vtl_lists.proofs.Tests.{and_false}
use Rattle.vtl_cell.specs.Row.{Row, column_of, row_cmp, same_key, same_row}
use Rattle.vtl_cell.specs.Writing.{text_of}
use Rattle.vtl_cell.proofs.Rows.{row_order, same_key-sym}
use Rattle.vtl_rows.specs.Keys.{agree}
use Rattle.vtl_rows.specs.Tables.{cells_at}
use Rattle.vtl_rows.proofs.PlacesStay.{cells_stay}
use Rattle.vtl_tree.specs.DataSet.{IsDataSet}
use Rattle.vtl_tree.specs.Structure.{IsStructure, columns_of, key_width, names_of, same_name, same_role}
use Rattle.vtl_tree.specs.declared.structure.Role.{Role}
use Rattle.vtl_tree.specs.declared.structure.Role.TheVariants as role
use Rattle.vtl_tree.specs.declared.structure.Structure.{Structure}
use Rattle.vtl_tree.specs.declared.structure.Component.{Component}
use Rattle.vtl_csv.specs.InputFields.{most_points, read_column, read_columns, record_row, row_with}
use Rattle.vtl_csv.specs.CsvText.{csv_of, header_of}
use Rattle.vtl_csv.specs.InputFile.{Layout, columns_with, dataset_rows, is_repeat, layout_of, named_by, of_header, place_from, place_in, places_in, rows_below, rows_in_records, rows_with}
use Rattle.vtl_csv.specs.StructuresFile.{records_in}
use Rattle.vtl_csv.specs.ReadAgain.{IsReadable, IsUnmarked}
use Rattle.vtl_csv.proofs.FieldAgainLemmas.{AreReadAgain, points_again}
use Rattle.vtl_csv.proofs.RecordsLeftLemmas.{records_from-none}
use Rattle.vtl_csv.proofs.TableTextLemmas.{whole_each}

-- ---- the records of a text that is written
written_records : (n : ℕ) (rows : List (List (List ℕ))) → length rows ≤ n → records_from default_config n st.StartRecord (flat_map (row_text default_writer) rows) ≡ map read_back rows
unfolding records_from
written_records n [] h = records_from-none default_config n
written_records zero (r ∷ rows) h = absurd (omega arith)
written_records (suc n) (r ∷ rows) h =
    rw (read-write r (flat_map (row_text default_writer) rows)) (ap (λ (t : List (List (List ℕ))). read_back r ∷ t) (written_records n rows (omega (arith, h))))

ends : (xs ys : List ℕ) → 1 ≤ length (xs ++ (ys ++ (10 ∷ [])))
ends xs ys =
    let a = length-append xs (ys ++ (10 ∷ [])) in
    let b = length-append ys (10 ∷ []) in
    omega (arith, a, b)

-- ---- lists whose items are apart
module _ {X : Type 0} (same : X → X → Bool) (turn : (x y : X) → same x y ≡ same y x) where
  at_seam : (P : X → Type 0) (xs : List X) (x : X) (ys : List X) → AllByRecursion P (xs ++ x ∷ ys) → P x
  at_seam P [] x ys all = all.0
  at_seam P (z ∷ xs) x ys all = at_seam P xs x ys all.1

  -- an item is apart from those before it
  front_differs : (xs : List X) (x : X) (ys : List X) → all_apart same (xs ++ x ∷ ys) ≡ true → AllByRecursion (λ b. same x b ≡ false) xs
  front_differs [] x ys e = tt
  front_differs (z ∷ xs) x ys e =
      let parts = apart_parts same z (xs ++ x ∷ ys) e in
      (turn x z ∙ at_seam (λ b. same z b ≡ false) xs x ys parts.0, front_differs xs x ys parts.1)

-- ---- rows
-- the fields of a row that are read again give the row
pub row_again : (p : Settings) (before : Row) (columns : List Component) (r : Row) → AreReadAgain p columns r → row_with p before (zip (read_columns [] columns) (map (text_of p) r)) ≡ Ok (before ++ r)
row_again p before [] [] all = ap Ok (sym (append-nil before))
row_again p before [] (v ∷ vs) all = absurd all
row_again p before (x ∷ xs) [] all = absurd all
row_again p before (x ∷ xs) (v ∷ vs) all = rw all.0 (row_again p (before ++ v ∷ []) xs vs all.1 ∙ ap Ok (append_assoc before (v ∷ []) vs))

again_wide : (p : Settings) (columns : List Component) (r : Row) → AreReadAgain p columns r → length r ≡ length columns
again_wide p [] [] all = refl
again_wide p [] (v ∷ vs) all = absurd all
again_wide p (x ∷ xs) [] all = absurd all
again_wide p (x ∷ xs) (v ∷ vs) all = let e = again_wide p xs vs all.1 in omega (arith, e)

-- a record of such a row, behind fewer rows than a file may hold
record_again : (p : Settings) (columns : List Component) (count : ℕ) (r : Row) → count < most_points → AreReadAgain p columns r → record_row p (read_columns [] columns) count (map (text_of p) r) ≡ Ok r
record_again p columns count r few all =
    let e : length (map (text_of p) r) ≡ length (read_columns [] columns) = length-map r (text_of p) ∙ again_wide p columns r all ∙ sym (length-map columns (read_column [])) in
    rw (lt-leb most_points count few, eq-eqb (length (map (text_of p) r)) (length (read_columns [] columns)) e) (row_again p [] columns r all)

-- the identifiers at the first places are the first cells
first_cells : (n k : ℕ) (r : Row) → length r ≡ n → cells_at (take k (range_with_len 0 n)) r ≡ take k r
first_cells n k r e = sym (take-map (λ i. column_of i r) k (range_with_len 0 n)) ∙ ap (take k) (cells_stay n r e)

no_repeat : (n k : ℕ) (rows : List Row) (r : Row) → length r ≡ n → AllByRecursion (λ q. length q ≡ n) rows → AllByRecursion (λ b. same_key k r b ≡ false) rows → is_repeat (take k (range_with_len 0 n)) rows r ≡ false
no_repeat n k [] r e wide differ = refl
no_repeat n k (q ∷ rows) r e wide differ =
    let one : agree (take k (range_with_len 0 n)) q r ≡ false =
    ap (λ x. same_row x (cells_at (take k (range_with_len 0 n)) r)) (first_cells n k q wide.0) ∙ ap (same_row (take k q)) (first_cells n k r e) ∙ same_key-sym k q r ∙ differ.0 in
    ap (λ b. b || is_repeat (take k (range_with_len 0 n)) rows r) one ∙ no_repeat n k rows r e wide.1 differ.1

module _ (p : Settings) (columns : List Component) (k : ℕ) where
  abbrev keys : List ℕ
  keys = take k (range_with_len 0 (length columns))

  all_wide : (rows : List Row) → AllByRecursion (AreReadAgain p columns) rows → AllByRecursion (λ q. length q ≡ length columns) rows
  all_wide [] all = tt
  all_wide (r ∷ rows) all = (again_wide p columns r all.0, all_wide rows all.1)

  wide_front : (xs : List Row) (ys : List Row) → AllByRecursion (AreReadAgain p columns) (xs ++ ys) → AllByRecursion (AreReadAgain p columns) xs
  wide_front [] ys all = tt
  wide_front (x ∷ xs) ys all = (all.0, wide_front xs ys all.1)

  rows_again : (before rest : List Row) → AllByRecursion (AreReadAgain p columns) (before ++ rest) → all_apart (same_key k) (before ++ rest) ≡ true → length (before ++ rest) ≤ most_points
      → rows_with p (read_columns [] columns) keys before (map (map (text_of p)) rest) ≡ Ok (before ++ rest)
  rows_again before [] all apart few = ap Ok (sym (append-nil before))
  rows_again before (r ∷ rest) all apart few =
      let l = length-append before (r ∷ rest) in
      let below : length before < most_points = omega (arith, l, few) in
      let here = at_seam (same_key k) (same_key-sym k) (AreReadAgain p columns) before r rest all in
      let new : is_repeat keys before r ≡ false = no_repeat (length columns) k before r (again_wide p columns r here) (all_wide before (wide_front before (r ∷ rest) all)) (front_differs (same_key k) (same_key-sym k) before r rest apart) in
      let on : (before ++ r ∷ []) ++ rest ≡ before ++ r ∷ rest = append_assoc before (r ∷ []) rest in
      rw (record_again p columns (length before) r below here, new)
      (rows_again (before ++ r ∷ []) rest (subst (AllByRecursion (AreReadAgain p columns)) (sym on) all) (ap (all_apart (same_key k)) on ∙ apart) (subst (λ xs. length xs ≤ most_points) (sym on) few)
      ∙ ap Ok on)

-- ---- the header
abbrev pub name_text : Component → List ℕ
name_text x = encode_utf8_all x.name

abbrev pub same_names : Component → Component → Bool
same_names x y = same_name x.name y.name

pub names_turn : (x y : Component) → same_names x y ≡ same_names y x
names_turn x y = nat_list_eq_equiv.symm x.name y.name

-- names are told apart by their texts
pub texts_differ : (x y : Component) → same_names x y ≡ false → same_name (name_text x) (name_text y) ≡ false
texts_differ x y differ = go (same_name (name_text x) (name_text y)) refl
  where
    go : (b : Bool) → same_name (name_text x) (name_text y) ≡ b → b ≡ false
    go false e = refl
    go true e =
        let same : x.name ≡ y.name = encodes_same x.name y.name ((bytes_eq-Decides (name_text x) (name_text y)).0 e) in
        absurd (true≢false (sym ((bytes_eq-Decides x.name y.name).1 same) ∙ differ))

same_text : (x : Component) → same_name (name_text x) (name_text x) ≡ true
same_text x = (bytes_eq-Decides (name_text x) (name_text x)).1 refl

named_none : (xs : List Component) (x : Component) → AllByRecursion (λ b. same_names x b ≡ false) xs → named_by xs (name_text x) ≡ None
named_none [] x differ = refl
named_none (y ∷ ys) x differ = rw (texts_differ x y differ.0) (named_none ys x differ.1)

-- each component is the one that its name names
named_later : (x : Component) (xs ys : List Component) → AllByRecursion (λ y. same_names x y ≡ false) ys → AllByRecursion (λ y. named_by xs (name_text y) ≡ Some y) ys → AllByRecursion (λ y. named_by (x ∷ xs) (name_text y) ≡ Some y) ys
named_later x xs [] differ all = tt
named_later x xs (y ∷ ys) differ all = (rw (texts_differ y x (names_turn y x ∙ differ.0)) all.0, named_later x xs ys differ.1 all.1)

named_each : (xs : List Component) → all_apart same_names xs ≡ true → AllByRecursion (λ x. named_by xs (name_text x) ≡ Some x) xs
named_each [] apart = tt
named_each (x ∷ xs) apart =
    let parts = apart_parts same_names x xs apart in
    (rw (same_text x) refl, named_later x xs xs parts.0 (named_each xs parts.1))

-- fields that name components of which no two have one name
columns_again : (xs before rest : List Component) → AllByRecursion (λ x. named_by xs (name_text x) ≡ Some x) rest → all_apart same_names (before ++ rest) ≡ true → columns_with xs before (map name_text rest) ≡ Ok (before ++ rest)
columns_again xs before [] named apart = ap Ok (sym (append-nil before))
columns_again xs before (x ∷ rest) named apart =
    let on : (before ++ x ∷ []) ++ rest ≡ before ++ x ∷ rest = append_assoc before (x ∷ []) rest in
    rw (named_none before x (front_differs same_names names_turn before x rest apart), named.0)
    (columns_again xs (before ++ x ∷ []) rest named.1 (ap (all_apart same_names) on ∙ apart) ∙ ap Ok on)

-- ---- places
place_here : (i : ℕ) (before : List Component) (x : Component) (rest : List Component) → AllByRecursion (λ b. same_names x b ≡ false) before → place_from i (before ++ x ∷ rest) x ≡ Some (i + length before)
place_here i [] x rest differ = let z : i ≡ i + 0 = omega arith in rw ((bytes_eq-Decides x.name x.name).1 refl) (ap Some z)
place_here i (b ∷ before) x rest differ =
    let on : i + 1 + length before ≡ i + length (b ∷ before) = omega arith in
    rw differ.0 (place_here (i + 1) before x rest differ.1 ∙ ap Some on)

places_again : (columns before rest : List Component) → before ++ rest ≡ columns → all_apart same_names columns ≡ true → each_some (place_in columns) rest ≡ Some (range_with_len (length before) (length rest))
places_again columns before [] e apart = refl
places_again columns before (x ∷ rest) e apart =
    let differ = front_differs same_names names_turn before x rest (ap (all_apart same_names) e ∙ apart) in
    let here : place_in columns x ≡ Some (length before) = ap (λ cs. place_in cs x) (sym e) ∙ place_here 0 before x rest differ ∙ ap Some (zero-add (length before)) in
    let l = length-append before (x ∷ []) in
    let next : length (before ++ x ∷ []) ≡ length before + 1 = omega (arith, l) in
    let more = places_again columns (before ++ x ∷ []) rest (append_assoc before (x ∷ []) rest ∙ e) apart ∙ ap (λ i. Some (range_with_len i (length rest))) next in
    rw (here, more) refl

-- ---- columns are the components in another order
role_takes : (x : Component) (ids mes ats xs : List Component) (r : Role) → Perm (ids ++ mes ++ ats) xs
    → Perm (cond (same_role r role.Identifier) (x ∷ ids) ids ++ cond (same_role r role.Measure) (x ∷ mes) mes ++ cond (same_role r role.Attribute) (x ∷ ats) ats) (x ∷ xs)
role_takes x ids mes ats xs role.Identifier h = keep x h
role_takes x ids mes ats xs role.Measure h = chain (Perm-append_back ats (Perm-middle ids x mes)) (keep x h)
role_takes x ids mes ats xs role.Attribute h = chain (Perm-middle (ids ++ mes) x ats) (keep x h)

pub by_role : (xs : List Component) → Perm (filter (λ x. same_role x.role role.Identifier) xs ++ filter (λ x. same_role x.role role.Measure) xs ++ filter (λ x. same_role x.role role.Attribute) xs) xs
by_role [] = empty
by_role (x ∷ xs) =
    role_takes x (filter (λ y. same_role y.role role.Identifier) xs) (filter (λ y. same_role y.role role.Measure) xs) (filter (λ y. same_role y.role role.Attribute) xs) xs x.role (by_role xs)

names_apart : (xs : List Component) → all_apart same_name (names_of xs) ≡ all_apart same_names xs
names_apart [] = refl
names_apart (x ∷ xs) = ap (λ b. not b && all_apart same_name (names_of xs)) (any_name x xs) ∙ ap (λ b. not (list_any (same_names x) xs) && b) (names_apart xs)
  where
    any_name : (x : Component) (xs : List Component) → list_any (same_name x.name) (names_of xs) ≡ list_any (same_names x) xs
    any_name x [] = refl
    any_name x (y ∷ ys) = ap (λ b. same_names x y || b) (any_name x ys)

module _ (s : Structure) (ok : IsStructure s) where
  components_apart : all_apart same_names s.components ≡ true
  components_apart = sym (names_apart s.components) ∙ ok.distinct

  pub columns_apart : all_apart same_names (columns_of s) ≡ true
  columns_apart = all_apart-Perm same_names names_turn (by_role s.components) ∙ components_apart

  some_column : 1 ≤ length (columns_of s)
  some_column = let l = length-Perm (by_role s.components) in omega (arith, l, ok.some)

  named_columns : AllByRecursion (λ x. named_by s.components (name_text x) ≡ Some x) (columns_of s)
  named_columns = AllByRecursion-Perm (λ x. named_by s.components (name_text x) ≡ Some x) (Perm-sym (by_role s.components)) (named_each s.components components_apart)

  -- a header of the names of the columns lays them out in order
  layout_again : layout_of s (header_of (columns_of s)) ≡ Ok (record { columns = columns_of s; places = range_with_len 0 (length (columns_of s)) })
  layout_again =
      ap (λ r. r >>= placed) (columns_again s.components [] (columns_of s) named_columns columns_apart)
      ∙ ap (λ o. ok_or o (length (columns_of s) + 1) >>= laid (columns_of s)) (places_again (columns_of s) [] (columns_of s) refl columns_apart)
    where
      laid : List Component → List ℕ → Result Layout ℕ
      laid columns places = Ok (record { columns = columns; places = places })

      placed : List Component → Result Layout ℕ
      placed columns = places_in s columns >>= laid columns

-- ---- a text with no mark
nonempty_back : (fields : List (List ℕ)) → 1 ≤ length fields → read_back fields ≡ fields
nonempty_back [] h = absurd (omega arith)
nonempty_back (f ∷ fs) h = refl

rows_back : (p : Settings) (columns : List Component) (rows : List Row) → 1 ≤ length columns → AllByRecursion (AreReadAgain p columns) rows → map read_back (map (map (text_of p)) rows) ≡ map (map (text_of p)) rows
rows_back p columns [] some all = refl
rows_back p columns (r ∷ rows) some all =
    let l = length-map r (text_of p) in
    let w = again_wide p columns r all.0 in
    ap (λ f. f ∷ map read_back (map (map (text_of p)) rows)) (nonempty_back (map (text_of p) r) (omega (arith, l, w, some))) ∙ ap (λ fs. map (text_of p) r ∷ fs) (rows_back p columns rows some all.1)

long_text : (rows : List (List (List ℕ))) → length rows ≤ length (flat_map (row_text default_writer) rows)
long_text [] = omega arith
long_text (r ∷ rows) =
    let a = length-append (row_text default_writer r) (flat_map (row_text default_writer) rows) in
    let b = row_long r in
    let c = long_text rows in
    omega (arith, a, b, c)
  where
    row_long : (r : List (List ℕ)) → 1 ≤ length (row_text default_writer r)
    row_long r = ends (row_body default_writer r) (cond (is_blank default_writer r) (34 ∷ 34 ∷ []) [])

-- a text that is written is read as its records, if it has no mark
records_again : (fields : List (List (List ℕ))) → strip_bom (flat_map (row_text default_writer) fields) ≡ flat_map (row_text default_writer) fields → map read_back fields ≡ fields → records_in (flat_map (row_text default_writer) fields) ≡ fields
records_again fields unmarked back =
    let l = long_text fields in
    ap (records default_config) unmarked ∙ written_records (length (flat_map (row_text default_writer) fields) + 1) fields (omega (arith, l)) ∙ back

-- ---- no mark at the start
pub no_mark_here : (a b c : ℕ) (rest : List ℕ) → strip_bom (a ∷ b ∷ c ∷ rest) ≡ a ∷ b ∷ c ∷ rest → is_bom a b c ≡ false
unfolding strip_bom
no_mark_here a b c rest e = go (is_bom a b c) e
  where
    go : (m : Bool) → cond m rest (a ∷ b ∷ c ∷ rest) ≡ a ∷ b ∷ c ∷ rest → m ≡ false
    go false h = refl
    go true h = absurd (let l = ap length h in omega (arith, l))

pub empty_unmarked : strip_bom [] ≡ []
unfolding strip_bom
empty_unmarked = refl

-- a text with no mark has none where a byte of ASCII follows
pub goes_on : (f : List ℕ) (h : ℕ) (t : List ℕ) → h < 128 → strip_bom f ≡ f → strip_bom (f ++ h ∷ t) ≡ f ++ h ∷ t
unfolding strip_bom
goes_on [] h [] few e = refl
goes_on [] h (b ∷ []) few e = refl
goes_on [] h (b ∷ c ∷ t) few e = let n : (h == 239) ≡ false = ne_eqb h 239 (λ z. omega (arith, z, few)) in rw n refl
goes_on (a ∷ []) h [] few e = refl
goes_on (a ∷ []) h (c ∷ t) few e = let n : (h == 187) ≡ false = ne_eqb h 187 (λ z. omega (arith, z, few)) in rw (n, and_false (a == 239)) refl
goes_on (a ∷ b ∷ []) h t few e = let n : (h == 191) ≡ false = ne_eqb h 191 (λ z. omega (arith, z, few)) in rw (n, and_false ((a == 239) && (b == 187))) refl
goes_on (a ∷ b ∷ c ∷ f) h t few e = rw (no_mark_here a b c f e) refl

-- a field begins with no mark, nor does a record
pub field_goes_on : (f : List ℕ) (h : ℕ) (t : List ℕ) → h < 128 → strip_bom f ≡ f → strip_bom (field_text default_writer f ++ h ∷ t) ≡ field_text default_writer f ++ h ∷ t
field_goes_on f h t few e = go (needs_quotes default_writer f)
  where
    go : (b : Bool) → strip_bom (cond b (quoted default_writer f) f ++ h ∷ t) ≡ cond b (quoted default_writer f) f ++ h ∷ t
    go false = goes_on f h t few e
    go true = goes_on [] 34 ((escaped default_writer f ++ (34 ∷ [])) ++ h ∷ t) (lit< tt) empty_unmarked

pub followed : (fields : List (List ℕ)) (blank : Bool) (rest : List ℕ)
    → (h : ℕ) × (t : List ℕ) × ((fields_text default_writer fields ++ (cond blank (34 ∷ 34 ∷ []) [] ++ (10 ∷ []))) ++ rest ≡ h ∷ t) × (h < 128)
unfolding fields_text
followed [] true rest = (34, 34 ∷ 10 ∷ rest, refl, lit< tt)
followed [] false rest = (10, rest, refl, lit< tt)
followed (g ∷ gs) blank rest = (44, ((field_text default_writer g ++ fields_text default_writer gs) ++ (cond blank (34 ∷ 34 ∷ []) [] ++ (10 ∷ []))) ++ rest, refl, lit< tt)

pub record_unmarked : (f : List ℕ) (fs : List (List ℕ)) (rest : List ℕ) → strip_bom f ≡ f → strip_bom (row_text default_writer (f ∷ fs) ++ rest) ≡ row_text default_writer (f ∷ fs) ++ rest
record_unmarked f fs rest e =
    let blank = is_blank default_writer (f ∷ fs) in
    let tail = cond blank (34 ∷ 34 ∷ []) [] ++ (10 ∷ []) in
    let next = followed fs blank rest in
    let parts : row_text default_writer (f ∷ fs) ++ rest ≡ field_text default_writer f ++ next.0 ∷ next.1 =
    ap (λ l. l ++ rest) (append_assoc (field_text default_writer f) (fields_text default_writer fs) tail) ∙ append_assoc (field_text default_writer f) (fields_text default_writer fs ++ tail) rest
    ∙ ap (λ l. field_text default_writer f ++ l) next.2 in
    ap strip_bom parts ∙ field_goes_on f next.0 next.1 next.3 e ∙ sym parts

header_unmarked : (columns : List Component) (rest : List ℕ) → 1 ≤ length columns → IsUnmarked columns → strip_bom (row_text default_writer (header_of columns) ++ rest) ≡ row_text default_writer (header_of columns) ++ rest
header_unmarked [] rest some e = absurd (omega arith)
header_unmarked (x ∷ xs) rest some e = record_unmarked (name_text x) (header_of xs) rest e

-- ---- the whole text
module _ (p : Settings) (s : Structure) (points : List Row) (is : IsDataSet s points) (reads : IsReadable p s points) where
  abbrev rows : List Row
  rows = sorted_by (le_by row_cmp) points

  sorted : Perm points rows
  sorted = Perm-sym (Perm-sorted_by row_order points)

  rows_read : AllByRecursion (AreReadAgain p (columns_of s)) rows
  rows_read = AllByRecursion-Perm (AreReadAgain p (columns_of s)) sorted (points_again p (columns_of s) points reads.scale is.typed reads.values)

  rows_apart : all_apart (same_key (key_width s)) rows ≡ true
  rows_apart = sym (all_apart-Perm (same_key (key_width s)) (same_key-sym (key_width s)) sorted) ∙ is.distinct

  rows_few : length rows ≤ most_points
  rows_few = let l = length-Perm sorted in omega (arith, l, reads.few)

  abbrev written : List (List (List ℕ))
  written = header_of (columns_of s) ∷ map (map (text_of p)) rows

  written_back : map read_back written ≡ written
  written_back =
      let some = some_column s is.well_formed in
      let l = length-map (columns_of s) name_text in
      ap (λ f. f ∷ map read_back (map (map (text_of p)) rows)) (nonempty_back (header_of (columns_of s)) (omega (arith, l, some)))
      ∙ ap (λ fs. header_of (columns_of s) ∷ fs) (rows_back p (columns_of s) rows some rows_read)

  whole_again : map (cells_at (range_with_len 0 (length (columns_of s)))) rows ≡ rows
  whole_again = whole_each (length (columns_of s)) rows (all_wide p (columns_of s) (key_width s) rows rows_read)

  unmarked : strip_bom (csv_of p s points) ≡ csv_of p s points
  unmarked = header_unmarked (columns_of s) (flat_map (row_text default_writer) (map (map (text_of p)) rows)) (some_column s is.well_formed) reads.unmarked

  pub read_again : dataset_rows p s [] (csv_of p s points) ≡ Ok rows
  read_again =
      ap (rows_in_records p s []) (records_again written unmarked written_back)
      ∙ ap (λ r. of_header r >>= λ layout. rows_below p s [] layout (map (map (text_of p)) rows)) (layout_again s is.well_formed)
      ∙ ap (λ r. r >>= λ read. Ok (map (cells_at (range_with_len 0 (length (columns_of s)))) read)) (rows_again p (columns_of s) (key_width s) [] rows rows_read rows_apart rows_few)
      ∙ ap Ok whole_again
