-- What a file holds depends on a not-null list by the columns that it names alone.
use Rattle.std.proofs.Common.{◌≡◌, ℕ, ◌+◌, Bool, true, false, cond, ◌&&◌, ◌||◌, List, [], ◌∷◌, ◌++◌, length, map, Option, Some, None, Result, Ok, Err, take, refl, sym, ap, subst, ◌∙◌}
use Rattle.std.specs.Cmp.Lexicographic.{bytes_decides, nat_list_eq_equiv}
use Rattle.std.specs.List.{AllByRecursion, filter}
use Rattle.std.specs.Option.{is_some}
use Rattle.std.specs.Prelude.{encode_utf8_all, ok_or}
use Rattle.vtl_lists.specs.Aliases.{Field, Name, Record}
use Rattle.vtl_lists.specs.Results.{◌>>=◌}
use Rattle.vtl_decimal.specs.Settings.{Settings}
use Rattle.vtl_cell.specs.Row.{Row}
use Rattle.vtl_rows.specs.Tables.{cells_at}
use Rattle.vtl_tree.specs.Names.{is_among}
use Rattle.vtl_tree.specs.Structure.{key_width, names_of, same_name}
use Rattle.vtl_tree.specs.declared.structure.Component.{Component}
use Rattle.vtl_tree.specs.declared.structure.Structure.{Structure}
use Rattle.vtl_csv.specs.InputFields.{ReadColumn, read_column, read_columns}
use Rattle.vtl_csv.specs.InputFile.{Fault, Layout, columns_with, dataset_rows, named_by, newly_named, of_header, places_in, rows_below, rows_in_records, rows_with}
use Rattle.vtl_csv.specs.StructuresFile.{records_in}
use Rattle.sql_tree.specs.declared.statements.InputColumn.{InputColumn}
use Rattle.vtl_to_sql.specs.Scripts.{input_column}

-- ---- the columns of a file are components
one_more : (P : Component → Type 0) (xs : List Component) (x : Component) → AllByRecursion P xs → P x → AllByRecursion P (xs ++ x ∷ [])
one_more P [] x all p = (p, tt)
one_more P (y ∷ ys) x all p = (all.0, one_more P ys x all.1 p)

named_kept : (P : Component → Type 0) (xs : List Component) (f : Field) (x : Component) → AllByRecursion P xs → named_by xs f ≡ Some x → P x
named_kept P [] f x all e = cc
named_kept P (y ∷ ys) f x all e = go (same_name f (encode_utf8_all y.name)) e (named_kept P ys f x all.1)
  where
    go : (b : Bool) → cond b (Some y) (named_by ys f) ≡ Some x → (named_by ys f ≡ Some x → P x) → P x
    go true q later = let same : y ≡ x = cc in subst P same all.0
    go false q later = later q

newly_kept : (P : Component → Type 0) (xs before : List Component) (f : Field) (x : Component) → AllByRecursion P xs → newly_named xs before f ≡ Some x → P x
newly_kept P xs before f x all e = go (is_some (named_by before f)) e
  where
    go : (b : Bool) → cond b None (named_by xs f) ≡ Some x → P x
    go true q = cc
    go false q = named_kept P xs f x all q

columns_kept : (P : Component → Type 0) (xs before : List Component) (fs : Record) (columns : List Component) → AllByRecursion P xs → AllByRecursion P before → columns_with xs before fs ≡ Ok columns → AllByRecursion P columns
columns_kept P xs before [] columns all kept e = let same : before ≡ columns = cc in subst (AllByRecursion P) same kept
columns_kept P xs before (f ∷ fs) columns all kept e = go (newly_named xs before f) refl e (λ x. columns_kept P xs (before ++ x ∷ []) fs columns all)
  where
    go : (o : Option Component) → newly_named xs before f ≡ o → (ok_or o (length before + 1) >>= λ x. columns_with xs (before ++ x ∷ []) fs) ≡ Ok columns
        → ((x : Component) → AllByRecursion P (before ++ x ∷ []) → columns_with xs (before ++ x ∷ []) fs ≡ Ok columns → AllByRecursion P columns) → AllByRecursion P columns
    go None is q later = cc
    go (Some x) is q later = later x (one_more P before x kept (newly_kept P xs before f x all is)) q

-- ---- two lists that name the same components
module _ (a b : List Name) where
  abbrev IsNamedAlike : Component → Type 0
  IsNamedAlike x = is_among x.name a ≡ is_among x.name b

  read_alike : (xs : List Component) → AllByRecursion IsNamedAlike xs → read_columns a xs ≡ read_columns b xs
  read_alike [] all = refl
  read_alike (x ∷ xs) all =
      ap (λ (t : Bool). named_so x t ∷ read_columns a xs) all.0
      ∙ ap (λ (l : List ReadColumn). read_column b x ∷ l) (read_alike xs all.1)
    where
      named_so : Component → Bool → ReadColumn
      named_so x t = record { component = x; not_null = t }

  pub rows_alike : (p : Settings) (s : Structure) (text : List ℕ) → AllByRecursion IsNamedAlike s.components → dataset_rows p s a text ≡ dataset_rows p s b text
  rows_alike p s text all = by_records (records_in text)
    where
      laid : List Component → List ℕ → Layout
      laid columns places = record { columns = columns; places = places }

      by_places : (rest : List Record) (columns : List Component) → AllByRecursion IsNamedAlike columns → (r : Result (List ℕ) ℕ)
          → ◌≡◌ {A = Result (List Row) Fault} (of_header (r >>= λ places. Ok (laid columns places)) >>= λ layout. rows_below p s a layout rest) (of_header (r >>= λ places. Ok (laid columns places)) >>= λ layout. rows_below p s b layout rest)
      by_places rest columns named (Err column) = refl
      by_places rest columns named (Ok places) =
          ap (λ (cs : List ReadColumn). rows_with p cs (take (key_width s) places) [] rest >>= λ rows. Ok (map (cells_at places) rows)) (read_alike columns named)

      by_columns : (header : Record) (rest : List Record) (r : Result (List Component) ℕ) → columns_with s.components [] header ≡ r
          → (of_header (r >>= λ columns. places_in s columns >>= λ places. Ok (laid columns places)) >>= λ layout. rows_below p s a layout rest)
          ≡ (of_header (r >>= λ columns. places_in s columns >>= λ places. Ok (laid columns places)) >>= λ layout. rows_below p s b layout rest)
      by_columns header rest (Err column) is = refl
      by_columns header rest (Ok columns) is = by_places rest columns (columns_kept IsNamedAlike s.components [] header columns all tt is) (places_in s columns)

      by_records : (rs : List Record) → rows_in_records p s a rs ≡ rows_in_records p s b rs
      by_records [] = refl
      by_records (header ∷ rest) = by_columns header rest (columns_with s.components [] header) refl

-- ---- the NOT NULL columns of an INPUT
module _ (list : List Name) where
  abbrev pub columns_named : List Component → List Name
  columns_named xs = map (λ (x : InputColumn). x.name) (filter (λ (x : InputColumn). x.not_null) (map (input_column list) xs))

  same_as : (n m : Name) → same_name m n ≡ true → m ≡ n
  same_as n m e = (bytes_decides m n).0 e

  -- a name is among them where it names a column, and is on the list
  among_both : (n : Name) (xs : List Component) → is_among n (columns_named xs) ≡ (is_among n (names_of xs) && is_among n list)
  among_both n [] = refl
  among_both n (x ∷ xs) = go (is_among x.name list) refl (same_name x.name n) refl (among_both n xs)
    where
      rest : List Name
      rest = columns_named xs

      both : (l m : Bool) → l ≡ true → (true || (m && l)) ≡ (true && l)
      both true m e = refl
      both false m e = cc

      neither : (l m : Bool) → l ≡ false → (m && l) ≡ (true && l)
      neither true m e = cc
      neither false true e = refl
      neither false false e = refl

      go : (c : Bool) → is_among x.name list ≡ c → (d : Bool) → same_name x.name n ≡ d → is_among n rest ≡ (is_among n (names_of xs) && is_among n list)
          → is_among n (map (λ (y : InputColumn). y.name) (cond c (input_column list x ∷ filter (λ (y : InputColumn). y.not_null) (map (input_column list) xs)) (filter (λ (y : InputColumn). y.not_null) (map (input_column list) xs))))
          ≡ ((d || is_among n (names_of xs)) && is_among n list)
      go true h true i ih = ap (λ b. b || is_among n rest) i ∙ both (is_among n list) (is_among n (names_of xs)) (ap (λ m. is_among m list) (sym (same_as n x.name i)) ∙ h)
      go true h false i ih = ap (λ b. b || is_among n rest) i ∙ ih
      go false h true i ih = ih ∙ neither (is_among n list) (is_among n (names_of xs)) (ap (λ m. is_among m list) (sym (same_as n x.name i)) ∙ h)
      go false h false i ih = ih

  own_among : (xs : List Component) → AllByRecursion (λ x. is_among x.name (names_of xs) ≡ true) xs
  own_among [] = tt
  own_among (x ∷ xs) = (ap (λ b. b || is_among x.name (names_of xs)) (nat_list_eq_equiv.refl x.name), later xs (own_among xs))
    where
      truly : (b : Bool) → (b || true) ≡ true
      truly true = refl
      truly false = refl

      later : (ys : List Component) → AllByRecursion (λ y. is_among y.name (names_of xs) ≡ true) ys → AllByRecursion (λ y. is_among y.name (names_of (x ∷ xs)) ≡ true) ys
      later [] all = tt
      later (y ∷ ys) all = (ap (λ b. same_name x.name y.name || b) all.0 ∙ truly (same_name x.name y.name), later ys all.1)

  -- so of each column both say the same
  pub columns_alike : (xs : List Component) → AllByRecursion (λ x. is_among x.name list ≡ is_among x.name (columns_named xs)) xs
  columns_alike xs = go xs (own_among xs)
    where
      go : (ys : List Component) → AllByRecursion (λ y. is_among y.name (names_of xs) ≡ true) ys → AllByRecursion (λ y. is_among y.name list ≡ is_among y.name (columns_named xs)) ys
      go [] all = tt
      go (y ∷ ys) all = (sym (among_both y.name xs ∙ ap (λ b. b && is_among y.name list) all.0), go ys all.1)
