-- The tables of the inputs stand for the data sets that are read.
use Rattle.std.proofs.lemmas.List.Elements.{filter-append}
use Rattle.std.proofs.lemmas.List.{map-append}
use Rattle.std.proofs.Common.{◌≡◌, ℕ, Bool, true, false, not, ◌||◌, cond, List, [], ◌∷◌, ◌++◌, map, Some, refl, ap, sym, ◌∙◌, subst, append_assoc, append-nil, true≢false}
use Rattle.std.specs.List.{AllByRecursion, filter}
use Rattle.std.specs.Map.{lookup}
use Rattle.std.specs.Option.{option_map_or}
use Rattle.std.proofs.lemmas.Bool.{or_right}
use Rattle.vtl_text.specs.Texts.{same_text}
use Rattle.vtl_text.specs.Words.{is_word}
use Rattle.vtl_lists.proofs.Aparts.{apart_parts}
use Rattle.vtl_lists.proofs.Filters.{filter_all, filter_none}
use Rattle.vtl_tree.specs.Environment.{Environment, data_of, known_in, points_named}
use Rattle.vtl_tree.specs.NotNull.{NotNull, not_null_of}
use Rattle.vtl_tree.specs.Structure.{IsStructure, columns_of, names_of, same_name}
use Rattle.vtl_tree.specs.declared.structure.Component.{Component}
use Rattle.vtl_tree.specs.declared.structure.Structure.{Structure}
use Rattle.vtl_tree.specs.Columns.{identifiers_of, others_of}
use Rattle.vtl_tree.proofs.NotNullLemmas.{same_itself}
use Rattle.vtl_meaning.proofs.OwnColumns.{columns_apart}
use Rattle.vtl_meaning.proofs.Places.{columns_split, same_name-is, same_name-sym}
use Rattle.sql_tree.specs.Formed.{IsName}
use Rattle.sql_tree.specs.Trees.{Text}
use Rattle.sql_tree.specs.declared.statements.InputColumn.{InputColumn}
use Rattle.sql_check_parts.specs.Scopes.{is_among}
use Rattle.sql_check_parts.specs.Statements.{column_entry, in_table_order, input_columns, is_of_key}
use Rattle.sql_meaning.specs.Scripts.{Inputs, input_table, rows_read}
use Rattle.vtl_to_sql.specs.Exports.{AreRead, tables_read}
use Rattle.selects_to_sql.specs.Means.{Stands, StandsAs}
use Rattle.selects_to_sql.specs.Runs.{IsTable, entries}
use Rattle.vtl_to_sql.specs.Scripts.{input_column, input_of}
use Rattle.selects_to_sql.proofs.Names.{word_is_name}
use Rattle.selects_to_sql.proofs.Sources.{AreApart}

-- ---- the columns of an INPUT in order are those of the structure

entries_are : (l : List Text) (xs : List Component) → map column_entry (map (input_column l) xs) ≡ entries xs
entries_are l [] = refl
entries_are l (x ∷ xs) = ap (λ es. (x.name, x.kind) ∷ es) (entries_are l xs)

own_true : (b : Bool) → b ≡ true → (c : Bool) → (b || c) ≡ true
own_true true e c = refl
own_true false e c = cc

-- each name is among a list that holds all of them
here : (ns : List Text) (name : Text) (more : List Text) → is_among name (ns ++ name ∷ more) ≡ true
here [] name more = own_true (same_text name name) (same_itself name) (is_among name more)
here (n ∷ ns) name more = or_right (same_text name n) (is_among name (ns ++ name ∷ more)) (here ns name more)

pub all_among : (l : List Text) (front : List Text) (ys : List Component) → AllByRecursion (λ x. is_of_key (front ++ names_of ys) x ≡ true) (map (input_column l) ys)
all_among l front [] = tt
all_among l front (y ∷ ys) = (here front y.name (names_of ys), subst (λ ns. AllByRecursion (λ x. is_of_key ns x ≡ true) (map (input_column l) ys)) (append_assoc front (y.name ∷ []) (names_of ys)) (all_among l (front ++ y.name ∷ []) ys))

-- no other name is
pub none_among : (l : List Text) (ids others : List Component) → AreApart (ids ++ others) → AllByRecursion (λ x. is_of_key (names_of ids) x ≡ false) (map (input_column l) others)
none_among l [] others a = go others
  where
    go : (ys : List Component) → AllByRecursion (λ x. is_of_key [] x ≡ false) (map (input_column l) ys)
    go [] = tt
    go (y ∷ ys) = (refl, go ys)
none_among l (x ∷ ids) others a = go others (behind ids others (apart_parts same_name x.name (names_of (ids ++ others)) a).0) (none_among l ids others (apart_parts same_name x.name (names_of (ids ++ others)) a).1)
  where
    behind : (us ys : List Component) → AllByRecursion (λ n. same_name x.name n ≡ false) (names_of (us ++ ys)) → AllByRecursion (λ n. same_name x.name n ≡ false) (names_of ys)
    behind [] ys h = h
    behind (u ∷ us) ys h = behind us ys h.1

    go : (ys : List Component) → AllByRecursion (λ n. same_name x.name n ≡ false) (names_of ys) → AllByRecursion (λ z. is_of_key (names_of ids) z ≡ false) (map (input_column l) ys) → AllByRecursion (λ z. is_of_key (names_of (x ∷ ids)) z ≡ false) (map (input_column l) ys)
    go [] h i = tt
    go (y ∷ ys) h i = (ap (λ b. b || is_among y.name (names_of ids)) (same_name-sym y.name x.name ∙ h.0) ∙ i.0, go ys h.1 i.1)

turned : (P Q : InputColumn → Bool) (xs : List InputColumn) (b c : Bool) → ((x : InputColumn) → P x ≡ b → Q x ≡ c) → AllByRecursion (λ x. P x ≡ b) xs → AllByRecursion (λ x. Q x ≡ c) xs
turned P Q [] b c f h = tt
turned P Q (x ∷ xs) b c f h = (f x h.0, turned P Q xs b c f h.1)

module _ (ls : NotNull) (e : List ℕ × Structure) (w : IsStructure e.1) where
  abbrev s : Structure
  s = e.1

  abbrev names : List Text
  names = not_null_of e.0 ls

  abbrev column : Component → InputColumn
  column = input_column names

  abbrev key : List Text
  key = names_of (identifiers_of s)

  abbrev is_key : InputColumn → Bool
  is_key = is_of_key key

  abbrev is_rest : InputColumn → Bool
  is_rest x = not (is_key x)

  abbrev ids : List InputColumn
  ids = map column (identifiers_of s)

  abbrev rest : List InputColumn
  rest = map column (others_of s)

  inside : AllByRecursion (λ x. is_key x ≡ true) ids
  inside = all_among names [] (identifiers_of s)

  outside : AllByRecursion (λ x. is_key x ≡ false) rest
  outside = none_among names (identifiers_of s) (others_of s) (subst AreApart (columns_split s) (columns_apart s w))

  both : map column (columns_of s) ≡ ids ++ rest
  both = ap (map column) (columns_split s) ∙ map-append column (identifiers_of s) (others_of s)

  -- the identifiers are those of the key
  pub key_read : filter is_key (map column (columns_of s)) ≡ ids
  key_read = ap (filter is_key) both ∙ filter-append is_key ids rest ∙ ap (λ l. l ++ filter is_key rest) (filter_all is_key ids inside) ∙ ap (λ l. ids ++ l) (filter_none is_key rest outside) ∙ append-nil ids

  rest_read : filter is_rest (map column (columns_of s)) ≡ rest
  rest_read =
      ap (filter is_rest) both
      ∙ filter-append is_rest ids rest
      ∙ ap (λ l. l ++ filter is_rest rest) (filter_none is_rest ids (turned is_key is_rest ids true false (λ x h. ap not h) inside))
      ∙ filter_all is_rest rest (turned is_key is_rest rest false true (λ x h. ap not h) outside)

  pub order_read : in_table_order key (map column (columns_of s)) ≡ map column (columns_of s)
  order_read = ap (λ l. l ++ filter is_rest (map column (columns_of s))) key_read ∙ ap (λ l. ids ++ l) rest_read ∙ sym both

  pub columns_read : input_columns (input_of ls e) ≡ entries (columns_of s)
  columns_read = ap (map column_entry) order_read ∙ entries_are names (columns_of s)

-- ---- the tables

pub reads_stand : (ls : NotNull) (inputs : Inputs) (env : Environment) → AllByRecursion (λ d. IsStructure d.1.structure × (is_word d.0 ≡ true)) env → AreRead inputs env → Stands (tables_read inputs ls (known_in env)) env
reads_stand ls inputs [] fit same name s h = cc
reads_stand ls inputs (d ∷ ds) fit same name s h = go (same_name name d.0) refl (same_name d.0 name) (same_name-sym d.0 name) h (reads_stand ls inputs ds fit.1 same.1 name s)
  where
    columns : input_columns (input_of ls (d.0, d.1.structure)) ≡ entries (columns_of d.1.structure)
    columns = columns_read ls (d.0, d.1.structure) fit.0.0

    go : (a : Bool) → same_name name d.0 ≡ a → (b : Bool) → b ≡ a → cond a (Some d.1.structure) (lookup (same_name name) (known_in ds)) ≡ Some s → (lookup (same_name name) (known_in ds) ≡ Some s → StandsAs (tables_read inputs ls (known_in ds)) name s (points_named name ds))
        → StandsAs (tables_read inputs ls (known_in (d ∷ ds))) name s (option_map_or (λ z. z.points) (cond b (Some d.1) (data_of name ds)) [])
    go true e true f i ih =
        let one : d.1.structure ≡ s = cc in
        let table : IsTable (tables_read inputs ls (known_in (d ∷ ds))) name d.1.structure (rows_read inputs d.0) =
        ap (λ t. cond t (Some (input_table inputs (input_of ls (d.0, d.1.structure)))) (lookup (same_text name) (tables_read inputs ls (known_in ds)))) e
        ∙ ap (λ cs. Some (record { columns = cs; rows = rows_read inputs d.0 })) columns in
        subst (λ t. StandsAs (tables_read inputs ls (known_in (d ∷ ds))) name t d.1.points) one
        (record { named = subst IsName (sym (same_name-is name d.0 e)) (word_is_name d.0 fit.0.1); rows = rows_read inputs d.0; table = table; same = same.0 })
    go false e false f i ih =
        let there = ih i in
        record {
          named = there.named;
          rows = there.rows;
          table = ap (λ t. cond t (Some (input_table inputs (input_of ls (d.0, d.1.structure)))) (lookup (same_text name) (tables_read inputs ls (known_in ds)))) e ∙ there.table;
          same = there.same;
        }
    go true e false f i ih = absurd (true≢false (sym f))
    go false e true f i ih = absurd (true≢false f)
