-- The script in SQL breaks no rule.
use Rattle.std.proofs.Common.{◌≡◌, ℕ, Bool, true, false, not, ◌&&◌, ◌||◌, cond, List, [], ◌∷◌, ◌++◌, length, map, Option, Some, None, refl, ap, sym, ◌∙◌, subst, arith, append_assoc, append-nil, true≢false}
use Rattle.std.specs.Prelude.{◌==◌, IsSome, fold, nat_le, unwrap_or}
use Rattle.std.specs.List.{AllByRecursion, list_all, list_any}
use Rattle.std.specs.Map.{keys_of, lookup}
use Rattle.std.specs.Option.{option_map_or}
use Rattle.std.proofs.lemmas.Bool.{and_from, and_parts, or_right}
use Rattle.std.proofs.lemmas.List.{length-map}
use Rattle.vtl_lists.specs.Apart.{all_apart}
use Rattle.vtl_decimal.specs.Settings.{Settings}
use Rattle.vtl_text.specs.Texts.{same_text}
use Rattle.vtl_text.specs.Words.{is_component_name, is_word}
use Rattle.vtl_cell.specs.declared.kind.Kind.{Kind}
use Rattle.vtl_cell.specs.declared.kind.Kind.TheVariants as k
use Rattle.vtl_lists.proofs.Aparts.{apart_parts}
use Rattle.vtl_lists.proofs.Alls.{all_back, all_from_test, all_front, all_more}
use Rattle.vtl_tree.specs.Structure.{IsStructure, columns_of, most_components, names_of, same_name, same_role}
use Rattle.vtl_tree.specs.Structures as structures
use Rattle.vtl_tree.specs.Names.{is_among as is_named}
use Rattle.vtl_tree.specs.NotNull.{NotNull, not_null_of}
use Rattle.vtl_tree.specs.Structures.{AreStructures, Named, is_declarable, is_declarable_component, is_declarable_entry, is_string_identifier}
use Rattle.vtl_tree.specs.declared.structure.Component.{Component}
use Rattle.vtl_tree.specs.declared.structure.Role.TheVariants as role
use Rattle.vtl_tree.specs.declared.structure.Structure.{Structure}
use Rattle.vtl_tree.specs.Columns.{identifiers_of, others_of}
use Rattle.vtl_tree.proofs.NotNullLemmas.{same_itself}
use Rattle.vtl_meaning.specs.Shapes.{IsShaped}
use Rattle.vtl_meaning.proofs.OwnColumns.{columns_apart}
use Rattle.vtl_meaning.proofs.Places.{IsOther, are_others, columns_split, identifiers_apart, same_name-sym}
use Rattle.vtl_meaning.proofs.FoundColumns.{of-columns}
use Rattle.check_laws.proofs.Scripts.{structures-shaped}
use Rattle.sql_tree.specs.Formed.{IsName}
use Rattle.sql_tree.specs.Trees.{Text}
use Rattle.sql_check_laws.specs.Statements.{AreNames, AreTyped, HasCodes, IsExportTyped, IsInputTyped, IsOrder}
use Rattle.sql_check_parts.specs.Scopes.{Columns, Tables, columns_of as table_columns, is_among, is_empty, repeats, value_among}
use Rattle.sql_check_parts.specs.Statements.{Given, after, codes_fit, input_columns, is_of_key, is_taken, is_text}
use Rattle.sql_check_parts.specs.Queries.{query_columns}
use Rattle.sql_meaning.specs.Scripts.{Inputs, tables_in}
use Rattle.vtl_to_sql.specs.Conditions.{AreReadable}
use Rattle.selects_to_sql.specs.Writable.{HaveNames}
use Rattle.vtl_to_sql.specs.Exports.{tables_read}
use Rattle.selects_to_sql.specs.Runs.{AreLawful, entries, given_behind}
use Rattle.selects_to_sql.specs.Tables.{create_for, Table}
use Rattle.vtl_to_sql.specs.Scripts.{export_for, input_column, input_for, input_of, ordered}
use Rattle.selects_to_sql.proofs.Names.{component_is_name}
use Rattle.vtl_to_sql.proofs.ReadTables.{all_among, columns_read}
use Rattle.selects_to_sql.proofs.Givens.{columns_count}

abbrev pub giving : Tables → List Text → Given
giving tables exported = record { tables = tables; exported = exported }

-- ---- data sets that are read

-- what is known of one
pub record IsReadable (e : List ℕ × Structure) : Type 0 where
  pub word : is_word e.0 ≡ true
  pub shaped : IsShaped e.1
  pub named : HaveNames (columns_of e.1)
  pub coded : AllByRecursion (λ x. structures.codes_fit x ≡ true) (columns_of e.1)

component_parts : (x : Component) → is_declarable_component x ≡ true → (is_component_name x.name ≡ true) × (structures.codes_fit x ≡ true)
component_parts x h =
    let two = and_parts (is_component_name x.name && not (structures.is_null_kind x.kind)) (structures.codes_fit x) h in
    ((and_parts (is_component_name x.name) (not (structures.is_null_kind x.kind)) two.0).0, two.1)

components_declarable : (s : Structure) → is_declarable s ≡ true → list_all is_declarable_component s.components ≡ true
components_declarable s h = (and_parts (nat_le 1 (length s.components) && nat_le (length s.components) most_components && all_apart same_name (names_of s.components)) (list_all is_declarable_component s.components) h).1

pub declared_each_entry : (reads : Named) → AreStructures reads → AllByRecursion (λ e. is_declarable_entry e ≡ true) reads
declared_each_entry reads h = all_from_test is_declarable_entry reads h.declarable

pub declared_shaped : (e : List ℕ × Structure) → is_declarable e.1 ≡ true → IsShaped e.1
declared_shaped e h = (structures-shaped (e ∷ []) (record { declarable = and_from (is_declarable e.1) true h refl; distinct = refl })).0

declared_each : (s : Structure) → is_declarable s ≡ true → AllByRecursion (λ x. is_declarable_component x ≡ true) s.components
declared_each s h = all_from_test is_declarable_component s.components (components_declarable s h)

pub declared_coded : (s : Structure) → is_declarable s ≡ true → AllByRecursion (λ x. structures.codes_fit x ≡ true) (columns_of s)
declared_coded s h = of-columns (λ x. structures.codes_fit x ≡ true) s (all_more (λ x. is_declarable_component x ≡ true) (λ x. structures.codes_fit x ≡ true) (λ x i. (component_parts x i).1) s.components (declared_each s h))

declared_named : (s : Structure) → is_declarable s ≡ true → HaveNames (columns_of s)
declared_named s h = of-columns (λ x. IsName x.name) s (all_more (λ x. is_declarable_component x ≡ true) (λ x. IsName x.name) (λ x i. component_is_name x.name (component_parts x i).0) s.components (declared_each s h))

pub all_readable : (reads : Named) → AreReadable reads → AllByRecursion IsReadable reads
all_readable reads h = go reads (declared_each_entry reads h.structures) h.words
  where
    go : (es : Named) → AllByRecursion (λ e. is_declarable_entry e ≡ true) es → AllByRecursion (λ e. is_word e.0 ≡ true) es → AllByRecursion IsReadable es
    go [] d w = tt
    go (e ∷ es) d w = (record { word = w.0; shaped = declared_shaped e d.0; named = declared_named e.1 d.0; coded = declared_coded e.1 d.0 }, go es d.1 w.1)

-- ---- columns by their names

pub keys_of_entries : (xs : List Component) → keys_of (entries xs) ≡ names_of xs
keys_of_entries [] = refl
keys_of_entries (x ∷ xs) = ap (λ l. x.name ∷ l) (keys_of_entries xs)

-- a name that stands among them is found
there : (ys : List Component) (x : Component) (zs : List Component) → IsSome (lookup (same_text x.name) (entries (ys ++ x ∷ zs)))
there [] x zs = go (same_text x.name x.name) (same_itself x.name)
  where
    go : (b : Bool) → b ≡ true → IsSome (cond b (Some x.kind) (lookup (same_text x.name) (entries zs)))
    go true e = refl
    go false e = cc
there (y ∷ ys) x zs = go (same_text x.name y.name) (there ys x zs)
  where
    go : (b : Bool) → IsSome (lookup (same_text x.name) (entries (ys ++ x ∷ zs))) → IsSome (cond b (Some y.kind) (lookup (same_text x.name) (entries (ys ++ x ∷ zs))))
    go true ih = refl
    go false ih = ih

all_there : (ys xs zs : List Component) → AllByRecursion (λ n. IsSome (value_among (entries (ys ++ (xs ++ zs))) n)) (names_of xs)
all_there ys [] zs = tt
all_there ys (x ∷ xs) zs = (there ys x (xs ++ zs), subst (λ l. AllByRecursion (λ n. IsSome (value_among (entries l) n)) (names_of xs)) (append_assoc ys (x ∷ []) (xs ++ zs)) (all_there (ys ++ x ∷ []) xs zs))

-- the identifiers are names of columns, each once
pub identifiers_are_names : (s : Structure) → IsStructure s → AreNames (entries (columns_of s)) (names_of (identifiers_of s))
identifiers_are_names s w = (
  ap not (identifiers_apart s w),
  subst (λ l. AllByRecursion (λ n. IsSome (value_among (entries l) n)) (names_of (identifiers_of s))) (sym (columns_split s)) (all_there [] (identifiers_of s) (others_of s)),
)

-- ---- codes

text_told : (kind : Kind) → structures.is_text_kind kind ≡ true → is_text kind ≡ true
text_told k.Text h = refl
text_told kind h = cc

none_empty : (texts : List Text) → list_all structures.is_filled texts ≡ true → not (list_any is_empty texts) ≡ true
none_empty [] h = refl
none_empty ([] ∷ texts) h = cc
none_empty ((x ∷ xs) ∷ texts) h = none_empty texts (and_parts (structures.is_filled (x ∷ xs)) (list_all structures.is_filled texts) h).1

one_coded : (l : List Text) (key : List Text) (x : Component) → structures.codes_fit x ≡ true → (same_role x.role role.Identifier ≡ true → is_of_key key (input_column l x) ≡ true) → HasCodes key (input_column l x)
one_coded l key x h f = go x.codes h
  where
    go : (o : Option (List Text)) → option_map_or (λ texts. is_string_identifier x.role x.kind && structures.are_codes texts) o true ≡ true → codes_fit key (record { name = x.name; kind = x.kind; not_null = is_named x.name l; codes = unwrap_or o [] }) ≡ true
    go None e = refl
    go (Some texts) e =
        let both = and_parts (is_string_identifier x.role x.kind) (structures.are_codes texts) e in
        let role_kind = and_parts (same_role x.role role.Identifier) (structures.is_text_kind x.kind) both.0 in
        let last = and_parts (not (length texts == 0) && list_all structures.is_filled texts) (all_apart same_name texts) both.1 in
        let filled = none_empty texts (and_parts (not (length texts == 0)) (list_all structures.is_filled texts) last.0).1 in
        let kind = text_told x.kind role_kind.1 in
        let there = f role_kind.0 in
        or_right (is_empty texts) (is_text x.kind && is_among x.name key && not (list_any is_empty texts) && not (repeats texts))
        (and_from (is_text x.kind && is_among x.name key && not (list_any is_empty texts)) (not (repeats texts))
        (and_from (is_text x.kind && is_among x.name key) (not (list_any is_empty texts)) (and_from (is_text x.kind) (is_among x.name key) kind there) filled)
        (ap (λ b. not (not b)) last.1))

pub all_coded : (l : List Text) (s : Structure) → AllByRecursion (λ x. structures.codes_fit x ≡ true) (columns_of s) → AllByRecursion (HasCodes (names_of (identifiers_of s))) (map (input_column l) (columns_of s))
all_coded l s all =
    let ids = identifiers_of s in
    let rest = others_of s in
    let key = names_of ids in
    let split = subst (AllByRecursion (λ x. structures.codes_fit x ≡ true)) (columns_split s) all in
    subst (λ cs. AllByRecursion (HasCodes key) (map (input_column l) cs)) (sym (columns_split s))
    (both ids rest (first ids (all_front (λ x. structures.codes_fit x ≡ true) ids rest split) (all_among l [] ids)) (second rest (all_back (λ x. structures.codes_fit x ≡ true) ids rest split) (are_others s)))
  where
    first : (xs : List Component) → AllByRecursion (λ x. structures.codes_fit x ≡ true) xs → AllByRecursion (λ c. is_of_key (names_of (identifiers_of s)) c ≡ true) (map (input_column l) xs) → AllByRecursion (HasCodes (names_of (identifiers_of s))) (map (input_column l) xs)
    first [] f g = tt
    first (x ∷ xs) f g = (one_coded l (names_of (identifiers_of s)) x f.0 (λ e. g.0), first xs f.1 g.1)

    second : (xs : List Component) → AllByRecursion (λ x. structures.codes_fit x ≡ true) xs → AllByRecursion IsOther xs → AllByRecursion (HasCodes (names_of (identifiers_of s))) (map (input_column l) xs)
    second [] f g = tt
    second (x ∷ xs) f g = (one_coded l (names_of (identifiers_of s)) x f.0 (λ e. absurd (true≢false (sym e ∙ g.0))), second xs f.1 g.1)

    both : (xs ys : List Component) → AllByRecursion (HasCodes (names_of (identifiers_of s))) (map (input_column l) xs) → AllByRecursion (HasCodes (names_of (identifiers_of s))) (map (input_column l) ys) → AllByRecursion (HasCodes (names_of (identifiers_of s))) (map (input_column l) (xs ++ ys))
    both [] ys f g = g
    both (x ∷ xs) ys f g = (f.0, both xs ys f.1 g)

-- ---- INPUT

input_fits : (ls : NotNull) (given : Tables) (e : List ℕ × Structure) → IsReadable e → is_taken given e.0 ≡ false → IsInputTyped given (input_of ls e)
input_fits ls given e h free =
    let w = h.shaped.well_formed in
    let columns = columns_read ls e w in
    let size = columns_count e.1 in
    let many = length-map (columns_of e.1) (input_column (not_null_of e.0 ls)) in
    let few = w.few in
    record {
      free = free;
      word = h.word;
      names = ap (λ cs. repeats (keys_of cs)) columns ∙ ap repeats (keys_of_entries (columns_of e.1)) ∙ ap not (columns_apart e.1 w);
      key = subst (λ cs. AreNames cs (names_of (identifiers_of e.1))) (sym columns) (identifiers_are_names e.1 w);
      codes = all_coded (not_null_of e.0 ls) e.1 h.coded;
      few = omega (arith, size, many, few);
    }

-- a name that is free stays free behind a table of another name
still_free : (given : Tables) (n name : Text) (columns : Columns) → is_taken given n ≡ false → same_text n name ≡ false → is_taken (given ++ (name, columns) ∷ []) n ≡ false
still_free [] n name columns h i = ap (λ b. b || false) i
still_free (t ∷ ts) n name columns h i = go (same_text n t.0) h (still_free ts n name columns)
  where
    go : (b : Bool) → (b || is_among n (keys_of ts)) ≡ false → (is_among n (keys_of ts) ≡ false → same_text n name ≡ false → is_among n (keys_of (ts ++ (name, columns) ∷ [])) ≡ false) → (b || is_among n (keys_of (ts ++ (name, columns) ∷ []))) ≡ false
    go false e ih = ih e i
    go true e ih = cc

pub inputs_fit : (p : Settings) (ls : NotNull) (given : Tables) (reads : Named) → AllByRecursion IsReadable reads → all_apart same_name (keys_of reads) ≡ true → AllByRecursion (λ e. is_taken given e.0 ≡ false) reads → AreTyped p (giving given []) (map (input_for ls) reads)
inputs_fit p ls given [] h apart free = tt
inputs_fit p ls given (e ∷ es) h apart free =
    let parts = apart_parts same_name e.0 (keys_of es) apart in
    (input_fits ls given e h.0 free.0, inputs_fit p ls (given ++ (e.0, input_columns (input_of ls e)) ∷ []) es h.1 parts.1 (go es parts.0 free.1))
  where
    go : (us : Named) → AllByRecursion (λ n. same_name e.0 n ≡ false) (keys_of us) → AllByRecursion (λ u. is_taken given u.0 ≡ false) us → AllByRecursion (λ u. is_taken (given ++ (e.0, input_columns (input_of ls e)) ∷ []) u.0 ≡ false) us
    go [] a f = tt
    go (u ∷ us) a f = (still_free given u.0 e.0 (input_columns (input_of ls e)) f.0 (same_name-sym u.0 e.0 ∙ a.0), go us a.1 f.1)

pub inputs_give : (inputs : Inputs) (ls : NotNull) (given : Tables) (reads : Named) → fold after (giving given []) (map (input_for ls) reads) ≡ giving (given ++ tables_in (tables_read inputs ls reads)) []
inputs_give inputs ls given [] = ap (λ g. giving g []) (sym (append-nil given))
inputs_give inputs ls given (e ∷ es) =
    inputs_give inputs ls (given ++ (e.0, input_columns (input_of ls e)) ∷ []) es
    ∙ ap (λ g. giving g []) (append_assoc given ((e.0, input_columns (input_of ls e)) ∷ []) (tables_in (tables_read inputs ls es)))

-- ---- CREATE

pub creates_fit : (p : Settings) (given : Tables) (exported : List Text) (ts : List Table) → AreLawful p given ts → AreTyped p (giving given exported) (map create_for ts)
creates_fit p given exported [] h = tt
creates_fit p given exported (t ∷ ts) h = (h.1, creates_fit p (given ++ (t.name, query_columns given t.query) ∷ []) exported ts h.2)

pub creates_give : (given : Tables) (exported : List Text) (ts : List Table) → fold after (giving given exported) (map create_for ts) ≡ giving (given_behind given ts) exported
creates_give given exported [] = refl
creates_give given exported (t ∷ ts) = creates_give (given ++ (t.name, query_columns given t.query) ∷ []) exported ts

-- ---- EXPORT

-- a table that is written: it has the columns of a structure, and a word as its name
pub record IsWritten (given : Tables) (e : List ℕ × Structure) : Type 0 where
  pub word : is_word e.0 ≡ true
  pub well_formed : IsStructure e.1
  pub there : table_columns given e.0 ≡ Some (entries (columns_of e.1))

export_fits : (given : Tables) (exported : List Text) (e : List ℕ × Structure) → IsWritten given e → is_among e.0 exported ≡ false → IsExportTyped (giving given exported) (ordered e)
export_fits given exported e h new = record {
  table = subst IsSome (sym h.there) refl;
  new = new;
  word = h.word;
  order = subst (λ o. IsOrder o (names_of (identifiers_of e.1))) (sym h.there) (identifiers_are_names e.1 h.well_formed);
}

still_new : (exported : List Text) (n name : Text) → is_among n exported ≡ false → same_text n name ≡ false → is_among n (exported ++ name ∷ []) ≡ false
still_new [] n name h i = ap (λ b. b || false) i
still_new (t ∷ ts) n name h i = go (same_text n t) h (still_new ts n name)
  where
    go : (b : Bool) → (b || is_among n ts) ≡ false → (is_among n ts ≡ false → same_text n name ≡ false → is_among n (ts ++ name ∷ []) ≡ false) → (b || is_among n (ts ++ name ∷ [])) ≡ false
    go false e ih = ih e i
    go true e ih = cc

pub exports_fit : (p : Settings) (given : Tables) (exported : List Text) (ws : Named) → AllByRecursion (IsWritten given) ws → all_apart same_name (keys_of ws) ≡ true → AllByRecursion (λ w. is_among w.0 exported ≡ false) ws → AreTyped p (giving given exported) (map export_for ws)
exports_fit p given exported [] h apart new = tt
exports_fit p given exported (w ∷ ws) h apart new =
    let parts = apart_parts same_name w.0 (keys_of ws) apart in
    (export_fits given exported w h.0 new.0, exports_fit p given (exported ++ w.0 ∷ []) ws h.1 parts.1 (go ws parts.0 new.1))
  where
    go : (us : Named) → AllByRecursion (λ n. same_name w.0 n ≡ false) (keys_of us) → AllByRecursion (λ u. is_among u.0 exported ≡ false) us → AllByRecursion (λ u. is_among u.0 (exported ++ w.0 ∷ []) ≡ false) us
    go [] a f = tt
    go (u ∷ us) a f = (still_new exported u.0 w.0 f.0 (same_name-sym u.0 w.0 ∙ a.0), go us a.1 f.1)
