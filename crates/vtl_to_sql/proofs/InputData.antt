-- What an INPUT asks of its rows is what the structure asks of the points of a data set.
use Rattle.vtl_meaning.proofs.ValueKinds.{point_from, point_parts}
use Rattle.sql_tree.specs.Trees.{Text}
use Rattle.std.specs.Option.{option_map_or}
use Rattle.std.proofs.Common.{◌≡◌, ℕ, zero, suc, Bool, true, false, not, ◌&&◌, ◌||◌, List, [], ◌∷◌, ◌++◌, length, map, Option, Some, None, refl, ap, sym, ◌∙◌, subst, true≢false}
use Rattle.std.specs.Prelude.{take, unwrap_or}
use Rattle.std.specs.List.{AllByRecursion, list_any}
use Rattle.std.proofs.lemmas.Bool.{and_from, and_parts}
use Rattle.std.proofs.lemmas.List.{length-map}
use Rattle.vtl_lists.specs.Apart.{all_apart}
use Rattle.vtl_lists.proofs.Alls.{all_more}
use Rattle.vtl_cell.specs.Kinds.{is_null, is_of}
use Rattle.vtl_cell.specs.Row.{Row, same_key}
use Rattle.vtl_cell.specs.declared.cell.Cell.{Cell}
use Rattle.vtl_cell.specs.declared.cell.Cell.TheVariants as c
use Rattle.vtl_cell.specs.declared.kind.Kind.{Kind}
use Rattle.vtl_cell.specs.declared.kind.Kind.TheVariants as k
use Rattle.vtl_rows.specs.Tables.{fits_kinds}
use Rattle.vtl_tree.specs.DataSet.{is_point}
use Rattle.vtl_tree.specs.Names.{is_among}
use Rattle.vtl_tree.specs.NotNull.{NotNull, not_null_of}
use Rattle.vtl_tree.specs.Structure.{IsStructure, columns_of, key_width, same_role, same_name}
use Rattle.vtl_tree.specs.Structures.{are_codes, codes_fit, is_text_kind, is_string_identifier}
use Rattle.vtl_tree.specs.declared.structure.Component.{Component}
use Rattle.vtl_tree.specs.declared.structure.Role.TheVariants as role
use Rattle.vtl_tree.specs.declared.structure.Structure.{Structure}
use Rattle.vtl_tree.specs.Columns.{identifiers_of, others_of}
use Rattle.vtl_meaning.proofs.Places.{IsIdentifier, IsOther, are_identifiers, are_others, columns_split}
use Rattle.sql_meaning.specs.Inputs as asked
use Rattle.sql_meaning.specs.Inputs.{IsInputData, has_whole_key}
use Rattle.sql_meaning.specs.Tables.{RowsFit, kinds_of}
use Rattle.vtl_to_sql.specs.Inputs.{AreAsked, are_listed, is_listed}
use Rattle.selects_to_sql.specs.Runs.{entries}
use Rattle.vtl_to_sql.specs.Scripts.{input_column, input_of}
use Rattle.vtl_to_sql.proofs.ReadTables.{columns_read, key_read, order_read}

-- ---- one cell

not_both : (a b : Bool) → not (a || b) ≡ true → (not a ≡ true) × (not b ≡ true)
not_both true b h = cc
not_both false b h = (refl, h)

neither : (a b : Bool) → not a ≡ true → not b ≡ true → not (a || b) ≡ true
neither true b h i = cc
neither false b h i = i

pub no_codes : (x : Component) → x.codes ≡ Some [] → codes_fit x ≡ true → ⊥
no_codes x e f =
    let fit : (is_string_identifier x.role x.kind && are_codes []) ≡ true = cc in
    absurd (true≢false (sym (and_parts (is_string_identifier x.role x.kind) (are_codes []) fit).1))

-- a text among the codes, if there are any
listed : (l : List Text) (x : Component) (v : Cell) → codes_fit x ≡ true → asked.is_coded (input_column l x) v ≡ true → is_listed x v ≡ true
listed l x (c.Text t) f h = go x.codes refl h
  where
    go : (codes : Option (List Text)) → x.codes ≡ codes → asked.is_coded (record { name = x.name; kind = x.kind; not_null = is_among x.name l; codes = unwrap_or codes [] }) (c.Text t) ≡ true → option_map_or (λ texts. list_any (same_name t) texts) codes true ≡ true
    go None e i = refl
    go (Some []) e i = absurd (no_codes x e f)
    go (Some (y ∷ ys)) e i = i
listed l x v f h = refl

text_there : (kind : Kind) (v : Cell) → is_text_kind kind ≡ true → is_of kind v ≡ true → not (is_null v) ≡ true → (t : Text) × (v ≡ c.Text t)
text_there k.Text (c.Text t) i h n = (t, refl)
text_there k.Text c.Null i h n = cc
text_there k.Text v i h n = cc
text_there kind v i h n = cc

-- only a text identifier lists codes
coded : (l : List Text) (x : Component) (v : Cell) → codes_fit x ≡ true → is_of x.kind v ≡ true → not (same_role x.role role.Identifier && is_null v) ≡ true → is_listed x v ≡ true → asked.is_coded (input_column l x) v ≡ true
coded l x v f k n h = go x.codes refl
  where
    text : (y : List ℕ) (ys : List Text) → x.codes ≡ Some (y ∷ ys) → (same_role x.role role.Identifier ≡ true) × (is_text_kind x.kind ≡ true)
    text y ys e =
        let fit : (is_string_identifier x.role x.kind && are_codes (y ∷ ys)) ≡ true = cc in
        and_parts (same_role x.role role.Identifier) (is_text_kind x.kind) (and_parts (is_string_identifier x.role x.kind) (are_codes (y ∷ ys)) fit).0

    go : (codes : Option (List Text)) → x.codes ≡ codes → asked.is_coded (record { name = x.name; kind = x.kind; not_null = is_among x.name l; codes = unwrap_or codes [] }) v ≡ true
    go None e = refl
    go (Some []) e = refl
    go (Some (y ∷ ys)) e =
        let told = text y ys e in
        let filled : not (is_null v) ≡ true = ap (λ b. not (b && is_null v)) (sym told.0) ∙ n in
        let found = text_there x.kind v told.1 k filled in
        let among : option_map_or (λ texts. list_any (same_name found.0) texts) x.codes true ≡ true = subst (λ u. is_listed x u ≡ true) found.1 h in
        subst (λ u. asked.is_text_among (y ∷ ys) u ≡ true) (sym found.1) (ap (λ o. option_map_or (λ texts. list_any (same_name found.0) texts) o true) (sym e) ∙ among)

-- ---- one row

-- identifiers first, this many, and codes where they may be
abbrev IsLed : ℕ → List Component → Type 0
IsLed n [] = n ≡ 0
IsLed zero (x ∷ xs) = IsOther x × (codes_fit x ≡ true) × IsLed zero xs
IsLed (suc n) (x ∷ xs) = IsIdentifier x × (codes_fit x ≡ true) × IsLed n xs

others_led : (xs : List Component) → AllByRecursion IsOther xs → AllByRecursion (λ x. codes_fit x ≡ true) xs → IsLed 0 xs
others_led [] o f = refl
others_led (x ∷ xs) o f = (o.0, f.0, others_led xs o.1 f.1)

all_led : (ids others : List Component) → AllByRecursion IsIdentifier ids → AllByRecursion IsOther others → AllByRecursion (λ x. codes_fit x ≡ true) (ids ++ others) → IsLed (length ids) (ids ++ others)
all_led [] others i o f = others_led others o f
all_led (x ∷ ids) others i o f = (i.0, f.0, all_led ids others i.1 o f.1)

-- what an INPUT asks of a row
abbrev IsRead : List Text → ℕ → List Component → Row → Type 0
IsRead l n xs r = (fits_kinds (kinds_of (entries xs)) r ≡ true) × (has_whole_key n r ≡ true) × (asked.are_coded (map (input_column l) xs) r ≡ true)

abbrev IsAsked : List Component → Row → Type 0
IsAsked xs r = (is_point xs r ≡ true) × (are_listed xs r ≡ true)

asked_of : (l : List Text) (n : ℕ) (xs : List Component) (r : Row) → IsLed n xs → IsRead l n xs r → IsAsked xs r
asked_of l n [] [] i h = (refl, refl)
asked_of l n [] (v ∷ vs) i h = cc
asked_of l zero (x ∷ xs) [] i h = cc
asked_of l (suc n) (x ∷ xs) [] i h = cc
asked_of l zero (x ∷ xs) (v ∷ vs) i h =
    let fit = and_parts (is_of x.kind v) (fits_kinds (kinds_of (entries xs)) vs) h.0 in
    let codes = and_parts (asked.is_coded (input_column l x) v) (asked.are_coded (map (input_column l) xs) vs) h.2 in
    let rest = asked_of l zero xs vs i.2 (fit.1, refl, codes.1) in (
      point_from x xs v vs fit.0 (ap (λ b. not (b && is_null v)) i.0) rest.0,
      and_from (is_listed x v) (are_listed xs vs) (listed l x v i.1 codes.0) rest.1,
    )
asked_of l (suc n) (x ∷ xs) (v ∷ vs) i h =
    let fit = and_parts (is_of x.kind v) (fits_kinds (kinds_of (entries xs)) vs) h.0 in
    let whole = not_both (is_null v) (list_any is_null (take n vs)) h.1 in
    let codes = and_parts (asked.is_coded (input_column l x) v) (asked.are_coded (map (input_column l) xs) vs) h.2 in
    let rest = asked_of l n xs vs i.2 (fit.1, whole.1, codes.1) in (
      point_from x xs v vs fit.0 (ap (λ b. not (b && is_null v)) i.0 ∙ whole.0) rest.0,
      and_from (is_listed x v) (are_listed xs vs) (listed l x v i.1 codes.0) rest.1,
    )

read_of : (l : List Text) (n : ℕ) (xs : List Component) (r : Row) → IsLed n xs → IsAsked xs r → IsRead l n xs r
read_of l zero [] [] i h = (refl, refl, refl)
read_of l (suc n) [] [] i h = cc
read_of l n [] (v ∷ vs) i h = cc
read_of l zero (x ∷ xs) [] i h = cc
read_of l (suc n) (x ∷ xs) [] i h = cc
read_of l zero (x ∷ xs) (v ∷ vs) i h =
    let point = point_parts x xs v vs h.0 in
    let codes = and_parts (is_listed x v) (are_listed xs vs) h.1 in
    let rest = read_of l zero xs vs i.2 (point.2, codes.1) in (
      and_from (is_of x.kind v) (fits_kinds (kinds_of (entries xs)) vs) point.0 rest.0,
      refl,
      and_from (asked.is_coded (input_column l x) v) (asked.are_coded (map (input_column l) xs) vs) (coded l x v i.1 point.0 point.1 codes.0) rest.2,
    )
read_of l (suc n) (x ∷ xs) (v ∷ vs) i h =
    let point = point_parts x xs v vs h.0 in
    let codes = and_parts (is_listed x v) (are_listed xs vs) h.1 in
    let rest = read_of l n xs vs i.2 (point.2, codes.1) in (
      and_from (is_of x.kind v) (fits_kinds (kinds_of (entries xs)) vs) point.0 rest.0,
      neither (is_null v) (list_any is_null (take n vs)) (ap (λ b. not (b && is_null v)) (sym i.0) ∙ point.1) rest.1,
      and_from (asked.is_coded (input_column l x) v) (asked.are_coded (map (input_column l) xs) vs) (coded l x v i.1 point.0 point.1 codes.0) rest.2,
    )

-- ---- all rows

all_asked : (l : List Text) (n : ℕ) (xs : List Component) (rows : List Row) → IsLed n xs → RowsFit (kinds_of (entries xs)) rows → AllByRecursion (λ r. has_whole_key n r ≡ true) rows → AllByRecursion (λ r. asked.are_coded (map (input_column l) xs) r ≡ true) rows → AllByRecursion (IsAsked xs) rows
all_asked l n xs [] i f w c = tt
all_asked l n xs (r ∷ rows) i f w c = (asked_of l n xs r i (f.0, w.0, c.0), all_asked l n xs rows i f.1 w.1 c.1)

all_read : (l : List Text) (n : ℕ) (xs : List Component) (rows : List Row) → IsLed n xs → AllByRecursion (λ r. is_point xs r ≡ true) rows → AllByRecursion (λ r. are_listed xs r ≡ true) rows → AllByRecursion (IsRead l n xs) rows
all_read l n xs [] i f m = tt
all_read l n xs (r ∷ rows) i f m = (read_of l n xs r i (f.0, m.0), all_read l n xs rows i f.1 m.1)

module _ (ls : NotNull) (e : List ℕ × Structure) (w : IsStructure e.1) (fit : AllByRecursion (λ x. codes_fit x ≡ true) (columns_of e.1)) where
  abbrev s : Structure
  s = e.1

  abbrev names : List Text
  names = not_null_of e.0 ls

  abbrev xs : List Component
  xs = columns_of s

  led : IsLed (key_width s) xs
  led = subst (IsLed (key_width s)) (sym (columns_split s)) (all_led (identifiers_of s) (others_of s) (are_identifiers s) (are_others s) (subst (AllByRecursion (λ x. codes_fit x ≡ true)) (columns_split s) fit))

  same_width : asked.key_width (input_of ls e) ≡ key_width s
  same_width = ap length (key_read ls e w) ∙ length-map (identifiers_of s) (input_column names)

  pub data_asked : (rows : List Row) → IsInputData (input_of ls e) rows → AreAsked s rows
  data_asked rows h =
      let all = all_asked names (key_width s) xs rows led
      (subst (λ cs. RowsFit (kinds_of cs) rows) (columns_read ls e w) h.fit)
      (subst (λ n. AllByRecursion (λ r. has_whole_key n r ≡ true) rows) same_width h.whole)
      (subst (λ cs. AllByRecursion (λ r. asked.are_coded cs r ≡ true) rows) (order_read ls e w) h.coded) in
      record {
        set = record { well_formed = w; typed = all_more (IsAsked xs) (λ r. is_point xs r ≡ true) (λ r a. a.0) rows all; distinct = subst (λ n. all_apart (same_key n) rows ≡ true) same_width h.distinct };
        listed = all_more (IsAsked xs) (λ r. are_listed xs r ≡ true) (λ r a. a.1) rows all;
      }

  pub data_read : (rows : List Row) → AreAsked s rows → IsInputData (input_of ls e) rows
  data_read rows h =
      let all = all_read names (key_width s) xs rows led h.set.typed h.listed in
      record {
        fit = subst (λ cs. RowsFit (kinds_of cs) rows) (sym (columns_read ls e w)) (all_more (IsRead names (key_width s) xs) (λ r. fits_kinds (kinds_of (entries xs)) r ≡ true) (λ r a. a.0) rows all);
        whole = subst (λ n. AllByRecursion (λ r. has_whole_key n r ≡ true) rows) (sym same_width) (all_more (IsRead names (key_width s) xs) (λ r. has_whole_key (key_width s) r ≡ true) (λ r a. a.1) rows all);
        distinct = subst (λ n. all_apart (same_key n) rows ≡ true) (sym same_width) h.set.distinct;
        coded = subst (λ cs. AllByRecursion (λ r. asked.are_coded cs r ≡ true) rows) (sym (order_read ls e w)) (all_more (IsRead names (key_width s) xs) (λ r. asked.are_coded (map (input_column names) xs) r ≡ true) (λ r a. a.2) rows all);
      }
