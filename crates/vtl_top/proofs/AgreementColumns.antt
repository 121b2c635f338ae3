-- An INPUT asks of a file what the structure of its data set asks.
use Rattle.std.proofs.Common.{◌≡◌, ℕ, Bool, true, false, cond, List, [], ◌∷◌, ◌++◌, length, map, Option, Some, None, refl, sym, ap, ◌∙◌, subst, arith, append-nil}
use Rattle.std.specs.Prelude.{unwrap_or}
use Rattle.std.specs.List.{AllByRecursion, filter}
use Rattle.std.proofs.lemmas.List.{length-map, map-append}
use Rattle.std.proofs.lemmas.List.Elements.{filter-append}
use Rattle.vtl_lists.specs.Apart.{all_apart}
use Rattle.vtl_lists.proofs.Alls.{all_append, all_more}
use Rattle.vtl_lists.proofs.Sorts.{AllByRecursion-map}
use Rattle.vtl_lists.proofs.Filters.{filter_all, filter_none}
use Rattle.vtl_decimal.specs.Settings.{Settings}
use Rattle.vtl_tree.specs.Names.{is_among}
use Rattle.vtl_tree.specs.NotNull.{NotNull, not_null_of as list_of}
use Rattle.vtl_tree.specs.Structure.{IsStructure, columns_of, names_of, of_role, same_name, same_role}
use Rattle.vtl_tree.specs.Structures.{codes_fit}
use Rattle.vtl_tree.specs.declared.structure.Component.{Component}
use Rattle.vtl_tree.specs.declared.structure.Role.{Role}
use Rattle.vtl_tree.specs.declared.structure.Role.TheVariants as role
use Rattle.vtl_tree.specs.declared.structure.Structure.{Structure}
use Rattle.vtl_tree.specs.Columns.{identifiers_of, others_of}
use Rattle.vtl_meaning.proofs.OwnColumns.{columns_apart}
use Rattle.vtl_meaning.proofs.Places.{IsIdentifier, IsOther, all_of_map, are_identifiers, are_others, columns_split}
use Rattle.vtl_csv.specs.InputFile.{dataset_rows}
use Rattle.vtl_csv.specs.Plain.{plain, plain_columns}
use Rattle.vtl_csv.specs.StructuresFile.{is_identifier}
use Rattle.vtl_csv.proofs.PlainLemmas.{plain_rows_same}
use Rattle.sql_tree.specs.declared.statements.InputColumn.{InputColumn}
use Rattle.sql_engine.specs.Structures.{component_of, listed_codes, not_null_of, structure_of}
use Rattle.sql_check_parts.specs.Statements.{is_of_key}
use Rattle.vtl_to_sql.specs.Scripts.{input_column, input_of}
use Rattle.selects_to_sql.proofs.Givens.{columns_count}
use Rattle.vtl_to_sql.proofs.ReadTables.{all_among, none_among}
use Rattle.vtl_to_sql.proofs.InputData.{no_codes}
use Rattle.vtl_top.proofs.AgreementLists.{columns_alike, columns_named, rows_alike}

-- ---- one component
codes_again : (x : Component) → codes_fit x ≡ true → listed_codes (unwrap_or x.codes []) ≡ x.codes
codes_again x fit = go x.codes refl
  where
    go : (codes : Option (List (List ℕ))) → x.codes ≡ codes → listed_codes (unwrap_or codes []) ≡ codes
    go None e = refl
    go (Some []) e = absurd (no_codes x e fit)
    go (Some (t ∷ ts)) e = refl

component_again : (list key : List (List ℕ)) (x : Component) → codes_fit x ≡ true → is_of_key key (input_column list x) ≡ is_identifier x → component_of key (input_column list x) ≡ plain x
component_again list key x fit known =
    ap (λ b. record { name = x.name; role = cond b role.Identifier role.Measure; kind = x.kind; codes = listed_codes (unwrap_or x.codes []) }) known
    ∙ ap (λ codes. record { name = x.name; role = cond (is_identifier x) role.Identifier role.Measure; kind = x.kind; codes = codes }) (codes_again x fit)

plain_again : (x : Component) → plain (plain x) ≡ plain x
plain_again x = ap (λ r. record x { role = r }) (go (is_identifier x))
  where
    go : (b : Bool) → cond (same_role (cond b role.Identifier role.Measure) role.Identifier) role.Identifier role.Measure ≡ cond b role.Identifier role.Measure
    go true = refl
    go false = refl

-- ---- components by their roles
of_one_role : (q r : Role) (b : Bool) (xs : List Component) → same_role q r ≡ b → AllByRecursion (λ x. x.role ≡ q) xs → AllByRecursion (λ x. same_role x.role r ≡ b) xs
of_one_role q r b xs e all = all_more (λ x. x.role ≡ q) (λ x. same_role x.role r ≡ b) (λ x i. ap (λ k. same_role k r) i ∙ e) xs all

-- identifiers and then measures are in column order
module _ (ids rest : List Component) (first : AllByRecursion (λ x. x.role ≡ role.Identifier) ids) (others : AllByRecursion (λ x. x.role ≡ role.Measure) rest) where
  abbrev both : Structure
  both = record { components = ids ++ rest }

  kept_parts : (r : Role) → of_role r both ≡ filter (λ x. same_role x.role r) ids ++ filter (λ x. same_role x.role r) rest
  kept_parts r = filter-append (λ x. same_role x.role r) ids rest

  keys_kept : of_role role.Identifier both ≡ ids
  keys_kept =
      kept_parts role.Identifier
      ∙ ap (λ l. l ++ filter is_identifier rest) (filter_all is_identifier ids (of_one_role role.Identifier role.Identifier true ids refl first))
      ∙ ap (λ l. ids ++ l) (filter_none is_identifier rest (of_one_role role.Measure role.Identifier false rest refl others))
      ∙ append-nil ids

  rest_kept : of_role role.Measure both ≡ rest
  rest_kept =
      kept_parts role.Measure
      ∙ ap (λ l. l ++ filter (λ x. same_role x.role role.Measure) rest) (filter_none (λ x. same_role x.role role.Measure) ids (of_one_role role.Identifier role.Measure false ids refl first))
      ∙ filter_all (λ x. same_role x.role role.Measure) rest (of_one_role role.Measure role.Measure true rest refl others)

  none_left : of_role role.Attribute both ≡ []
  none_left =
      kept_parts role.Attribute
      ∙ ap (λ l. l ++ filter (λ x. same_role x.role role.Attribute) rest) (filter_none (λ x. same_role x.role role.Attribute) ids (of_one_role role.Identifier role.Attribute false ids refl first))
      ∙ filter_none (λ x. same_role x.role role.Attribute) rest (of_one_role role.Measure role.Attribute false rest refl others)

  pub columns_stand : columns_of both ≡ ids ++ rest
  columns_stand =
      ap (λ l. l ++ of_role role.Measure both ++ of_role role.Attribute both) keys_kept
      ∙ ap (λ l. ids ++ l ++ of_role role.Attribute both) rest_kept
      ∙ ap (λ l. ids ++ rest ++ l) none_left
      ∙ append-nil (ids ++ rest)

-- ---- the structure of an INPUT
names_again : (list key : List (List ℕ)) (xs : List Component) → names_of (map (component_of key) (map (input_column list) xs)) ≡ names_of xs
names_again list key [] = refl
names_again list key (x ∷ xs) = ap (λ l. x.name ∷ l) (names_again list key xs)

-- what is said of names alone holds of the components of an INPUT
named_again : (list key : List (List ℕ)) (P : List ℕ → Type 0) (xs : List Component) → AllByRecursion (λ x. P x.name) xs → AllByRecursion (λ x. P x.name) (map (component_of key) (map (input_column list) xs))
named_again list key P [] all = tt
named_again list key P (x ∷ xs) all = (all.0, named_again list key P xs all.1)

same_answers : {X : Type 0} (p q : X → Bool) (b : Bool) (xs : List X) → AllByRecursion (λ x. p x ≡ b) xs → AllByRecursion (λ x. q x ≡ b) xs → AllByRecursion (λ x. p x ≡ q x) xs
same_answers p q b [] h i = tt
same_answers p q b (x ∷ xs) h i = (h.0 ∙ sym i.0, same_answers p q b xs h.1 i.1)

module _ (ls : NotNull) (e : List ℕ × Structure) (w : IsStructure e.1) (coded : AllByRecursion (λ x. codes_fit x ≡ true) (columns_of e.1)) where
  abbrev list : List (List ℕ)
  list = list_of e.0 ls

  abbrev column : Component → InputColumn
  column = input_column list

  abbrev ids : List Component
  ids = identifiers_of e.1

  abbrev rest : List Component
  rest = others_of e.1

  abbrev key : List (List ℕ)
  key = names_of ids

  abbrev is_known : Component → Type 0
  is_known x = is_of_key key (column x) ≡ is_identifier x

  all_known : AllByRecursion is_known (columns_of e.1)
  all_known =
      subst (AllByRecursion is_known) (sym (columns_split e.1))
      (all_append is_known ids rest
      (same_answers (λ x. is_of_key key (column x)) is_identifier true ids (all_of_map column (λ c. is_of_key key c ≡ true) ids (all_among list [] ids)) (are_identifiers e.1))
      (same_answers (λ x. is_of_key key (column x)) is_identifier false rest (all_of_map column (λ c. is_of_key key c ≡ false) rest (none_among list ids rest (subst (λ l. all_apart same_name (names_of l) ≡ true) (columns_split e.1) (columns_apart e.1 w)))) (are_others e.1)))

  components_again : (xs : List Component) → AllByRecursion (λ x. codes_fit x ≡ true) xs → AllByRecursion is_known xs → map (component_of key) (map column xs) ≡ map plain xs
  components_again [] fit known = refl
  components_again (x ∷ xs) fit known = ap (λ y. y ∷ map (component_of key) (map column xs)) (component_again list key x fit.0 known.0) ∙ ap (λ l. plain x ∷ l) (components_again xs fit.1 known.1)

  plain_split : map plain (columns_of e.1) ≡ map plain ids ++ map plain rest
  plain_split = ap (map plain) (columns_split e.1) ∙ map-append plain ids rest

  identifiers_plain : AllByRecursion (λ x. x.role ≡ role.Identifier) (map plain ids)
  identifiers_plain = AllByRecursion-map plain (λ x. x.role ≡ role.Identifier) ids (all_more IsIdentifier (λ x. (plain x).role ≡ role.Identifier) (λ x h. ap (λ b. cond b role.Identifier role.Measure) h) ids (are_identifiers e.1))

  others_plain : AllByRecursion (λ x. x.role ≡ role.Measure) (map plain rest)
  others_plain = AllByRecursion-map plain (λ x. x.role ≡ role.Measure) rest (all_more IsOther (λ x. (plain x).role ≡ role.Measure) (λ x h. ap (λ b. cond b role.Identifier role.Measure) h) rest (are_others e.1))

  columns_again : columns_of (structure_of (input_of ls e)) ≡ map plain (columns_of e.1)
  columns_again =
      ap (λ xs. columns_of (record { components = xs })) (components_again (columns_of e.1) coded all_known ∙ plain_split)
      ∙ columns_stand (map plain ids) (map plain rest) identifiers_plain others_plain ∙ sym plain_split

  all_plain_again : (xs : List Component) → map plain (map plain xs) ≡ map plain xs
  all_plain_again [] = refl
  all_plain_again (x ∷ xs) = ap (λ y. y ∷ map plain (map plain xs)) (plain_again x) ∙ ap (λ l. plain x ∷ l) (all_plain_again xs)

  same_plain : plain_columns (structure_of (input_of ls e)) ≡ plain_columns e.1
  same_plain = ap (map plain) columns_again ∙ all_plain_again (columns_of e.1)

  lawful : IsStructure (structure_of (input_of ls e))
  lawful =
      let size : length (structure_of (input_of ls e)).components ≡ length e.1.components = length-map (map column (columns_of e.1)) (component_of key) ∙ length-map (columns_of e.1) column ∙ columns_count e.1 in
      let some = w.some in
      let few = w.few in
      record {
        some = omega (arith, size, some);
        few = omega (arith, size, few);
        distinct = ap (all_apart same_name) (names_again list key (columns_of e.1)) ∙ columns_apart e.1 w;
      }

  -- a file holds the same rows of both, or has the same fault
  pub files_fit_alike : (p : Settings) (text : List ℕ) → dataset_rows p e.1 list text ≡ dataset_rows p (structure_of (input_of ls e)) (not_null_of (input_of ls e)) text
  files_fit_alike p text =
      plain_rows_same p e.1 (structure_of (input_of ls e)) list text w lawful (sym same_plain)
      ∙ rows_alike list (columns_named list (columns_of e.1)) p (structure_of (input_of ls e)) text
      (named_again list key (λ n. is_among n list ≡ is_among n (columns_named list (columns_of e.1))) (columns_of e.1) (columns_alike list (columns_of e.1)))
