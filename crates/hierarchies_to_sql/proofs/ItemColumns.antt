-- The columns of an item's table and of the table of combinations.
use Rattle.std.proofs.Common.{◌≡◌, ◌≤◌, ◌+◌, ℕ, zero, suc, Bool, true, false, not, ◌&&◌, ◌||◌, cond, List, [], ◌∷◌, ◌++◌, length, map, refl, sym, ap, ◌∙◌, subst, arith, append-nil, length-append}
use Rattle.std.specs.List.{AllByRecursion, filter}
use Rattle.std.proofs.lemmas.List.{length-map, map-append}
use Rattle.std.proofs.lemmas.List.Elements.{filter-append}
use Rattle.vtl_lists.specs.Apart.{all_apart}
use Rattle.vtl_lists.proofs.Aparts.{all_apart-filter, apart_parts}
use Rattle.vtl_lists.proofs.Sorts.{AllByRecursion-filter, AllByRecursion-map}
use Rattle.vtl_lists.proofs.Alls.{all_append, all_back, all_filtered, all_front, all_more}
use Rattle.vtl_lists.proofs.Filters.{filter_no_more}
use Rattle.vtl_cell.specs.Literals.{is_null_kind}
use Rattle.vtl_cell.specs.declared.kind.Kind.{Kind}
use Rattle.vtl_cell.specs.declared.kind.Kind.TheVariants as k
use Rattle.vtl_tree.specs.Columns.{identifiers_of, measures_of, others_of, place_of}
use Rattle.vtl_tree.specs.Measures.{made}
use Rattle.vtl_tree.specs.Names.{is_among}
use Rattle.vtl_tree.specs.Structure.{IsStructure, columns_of, most_components, names_of, same_name, same_role}
use Rattle.vtl_tree.specs.declared.structure.Component.{Component}
use Rattle.vtl_tree.specs.declared.structure.Role.{Role}
use Rattle.vtl_tree.specs.declared.structure.Role.TheVariants as role
use Rattle.vtl_tree.specs.declared.structure.Structure.{Structure}
use Rattle.vtl_tree.proofs.NotNullLemmas.{same_itself}
use Rattle.vtl_meaning.specs.Made.{IsColumnAt, attributes_of}
use Rattle.vtl_meaning.specs.Turned.{other_identifiers}
use Rattle.vtl_meaning.proofs.JoinKept.{apart_append, apart_map}
use Rattle.vtl_meaning.proofs.OwnColumns.{columns_apart}
use Rattle.vtl_meaning.proofs.Places.{IsIdentifier, all_of_map, are_identifiers, columns_split, identifier_role, identifiers_apart, place_here, place_later, same_name-sym}
use Rattle.vtl_meaning.proofs.TurnedKept.{others_are, others_identify}
use Rattle.vtl_meaning.proofs.JoinPartners.{all_pass}
use Rattle.vtl_rulings.specs.HierarchyChecks.{Ruled, only_name}
use Rattle.vtl_rulings.specs.HierarchyShapes.{IsItemized, IsNumeric}
use Rattle.sql_tree.specs.Formed.{IsName}
use Rattle.joins_to_sql.specs.FullJoins.{or_spare}
use Rattle.joins_to_sql.specs.Joins.{width_of}
use Rattle.joins_to_sql.proofs.KeyColumns.{keep_none, key_columns, key_identifiers, keys_are_structure, keys_given}
use Rattle.selects_to_sql.specs.Writable.{HaveNames}
use Rattle.selects_to_sql.proofs.Givens.{AreGiven, columns_count}
use Rattle.selects_to_sql.proofs.Sources.{AreApart}
use Rattle.hierarchies_to_sql.specs.ItemTables.{combinations_structure, item_structure, others_structure, there}

-- ---- names

-- a column behind others has another name
differ : (xs : List Component) (y : Component) (ys : List Component) → AreApart (xs ++ (y ∷ ys)) → AllByRecursion (λ x. same_name x.name y.name ≡ false) xs
differ [] y ys e = tt
differ (x ∷ xs) y ys e =
    let parts = apart_parts same_name x.name (names_of (xs ++ (y ∷ ys))) e in
    ((all_back (λ z. same_name x.name z.name ≡ false) xs (y ∷ ys) (all_of_map (λ z. z.name) (λ n. same_name x.name n ≡ false) (xs ++ (y ∷ ys)) parts.0)).0, differ xs y ys parts.1)

-- what holds of all names holds of that of a column
pub name_within : (P : List ℕ → Type 0) (place : ℕ) (name : List ℕ) (kind : Kind) (xs : List Component) → IsColumnAt place name kind xs → AllByRecursion (λ x. P x.name) xs → P name
name_within P place name kind [] i all = absurd i
name_within P zero name kind (x ∷ xs) i all = subst P i.0 all.0
name_within P (suc place) name kind (x ∷ xs) i all = name_within P place name kind xs i all.1

place_behind : (name : List ℕ) (xs ys : List Component) → AllByRecursion (λ x. same_name x.name name ≡ false) xs → place_of name (xs ++ ys) ≡ length xs + place_of name ys
place_behind name [] ys all = omega arith
place_behind name (x ∷ xs) ys all =
    let rest = place_behind name xs ys all.1 in
    let here = place_later name x (xs ++ ys) all.0 in
    omega (arith, rest, here)

-- one identifier is left out
one_less : (id : List ℕ) (place : ℕ) (kind : Kind) (xs : List Component) → IsColumnAt place id kind xs → length (filter (λ x. not (is_among x.name (id ∷ []))) xs) + 1 ≤ length xs
one_less id place kind [] i = absurd i
one_less id zero kind (x ∷ xs) i =
    let left = filter (λ y. not (is_among y.name (id ∷ []))) xs in
    let same : same_name id x.name ≡ true = ap (same_name id) i.0 ∙ same_itself id in
    let few = filter_no_more (λ y. not (is_among y.name (id ∷ []))) xs in
    let size = ap (λ b. length (cond (not (b || false)) (x ∷ left) left)) same in
    omega (arith, few, size)
one_less id (suc place) kind (x ∷ xs) i = go (not (is_among x.name (id ∷ []))) (one_less id place kind xs i)
  where
    left : List Component
    left = filter (λ y. not (is_among y.name (id ∷ []))) xs

    go : (b : Bool) → length left + 1 ≤ length xs → length (cond b (x ∷ left) left) + 1 ≤ length (x ∷ xs)
    go true h = omega (arith, h)
    go false h = omega (arith, h)

numbers_are_kinds : (kind : Kind) → IsNumeric kind → is_null_kind kind ≡ false
numbers_are_kinds k.Int n = refl
numbers_are_kinds k.Num n = refl
numbers_are_kinds k.Null n = absurd n
numbers_are_kinds k.Bool n = absurd n
numbers_are_kinds k.Text n = absurd n
numbers_are_kinds k.Day n = absurd n
numbers_are_kinds k.Period n = absurd n

-- a column of identifiers that has another name
other_name : (id name : List ℕ) → not (is_among name (id ∷ [])) ≡ true → same_name name id ≡ false
other_name id name e = same_name-sym name id ∙ go (same_name id name) e
  where
    go : (b : Bool) → not (b || false) ≡ true → b ≡ false
    go true h = sym h
    go false h = refl

-- what is known of the operand's columns
pub record IsSided (h : Ruled) (a : Structure) : Type 0 where
  pub well : IsStructure a
  pub itemized : IsItemized h a
  pub sole : h.measure ≡ only_name (measures_of a)

module _ (h : Ruled) (a : Structure) (is : IsSided h a) where
  abbrev pub others : List Component
  others = other_identifiers h.id a

  abbrev ids : List Component
  ids = identifiers_of a

  -- an item's table
  abbrev pub t : Structure
  t = item_structure h a

  -- that of the combinations
  abbrev pub keys : Structure
  keys = combinations_structure h a

  abbrev pub behind : List Component
  behind = made h.measure role.Measure h.kind ∷ there h ∷ []

  abbrev is_other : Component → Bool
  is_other y = not (is_among y.name (h.id ∷ []))

  others_is : others ≡ filter is_other ids
  others_is = others_are h.id a.components

  -- what holds of identifiers holds of the others
  pub of_others : (P : Component → Type 0) → AllByRecursion P ids → AllByRecursion P others
  of_others P all = subst (AllByRecursion P) (sym others_is) (AllByRecursion-filter P is_other ids all)

  pub others_apart : AreApart others
  others_apart =
      let namesakes : Component → Component → Bool = λ x y. same_name x.name y.name in
      apart_map (λ x. x.name) same_name others ∙ ap (all_apart namesakes) others_is ∙ all_apart-filter namesakes is_other ids (sym (apart_map (λ x. x.name) same_name ids) ∙ identifiers_apart a is.well)

  -- ---- names

  measures_apart : (ms : List Component) → map (λ y. y.kind) ms ≡ h.kind ∷ [] → measures_of a ≡ ms → AllByRecursion (λ y. same_name y.name (only_name ms) ≡ false) ids
  measures_apart [] e same = cc
  measures_apart (m ∷ []) e same =
      differ ids m (attributes_of a)
      (subst AreApart (columns_split a ∙ ap (λ l. ids ++ (l ++ attributes_of a)) same) (columns_apart a is.well))
  measures_apart (m ∷ n ∷ ms) e same = cc

  not_measure : AllByRecursion (λ y. same_name y.name h.measure ≡ false) ids
  not_measure = subst (λ name. AllByRecursion (λ y. same_name y.name name ≡ false) ids) (sym is.sole) (measures_apart (measures_of a) is.itemized.only refl)

  others_named : AllByRecursion (λ y. same_name y.name h.id ≡ false) others
  others_named =
      subst (AllByRecursion (λ y. same_name y.name h.id ≡ false)) (sym others_is)
      (all_more (λ y. is_other y ≡ true) (λ y. same_name y.name h.id ≡ false) (λ y e. other_name h.id y.name e) (filter is_other ids) (all_filtered is_other ids))

  measure_named : same_name h.measure h.id ≡ false
  measure_named = same_name-sym h.measure h.id ∙ name_within (λ n. same_name n h.measure ≡ false) (place_of h.id ids) h.id k.Text ids is.itemized.coded not_measure

  -- ---- columns

  abbrev identify : AllByRecursion IsIdentifier others
  identify = others_identify h.id a

  none_of : (r : Role) → same_role role.Identifier r ≡ false → AllByRecursion (λ y. same_role y.role r ≡ false) others
  none_of r e = all_more IsIdentifier (λ y. same_role y.role r ≡ false) (λ y i. ap (λ q. same_role q r) (identifier_role y.role i) ∙ e) others identify

  pub item_identifiers : identifiers_of t ≡ others
  item_identifiers = filter-append (λ y. same_role y.role role.Identifier) others behind ∙ ap (λ l. l ++ []) (all_pass (λ y. same_role y.role role.Identifier) others identify) ∙ append-nil others

  pub item_measures : measures_of t ≡ behind
  item_measures = filter-append (λ y. same_role y.role role.Measure) others behind ∙ ap (λ l. l ++ behind) (keep_none (λ y. same_role y.role role.Measure) others (none_of role.Measure refl))

  item_attributes : attributes_of t ≡ []
  item_attributes = filter-append (λ y. same_role y.role role.Attribute) others behind ∙ ap (λ l. l ++ []) (keep_none (λ y. same_role y.role role.Attribute) others (none_of role.Attribute refl))

  pub item_columns : columns_of t ≡ others ++ behind
  item_columns =
      ap (λ l. (l ++ measures_of t) ++ attributes_of t) item_identifiers
      ∙ ap (λ l. (others ++ l) ++ attributes_of t) item_measures
      ∙ ap (λ l. (others ++ behind) ++ l) item_attributes
      ∙ append-nil (others ++ behind)

  pub item_width : width_of t ≡ length others + 2
  item_width = ap length item_columns ∙ length-append others behind

  pub measure_place : place_of h.measure (columns_of t) ≡ length others
  measure_place =
      let one = place_behind h.measure others behind (of_others (λ y. same_name y.name h.measure ≡ false) not_measure) in
      let here = place_here h.measure (made h.measure role.Measure h.kind) (there h ∷ []) (same_itself h.measure) in
      ap (place_of h.measure) item_columns ∙ omega (arith, one, here)

  pub there_place : place_of h.id (columns_of t) ≡ length others + 1
  there_place =
      let one = place_behind h.id others behind others_named in
      let later = place_later h.id (made h.measure role.Measure h.kind) (there h ∷ []) measure_named in
      let here = place_here h.id (there h) [] (same_itself h.id) in
      ap (place_of h.id) item_columns ∙ omega (arith, one, later, here)

  -- ---- structures

  fewer_others : length others + 2 ≤ most_components
  fewer_others =
      let one = one_less h.id (place_of h.id ids) k.Text ids is.itemized.coded in
      let size = ap length others_is in
      let all = columns_count a in
      let split = ap length (columns_split a) ∙ length-append ids (others_of a) in
      let rest = length-append (measures_of a) (attributes_of a) in
      let sole = sym (length-map (measures_of a) (λ y. y.kind)) ∙ ap length is.itemized.only in
      let few = is.well.few in
      omega (arith, one, size, all, split, rest, sole, few)

  pub item_is_structure : IsStructure t
  item_is_structure =
      let size = length-append others behind in
      let low = fewer_others in
      let front : AllByRecursion (λ m. AllByRecursion (λ n. same_name m n ≡ false) (names_of behind)) (names_of others) =
      AllByRecursion-map (λ y. y.name) (λ m. AllByRecursion (λ n. same_name m n ≡ false) (names_of behind)) others
      (both_named others (of_others (λ y. same_name y.name h.measure ≡ false) not_measure) others_named) in
      let last : all_apart same_name (names_of behind) ≡ true = ap (λ b. not (b || false) && true) measure_named in
      record {
        some = omega (arith, size);
        few = omega (arith, size, low);
        distinct = ap (all_apart same_name) (map-append (λ y. y.name) others behind) ∙ apart_append same_name (names_of others) (names_of behind) others_apart last front;
      }
    where
      both_named : (ys : List Component) → AllByRecursion (λ y. same_name y.name h.measure ≡ false) ys → AllByRecursion (λ y. same_name y.name h.id ≡ false) ys → AllByRecursion (λ y. AllByRecursion (λ n. same_name y.name n ≡ false) (names_of behind)) ys
      both_named [] m n = tt
      both_named (y ∷ ys) m n = ((m.0, (n.0, tt)), both_named ys m.1 n.1)

  pub own_others : identifiers_of (others_structure h a) ≡ others
  own_others = all_pass (λ y. same_role y.role role.Identifier) others identify

  pub keys_identifiers : identifiers_of keys ≡ others
  keys_identifiers = key_identifiers (identifiers_of (others_structure h a)) (are_identifiers (others_structure h a)) ∙ own_others

  pub keys_columns : columns_of keys ≡ or_spare others
  keys_columns = key_columns (identifiers_of (others_structure h a)) (are_identifiers (others_structure h a)) ∙ ap or_spare own_others

  few_others : length (identifiers_of (others_structure h a)) ≤ most_components
  few_others = let low = fewer_others in let same = ap length own_others in omega (arith, low, same)

  pub keys_well : IsStructure keys
  keys_well = keys_are_structure (others_structure h a) few_others (subst AreApart (sym own_others) others_apart)

  -- ---- columns of tables

  module _ (na : HaveNames (columns_of a)) (kinds : AllByRecursion (λ y. is_null_kind y.kind ≡ false) ids) where
    ids_named : HaveNames ids
    ids_named = all_front (λ x. IsName x.name) ids (others_of a) (subst HaveNames (columns_split a) na)

    measure_is_name : IsName h.measure
    measure_is_name = name_within (λ n. IsName n) (place_of h.measure (columns_of a)) h.measure h.kind (columns_of a) is.itemized.measured na

    id_is_name : IsName h.id
    id_is_name = name_within (λ n. IsName n) (place_of h.id ids) h.id k.Text ids is.itemized.coded ids_named

    pub item_named : HaveNames (columns_of t)
    item_named = subst HaveNames (sym item_columns) (all_append (λ x. IsName x.name) others behind (of_others (λ x. IsName x.name) ids_named) (measure_is_name, (id_is_name, tt)))

    pub item_given : AreGiven (columns_of t)
    item_given =
        let low = fewer_others in
        let size = item_width in
        record {
          apart = columns_apart t item_is_structure;
          kinds = subst (AllByRecursion (λ y. is_null_kind y.kind ≡ false)) (sym item_columns) (all_append (λ y. is_null_kind y.kind ≡ false) others behind (of_others (λ y. is_null_kind y.kind ≡ false) kinds) (numbers_are_kinds h.kind is.itemized.numeric, (refl, tt)));
          few = omega (arith, low, size);
          some = omega (arith, size);
          named = item_named;
        }

    pub keys_are_given : AreGiven (columns_of keys)
    keys_are_given =
        let own = sym own_others in
        keys_given (others_structure h a) few_others (subst AreApart own others_apart) (subst HaveNames own (of_others (λ x. IsName x.name) ids_named)) (subst (AllByRecursion (λ y. is_null_kind y.kind ≡ false)) own (of_others (λ y. is_null_kind y.kind ≡ false) kinds))
