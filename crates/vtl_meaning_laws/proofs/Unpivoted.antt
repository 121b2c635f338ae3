-- `unpivot` undoes `pivot`.
use Rattle.std.specs.List.{AllByRecursion, filter, list_any}
use Rattle.std.specs.Option.{option_and_then, option_map_or}
use Rattle.std.proofs.Common.{◌≡◌, ℕ, Bool, true, false, cond, ◌&&◌, ◌||◌, List, [], ◌∷◌, ◌++◌, map, length, Option, Some, None, refl, sym, ap, ◌∙◌, true≢false, arith}
use Rattle.std.proofs.lemmas.List.{length-map, map-append}
use Rattle.std.proofs.lemmas.List.Elements.{filter-append}
use Rattle.vtl_lists.specs.Apart.{all_apart}
use Rattle.vtl_lists.proofs.Aparts.{apart_parts, none_same}
use Rattle.vtl_lists.proofs.Alls.{all_back, all_each, all_more}
use Rattle.vtl_lists.proofs.Sorts.{AllByRecursion-map}
use Rattle.vtl_lists.proofs.Filters.{filter_all, filter_none}
use Rattle.vtl_cell.specs.Kinds.{is_null}
use Rattle.vtl_cell.specs.Order.{same_cell}
use Rattle.vtl_cell.specs.Row.{Row, column_of, same_row}
use Rattle.vtl_cell.proofs.Rows.{same_row-is}
use Rattle.vtl_cell.specs.declared.cell.Cell.{Cell}
use Rattle.vtl_cell.specs.declared.cell.Cell.TheVariants as c
use Rattle.vtl_cell.specs.declared.kind.Kind.{Kind}
use Rattle.vtl_tree.specs.Choices.{is_identifier}
use Rattle.vtl_tree.specs.ClauseShapes.{code_measure}
use Rattle.vtl_tree.specs.Columns.{kind_named, measures_of, others_of}
use Rattle.vtl_tree.specs.DataSet.{IsDataSet, look}
use Rattle.vtl_tree.specs.Environment.{DataSet}
use Rattle.vtl_tree.specs.Names.{is_among}
use Rattle.vtl_tree.specs.Structure.{columns_of, key_width, names_of, same_name, same_role}
use Rattle.vtl_tree.specs.declared.structure.Component.{Component}
use Rattle.vtl_tree.specs.declared.structure.Role.{Role}
use Rattle.vtl_tree.specs.declared.structure.Role.TheVariants as role
use Rattle.vtl_tree.specs.declared.structure.Structure.{Structure}
use Rattle.vtl_meaning.specs.Agreement.{key_of, values_in}
use Rattle.vtl_meaning.specs.LookUps.{value_named}
use Rattle.vtl_meaning.specs.Made.{IsPivoted, IsUnpivoted}
use Rattle.vtl_meaning.specs.Points.{with_points}
use Rattle.vtl_meaning.specs.Turned.{coded_value, codes_of, is_coded, named_point, other_identifiers, pivot_of, pivoted_point, unpivot_of}
use Rattle.vtl_meaning.proofs.Looks.{look_key}
use Rattle.vtl_meaning.proofs.Places.{place_here, place_later, same_name-is, columns_split}
use Rattle.vtl_meaning.proofs.TurnedKept.{pivot_kept}
use Rattle.vtl_meaning.proofs.TurnedLooks.{pivot_look, unpivoted_look}
use Rattle.vtl_meaning_laws.proofs.KeptCodes.{left_ones, pivoted_identifiers}
use Rattle.vtl_meaning_laws.proofs.TupleLists.{none_found}
use Rattle.vtl_meaning_laws.proofs.WholeGroups.{AreMeasures, others_behind}

-- ---- values by name
abbrev Differ : List ℕ → List Component → Type 0
Differ name ys = AllByRecursion (λ y. same_name y.name name ≡ false) ys

value_past : (ys ms : List Component) (k vs : Row) (name : List ℕ) → length k ≡ length ys → Differ name ys → value_named (ys ++ ms) (k ++ vs) name ≡ value_named ms vs name
value_past [] ms [] vs name e all = refl
value_past [] ms (v ∷ k) vs name e all = absurd (omega (arith, e))
value_past (y ∷ ys) ms [] vs name e all = absurd (omega (arith, e))
value_past (y ∷ ys) ms (v ∷ k) vs name e all = ap (λ n. column_of n (v ∷ (k ++ vs))) (place_later name y (ys ++ ms) all.0) ∙ value_past ys ms k vs name (omega (arith, e)) all.1

value_of_code : (kind : Kind) (g : List ℕ → Cell) (texts : List (List ℕ)) (name : List ℕ) → is_among name texts ≡ true → value_named (map (code_measure kind) texts) (map g texts) name ≡ g name
value_of_code kind g [] name e = absurd (true≢false (sym e))
value_of_code kind g (t ∷ ts) name e = go (same_name t name) refl e (value_of_code kind g ts name)
  where
    row : Row
    row = g t ∷ map g ts

    go : (b : Bool) → same_name t name ≡ b → (b || is_among name ts) ≡ true → (is_among name ts ≡ true → value_named (map (code_measure kind) ts) (map g ts) name ≡ g name) → value_named (map (code_measure kind) (t ∷ ts)) row name ≡ g name
    go true f h ih = ap (λ n. column_of n row) (place_here name (code_measure kind t) (map (code_measure kind) ts) f) ∙ ap g (same_name-is t name f)
    go false f h ih = ap (λ n. column_of n row) (place_later name (code_measure kind t) (map (code_measure kind) ts) f) ∙ ih h

-- names that are apart differ from one that is among others
differs : (name other : List ℕ) (ns : List (List ℕ)) → AllByRecursion (λ n. same_name other n ≡ false) ns → is_among name ns ≡ true → same_name other name ≡ false
differs name other [] all e = absurd (true≢false (sym e))
differs name other (n ∷ ns) all e = go (same_name n name) refl e (differs name other ns all.1)
  where
    go : (b : Bool) → same_name n name ≡ b → (b || is_among name ns) ≡ true → (is_among name ns ≡ true → same_name other name ≡ false) → same_name other name ≡ false
    go true f h ih = ap (same_name other) (sym (same_name-is n name f)) ∙ all.0
    go false f h ih = ih h

all_differ : (name : List ℕ) (ys : List Component) (ns : List (List ℕ)) → all_apart same_name (names_of ys ++ ns) ≡ true → is_among name ns ≡ true → Differ name ys
all_differ name [] ns apart e = tt
all_differ name (y ∷ ys) ns apart e =
    let parts = apart_parts same_name y.name (names_of ys ++ ns) apart in
    (differs name y.name ns (all_back (λ n. same_name y.name n ≡ false) (names_of ys) ns parts.0) e, all_differ name ys ns parts.1 e)

names_of_codes : (kind : Kind) (texts : List (List ℕ)) → names_of (map (code_measure kind) texts) ≡ texts
names_of_codes kind [] = refl
names_of_codes kind (t ∷ ts) = ap (λ l. t ∷ l) (names_of_codes kind ts)

-- ---- what comes back
module _ (id m name value : List ℕ) (d : DataSet) (s u : Structure) (i : IsPivoted id m d.structure s) (j : IsUnpivoted name value s u) (h : IsDataSet d.structure d.points) (k : Row) (code : List ℕ) (there : is_among code (codes_of id d.structure) ≡ true) where
  abbrev a : Structure
  a = d.structure

  abbrev ids : List Component
  ids = other_identifiers id a

  abbrev texts : List (List ℕ)
  texts = codes_of id a

  abbrev kind : Kind
  kind = kind_named m (columns_of a)

  abbrev codes_are : List Component
  codes_are = map (code_measure kind) texts

  are_measures : AreMeasures codes_are
  are_measures = AllByRecursion-map (code_measure kind) (λ x. same_role x.role role.Measure ≡ true) texts (all_each (λ t. same_role (code_measure kind t).role role.Measure ≡ true) (λ t. refl) texts)

  columns_are : columns_of s ≡ ids ++ codes_are
  columns_are = columns_split s ∙ ap (λ l. l ++ others_of s) (pivoted_identifiers id m a s i) ∙ ap (λ l. ids ++ l) (others_behind s ids codes_are i.shape (left_ones (id ∷ []) a.components) are_measures)

  measures_are : measures_of s ≡ codes_are
  measures_are =
      let test : Component → Bool = λ x. same_role x.role role.Measure in
      ap (filter test) i.shape ∙ filter-append test ids codes_are
      ∙ ap (λ l. l ++ filter test codes_are) (filter_none test ids (all_more (λ x. is_identifier x ≡ true) (λ x. test x ≡ false) (λ x f. no_measure x.role f) ids (left_ones (id ∷ []) a.components)))
      ∙ filter_all test codes_are are_measures
    where
      no_measure : (r : Role) → same_role r role.Identifier ≡ true → same_role r role.Measure ≡ false
      no_measure role.Identifier f = refl
      no_measure role.Measure f = absurd (true≢false (sym f))
      no_measure role.Attribute f = refl

  among_measures : is_among code (names_of (measures_of s)) ≡ true
  among_measures = ap (λ ms. is_among code (names_of ms)) measures_are ∙ ap (is_among code) (names_of_codes kind texts) ∙ there

  identifiers_differ : Differ code ids
  identifiers_differ =
      all_differ code ids texts
      (ap (λ ns. all_apart same_name (names_of ids ++ ns)) (sym (names_of_codes kind texts)) ∙ ap (all_apart same_name) (sym (map-append (λ x. x.name) ids codes_are)) ∙ ap (λ l. all_apart same_name (names_of l)) (sym i.shape) ∙ i.well_formed.distinct) there

  abbrev made : Cell
  made = coded_value d id m k code

  abbrev point : Row
  point = pivoted_point d id m k

  abbrev has_key : Bool
  has_key = list_any (λ r. same_row (values_in a ids r) k) d.points

  key_is : look (key_width s) (pivot_of d id m) k ≡ Some point → key_of s point ≡ k
  key_is e = look_key (key_width s) (pivot_of d id m) k point e

  value_is : length k ≡ length ids → value_named (columns_of s) point code ≡ made
  value_is e = ap (λ zs. value_named zs point code) columns_are ∙ value_past ids codes_are k (map (coded_value d id m k) texts) code e identifiers_differ ∙ value_of_code kind (coded_value d id m k) texts code there

  -- a tuple of which there is a point has a cell for all_each of the other identifiers
  wide : (l : List Row) → list_any (λ r. same_row (values_in a ids r) k) l ≡ true → length k ≡ length ids
  wide [] e = absurd (true≢false (sym e))
  wide (r ∷ l) e = go (same_row (values_in a ids r) k) refl e (wide l)
    where
      go : (b : Bool) → same_row (values_in a ids r) k ≡ b → (b || list_any (λ q. same_row (values_in a ids q) k) l) ≡ true → (list_any (λ q. same_row (values_in a ids q) k) l ≡ true → length k ≡ length ids) → length k ≡ length ids
      go true f g ih = ap length (sym (same_row-is (values_in a ids r) k f)) ∙ length-map ids (λ y. value_named (columns_of a) r y.name)
      go false f g ih = ih g

  no_value : has_key ≡ false → made ≡ c.Null
  no_value e =
      ap (λ o. option_map_or (λ r. value_named (columns_of a) r m) o c.Null)
      (none_found (is_coded a id k code) d.points
      (all_more (λ r. same_row (values_in a ids r) k ≡ false) (λ r. is_coded a id k code r ≡ false) (λ r f. ap (λ b. b && same_cell (value_named (columns_of a) r id) (c.Text code)) f) d.points (none_same (λ r. same_row (values_in a ids r) k) d.points e)))

  pub undone : look (key_width u) (unpivot_of (with_points s (pivot_of d id m))) (k ++ c.Text code ∷ []) ≡ cond (is_null made) None (Some (k ++ c.Text code ∷ made ∷ []))
  undone =
      unpivoted_look name value s u j i.well_formed (pivot_of d id m) (pivot_kept id m d s i h) k code among_measures ∙ go has_key refl
    where
      f : Row → Option Row
      f r = named_point s r code (value_named (columns_of s) r code)

      go : (b : Bool) → has_key ≡ b → option_and_then f (look (key_width s) (pivot_of d id m) k) ≡ cond (is_null made) None (Some (k ++ c.Text code ∷ made ∷ []))
      go true e =
          let found : look (key_width s) (pivot_of d id m) k ≡ Some point = pivot_look id m d s i h k ∙ ap (λ b. cond b (Some point) None) e in
          ap (option_and_then f) found ∙ ap (named_point s point code) (value_is (wide d.points e))
          ∙ ap (λ z. cond (is_null made) None (Some (z ++ c.Text code ∷ made ∷ []))) (key_is found)
      go false e =
          ap (option_and_then f) (pivot_look id m d s i h k ∙ ap (λ b. cond b (Some point) None) e)
          ∙ sym (ap (λ v. cond (is_null v) None (Some (k ++ c.Text code ∷ v ∷ []))) (no_value e))
