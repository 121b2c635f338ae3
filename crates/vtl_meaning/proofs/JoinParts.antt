-- The point of a tuple fits the columns of the joined set, where its parts are points of the operands.
use Rattle.std.proofs.Common.{◌≡◌, Bool, true, false, ◌&&◌, List, [], ◌∷◌, ◌++◌, cond, map, take, Option, Some, None, refl, sym, ap, ◌∙◌, subst, append_assoc}
use Rattle.std.specs.List.{AllByRecursion, find, flat_map}
use Rattle.std.proofs.lemmas.Bool.{and_parts}
use Rattle.std.proofs.lemmas.List.{map-append}
use Rattle.vtl_lists.proofs.Alls.{all_back, all_more}
use Rattle.vtl_cell.specs.Kinds.{is_of}
use Rattle.vtl_cell.specs.Row.{Row}
use Rattle.vtl_cell.specs.declared.kind.Kind.{Kind}
use Rattle.vtl_rows.specs.Tables.{fits_kinds}
use Rattle.vtl_syntax.specs.declared.word_groups.JoinKind.{JoinKind}
use Rattle.vtl_tree.specs.DataSet.{IsDataSet, is_point}
use Rattle.vtl_tree.specs.Environment.{DataSet}
use Rattle.vtl_tree.specs.Structure.{IsStructure, columns_of, key_width}
use Rattle.vtl_tree.specs.declared.structure.Component.{Component}
use Rattle.vtl_tree.specs.declared.structure.Structure.{Structure}
use Rattle.vtl_tuples.proofs.Lists.{map-map}
use Rattle.vtl_tree.specs.Columns.{identifiers_of, measures_of, others_of, place_of}
use Rattle.vtl_meaning.specs.Joined.{Part, Tuple, attributes_in, measures_in, part_of, structures_of, tuple_point, values_or_nulls}
use Rattle.vtl_meaning.specs.LookUps.{values_named}
use Rattle.vtl_meaning.specs.Made.{AreAmong, IsColumnAt, IsJoined, attributes_of, component_kinds, kinds_of_all}
use Rattle.vtl_meaning.proofs.LookUps.{named_cells}
use Rattle.vtl_meaning.proofs.OwnColumns.{own_columns, own_measures}
use Rattle.vtl_meaning.proofs.Places.{are_others, cells_fit, columns_split, joined_point_is, key_of_joined}
use Rattle.vtl_meaning.proofs.ValueKinds.{null_is_of}

-- ---- cells of their kinds
pub fits_append : (ks ls : List Kind) (r q : Row) → fits_kinds ks r ≡ true → fits_kinds ls q ≡ true → fits_kinds (ks ++ ls) (r ++ q) ≡ true
fits_append [] ls [] q h i = i
fits_append [] ls (v ∷ r) q h i = cc
fits_append (x ∷ ks) ls [] q h i = cc
fits_append (x ∷ ks) ls (v ∷ r) q h i =
    let parts = and_parts (is_of x v) (fits_kinds ks r) h in
    ap (λ b. b && fits_kinds (ks ++ ls) (r ++ q)) parts.0 ∙ fits_append ks ls r q parts.1 i

named_fit : (ys xs : List Component) (r : Row) → AreAmong ys xs → is_point xs r ≡ true → fits_kinds (component_kinds ys) (values_named xs ys r) ≡ true
named_fit ys xs r all h = ap (fits_kinds (component_kinds ys)) (sym (named_cells xs ys r)) ∙ cells_fit ys xs r all h

nulls_fit : (a : Structure) (ys : List Component) → fits_kinds (component_kinds ys) (values_or_nulls a ys None) ≡ true
nulls_fit a [] = refl
nulls_fit a (y ∷ ys) = ap (λ b. b && fits_kinds (component_kinds ys) (values_or_nulls a ys None)) (null_is_of y.kind) ∙ nulls_fit a ys

-- ---- parts
-- a part is missing, or a point of its operand
pub record IsPart (p : Part) : Type 0 where
  pub well_formed : IsStructure p.structure
  pub typed : (q : Row) → p.point ≡ Some q → is_point (columns_of p.structure) q ≡ true

pub own_attributes : (a : Structure) → IsStructure a → AreAmong (attributes_of a) (columns_of a)
own_attributes a w = all_back (λ y. IsColumnAt (place_of y.name (columns_of a)) y.name y.kind (columns_of a)) (identifiers_of a ++ measures_of a) (attributes_of a) (own_columns a w)

part_fits : (ys : List Component) (a : Structure) (o : Option Row) → AreAmong ys (columns_of a) → ((q : Row) → o ≡ Some q → is_point (columns_of a) q ≡ true) → fits_kinds (component_kinds ys) (values_or_nulls a ys o) ≡ true
part_fits ys a None i h = nulls_fit a ys
part_fits ys a (Some q) i h = named_fit ys (columns_of a) q i (h q refl)

all_fit : (f : Structure → List Component) (g : Part → Row) (ps : List Part) → AllByRecursion (λ p. fits_kinds (component_kinds (f p.structure)) (g p) ≡ true) ps → fits_kinds (kinds_of_all f (map (λ p. p.structure) ps)) (flat_map g ps) ≡ true
all_fit f g [] all = refl
all_fit f g (p ∷ ps) all = fits_append (component_kinds (f p.structure)) (kinds_of_all f (map (λ q. q.structure) ps)) (g p) (flat_map g ps) all.0 (all_fit f g ps all.1)

measures_fit : (ps : List Part) → AllByRecursion IsPart ps → fits_kinds (kinds_of_all measures_of (map (λ p. p.structure) ps)) (flat_map measures_in ps) ≡ true
measures_fit ps all = all_fit measures_of measures_in ps (all_more IsPart (λ p. fits_kinds (component_kinds (measures_of p.structure)) (measures_in p) ≡ true) (λ p h. part_fits (measures_of p.structure) p.structure p.point (own_measures p.structure h.well_formed) h.typed) ps all)

attributes_fit : (ps : List Part) → AllByRecursion IsPart ps → fits_kinds (kinds_of_all attributes_of (map (λ p. p.structure) ps)) (flat_map attributes_in ps) ≡ true
attributes_fit ps all = all_fit attributes_of attributes_in ps (all_more IsPart (λ p. fits_kinds (component_kinds (attributes_of p.structure)) (attributes_in p) ≡ true) (λ p h. part_fits (attributes_of p.structure) p.structure p.point (own_attributes p.structure h.well_formed) h.typed) ps all)

-- identifiers of the joined set, and a part of each operand, make a point with these identifiers
pub tuple_is : (kind : JoinKind) (ss : List Structure) (s : Structure) (t : Tuple) → IsJoined kind ss s → map (λ p. p.structure) t.parts ≡ ss → AllByRecursion IsPart t.parts → is_point (identifiers_of s) t.identifiers ≡ true
    → (is_point (columns_of s) (tuple_point t) ≡ true) × (take (key_width s) (tuple_point t) ≡ t.identifiers)
tuple_is kind ss s t i e all h =
    let ks = kinds_of_all measures_of (map (λ p. p.structure) t.parts) in
    let ls = kinds_of_all attributes_of (map (λ p. p.structure) t.parts) in
    let rest = flat_map measures_in t.parts ++ flat_map attributes_in t.parts in
    let same : component_kinds (others_of s) ≡ ks ++ ls =
    map-append (λ x. x.kind) (measures_of s) (attributes_of s) ∙ ap (λ l. l ++ component_kinds (attributes_of s)) (i.measures ∙ ap (kinds_of_all measures_of) (sym e)) ∙ ap (λ l. ks ++ l) (i.attributes ∙ ap (kinds_of_all attributes_of) (sym e)) in
    let fits : fits_kinds (component_kinds (others_of s)) rest ≡ true = ap (λ l. fits_kinds l rest) same ∙ fits_append ks ls (flat_map measures_in t.parts) (flat_map attributes_in t.parts) (measures_fit t.parts all) (attributes_fit t.parts all) in
    let shape : tuple_point t ≡ t.identifiers ++ rest = append_assoc t.identifiers (flat_map measures_in t.parts) (flat_map attributes_in t.parts) in (
      ap (λ r. is_point (columns_of s) r) shape ∙ joined_point_is s (others_of s) t.identifiers rest (columns_split s) (are_others s) h fits,
      ap (take (key_width s)) shape ∙ key_of_joined s t.identifiers rest h,
    )

-- ---- parts that are found
-- each operand is a data set
abbrev pub AreSets : List DataSet → Type 0
AreSets ds = AllByRecursion (λ d. IsDataSet d.structure d.points) ds

-- what is found is one of the items
pub found_is : {X : Type 0} (P : X → Type 0) (p : X → Bool) (xs : List X) (x : X) → AllByRecursion P xs → find p xs ≡ Some x → P x
found_is P p [] x all e = cc
found_is P p (y ∷ xs) x all e = go (p y) e (found_is P p xs x all.1)
  where
    go : (b : Bool) → cond b (Some y) (find p xs) ≡ Some x → (find p xs ≡ Some x → P x) → P x
    go true h ih = let same : y ≡ x = cc in subst P same all.0
    go false h ih = ih h

-- of each operand the first point that passes a test
abbrev pub parts_by : (DataSet → Row → Bool) → List DataSet → List Part
parts_by test ds = map (λ d. part_of d (find (test d) d.points)) ds

pub parts_are : (test : DataSet → Row → Bool) (ds : List DataSet) → AreSets ds → AllByRecursion IsPart (parts_by test ds)
parts_are test [] all = tt
parts_are test (d ∷ ds) all =
    (record { well_formed = all.0.well_formed; typed = λ q e. found_is (λ z. is_point (columns_of d.structure) z ≡ true) (test d) d.points q all.0.typed e }, parts_are test ds all.1)

pub parts_of_operands : (test : DataSet → Row → Bool) (ds : List DataSet) → map (λ p. p.structure) (parts_by test ds) ≡ structures_of ds
parts_of_operands test ds = map-map (λ p. p.structure) (λ d. part_of d (find (test d) d.points)) ds
