-- Full joins, from the keys of all operands; and cross joins, all combinations.
use Rattle.lineage_laws.proofs.Columns.{IsIdentifierOf, agree_joined, same_values}
use Rattle.lineage_laws.proofs.Joins.{AreTwins, Found, Twin, first_of, operand_in, part_agrees, second_of, tuple_agrees}
use Rattle.lineage_laws.proofs.Rows.{agree_append, agree_key, agree_self}
use Rattle.lineage_laws.proofs.Togethers.{together_append, together_find, together_flat, together_map, together_once}
use Rattle.lineage_laws.specs.Agree.{Agree, Agreeing, IsKnown, Known, Together, and, both, no_cells, none}
use Rattle.std.proofs.Common.{◌≡◌, List, [], ◌∷◌, ◌++◌, length, map, Option, Some, refl, sym, ap, ◌∙◌, subst, append_assoc}
use Rattle.std.proofs.lemmas.List.{length-map, map-append}
use Rattle.std.specs.List.{AllByRecursion, flat_map}
use Rattle.vtl_lists.proofs.Alls.{all_more}
use Rattle.vtl_cell.specs.Row.{Row, same_row}
use Rattle.vtl_cell.specs.declared.kind.Kind.{Kind}
use Rattle.vtl_meaning.specs.Agreement.{OperandPoint, key_of, operand_point, operand_points, values_in}
use Rattle.vtl_meaning.specs.Joined.{all_keys, attributes_in, cross_tuples, crossed, keys_in, measures_in, present, tuple_at, tuple_point, values_or_nulls}
use Rattle.vtl_meaning.specs.LookUps.{value_named}
use Rattle.vtl_meaning.specs.Made.{component_kinds, kinds_of_all}
use Rattle.vtl_tree.specs.Columns.{identifiers_of, measures_of}
use Rattle.vtl_tree.specs.Environment.{DataSet}
use Rattle.vtl_tree.specs.Structure.{columns_of, of_role}
use Rattle.vtl_tree.specs.declared.structure.Component.{Component}
use Rattle.vtl_tree.specs.declared.structure.Role.TheVariants as role
use Rattle.vtl_tree.specs.declared.structure.Structure.{Structure}
use Rattle.vtl_tuples.specs.Keys.{item_at}
use Rattle.vtl_tuples.specs.Tuples.{combinations}
use Rattle.vtl_sources.specs.Links.{Pairs}
use Rattle.lineage_laws.specs.Over.{attribute_sources, columns_from, each_source, measure_sources, no_pairs, of_join}

abbrev pub structure_in : Twin → Structure
structure_in x = x.operand.structure

module _ (known : Known) (s : Structure) where
  -- ---- `full_join`
  -- one key of as many cells
  abbrev pub Keys : Row → Row → Type 0
  Keys k j = (k ≡ j) × (length k ≡ length (identifiers_of s))

  module _ (ids : List Component) (width : length ids ≡ length (identifiers_of s)) where
    -- an operand has these identifiers
    abbrev pub HasIds : Twin → Type 0
    HasIds x = AreTwins known x × AllByRecursion (λ y. IsIdentifierOf x.operand.structure y.name) ids

    own_keys : (x : Twin) → HasIds x → Together Keys (keys_in ids (first_of x)) (keys_in ids (second_of x))
    own_keys x h =
        let a = x.operand in
        together_map (Agree known (columns_from a.structure a.sources)) Keys (values_in a.structure ids) (values_in a.structure ids)
        (λ r q g. (same_values known a r q g ids h.1, length-map ids (λ y. value_named (columns_of a.structure) r y.name) ∙ width)) x.first x.second h.0.agree

    keys_together : (l : List Twin) → AllByRecursion HasIds l → Together Keys (flat_map (keys_in ids) (map first_of l)) (flat_map (keys_in ids) (map second_of l))
    keys_together [] all = none
    keys_together (x ∷ l) all = together_append Keys (keys_in ids (first_of x)) (keys_in ids (second_of x)) (flat_map (keys_in ids) (map first_of l)) (flat_map (keys_in ids) (map second_of l)) (own_keys x all.0) (keys_together l all.1)

    -- the points of a tuple at one key
    pub key_tuple_agrees : (l : List Twin) → AllByRecursion HasIds l → (k j : Row) → Keys k j → Agree known (columns_from s (of_join (map operand_in l))) (tuple_point (tuple_at ids (map first_of l) k)) (tuple_point (tuple_at ids (map second_of l) j))
    key_tuple_agrees l all k j g =
        let one : DataSet → Option Row = λ d. item_at same_row (values_in d.structure ids) d.points k in
        let two : DataSet → Option Row = λ d. item_at same_row (values_in d.structure ids) d.points j in
        tuple_agrees known one two s k j l
        (all_more HasIds (Found known one two) (λ x h. (h.0.points, together_find (Agree known (columns_from x.operand.structure x.operand.sources)) (λ r. same_row (values_in x.operand.structure ids r) k) (λ r. same_row (values_in x.operand.structure ids r) j) (λ r q w i. same_row (same_values known x.operand r q w ids h.1 i) (g.0 i)) x.first x.second h.0.agree)) l all)
        (subst (λ z. Agree known (map (λ y. no_pairs) (identifiers_of s)) k z) g.0 (agree_self known (map (λ y. no_pairs) (identifiers_of s)) k (length-map (identifiers_of s) (λ y. no_pairs) ∙ sym g.1)))

    pub full_agrees : (l : List Twin) → AllByRecursion HasIds l → Agreeing known (columns_from s (of_join (map operand_in l))) (map tuple_point (map (tuple_at ids (map first_of l)) (all_keys ids (map first_of l)))) (map tuple_point (map (tuple_at ids (map second_of l)) (all_keys ids (map second_of l))))
    full_agrees l all =
        let Q = Agree known (columns_from s (of_join (map operand_in l))) in
        together_map (λ t u. Q (tuple_point t) (tuple_point u)) Q tuple_point tuple_point (λ t u g. g) (map (tuple_at ids (map first_of l)) (all_keys ids (map first_of l))) (map (tuple_at ids (map second_of l)) (all_keys ids (map second_of l)))
        (together_map Keys (λ t u. Q (tuple_point t) (tuple_point u)) (tuple_at ids (map first_of l)) (tuple_at ids (map second_of l)) (key_tuple_agrees l all) (all_keys ids (map first_of l)) (all_keys ids (map second_of l))
        (together_once Keys same_row same_row (λ k j m n g h i. same_row (g.0 i) (h.0 i)) (flat_map (keys_in ids) (map first_of l)) (flat_map (keys_in ids) (map second_of l)) (keys_together l all)))

  -- ---- `cross_join`
  data PointOf (x : Twin) : OperandPoint → OperandPoint → Type 0 where
    point_of : {r q : Row} → Agree known (columns_from x.operand.structure x.operand.sources) r q → PointOf x (operand_point x.operand.structure r) (operand_point x.operand.structure q)

  -- a combination of points of all operands in both runs
  data Combined : List Twin → List OperandPoint → List OperandPoint → Type 0 where
    done : Combined [] [] []
    more : {x : Twin} {l : List Twin} {u v : OperandPoint} {us vs : List OperandPoint} → PointOf x u v → Combined l us vs → Combined (x ∷ l) (u ∷ us) (v ∷ vs)

  points_of : (x : Twin) (d t : List Row) → Together (Agree known (columns_from x.operand.structure x.operand.sources)) d t → Together (PointOf x) (map (operand_point x.operand.structure) d) (map (operand_point x.operand.structure) t)
  points_of x d t g = together_map (Agree known (columns_from x.operand.structure x.operand.sources)) (PointOf x) (operand_point x.operand.structure) (operand_point x.operand.structure) (λ r q h. point_of h) d t g

  combined : (l : List Twin) → AllByRecursion (AreTwins known) l → Together (Combined l) (combinations (map operand_points (map first_of l))) (combinations (map operand_points (map second_of l)))
  combined [] all = and done none
  combined (x ∷ l) all =
      let us = combinations (map operand_points (map first_of l)) in
      let vs = combinations (map operand_points (map second_of l)) in
      together_flat (PointOf x) (Combined (x ∷ l)) (λ u. map (λ t. u ∷ t) us) (λ v. map (λ t. v ∷ t) vs)
      (λ u v g. together_map (Combined l) (Combined (x ∷ l)) (λ t. u ∷ t) (λ t. v ∷ t) (λ a b h. more g h) us vs (combined l all.1))
      (operand_points (first_of x)) (operand_points (second_of x)) (points_of x x.first x.second all.0.agree)

  own_key : (pts : Pairs) (x : Twin) (u v : OperandPoint) → IsKnown known x.operand.sources.points → PointOf x u v → Agree known (map (λ y. pts) (identifiers_of x.operand.structure)) (key_of u.structure u.point) (key_of v.structure v.point)
  own_key pts x _ _ h (point_of {r = r} {q = q} g) = agree_key known x.operand r q g pts

  constants : {A : Type 0} (pts : Pairs) (f : Component → A) (ys : List Component) → map (λ a. pts) (map f ys) ≡ map (λ y. pts) ys
  constants pts f [] = refl
  constants pts f (y ∷ ys) = ap (λ l. pts ∷ l) (constants pts f ys)

  keys_agree : (pts : Pairs) (l : List Twin) (us vs : List OperandPoint) → AllByRecursion (AreTwins known) l → Combined l us vs → Agree known (map (λ k. pts) (kinds_of_all identifiers_of (map structure_in l))) (flat_map (λ x. key_of x.structure x.point) us) (flat_map (λ x. key_of x.structure x.point) vs)
  keys_agree pts _ _ _ all done = no_cells
  keys_agree pts _ _ _ all (more {x = x} {l = l} {u = u} {v = v} {us = us} {vs = vs} g h) =
      let kinds = component_kinds (identifiers_of x.operand.structure) in
      let split = map-append (λ (k : Kind). pts) kinds (kinds_of_all identifiers_of (map structure_in l)) ∙ ap (λ z. z ++ map (λ k. pts) (kinds_of_all identifiers_of (map structure_in l))) (constants pts (λ y. y.kind) (identifiers_of x.operand.structure)) in
      subst (λ z. Agree known z (key_of u.structure u.point ++ flat_map (λ y. key_of y.structure y.point) us) (key_of v.structure v.point ++ flat_map (λ y. key_of y.structure y.point) vs)) (sym split)
      (agree_append known (map (λ y. pts) (identifiers_of x.operand.structure)) (key_of u.structure u.point) (key_of v.structure v.point) (map (λ k. pts) (kinds_of_all identifiers_of (map structure_in l))) (flat_map (λ y. key_of y.structure y.point) us) (flat_map (λ y. key_of y.structure y.point) vs)
      (own_key pts x u v all.0.points g) (keys_agree pts l us vs all.1 h))

  own_part : (f : Structure → List Component) (x : Twin) (u v : OperandPoint) → IsKnown known x.operand.sources.points → PointOf x u v
      → Agree known (each_source x.operand (f x.operand.structure)) (values_or_nulls u.structure (f u.structure) (Some u.point)) (values_or_nulls v.structure (f v.structure) (Some v.point))
  own_part f x _ _ h (point_of {r = r} {q = q} g) = part_agrees known x.operand h (f x.operand.structure) (Some r) (Some q) (both g)

  values_agree : (f : Structure → List Component) (l : List Twin) (us vs : List OperandPoint) → AllByRecursion (AreTwins known) l → Combined l us vs
      → Agree known (flat_map (λ a. each_source a (f a.structure)) (map operand_in l)) (flat_map (λ p. values_or_nulls p.structure (f p.structure) p.point) (map present us)) (flat_map (λ p. values_or_nulls p.structure (f p.structure) p.point) (map present vs))
  values_agree f _ _ _ all done = no_cells
  values_agree f _ _ _ all (more {x = x} {l = l} {u = u} {v = v} {us = us} {vs = vs} g h) =
      agree_append known (each_source x.operand (f x.operand.structure)) (values_or_nulls u.structure (f u.structure) (Some u.point)) (values_or_nulls v.structure (f v.structure) (Some v.point))
      (flat_map (λ a. each_source a (f a.structure)) (map operand_in l)) (flat_map (λ p. values_or_nulls p.structure (f p.structure) p.point) (map present us)) (flat_map (λ p. values_or_nulls p.structure (f p.structure) p.point) (map present vs))
      (own_part f x u v all.0.points g) (values_agree f l us vs all.1 h)

  pub cross_agrees : (l : List Twin) → AllByRecursion (AreTwins known) l → component_kinds (identifiers_of s) ≡ kinds_of_all identifiers_of (map structure_in l) → Agreeing known (columns_from s (of_join (map operand_in l))) (map tuple_point (cross_tuples (map first_of l))) (map tuple_point (cross_tuples (map second_of l)))
  cross_agrees l all e =
      let os = map operand_in l in
      let pts = no_pairs in
      let Q = Agree known (columns_from s (of_join os)) in
      let us = combinations (map operand_points (map first_of l)) in
      let vs = combinations (map operand_points (map second_of l)) in
      let K : List OperandPoint → Row = λ a. flat_map (λ x. key_of x.structure x.point) a in
      let M : List OperandPoint → Row = λ a. flat_map measures_in (map present a) in
      let A : List OperandPoint → Row = λ a. flat_map attributes_in (map present a) in
      let ids : (a b : List OperandPoint) → Combined l a b → Agree known (map (λ y. pts) (identifiers_of s)) (K a) (K b) = λ a b h.
      subst (λ z. Agree known z (K a) (K b)) (ap (map (λ (k : Kind). pts)) (sym e) ∙ constants pts (λ y. y.kind) (identifiers_of s)) (keys_agree pts l a b all h) in
      let one : (a b : List OperandPoint) → Combined l a b → Q (tuple_point (crossed a)) (tuple_point (crossed b)) = λ a b h.
      subst (λ z. Q z (tuple_point (crossed b))) (sym (append_assoc (K a) (M a) (A a)))
      (subst (λ z. Q (K a ++ (M a ++ A a)) z) (sym (append_assoc (K b) (M b) (A b)))
      (agree_joined known pts (identifiers_of s) (flat_map measure_sources os ++ flat_map attribute_sources os) (K a) (K b) (M a ++ A a) (M b ++ A b) (ids a b h)
      (agree_append known (flat_map measure_sources os) (M a) (M b) (flat_map attribute_sources os) (A a) (A b) (values_agree measures_of l a b all h) (values_agree (of_role role.Attribute) l a b all h)))) in
      together_map (λ t u. Q (tuple_point t) (tuple_point u)) Q tuple_point tuple_point (λ t u g. g) (map crossed us) (map crossed vs)
      (together_map (Combined l) (λ t u. Q (tuple_point t) (tuple_point u)) crossed crossed one us vs (combined l all))
