-- Joins and set operators: several operands at once, each with its points in both runs.
use Rattle.lineage_laws.proofs.Columns.{IsIdentifierOf, agree_ids, agree_joined, agree_left, agree_named, among_identifiers, own_identifier_names, same_values}
use Rattle.lineage_laws.proofs.Pairs.{among_any, together_look}
use Rattle.lineage_laws.proofs.Rows.{agree_append, agree_map, key_same}
use Rattle.lineage_laws.proofs.Togethers.{both_some, together_append, together_filter, together_find, together_map, together_once}
use Rattle.lineage_laws.specs.Agree.{Agree, Agreeing, Both, IsKnown, Known, Together, both, neither, no_cells, none}
use Rattle.std.proofs.Common.{◌≡◌, true, not, ◌&&◌, List, [], ◌∷◌, ◌++◌, map, take, Option, refl, sym, ap, ◌∙◌, subst, append_assoc}
use Rattle.std.specs.List.{AllByRecursion, flat_map, list_all}
use Rattle.std.specs.Prelude.{is_some}
use Rattle.vtl_cell.specs.Row.{Row, same_key, same_row}
use Rattle.vtl_cell.specs.declared.cell.Cell.TheVariants as c
use Rattle.vtl_lists.proofs.Sorts.{AllByRecursion-filter}
use Rattle.vtl_lists.proofs.Alls.{all_filtered, all_more}
use Rattle.vtl_meaning.specs.Agreement.{agree_in, first_agreeing, key_of}
use Rattle.vtl_meaning.specs.Joined.{Tuple, attributes_in, inner_tuples, is_whole, joined_of, left_tuples, measures_in, part_of, tuple_beside, tuple_point, values_or_nulls}
use Rattle.vtl_meaning.specs.Made.{AreAmong, HasIdentifiers}
use Rattle.vtl_meaning.specs.Operators.{left_of}
use Rattle.vtl_meaning.specs.Points.{with_points}
use Rattle.vtl_meaning.specs.Sets.{all_left_of, either_only, has_point, intersected, reduced, union_of}
use Rattle.vtl_rows.specs.Tables.{cells_at}
use Rattle.vtl_syntax.specs.declared.word_groups.JoinKind.TheVariants as join
use Rattle.vtl_tree.specs.Columns.{common_identifiers, has_identifier, identifiers_of, measures_of, others_of, places_in}
use Rattle.vtl_tree.specs.DataSet.{IsDataSet, look}
use Rattle.vtl_tree.specs.Environment.{DataSet}
use Rattle.vtl_tree.specs.Structure.{columns_of, key_width, of_role}
use Rattle.vtl_tree.specs.declared.structure.Component.{Component}
use Rattle.vtl_tree.specs.declared.structure.Role.TheVariants as role
use Rattle.vtl_tree.specs.declared.structure.Structure.{Structure}
use Rattle.vtl_sources.specs.Links.{Pairs}
use Rattle.vtl_sources.specs.Sources.{sources}
use Rattle.lineage_laws.specs.Over.{Operand, attribute_sources, columns_from, each_source, measure_sources, no_pairs, of_join, source_named}

-- an operand with its points in both runs
pub record Twin : Type 0 where
  pub operand : Operand
  pub first : List Row
  pub second : List Row

abbrev pub first_of : Twin → DataSet
first_of x = with_points x.operand.structure x.first

abbrev pub second_of : Twin → DataSet
second_of x = with_points x.operand.structure x.second

abbrev pub operand_in : Twin → Operand
operand_in x = x.operand

-- they are data sets that agree, and what the points depend on is known
pub record AreTwins (known : Known) (x : Twin) : Type 0 where
  pub points : IsKnown known x.operand.sources.points
  pub agree : Agreeing known (columns_from x.operand.structure x.operand.sources) x.first x.second
  pub one : IsDataSet x.operand.structure x.first
  pub two : IsDataSet x.operand.structure x.second

module _ (known : Known) where
  -- ---- points that agree
  common_first : (a b : Structure) → AllByRecursion (λ y. IsIdentifierOf a y.name) (common_identifiers a b)
  common_first a b = all_more (λ y. has_identifier a y.name ≡ true) (λ y. IsIdentifierOf a y.name) (λ y h. sym (among_any y.name (identifiers_of a)) ∙ h) (common_identifiers a b) (all_filtered (λ y. has_identifier a y.name) (identifiers_of b))

  common_second : (a b : Structure) → AllByRecursion (λ y. IsIdentifierOf b y.name) (common_identifiers a b)
  common_second a b = AllByRecursion-filter (λ y. IsIdentifierOf b y.name) (λ y. has_identifier a y.name) (identifiers_of b) (own_identifier_names b)

  abbrev Rows : Operand → Row → Row → Type 0
  Rows a = Agree known (columns_from a.structure a.sources)

  pub agreeing_same : (a b : Operand) → IsKnown known a.sources.points → IsKnown known b.sources.points → (r q u v : Row) → Rows a r q → Rows b u v → agree_in a.structure b.structure r u ≡ agree_in a.structure b.structure q v
  agreeing_same a b pa pb r q u v g h =
      let ys = common_identifiers a.structure b.structure in
      λ i. same_row (same_values known b u v h ys (common_second a.structure b.structure) i) (same_values known a r q g ys (common_first a.structure b.structure) i)

  pub found_agree : (a : Operand) (x : Twin) → IsKnown known a.sources.points → AreTwins known x → (r q : Row) → Rows a r q → Both (Rows x.operand) (first_agreeing a.structure (first_of x) r) (first_agreeing a.structure (second_of x) q)
  found_agree a x pa w r q g =
      let b = x.operand in
      together_find (Rows b) (agree_in a.structure b.structure r) (agree_in a.structure b.structure q) (λ u v h. agreeing_same a b pa w.points r q u v g h) x.first x.second w.agree

  -- ---- the values of parts
  pub part_agrees : (a : Operand) → IsKnown known a.sources.points → (ys : List Component) (o u : Option Row) → Both (Rows a) o u → Agree known (each_source a ys) (values_or_nulls a.structure ys o) (values_or_nulls a.structure ys u)
  part_agrees a pa ys _ _ neither = agree_map known (λ y. source_named a y.name) (λ y. c.Null) (λ y. c.Null) ys (λ y h. refl)
  part_agrees a pa ys _ _ (both {x = r} {y = q} g) = agree_named known a r q g (λ y. source_named a y.name) (λ y h. h) ys

  module _ (one two : DataSet → Option Row) where
    abbrev pub Found : Twin → Type 0
    Found x = IsKnown known x.operand.sources.points × Both (Rows x.operand) (one (first_of x)) (two (second_of x))

    parts_agree : (f : Structure → List Component) (l : List Twin) → AllByRecursion Found l
        → Agree known (flat_map (λ a. each_source a (f a.structure)) (map operand_in l)) (flat_map (λ p. values_or_nulls p.structure (f p.structure) p.point) (map (λ d. part_of d (one d)) (map first_of l))) (flat_map (λ p. values_or_nulls p.structure (f p.structure) p.point) (map (λ d. part_of d (two d)) (map second_of l)))
    parts_agree f [] all = no_cells
    parts_agree f (x ∷ l) all =
        let ys = f x.operand.structure in
        agree_append known (each_source x.operand ys) (values_or_nulls x.operand.structure ys (one (first_of x))) (values_or_nulls x.operand.structure ys (two (second_of x)))
        (flat_map (λ a. each_source a (f a.structure)) (map operand_in l)) (flat_map (λ p. values_or_nulls p.structure (f p.structure) p.point) (map (λ d. part_of d (one d)) (map first_of l))) (flat_map (λ p. values_or_nulls p.structure (f p.structure) p.point) (map (λ d. part_of d (two d)) (map second_of l)))
        (part_agrees x.operand all.0.0 ys (one (first_of x)) (two (second_of x)) all.0.1) (parts_agree f l all.1)

    whole_same : (l : List Twin) → AllByRecursion Found l → list_all (λ p. is_some p.point) (map (λ d. part_of d (one d)) (map first_of l)) ≡ list_all (λ p. is_some p.point) (map (λ d. part_of d (two d)) (map second_of l))
    whole_same [] all = refl
    whole_same (x ∷ l) all = λ i. both_some (Rows x.operand) (one (first_of x)) (two (second_of x)) all.0.1 i && whole_same l all.1 i

    -- a tuple with these identifiers
    pub tuple_agrees : (s : Structure) (k j : Row) (l : List Twin) → AllByRecursion Found l → Agree known (map (λ y. no_pairs) (identifiers_of s)) k j
        → Agree known (columns_from s (of_join (map operand_in l))) (tuple_point (record { identifiers = k; parts = map (λ d. part_of d (one d)) (map first_of l) })) (tuple_point (record { identifiers = j; parts = map (λ d. part_of d (two d)) (map second_of l) }))
    tuple_agrees s k j l all ids =
        let os = map operand_in l in
        let ps = map (λ d. part_of d (one d)) (map first_of l) in
        let qs = map (λ d. part_of d (two d)) (map second_of l) in
        subst (λ z. Agree known (columns_from s (of_join os)) z (tuple_point (record { identifiers = j; parts = qs }))) (sym (append_assoc k (flat_map measures_in ps) (flat_map attributes_in ps)))
        (subst (λ z. Agree known (columns_from s (of_join os)) (k ++ (flat_map measures_in ps ++ flat_map attributes_in ps)) z) (sym (append_assoc j (flat_map measures_in qs) (flat_map attributes_in qs)))
        (agree_joined known no_pairs (identifiers_of s) (flat_map measure_sources os ++ flat_map attribute_sources os) k j (flat_map measures_in ps ++ flat_map attributes_in ps) (flat_map measures_in qs ++ flat_map attributes_in qs) ids
        (agree_append known (flat_map measure_sources os) (flat_map measures_in ps) (flat_map measures_in qs) (flat_map attribute_sources os) (flat_map attributes_in ps) (flat_map attributes_in qs)
        (parts_agree measures_of l all) (parts_agree (of_role role.Attribute) l all))))

  -- ---- `left_join` and `inner_join`
  module _ (x : Twin) (w : AreTwins known x) (l : List Twin) (all : AllByRecursion (AreTwins known) l) (s : Structure) (kept : HasIdentifiers s (identifiers_of x.operand.structure)) where
    abbrev a : Operand
    a = x.operand

    abbrev cols : List Pairs
    cols = columns_from s (of_join (map operand_in l))

    abbrev Tuples : Tuple → Tuple → Type 0
    Tuples t u = Agree known cols (tuple_point t) (tuple_point u) × (is_whole t ≡ is_whole u)

    beside_agree : (r q : Row) → Rows a r q → Tuples (tuple_beside a.structure (map first_of l) r) (tuple_beside a.structure (map second_of l) q)
    beside_agree r q g =
        let one : DataSet → Option Row = λ d. first_agreeing a.structure d r in
        let two : DataSet → Option Row = λ d. first_agreeing a.structure d q in
        let found = all_more (AreTwins known) (Found one two) (λ y h. (h.points, found_agree a y w.points h r q g)) l all in
        (tuple_agrees one two s (key_of a.structure r) (key_of a.structure q) l found (agree_ids known a r q g no_pairs s kept), whole_same one two l found)

    pub left_tuples_agree : Together Tuples (left_tuples (first_of x) (map first_of l)) (left_tuples (second_of x) (map second_of l))
    left_tuples_agree = together_map (Rows a) Tuples (tuple_beside a.structure (map first_of l)) (tuple_beside a.structure (map second_of l)) beside_agree x.first x.second w.agree

    pub left_agrees : Agreeing known cols (joined_of join.Left (first_of x) (map first_of l)) (joined_of join.Left (second_of x) (map second_of l))
    left_agrees = together_map Tuples (Agree known cols) tuple_point tuple_point (λ t u h. h.0) (left_tuples (first_of x) (map first_of l)) (left_tuples (second_of x) (map second_of l)) left_tuples_agree

    pub inner_agrees : Agreeing known cols (joined_of join.Inner (first_of x) (map first_of l)) (joined_of join.Inner (second_of x) (map second_of l))
    inner_agrees =
        together_map Tuples (Agree known cols) tuple_point tuple_point (λ t u h. h.0) (inner_tuples (first_of x) (map first_of l)) (inner_tuples (second_of x) (map second_of l))
        (together_filter Tuples is_whole is_whole (λ t u h. h.1) (left_tuples (first_of x) (map first_of l)) (left_tuples (second_of x) (map second_of l)) left_tuples_agree)

  -- ---- set operators: each operand's points in the columns of the result
  module _ (s : Structure) (pts : Pairs) (src : Component → Pairs) where
    abbrev set_cols : List Pairs
    set_cols = columns_from s (sources pts (map src (others_of s)))

    -- what the result's components depend on has that of the operand's
    abbrev pub Gives : Twin → Type 0
    Gives x = AreTwins known x × AreAmong (identifiers_of s) (identifiers_of x.operand.structure) × ((y : Component) → IsKnown known (src y) → IsKnown known (source_named x.operand y.name))

    pub shown_agrees : (x : Twin) → Gives x → Agreeing known set_cols (left_of (first_of x) s) (left_of (second_of x) s)
    shown_agrees x g =
        let a = x.operand in
        let f = cells_at (places_in (columns_of a.structure) (columns_of s)) in
        together_map (Rows a) (Agree known set_cols) f f (λ r q h. agree_left known a r q h pts src g.2 s (among_identifiers (identifiers_of s) a.structure g.1)) x.first x.second g.0.agree

    module _ (known_points : IsKnown known pts) where
      keys_same : (r q : Row) → Agree known set_cols r q → take (key_width s) r ≡ take (key_width s) q
      keys_same r q g = key_same known no_pairs refl (identifiers_of s) (sources pts (map src (others_of s))).others r q g

      pub united_agrees : (l : List Twin) → AllByRecursion Gives l → Agreeing known set_cols (union_of (map first_of l) s) (union_of (map second_of l) s)
      united_agrees l all =
          together_once (Agree known set_cols) (same_key (key_width s)) (same_key (key_width s)) (λ r q u v g h i. same_row (keys_same r q g i) (keys_same u v h i))
          (flat_map (λ d. d) (all_left_of (map first_of l) s)) (flat_map (λ d. d) (all_left_of (map second_of l) s)) (go l all)
        where
          go : (m : List Twin) → AllByRecursion Gives m → Together (Agree known set_cols) (flat_map (λ d. d) (all_left_of (map first_of m) s)) (flat_map (λ d. d) (all_left_of (map second_of m) s))
          go [] h = none
          go (x ∷ m) h = together_append (Agree known set_cols) (left_of (first_of x) s) (left_of (second_of x) s) (flat_map (λ d. d) (all_left_of (map first_of m) s)) (flat_map (λ d. d) (all_left_of (map second_of m) s)) (shown_agrees x h.0) (go m h.1)

      -- whether there is a point
      has_same : (d e : List Row) → Agreeing known set_cols d e → (r q : Row) → Agree known set_cols r q → has_point (key_width s) d r ≡ has_point (key_width s) e q
      has_same d e g r q h = both_some (Agree known set_cols) (look (key_width s) d (take (key_width s) r)) (look (key_width s) e (take (key_width s) q)) (together_look (Agree known set_cols) (key_width s) keys_same (take (key_width s) r) (take (key_width s) q) (keys_same r q h) d e g)

      pub reduced_agrees : (d t e f : List Row) → Agreeing known set_cols d t → Agreeing known set_cols e f → Agreeing known set_cols (reduced (key_width s) d e) (reduced (key_width s) t f)
      reduced_agrees d t e f g h = together_filter (Agree known set_cols) (λ r. not (has_point (key_width s) e r)) (λ r. not (has_point (key_width s) f r)) (λ r q k. ap not (has_same e f h r q k)) d t g

      pub either_agrees : (d t e f : List Row) → Agreeing known set_cols d t → Agreeing known set_cols e f → Agreeing known set_cols (either_only (key_width s) d e) (either_only (key_width s) t f)
      either_agrees d t e f g h = together_append (Agree known set_cols) (reduced (key_width s) d e) (reduced (key_width s) t f) (reduced (key_width s) e d) (reduced (key_width s) f t) (reduced_agrees d t e f g h) (reduced_agrees e f d t h g)

      pub intersected_agrees : (d t : List Row) → Agreeing known set_cols d t → (l : List Twin) → AllByRecursion Gives l → Agreeing known set_cols (intersected (key_width s) d (all_left_of (map first_of l) s)) (intersected (key_width s) t (all_left_of (map second_of l) s))
      intersected_agrees d t g l all = together_filter (Agree known set_cols) (λ r. list_all (λ e. has_point (key_width s) e r) (all_left_of (map first_of l) s)) (λ r. list_all (λ e. has_point (key_width s) e r) (all_left_of (map second_of l) s)) (λ r q h. go l all r q h) d t g
        where
          go : (m : List Twin) → AllByRecursion Gives m → (r q : Row) → Agree known set_cols r q → list_all (λ e. has_point (key_width s) e r) (all_left_of (map first_of m) s) ≡ list_all (λ e. has_point (key_width s) e q) (all_left_of (map second_of m) s)
          go [] h r q k = refl
          go (x ∷ m) h r q k = λ i. has_same (left_of (first_of x) s) (left_of (second_of x) s) (shown_agrees x h.0) r q k i && go m h.1 r q k i
