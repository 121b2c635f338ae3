-- Unions of unions, and the symmetric difference as a union.
use Rattle.std.specs.List.{AllByRecursion, filter, list_any}
use Rattle.std.proofs.Common.{◌≡◌, ℕ, zero, suc, Bool, true, false, not, ◌||◌, List, [], ◌∷◌, ◌++◌, map, length, take, refl, sym, ap, ◌∙◌}
use Rattle.std.proofs.lemmas.List.{append-nil, length-map, map-append}
use Rattle.std.proofs.Math.Seq.{take-append_seam}
use Rattle.vtl_lists.proofs.Alls.{all_append, all_more}
use Rattle.vtl_cell.specs.Row.{Row, column_of, same_key, same_row}
use Rattle.vtl_cell.specs.declared.kind.Kind.{Kind}
use Rattle.vtl_cell.proofs.Rows.{same_row-is, same_row-refl}
use Rattle.vtl_rows.specs.Tables.{cells_at}
use Rattle.vtl_tree.specs.Columns.{identifiers_of, measures_of, others_of, place_of, places_in}
use Rattle.vtl_tree.specs.DataSet.{IsDataSet, is_point}
use Rattle.vtl_tree.specs.Environment.{DataSet}
use Rattle.vtl_tree.specs.Structure.{IsStructure, columns_of, key_width, names_of}
use Rattle.vtl_tree.specs.declared.structure.Component.{Component}
use Rattle.vtl_tree.specs.declared.structure.Structure.{Structure}
use Rattle.vtl_tuples.specs.Keys.{each_once}
use Rattle.vtl_tuples.proofs.Lists.{filter-map, filter_same, map-map, map_each}
use Rattle.vtl_tuples.proofs.Onces.{once_already, once_apart, once_more, once_hold}
use Rattle.vtl_meaning.specs.Agreement.{values_in}
use Rattle.vtl_meaning.specs.LookUps.{values_named}
use Rattle.vtl_meaning.specs.Made.{AreAmong, IsAlternative, IsColumnAt, IsCombined}
use Rattle.vtl_meaning.specs.Operators.{left_of}
use Rattle.vtl_meaning.specs.Points.{with_points}
use Rattle.vtl_meaning.specs.Sets.{difference_of, has_point, reduced, symmetric_difference_of, union_of, united}
use Rattle.vtl_meaning.proofs.JoinAgreements.{covers, values_agree}
use Rattle.vtl_meaning.proofs.Kept.{shown_split}
use Rattle.vtl_meaning.proofs.LookUps.{among_within, named_cells, parts_named}
use Rattle.vtl_meaning.proofs.Places.{key_width_same, places_of_namesakes}
use Rattle.vtl_meaning.proofs.SetsFolds.{united_fold}
use Rattle.vtl_meaning.proofs.SetsKept.{IsKeyed, alternative_tells, combined_is, difference_kept, first_shown, has_any, second_shown, symmetric_difference_kept}
use Rattle.vtl_meaning_laws.proofs.Combined.{combined_columns, combined_measures, own_points}

-- ---- on lists of points
once_behind : {K : Type 0} (same : K → K → Bool) (xs ys : List K) → each_once same (xs ++ each_once same ys) ≡ each_once same (xs ++ ys)
once_behind same xs ys =
    once_more same xs (each_once same ys)
    ∙ ap (λ l. each_once same xs ++ filter (λ y. not (list_any (λ x. same x y) xs)) l) (once_already same (each_once same ys) (once_apart same ys))
    ∙ sym (once_more same xs ys)

abbrev union_of_two : ℕ → List Row → List Row → List Row
union_of_two n a b = united n (a ∷ b ∷ [])

left_bracket : (n : ℕ) (a b c : List Row) → union_of_two n (union_of_two n a b) c ≡ united n (a ∷ b ∷ c ∷ [])
left_bracket n a b c = ap (λ u. union_of_two n u c) (united_fold n (a ∷ b ∷ [])) ∙ sym (united_fold n (a ∷ b ∷ c ∷ []))

right_bracket : (n : ℕ) (a b c : List Row) → union_of_two n a (union_of_two n b c) ≡ united n (a ∷ b ∷ c ∷ [])
right_bracket n a b c = ap (λ l. each_once (same_key n) (a ++ l)) (append-nil (union_of_two n b c)) ∙ once_behind (same_key n) a (b ++ (c ++ []))

pub bracketed : (n : ℕ) (a b c : List Row) → united n (united n (a ∷ b ∷ []) ∷ c ∷ []) ≡ united n (a ∷ united n (b ∷ c ∷ []) ∷ [])
bracketed n a b c = left_bracket n a b c ∙ sym (right_bracket n a b c)

-- ---- items that stand for others, of which the same ones are the same
module _ {X Y : Type 0} (P : X → Type 0) (same : X → X → Bool) (alike : Y → Y → Bool) (f : X → Y) (keeps : (x z : X) → P x → P z → alike (f x) (f z) ≡ same x z) where
  once_of_map : (xs : List X) → AllByRecursion P xs → each_once alike (map f xs) ≡ map f (each_once same xs)
  once_of_map [] all = refl
  once_of_map (x ∷ xs) all =
      let rest = each_once same xs in
      ap (λ l. f x ∷ filter (λ y. not (alike (f x) y)) l) (once_of_map xs all.1)
      ∙ ap (λ l. f x ∷ l)
      (filter-map (λ y. not (alike (f x) y)) f rest
      ∙ ap (map f) (filter_same (λ z. not (alike (f x) (f z))) (λ z. not (same x z)) rest (all_more P (λ z. not (alike (f x) (f z)) ≡ not (same x z)) (λ z h. ap not (keeps x z all.0 h)) rest (once_hold P same xs all.1))))

  any_of_map : (x : X) (zs : List X) → P x → AllByRecursion P zs → list_any (λ y. alike y (f x)) (map f zs) ≡ list_any (λ z. same z x) zs
  any_of_map x [] h all = refl
  any_of_map x (z ∷ zs) h all = ap (λ b. b || list_any (λ y. alike y (f x)) (map f zs)) (keeps z x all.0 h) ∙ ap (λ b. same z x || b) (any_of_map x zs h all.1)

-- ---- a data set in columns of another order
cell_again : (xs : List Component) (r : Row) (place : ℕ) (name : List ℕ) (kind : Kind) (ys : List Component) → IsColumnAt place name kind ys → column_of place (cells_at (places_in xs ys) r) ≡ column_of (place_of name xs) r
cell_again xs r place name kind [] i = absurd i
cell_again xs r zero name kind (y ∷ ys) i = ap (λ n. column_of (place_of n xs) r) i.0
cell_again xs r (suc place) name kind (y ∷ ys) i = cell_again xs r place name kind ys i

cells_again : (xs ys zs : List Component) (r : Row) → AreAmong zs ys → cells_at (places_in ys zs) (cells_at (places_in xs ys) r) ≡ cells_at (places_in xs zs) r
cells_again xs ys [] r all = refl
cells_again xs ys (z ∷ zs) r all =
    ap (λ v. v ∷ cells_at (places_in ys zs) (cells_at (places_in xs ys) r)) (cell_again xs r (place_of z.name ys) z.name z.kind ys all.0)
    ∙ ap (λ l. column_of (place_of z.name xs) r ∷ l) (cells_again xs ys zs r all.1)

module _ (t s : Structure) (v : IsKeyed s) (w : IsStructure t) (i : IsAlternative s t s) where
  abbrev turned : Row → Row
  turned r = cells_at (places_in (columns_of t) (columns_of s)) r

  abbrev IsHere : Row → Type 0
  IsHere r = is_point (columns_of t) r ≡ true

  key_turned : (r : Row) → take (key_width s) (turned r) ≡ values_in t (identifiers_of s) r
  key_turned r =
      let ids = identifiers_of s in
      let key = cells_at (places_in (columns_of t) ids) r in
      let wide : length key ≡ key_width s = length-map (places_in (columns_of t) ids) (λ n. column_of n r) ∙ length-map ids (λ y. place_of y.name (columns_of t)) in
      ap (take (key_width s)) (shown_split (columns_of t) s r) ∙ ap (λ n. take n (key ++ cells_at (places_in (columns_of t) (others_of s)) r)) (sym wide)
      ∙ take-append_seam key (cells_at (places_in (columns_of t) (others_of s)) r) ∙ named_cells (columns_of t) ids r

  same_turned : (r q : Row) → IsHere r → IsHere q → same_key (key_width s) (turned r) (turned q) ≡ same_key (key_width t) r q
  same_turned r q h k = same_tests (same_key (key_width s) (turned r) (turned q)) (same_key (key_width t) r q) there back
    where
      same_tests : (a b : Bool) → (a ≡ true → b ≡ true) → (b ≡ true → a ≡ true) → a ≡ b
      same_tests true b f g = sym (f refl)
      same_tests false true f g = g refl
      same_tests false false f g = refl

      there : same_key (key_width s) (turned r) (turned q) ≡ true → same_key (key_width t) r q ≡ true
      there e = values_agree s t r q w (covers s t i.there) h k (sym (key_turned r) ∙ same_row-is (take (key_width s) (turned r)) (take (key_width s) (turned q)) e ∙ key_turned q)

      values : (z : Row) → values_in t (identifiers_of s) z ≡ values_named (identifiers_of t) (identifiers_of s) (take (key_width t) z)
      values z = parts_named t (identifiers_of s) z (among_within (identifiers_of s) (identifiers_of t) i.back)

      back : same_key (key_width t) r q ≡ true → same_key (key_width s) (turned r) (turned q) ≡ true
      back e =
          let keys : take (key_width s) (turned r) ≡ take (key_width s) (turned q) =
          key_turned r ∙ values r ∙ ap (values_named (identifiers_of t) (identifiers_of s)) (same_row-is (take (key_width t) r) (take (key_width t) q) e) ∙ sym (values q) ∙ sym (key_turned q) in
          ap (same_row (take (key_width s) (turned r))) (sym keys) ∙ same_row-refl (take (key_width s) (turned r))

  again : (e : DataSet) → map turned (left_of e t) ≡ left_of e s
  again e =
      let g : Row → Row = cells_at (places_in (columns_of e.structure) (columns_of t)) in
      map-map turned g e.points ∙ map_each (λ r. turned (g r)) (cells_at (places_in (columns_of e.structure) (columns_of s))) (λ r. cells_again (columns_of e.structure) (columns_of t) (columns_of s) r (alternative_tells t s v i).columns) e.points

  pub union_turned : (x y : DataSet) → IsDataSet t (left_of x t) → IsDataSet t (left_of y t) → left_of (with_points t (union_of (x ∷ y ∷ []) t)) s ≡ united (key_width s) (left_of x s ∷ left_of y s ∷ [])
  union_turned x y h k =
      let all = left_of x t ++ (left_of y t ++ []) in
      sym (once_of_map IsHere (same_key (key_width t)) (same_key (key_width s)) turned same_turned all (all_append IsHere (left_of x t) (left_of y t ++ []) h.typed (all_append IsHere (left_of y t) [] k.typed tt)))
      ∙ ap (each_once (same_key (key_width s)))
      (map-append turned (left_of x t) (left_of y t ++ []) ∙ ap (λ l. l ++ map turned (left_of y t ++ [])) (again x) ∙ ap (λ l. left_of x s ++ l) (map-append turned (left_of y t) [] ∙ ap (λ l. l ++ []) (again y)))

  there_turned : (r : Row) (l : List Row) → IsHere r → AllByRecursion IsHere l → has_point (key_width s) (map turned l) (turned r) ≡ has_point (key_width t) l r
  there_turned r l h all =
      has_any (key_width s) (map turned l) (turned r) ∙ any_of_map IsHere (same_key (key_width t)) (same_key (key_width s)) turned same_turned r l h all ∙ sym (has_any (key_width t) l r)

  pub difference_turned : (x y : DataSet) → IsDataSet t (left_of x t) → IsDataSet t (left_of y t) → left_of (with_points t (difference_of x y t)) s ≡ reduced (key_width s) (left_of x s) (left_of y s)
  difference_turned x y h k =
      let new : Row → Bool = λ r. not (has_point (key_width s) (map turned (left_of y t)) (turned r)) in
      let old : Row → Bool = λ r. not (has_point (key_width t) (left_of y t) r) in
      ap (map turned) (sym (filter_same new old (left_of x t) (all_more IsHere (λ r. new r ≡ old r) (λ r z. ap not (there_turned r (left_of y t) z k.typed)) (left_of x t) h.typed)))
      ∙ sym (filter-map (λ r. not (has_point (key_width s) (map turned (left_of y t)) r)) turned (left_of x t))
      ∙ ap (λ l. filter (λ r. not (has_point (key_width s) l r)) (map turned (left_of x t))) (again y)
      ∙ ap (filter (λ r. not (has_point (key_width s) (left_of y s) r))) (again x)

-- ---- data sets
left_alike : (s r : Structure) (d : DataSet) → names_of (columns_of s) ≡ names_of (columns_of r) → left_of d s ≡ left_of d r
left_alike s r d e = ap (λ ps. map (cells_at ps) d.points) (places_of_namesakes (columns_of d.structure) (columns_of s) (columns_of r) e)

module _ (a b c : DataSet) (t u s r : Structure) (i : IsCombined a.structure (b.structure ∷ []) t) (j : IsCombined b.structure (c.structure ∷ []) u) (k : IsCombined t (c.structure ∷ []) s) (l : IsCombined a.structure (u ∷ []) r) (f : IsDataSet a.structure a.points) (g : IsDataSet b.structure b.points) (h : IsDataSet c.structure c.points) where
  same_columns : names_of (columns_of s) ≡ names_of (columns_of r)
  same_columns =
      combined_columns t (c.structure ∷ []) s k
      ∙ ap (λ ns. ns ++ names_of (measures_of t)) i.identifiers.0 ∙ ap (λ ms. names_of (identifiers_of a.structure) ++ names_of ms) (combined_measures a.structure (b.structure ∷ []) t i)
      ∙ sym (combined_columns a.structure (u ∷ []) r l)

  same_width : key_width s ≡ key_width r
  same_width = key_width_same s t k.identifiers ∙ key_width_same t a.structure i.identifiers ∙ sym (key_width_same r a.structure l.identifiers)

  pub bracketed_sets : union_of (with_points t (union_of (a ∷ b ∷ []) t) ∷ c ∷ []) s ≡ union_of (a ∷ with_points u (union_of (b ∷ c ∷ []) u) ∷ []) r
  bracketed_sets =
      let n = key_width s in
      ap (λ x. united n (x ∷ left_of c s ∷ [])) (union_turned t s (combined_is t (c.structure ∷ []) s k) i.well_formed k.operands.0 a b (first_shown a b t i f g) (second_shown a b t i f g))
      ∙ bracketed n (left_of a s) (left_of b s) (left_of c s)
      ∙ ap (λ x. united n (x ∷ united n (left_of b s ∷ left_of c s ∷ []) ∷ [])) (left_alike s r a same_columns)
      ∙ ap (λ x. united n (left_of a r ∷ united n (x ∷ left_of c s ∷ []) ∷ [])) (left_alike s r b same_columns)
      ∙ ap (λ x. united n (left_of a r ∷ united n (left_of b r ∷ x ∷ []) ∷ [])) (left_alike s r c same_columns)
      ∙ ap (λ m. united m (left_of a r ∷ united m (left_of b r ∷ left_of c r ∷ []) ∷ [])) same_width
      ∙ ap (λ x. united (key_width r) (left_of a r ∷ x ∷ [])) (sym (union_turned u r (combined_is a.structure (u ∷ []) r l) j.well_formed l.operands.1.0 b c (first_shown b c u j g h) (second_shown b c u j g h)))

module _ (d e : DataSet) (s t r : Structure) (i : IsCombined d.structure (e.structure ∷ []) s) (j : IsCombined e.structure (d.structure ∷ []) t) (k : IsCombined s (t ∷ []) r) (h : IsDataSet d.structure d.points) (g : IsDataSet e.structure e.points) where
  columns_alike : names_of (columns_of r) ≡ names_of (columns_of s)
  columns_alike =
      combined_columns s (t ∷ []) r k ∙ ap (λ ns. ns ++ names_of (measures_of s)) i.identifiers.0
      ∙ ap (λ ms. names_of (identifiers_of d.structure) ++ names_of ms) (combined_measures d.structure (e.structure ∷ []) s i) ∙ sym (combined_columns d.structure (e.structure ∷ []) s i)

  width_alike : key_width r ≡ key_width s
  width_alike = key_width_same r s k.identifiers

  pub two_differences : symmetric_difference_of d e s ≡ union_of (with_points s (difference_of d e s) ∷ with_points t (difference_of e d t) ∷ []) r
  two_differences =
      let n = key_width s in
      let second : left_of (with_points t (difference_of e d t)) r ≡ reduced n (left_of e s) (left_of d s) =
      difference_turned t r (combined_is s (t ∷ []) r k) j.well_formed k.operands.1.0 e d (first_shown e d t j g h) (second_shown e d t j g h)
      ∙ ap (λ l. reduced (key_width r) l (left_of d r)) (left_alike r s e columns_alike) ∙ ap (reduced (key_width r) (left_of e s)) (left_alike r s d columns_alike)
      ∙ ap (λ m. reduced m (left_of e s) (left_of d s)) width_alike in
      sym (once_already (same_key n) (symmetric_difference_of d e s) (symmetric_difference_kept d e s i h g).distinct)
      ∙ ap (λ l. each_once (same_key n) (difference_of d e s ++ l)) (sym (append-nil (reduced n (left_of e s) (left_of d s))))
      ∙ ap (λ x. united n (x ∷ reduced n (left_of e s) (left_of d s) ∷ [])) (sym (own_points s r (difference_of d e s) (difference_kept d e s i h g) (sym columns_alike)))
      ∙ ap (λ x. united n (left_of (with_points s (difference_of d e s)) r ∷ x ∷ [])) (sym second)
      ∙ ap (λ m. united m (left_of (with_points s (difference_of d e s)) r ∷ left_of (with_points t (difference_of e d t)) r ∷ [])) (sym width_alike)
