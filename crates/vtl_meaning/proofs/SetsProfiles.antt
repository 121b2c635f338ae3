-- The points of set operators, `exists_in`, `pivot` and `unpivot` are of the profile where those of the operands are.
use Rattle.std.specs.List.{AllByRecursion, filter, find, flat_map, list_all}
use Rattle.std.specs.Option.{option_map_or, option_to_list}
use Rattle.std.proofs.Common.{◌≡◌, ℕ, Bool, true, false, cond, List, [], ◌∷◌, ◌++◌, map, not, take, Option, Some, None, refl, sym, subst}
use Rattle.vtl_cell.specs.Kinds.{is_null}
use Rattle.vtl_cell.specs.Profile.{IsOfProfile}
use Rattle.vtl_cell.specs.Row.{Row, same_key, same_row}
use Rattle.vtl_decimal.specs.Settings.{Settings}
use Rattle.vtl_cell.specs.declared.cell.Cell.{Cell}
use Rattle.vtl_cell.specs.declared.cell.Cell.TheVariants as c
use Rattle.vtl_lists.proofs.Sorts.{AllByRecursion-filter, AllByRecursion-map}
use Rattle.vtl_lists.proofs.Alls.{all_append, all_each, all_more}
use Rattle.vtl_syntax.specs.declared.word_groups.Retain.{Retain}
use Rattle.vtl_tree.specs.DataSet.{AreOfProfile}
use Rattle.vtl_tree.specs.Environment.{DataSet}
use Rattle.vtl_tree.specs.Structure.{columns_of, key_width}
use Rattle.vtl_tree.specs.declared.structure.Component.{Component}
use Rattle.vtl_tree.specs.declared.structure.Structure.{Structure}
use Rattle.vtl_tuples.specs.Keys.{each_once}
use Rattle.vtl_meaning.specs.Agreement.{has_agreeing, values_in}
use Rattle.vtl_tree.specs.Columns.{measures_of, place_of, places_in}
use Rattle.vtl_meaning.specs.LookUps.{value_named}
use Rattle.vtl_meaning.specs.Operators.{left_of}
use Rattle.vtl_meaning.specs.Sets.{all_left_of, difference_of, existence_of, has_point, intersection_of, is_retained, reduced, symmetric_difference_of, union_of, with_answer}
use Rattle.vtl_meaning.specs.Turned.{coded_value, codes_of, is_coded, named_point, other_identifiers, pivot_of, pivoted_point, unpivot_of, unpivoted_points}
use Rattle.vtl_tuples.proofs.Onces.{once_hold}
use Rattle.vtl_meaning.proofs.JoinProfiles.{front_holds, values_hold}
use Rattle.vtl_meaning.proofs.Profiles.{IsRowOfProfile, cell_is, drawn_are, shown_are}
use Rattle.vtl_meaning.proofs.SetsKept.{all_flat}
use Rattle.vtl_meaning.proofs.JoinParts.{found_is}
use Rattle.vtl_meaning.proofs.TurnedKept.{filter_map_drawn}

module _ (p : Settings) where
  abbrev pub AllOfProfile : List DataSet → Type 0
  AllOfProfile ds = AllByRecursion (λ d. AreOfProfile p d.points) ds

  -- ---- set operators
  pub left_profile : (d : DataSet) (s : Structure) → AreOfProfile p d.points → AreOfProfile p (left_of d s)
  left_profile d s h = shown_are p (places_in (columns_of d.structure) (columns_of s)) d.points h

  all_left_profile : (ds : List DataSet) (s : Structure) → AllOfProfile ds → AllByRecursion (AreOfProfile p) (all_left_of ds s)
  all_left_profile ds s all = AllByRecursion-map (λ d. left_of d s) (AreOfProfile p) ds (all_more (λ d. AreOfProfile p d.points) (λ d. AreOfProfile p (left_of d s)) (λ d h. left_profile d s h) ds all)

  pub union_profile : (ds : List DataSet) (s : Structure) → AllOfProfile ds → AreOfProfile p (union_of ds s)
  union_profile ds s all = once_hold (IsRowOfProfile p) (same_key (key_width s)) (flat_map (λ d. d) (all_left_of ds s)) (all_flat (IsRowOfProfile p) (all_left_of ds s) (all_left_profile ds s all))

  pub intersection_profile : (ds : List DataSet) (s : Structure) → AllOfProfile ds → AreOfProfile p (intersection_of ds s)
  intersection_profile [] s all = tt
  intersection_profile (d ∷ ds) s all = AllByRecursion-filter (IsRowOfProfile p) (λ r. list_all (λ e. has_point (key_width s) e r) (all_left_of ds s)) (left_of d s) (left_profile d s all.0)

  pub difference_profile : (d e : DataSet) (s : Structure) → AreOfProfile p d.points → AreOfProfile p (difference_of d e s)
  difference_profile d e s h = AllByRecursion-filter (IsRowOfProfile p) (λ r. not (has_point (key_width s) (left_of e s) r)) (left_of d s) (left_profile d s h)

  pub symmetric_difference_profile : (d e : DataSet) (s : Structure) → AreOfProfile p d.points → AreOfProfile p e.points → AreOfProfile p (symmetric_difference_of d e s)
  symmetric_difference_profile d e s h i =
      all_append (IsRowOfProfile p) (reduced (key_width s) (left_of d s) (left_of e s)) (reduced (key_width s) (left_of e s) (left_of d s)) (difference_profile d e s h) (difference_profile e d s i)

  -- ---- `exists_in`
  pub existence_profile : (a b : DataSet) (kept : Retain) → AreOfProfile p a.points → AreOfProfile p (existence_of a b kept)
  existence_profile a b kept h =
      let test : Row → Bool = λ r. is_retained kept (has_agreeing a.structure b r) in
      let f = with_answer a.structure b in
      AllByRecursion-map f (IsRowOfProfile p) (filter test a.points)
      (all_more (IsRowOfProfile p) (λ r. IsRowOfProfile p (f r)) (λ r i. all_append (IsOfProfile p) (take (key_width a.structure) r) (c.Bool (has_agreeing a.structure b r) ∷ []) (front_holds (IsOfProfile p) tt (key_width a.structure) r i) (tt, tt)) (filter test a.points)
      (AllByRecursion-filter (IsRowOfProfile p) test a.points h))

  -- ---- `pivot`
  module _ (d : DataSet) (id m : List ℕ) (h : AreOfProfile p d.points) where
    coded_is : (k : Row) (code : List ℕ) → IsOfProfile p (coded_value d id m k code)
    coded_is k code = go (find (is_coded d.structure id k code) d.points) refl
      where
        go : (o : Option Row) → find (is_coded d.structure id k code) d.points ≡ o → IsOfProfile p (option_map_or (λ r. value_named (columns_of d.structure) r m) o c.Null)
        go None e = tt
        go (Some r) e = cell_is p (place_of m (columns_of d.structure)) r (found_is (IsRowOfProfile p) (is_coded d.structure id k code) d.points r h e)

    pivoted_are : (k : Row) → IsRowOfProfile p k → IsRowOfProfile p (pivoted_point d id m k)
    pivoted_are k i = all_append (IsOfProfile p) k (map (coded_value d id m k) (codes_of id d.structure)) i (AllByRecursion-map (coded_value d id m k) (IsOfProfile p) (codes_of id d.structure) (all_each (λ code. IsOfProfile p (coded_value d id m k code)) (coded_is k) (codes_of id d.structure)))

    pub pivot_profile : AreOfProfile p (pivot_of d id m)
    pivot_profile =
        let ids = other_identifiers id d.structure in
        let f = values_in d.structure ids in
        let keys = once_hold (IsRowOfProfile p) same_row (map f d.points) (AllByRecursion-map f (IsRowOfProfile p) d.points (all_more (IsRowOfProfile p) (λ r. IsRowOfProfile p (f r)) (λ r i. values_hold (IsOfProfile p) tt (columns_of d.structure) ids r i) d.points h)) in
        AllByRecursion-map (pivoted_point d id m) (IsRowOfProfile p) (each_once same_row (map f d.points)) (all_more (IsRowOfProfile p) (λ k. IsRowOfProfile p (pivoted_point d id m k)) pivoted_are (each_once same_row (map f d.points)) keys)

  -- ---- `unpivot`
  pub unpivot_profile : (d : DataSet) → AreOfProfile p d.points → AreOfProfile p (unpivot_of d)
  unpivot_profile d h = drawn_are p (unpivoted_points d.structure) d.points here h
    where
      named_are : (r : Row) (x : Component) → IsRowOfProfile p r → AreOfProfile p (option_to_list (named_point d.structure r x.name (value_named (columns_of d.structure) r x.name)))
      named_are r x i = go (is_null (value_named (columns_of d.structure) r x.name))
        where
          v : Cell
          v = value_named (columns_of d.structure) r x.name

          go : (b : Bool) → AreOfProfile p (option_to_list (cond b None (Some (take (key_width d.structure) r ++ c.Text x.name ∷ v ∷ []))))
          go true = tt
          go false = (all_append (IsOfProfile p) (take (key_width d.structure) r) (c.Text x.name ∷ v ∷ []) (front_holds (IsOfProfile p) tt (key_width d.structure) r i) (tt, (cell_is p (place_of x.name (columns_of d.structure)) r i, tt)), tt)

      here : (r : Row) → IsRowOfProfile p r → AreOfProfile p (unpivoted_points d.structure r)
      here r i =
          let f : Component → Option Row = λ x. named_point d.structure r x.name (value_named (columns_of d.structure) r x.name) in
          subst (AreOfProfile p) (sym (filter_map_drawn f (measures_of d.structure))) (all_named (measures_of d.structure))
        where
          all_named : (xs : List Component) → AreOfProfile p (flat_map (λ x. option_to_list (named_point d.structure r x.name (value_named (columns_of d.structure) r x.name))) xs)
          all_named [] = tt
          all_named (x ∷ xs) =
              all_append (IsRowOfProfile p) (option_to_list (named_point d.structure r x.name (value_named (columns_of d.structure) r x.name)))
              (flat_map (λ y. option_to_list (named_point d.structure r y.name (value_named (columns_of d.structure) r y.name))) xs) (named_are r x i) (all_named xs)
