-- Set operators and `exists_in` do not depend on the order of points.
use Rattle.std.proofs.Common.{◌≡◌, ℕ, Bool, not, ◌&&◌, List, [], ◌∷◌, ◌++◌, map, take, refl, sym, ap, ◌∙◌}
use Rattle.std.specs.Prelude.{is_some}
use Rattle.std.specs.List.{AllByRecursion, filter, flat_map, list_all}
use Rattle.std.specs.Option.{option_or}
use Rattle.vtl_lists.specs.Perm.{Perm, chain}
use Rattle.vtl_cell.specs.Row.{Row, same_key}
use Rattle.vtl_cell.specs.declared.cell.Cell.TheVariants as c
use Rattle.vtl_lists.proofs.Aparts.{list_any-Perm}
use Rattle.vtl_lists.proofs.Perms.{Perm-append, Perm-filter, Perm-map, Perm-same}
use Rattle.vtl_lists.proofs.Alls.{all_more}
use Rattle.vtl_lists.proofs.Filters.{find_any}
use Rattle.vtl_syntax.specs.declared.word_groups.Retain.{Retain}
use Rattle.vtl_tree.specs.DataSet.{Distinct, IsDataSet, look}
use Rattle.vtl_tree.specs.Environment.{DataSet}
use Rattle.vtl_tree.specs.Structure.{columns_of, key_width}
use Rattle.vtl_tree.specs.declared.structure.Structure.{Structure}
use Rattle.vtl_tree.proofs.LookUps.{Perm-from_look, look_respects}
use Rattle.vtl_tuples.proofs.Lists.{filter_each, map_each}
use Rattle.vtl_tuples.proofs.Onces.{once_apart}
use Rattle.vtl_meaning.specs.Agreement.{agree_in, has_agreeing}
use Rattle.vtl_meaning.specs.Joined.{structures_of}
use Rattle.vtl_meaning.specs.Made.{AreCombined, IsCombined}
use Rattle.vtl_meaning.specs.Operators.{left_of}
use Rattle.vtl_meaning.specs.Orders.{SameOperands}
use Rattle.vtl_meaning.specs.Points.{with_points}
use Rattle.vtl_meaning.specs.Sets.{all_left_of, difference_of, existence_of, has_point, intersection_of, is_retained, leftmost, reduced, symmetric_difference_of, union_of, united, with_answer}
use Rattle.vtl_meaning.proofs.JoinParts.{AreSets}
use Rattle.vtl_meaning.proofs.Orders.{shown_respects}
use Rattle.vtl_meaning.proofs.SetsKept.{all_shown_kept, combined_is, first_shown, second_shown}
use Rattle.vtl_meaning.proofs.SetsLooks.{has_at, united_look}

-- ---- lists of points in other orders
abbrev SameLists : List (List Row) → List (List Row) → Type 0
SameLists [] [] = Unit {0}
SameLists [] (e ∷ es) = ⊥
SameLists (d ∷ ds) [] = ⊥
SameLists (d ∷ ds) (e ∷ es) = Perm d e × SameLists ds es

abbrev AreApart : ℕ → List (List Row) → Type 0
AreApart n ds = AllByRecursion (Distinct n) ds

leftmost_respects : (n : ℕ) (ds es : List (List Row)) (k : Row) → SameLists ds es → AreApart n ds → leftmost n ds k ≡ leftmost n es k
leftmost_respects n [] [] k same all = refl
leftmost_respects n [] (e ∷ es) k same all = absurd same
leftmost_respects n (d ∷ ds) [] k same all = absurd same
leftmost_respects n (d ∷ ds) (e ∷ es) k same all = ap (λ o. option_or o (leftmost n ds k)) (look_respects n k same.0 all.0) ∙ ap (option_or (look n e k)) (leftmost_respects n ds es k same.1 all.1)

all_have_respects : (n : ℕ) (ds es : List (List Row)) (k : Row) → SameLists ds es → AreApart n ds → list_all (has_at n k) ds ≡ list_all (has_at n k) es
all_have_respects n [] [] k same all = refl
all_have_respects n [] (e ∷ es) k same all = absurd same
all_have_respects n (d ∷ ds) [] k same all = absurd same
all_have_respects n (d ∷ ds) (e ∷ es) k same all = ap (λ o. is_some o && list_all (has_at n k) ds) (look_respects n k same.0 all.0) ∙ ap (λ b. has_at n k e && b) (all_have_respects n ds es k same.1 all.1)

united_respects : (n : ℕ) (ds es : List (List Row)) → SameLists ds es → AreApart n ds → Perm (united n ds) (united n es)
united_respects n ds es same all =
    Perm-from_look n (united n ds) (united n es) (once_apart (same_key n) (flat_map (λ d. d) ds)) (once_apart (same_key n) (flat_map (λ d. d) es))
    (λ k. united_look n ds k ∙ leftmost_respects n ds es k same all ∙ sym (united_look n es k))

-- the same test on points in another order
pub filter_respects : (p q : Row → Bool) (d e : List Row) → ((r : Row) → p r ≡ q r) → Perm d e → Perm (filter p d) (filter q e)
filter_respects p q d e same h = chain (Perm-filter p h) (Perm-same (filter p e) (filter q e) (filter_each p q same e))

reduced_respects : (n : ℕ) (d t e f : List Row) → Perm d t → Perm e f → Distinct n e → Perm (reduced n d e) (reduced n t f)
reduced_respects n d t e f p q apart = filter_respects (λ r. not (has_point n e r)) (λ r. not (has_point n f r)) d t (λ r. ap (λ o. not (is_some o)) (look_respects n (take n r) q apart)) p

-- ---- operands in the result's columns
shown_same : (ds es : List DataSet) (s : Structure) → SameOperands ds es → SameLists (all_left_of ds s) (all_left_of es s)
shown_same [] [] s same = tt
shown_same [] (e ∷ es) s same = absurd same
shown_same (d ∷ ds) [] s same = absurd same
shown_same (d ∷ ds) (e ∷ es) s same =
    (chain (shown_respects (columns_of d.structure) (columns_of s) d.points e.points same.1) (Perm-same (left_of (with_points d.structure e.points) s) (left_of e s) (ap (λ a. left_of (with_points a e.points) s) same.0)), shown_same ds es s same.2)

shown_apart : (ds : List DataSet) (s : Structure) → AreCombined (structures_of ds) s → AreSets ds → AreApart (key_width s) (all_left_of ds s)
shown_apart [] s i h = absurd i
shown_apart (d ∷ ds) s i h = all_more (IsDataSet s) (Distinct (key_width s)) (λ l k. k.distinct) (all_left_of (d ∷ ds) s) (all_shown_kept (d ∷ ds) s (combined_is d.structure (structures_of ds) s i) i.operands h)

-- ---- set operators
pub union_order : (ds es : List DataSet) → SameOperands ds es → AreSets ds → (s : Structure) → AreCombined (structures_of ds) s → Perm (union_of ds s) (union_of es s)
union_order ds es same h s i = united_respects (key_width s) (all_left_of ds s) (all_left_of es s) (shown_same ds es s same) (shown_apart ds s i h)

pub intersection_order : (ds es : List DataSet) → SameOperands ds es → AreSets ds → (s : Structure) → AreCombined (structures_of ds) s → Perm (intersection_of ds s) (intersection_of es s)
intersection_order [] es same h s i = absurd i
intersection_order (d ∷ ds) [] same h s i = absurd same
intersection_order (d ∷ ds) (e ∷ es) same h s i =
    let n = key_width s in
    let all = shown_same (d ∷ ds) (e ∷ es) s same in
    filter_respects (λ r. list_all (λ l. has_point n l r) (all_left_of ds s)) (λ r. list_all (λ l. has_point n l r) (all_left_of es s)) (left_of d s) (left_of e s)
    (λ r. all_have_respects n (all_left_of ds s) (all_left_of es s) (take n r) all.1 (shown_apart (d ∷ ds) s i h).1) all.0

module _ (a b s : Structure) (d t e f : List Row) (p : Perm d t) (q : Perm e f) (i : IsCombined a (b ∷ []) s) (h : IsDataSet a d) (k : IsDataSet b e) where
  first_same : Perm (left_of (with_points a d) s) (left_of (with_points a t) s)
  first_same = shown_respects (columns_of a) (columns_of s) d t p

  second_same : Perm (left_of (with_points b e) s) (left_of (with_points b f) s)
  second_same = shown_respects (columns_of b) (columns_of s) e f q

  pub difference_order : Perm (difference_of (with_points a d) (with_points b e) s) (difference_of (with_points a t) (with_points b f) s)
  difference_order =
      reduced_respects (key_width s) (left_of (with_points a d) s) (left_of (with_points a t) s) (left_of (with_points b e) s) (left_of (with_points b f) s) first_same second_same
      (second_shown (with_points a d) (with_points b e) s i h k).distinct

  pub symmetric_difference_order : Perm (symmetric_difference_of (with_points a d) (with_points b e) s) (symmetric_difference_of (with_points a t) (with_points b f) s)
  symmetric_difference_order =
      Perm-append difference_order
      (reduced_respects (key_width s) (left_of (with_points b e) s) (left_of (with_points b f) s) (left_of (with_points a d) s) (left_of (with_points a t) s) second_same first_same
      (first_shown (with_points a d) (with_points b e) s i h k).distinct)

-- ---- `exists_in`
has_agreeing_respects : (a b : Structure) (e f : List Row) (r : Row) → Perm e f → has_agreeing a (with_points b e) r ≡ has_agreeing a (with_points b f) r
has_agreeing_respects a b e f r q = find_any (agree_in a b r) e ∙ list_any-Perm (agree_in a b r) q ∙ sym (find_any (agree_in a b r) f)

pub existence_order : (a b : Structure) (d t e f : List Row) (kept : Retain) → Perm d t → Perm e f → Perm (existence_of (with_points a d) (with_points b e) kept) (existence_of (with_points a t) (with_points b f) kept)
existence_order a b d t e f kept p q =
    let old : Row → Bool = λ r. is_retained kept (has_agreeing a (with_points b e) r) in
    let new : Row → Bool = λ r. is_retained kept (has_agreeing a (with_points b f) r) in
    let answers : (r : Row) → has_agreeing a (with_points b e) r ≡ has_agreeing a (with_points b f) r = λ r. has_agreeing_respects a b e f r q in
    chain (Perm-map (with_answer a (with_points b e)) (filter_respects old new d t (λ r. ap (is_retained kept) (answers r)) p))
    (Perm-same (map (with_answer a (with_points b e)) (filter new t)) (map (with_answer a (with_points b f)) (filter new t)) (map_each (with_answer a (with_points b e)) (with_answer a (with_points b f)) (λ r. ap (λ x. take (key_width a) r ++ c.Bool x ∷ []) (answers r)) (filter new t)))
