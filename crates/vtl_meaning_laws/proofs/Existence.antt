-- `exists_in` beside the set operators.
use Rattle.std.specs.Prelude.{is_some, option_map, slice_get}
use Rattle.std.specs.List.{filter}
use Rattle.std.specs.Option.{option_and_then}
use Rattle.std.proofs.Common.{◌≡◌, ℕ, Bool, true, false, not, ◌&&◌, [], ◌∷◌, ◌++◌, map, take, Option, Some, None, refl, sym, ap, ◌∙◌}
use Rattle.std.proofs.lemmas.List.{map-append}
use Rattle.vtl_lists.specs.Perm.{Perm, chain}
use Rattle.vtl_lists.proofs.Perms.{Perm-map, Perm-same}
use Rattle.vtl_lists.proofs.Alls.{all_more}
use Rattle.vtl_lists.proofs.Filters.{filter_true}
use Rattle.vtl_lists.proofs.Sorts.{AllByRecursion-filter}
use Rattle.vtl_cell.specs.Row.{Row}
use Rattle.vtl_cell.specs.declared.cell.Cell.TheVariants as c
use Rattle.vtl_rows.specs.Tables.{cells_at}
use Rattle.vtl_syntax.specs.declared.word_groups.Retain.TheVariants as retain
use Rattle.vtl_tree.specs.Columns.{identifiers_of, others_of, places_in}
use Rattle.vtl_tree.specs.DataSet.{IsDataSet, is_point, look}
use Rattle.vtl_tree.specs.Environment.{DataSet}
use Rattle.vtl_tree.specs.Structure.{columns_of, key_width}
use Rattle.vtl_tree.specs.declared.structure.Structure.{Structure}
use Rattle.vtl_tuples.proofs.Lists.{filter-map, filter_same, map-map, map_same}
use Rattle.vtl_meaning.specs.Agreement.{first_agreeing, has_agreeing, key_of}
use Rattle.vtl_meaning.specs.JoinWords.{IsWithin}
use Rattle.vtl_meaning.specs.Joined.{Tuple}
use Rattle.vtl_meaning.specs.LookUps.{part_for, values_named}
use Rattle.vtl_meaning.specs.Made.{IsCombined}
use Rattle.vtl_meaning.specs.Operators.{left_of}
use Rattle.vtl_meaning.specs.Sets.{difference_of, existence_of, has_point, intersection_of, with_answer}
use Rattle.vtl_meaning.proofs.JoinPartners.{beside_looked}
use Rattle.vtl_meaning.proofs.Kept.{shown_split}
use Rattle.vtl_meaning.proofs.Places.{key_cells, key_for, key_of_joined, key_of_point, key_within, point_length}
use Rattle.vtl_meaning.proofs.SetsLooks.{shown_look}
use Rattle.vtl_meaning_laws.proofs.Combined.{among_same, named_same}
use Rattle.vtl_meaning_laws.proofs.Twice.{parts_of_all}

pub parts_are_all : (d e : DataSet) → Perm (existence_of d e retain.True ++ existence_of d e retain.False) (existence_of d e retain.All)
parts_are_all d e =
    let test : Row → Bool = has_agreeing d.structure e in
    let show : Row → Row = with_answer d.structure e in
    chain (Perm-same (existence_of d e retain.True ++ existence_of d e retain.False) (map show (filter test d.points ++ filter (λ r. not (test r)) d.points)) (sym (map-append show (filter test d.points) (filter (λ r. not (test r)) d.points))))
    (chain (Perm-map show (parts_of_all test (λ r. not (test r)) (λ r. refl) d.points))
    (Perm-same (map show d.points) (existence_of d e retain.All) (ap (map show) (sym (filter_true d.points)))))

-- ---- the identifiers
some_mapped : {X Y : Type 0} (f : X → Y) (o : Option X) → is_some (option_map f o) ≡ is_some o
some_mapped f None = refl
some_mapped f (Some x) = refl

module _ (d e : DataSet) (s : Structure) (i : IsCombined d.structure (e.structure ∷ []) s) (h : IsDataSet d.structure d.points) (k : IsDataSet e.structure e.points) where
  abbrev ours : Structure
  ours = d.structure

  abbrev theirs : Structure
  theirs = e.structure

  abbrev n : ℕ
  n = key_width s

  abbrev IsOurs : Row → Type 0
  IsOurs r = is_point (columns_of ours) r ≡ true

  abbrev shown_point : Row → Row
  shown_point r = cells_at (places_in (columns_of ours) (columns_of s)) r

  within : IsWithin ours e
  within = record {
    kept = k;
    within = among_same (identifiers_of theirs) (identifiers_of s) (identifiers_of ours) i.identifiers.0 i.identifiers.1 i.operands.1.0.there;
  }

  own_key : (r : Row) → IsOurs r → is_point (identifiers_of s) (key_of ours r) ≡ true
  own_key r w = key_for s ours (key_of ours r) i.identifiers (key_of_point ours r w)

  key_shown : (r : Row) → IsOurs r → take n (shown_point r) ≡ key_of ours r
  key_shown r w =
      ap (take n) (shown_split (columns_of ours) s r ∙ ap (λ l. l ++ cells_at (places_in (columns_of ours) (others_of s)) r) (key_cells ours s r h.well_formed i.identifiers (key_within ours r w)))
      ∙ key_of_joined s (key_of ours r) (cells_at (places_in (columns_of ours) (others_of s)) r) (own_key r w)

  key_answered : (r : Row) → IsOurs r → take n (with_answer ours e r) ≡ key_of ours r
  key_answered r w = key_of_joined s (key_of ours r) (c.Bool (has_agreeing ours e r) ∷ []) (own_key r w)

  abbrev first_part : Tuple → Option Row
  first_part t = option_and_then (λ q. q.point) (slice_get t.parts 0)

  agreeing_looked : (r : Row) → first_agreeing ours e r ≡ look (key_width theirs) e.points (part_for ours theirs (key_of ours r))
  agreeing_looked r = ap first_part (beside_looked ours (e ∷ []) r (within, tt))

  same_answer : (r : Row) → IsOurs r → has_agreeing ours e r ≡ has_point n (left_of e s) (shown_point r)
  same_answer r w =
      let key = key_of ours r in
      let part = part_for s theirs key in
      ap is_some (agreeing_looked r ∙ ap (look (key_width theirs) e.points) (named_same (identifiers_of ours) (identifiers_of s) (identifiers_of theirs) key (sym i.identifiers.0)))
      ∙ sym (some_mapped (λ q. key ++ values_named (columns_of theirs) (others_of s) q) (look (key_width theirs) e.points part))
      ∙ ap is_some (sym (shown_look e s key i.well_formed i.no_attributes i.operands.1.0 k (point_length (identifiers_of s) key (own_key r w))))
      ∙ ap (λ j. is_some (look n (left_of e s) j)) (sym (key_shown r w))

  -- the identifiers of the points that pass a test of the answer
  keys_of_passing : (keep test : Bool → Bool) → ((b : Bool) → keep b ≡ test b)
      → map (take n) (map (with_answer ours e) (filter (λ r. keep (has_agreeing ours e r)) d.points)) ≡ map (take n) (filter (λ r. test (has_point n (left_of e s) r)) (left_of d s))
  keys_of_passing keep test same =
      let old : Row → Bool = λ r. keep (has_agreeing ours e r) in
      let new : Row → Bool = λ r. test (has_point n (left_of e s) (shown_point r)) in
      let left = filter new d.points in
      ap (λ l. map (take n) (map (with_answer ours e) l))
      (filter_same old new d.points (all_more IsOurs (λ r. old r ≡ new r) (λ r w. same (has_agreeing ours e r) ∙ ap test (same_answer r w)) d.points h.typed))
      ∙ map-map (take n) (with_answer ours e) left
      ∙ map_same (λ r. take n (with_answer ours e r)) (λ r. take n (shown_point r)) left
      (all_more IsOurs (λ r. take n (with_answer ours e r) ≡ take n (shown_point r)) (λ r w. key_answered r w ∙ sym (key_shown r w)) left (AllByRecursion-filter IsOurs new d.points h.typed))
      ∙ sym (map-map (take n) shown_point left)
      ∙ ap (map (take n)) (sym (filter-map (λ r. test (has_point n (left_of e s) r)) shown_point d.points))

  pub there_is_intersection : map (take n) (existence_of d e retain.True) ≡ map (take n) (intersection_of (d ∷ e ∷ []) s)
  there_is_intersection = keys_of_passing (λ b. b) (λ b. b && true) plain
    where
      plain : (b : Bool) → b ≡ (b && true)
      plain true = refl
      plain false = refl

  pub absent_is_difference : map (take n) (existence_of d e retain.False) ≡ map (take n) (difference_of d e s)
  absent_is_difference = keys_of_passing not not (λ b. refl)
