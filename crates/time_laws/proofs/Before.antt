-- The points of a series up to a point are those before it and the point; those before it are the ones up to the previous one.
use Rattle.std.proofs.Common.{◌≡◌, Bool, true, false, ◌&&◌, cond, List, [], ◌∷◌, ◌++◌, find, filter, Some, None, refl, sym, ap, ◌∙◌, subst, true≢false}
use Rattle.std.specs.List.{AllByRecursion, list_all}
use Rattle.std.specs.Cmp.{both_ways}
use Rattle.std.specs.Ordering.{is_le, is_lt, ordering_reverse}
use Rattle.std.specs.declared.cmp.Ordering.{Ordering}
use Rattle.std.specs.declared.cmp.Ordering.TheVariants.{Less, Equal, Greater}
use Rattle.std.proofs.lemmas.List.Elements.{filter-append}
use Rattle.std.proofs.lemmas.Bool.{and_parts}
use Rattle.vtl_lists.specs.Apart.{all_apart}
use Rattle.vtl_lists.specs.Perm.{Perm, chain}
use Rattle.vtl_lists.proofs.Aparts.{all_apart-filter}
use Rattle.vtl_lists.proofs.Perms.{Perm-append_comm, Perm-middle, Perm-same}
use Rattle.vtl_lists.proofs.Alls.{all_back, all_both, all_front, all_kept, all_more, test_from_all}
use Rattle.vtl_lists.proofs.Filters.{none_found}
use Rattle.vtl_tuples.proofs.Lists.{filter_same}
use Rattle.vtl_cell.specs.Order.{cell_cmp, same_cell}
use Rattle.vtl_cell.specs.Row.{Row, same_key, same_row}
use Rattle.vtl_cell.specs.ScalarPeriods.{frequency_of}
use Rattle.vtl_cell.proofs.Cells.{same_cell-is, same_cell-refl}
use Rattle.vtl_cell.proofs.Orders.{cell_cmp-ties, cell_cmp_total}
use Rattle.vtl_cell.proofs.Rows.{same_row-is, same_row-refl, is_Less}
use Rattle.vtl_tree.specs.DataSet.{IsDataSet, is_point}
use Rattle.vtl_tree.specs.Environment.{DataSet}
use Rattle.vtl_tree.specs.Structure.{IsStructure, columns_of, key_width}
use Rattle.vtl_tree.specs.declared.structure.Structure.{Structure}
use Rattle.vtl_meaning.specs.Agreement.{values_in}
use Rattle.vtl_meaning.specs.Points.{with_points}
use Rattle.vtl_timing.specs.Times.{HasTime, before, in_one_series, other_identifiers, previous, series_of, time_of, up_to}
use Rattle.vtl_timing.proofs.FlowOrders.{keys_same}
use Rattle.time_laws.proofs.Lists.{IsAmong, apart_cut, cut_at, filtered_all, find_gives, first_among, item_has, later_among, passes_too}

-- ---- orderings
not_equal : (o : Ordering) → (o ≡ Equal → ⊥) → is_le o ≡ is_lt o
not_equal Less h = refl
not_equal Equal h = absurd (h refl)
not_equal Greater h = refl

own_tie : (o : Ordering) → o ≡ ordering_reverse o → o ≡ Equal
own_tie Less e = cc
own_tie Equal e = refl
own_tie Greater e = cc

turned : (o w : Ordering) → w ≡ ordering_reverse o → is_le o ≡ false → is_lt w ≡ true
turned Less w e f = cc
turned Equal w e f = cc
turned Greater w e f = ap is_lt e

module _ (a : Structure) where
  abbrev no_later : Row → Row → Bool
  no_later q r = is_le (cell_cmp (time_of a q) (time_of a r))

  abbrev earlier : Row → Row → Bool
  earlier q r = is_lt (cell_cmp (time_of a q) (time_of a r))

  at_once : (q : Row) → cell_cmp (time_of a q) (time_of a q) ≡ Equal
  at_once q = own_tie (cell_cmp (time_of a q) (time_of a q)) (cell_cmp_total.antisymm (time_of a q) (time_of a q))

  or_else : (x m : Row) → no_later x m ≡ false → earlier m x ≡ true
  or_else x m e = turned (cell_cmp (time_of a x) (time_of a m)) (cell_cmp (time_of a m) (time_of a x)) (cell_cmp_total.antisymm (time_of a m) (time_of a x)) e

  -- no later than one that is earlier
  earlier_still : (z x r : Row) → no_later z x ≡ true → earlier x r ≡ true → earlier z r ≡ true
  earlier_still z x r h e = go (cell_cmp (time_of a z) (time_of a x)) refl h
    where
      less : cell_cmp (time_of a x) (time_of a r) ≡ Less
      less = is_Less (cell_cmp (time_of a x) (time_of a r)) e

      go : (o : Ordering) → cell_cmp (time_of a z) (time_of a x) ≡ o → is_le o ≡ true → earlier z r ≡ true
      go Less f g = ap is_lt (cell_cmp_total.trans (time_of a z) (time_of a x) (time_of a r) f less)
      go Equal f g = ap is_lt (cell_cmp_total.congr (time_of a z) (time_of a x) (time_of a r) f ∙ less)
      go Greater f g = cc

  lax : (z r : Row) → earlier z r ≡ true → no_later z r ≡ true
  lax z r e = ap is_le (is_Less (cell_cmp (time_of a z) (time_of a r)) e)

  -- ---- one series
  pub self_series : (r : Row) → in_one_series a r r ≡ true
  self_series r = λ i. same_row-refl (values_in a (other_identifiers a) r) i && same_cell-refl (frequency_of (time_of a r)) i

  one_series : (r q : Row) → in_one_series a r q ≡ true → in_one_series a q ≡ in_one_series a r
  one_series r q e =
      let vals = λ (z : Row). values_in a (other_identifiers a) z in
      let parts = and_parts (same_row (vals q) (vals r)) (same_cell (frequency_of (time_of a q)) (frequency_of (time_of a r))) e in
      let values = same_row-is (vals q) (vals r) parts.0 in
      let letters = same_cell-is (frequency_of (time_of a q)) (frequency_of (time_of a r)) parts.1 in
      λ i z. same_row (vals z) (values i) && same_cell (frequency_of (time_of a z)) (letters i)

  -- ---- the last of some points
  record Last (rows : List Row) : Type 0 where
    row : Row
    among : IsAmong rows row
    last : AllByRecursion (λ z. no_later z row ≡ true) rows

  last_one : (x : Row) (xs : List Row) → Last (x ∷ xs)
  last_one x [] = record { row = x; among = first_among x []; last = (ap is_le (at_once x), tt) }
  last_one x (y ∷ ys) = with_one (last_one y ys)
    where
      with_one : Last (y ∷ ys) → Last (x ∷ y ∷ ys)
      with_one rest = go (no_later x rest.row) refl
        where
          go : (b : Bool) → no_later x rest.row ≡ b → Last (x ∷ y ∷ ys)
          go true e = record { row = rest.row; among = later_among rest.row x (y ∷ ys) rest.among; last = (e, rest.last) }
          go false e =
              let less = or_else x rest.row e in
              record { row = x; among = first_among x (y ∷ ys); last = (ap is_le (at_once x), all_more (λ z. no_later z rest.row ≡ true) (λ z. no_later z x ≡ true) (λ z h. lax z x (earlier_still z rest.row x h less)) (y ∷ ys) rest.last) }

  abbrev is_last : List Row → Row → Bool
  is_last rows q = list_all (λ z. no_later z q) rows

  none_at_all : (rows : List Row) → find (is_last rows) rows ≡ None → rows ≡ []
  none_at_all [] e = refl
  none_at_all (x ∷ xs) e =
      let found = last_one x xs in
      absurd (true≢false (sym (test_from_all (λ z. no_later z found.row) (x ∷ xs) found.last) ∙ item_has (λ q. is_last (x ∷ xs) q ≡ false) (x ∷ xs) found.row found.among (none_found (is_last (x ∷ xs)) (x ∷ xs) e)))

  module _ (well : IsStructure a) (time : HasTime a) (us : List Row) (h : IsDataSet a us) where
    abbrev d : DataSet
    d = with_points a us

    series_same : (r q : Row) → in_one_series a r q ≡ true → series_of d q ≡ series_of d r
    series_same r q e = ap (λ g. filter g us) (one_series r q e)

    abbrev IsIn : Row → Row → Type 0
    IsIn r z = (is_point (columns_of a) z ≡ true) × (in_one_series a r z ≡ true)

    all_in : (r : Row) → AllByRecursion (IsIn r) (series_of d r)
    all_in r = all_kept (λ z. is_point (columns_of a) z ≡ true) (in_one_series a r) us h.typed

    -- ---- up to a point
    pub up_to_is : (r : Row) → IsAmong us r → Perm (up_to d r) (before d r ++ r ∷ [])
    up_to_is r m =
        let c = cut_at r (series_of d r) (passes_too (in_one_series a r) r us (self_series r) m) in
        let n = key_width a in
        let p : Row → Bool = λ z. no_later z r in
        let q : Row → Bool = λ z. earlier z r in
        let within = subst (AllByRecursion (IsIn r)) c.is (all_in r) in
        let own = (all_back (IsIn r) c.front (r ∷ c.back) within).0 in
        let apart = apart_cut (same_key n) c.front r c.back (ap (all_apart (same_key n)) (sym c.is) ∙ all_apart-filter (same_key n) (in_one_series a r) us h.distinct) in
        let first = filter_same p q c.front
        (all_both (IsIn r) (λ z. same_key n z r ≡ false) (λ z. p z ≡ q z)
        (λ z i f. not_equal (cell_cmp (time_of a z) (time_of a r)) (λ e. true≢false (sym (keys_same a well time r z r i.0 own.0 i.1 own.1 (cell_cmp-ties (time_of a z) (time_of a r) e)) ∙ f))) c.front (all_front (IsIn r) c.front (r ∷ c.back) within) apart.0) in
        let second = filter_same p q c.back
        (all_both (IsIn r) (λ z. same_key n r z ≡ false) (λ z. p z ≡ q z)
        (λ z i f. not_equal (cell_cmp (time_of a z) (time_of a r)) (λ e. true≢false (sym (keys_same a well time r r z own.0 i.0 own.1 i.1 (sym (cell_cmp-ties (time_of a z) (time_of a r) e))) ∙ f))) c.back (all_back (IsIn r) c.front (r ∷ c.back) within).1 apart.1) in
        let here : p r ≡ true = ap is_le (at_once r) in
        let gone : q r ≡ false = ap is_lt (at_once r) in
        let some : filter p (series_of d r) ≡ filter q c.front ++ r ∷ filter q c.back =
        ap (filter p) c.is ∙ filter-append p c.front (r ∷ c.back) ∙ ap (λ b. filter p c.front ++ cond b (r ∷ filter p c.back) (filter p c.back)) here ∙ (λ i. first i ++ r ∷ second i) in
        let others : filter q (series_of d r) ≡ filter q c.front ++ filter q c.back =
        ap (filter q) c.is ∙ filter-append q c.front (r ∷ c.back) ∙ ap (λ b. filter q c.front ++ cond b (r ∷ filter q c.back) (filter q c.back)) gone in
        chain (Perm-same (up_to d r) (filter q c.front ++ r ∷ filter q c.back) some)
        (chain (Perm-middle (filter q c.front) r (filter q c.back))
        (chain (Perm-same (r ∷ (filter q c.front ++ filter q c.back)) (r ∷ before d r) (ap (λ l. r ∷ l) (sym others))) (Perm-append_comm (r ∷ []) (before d r))))

    -- ---- the previous point
    all_before : (r : Row) → AllByRecursion (λ z. IsIn r z × (earlier z r ≡ true)) (before d r)
    all_before r = all_kept (IsIn r) (λ z. earlier z r) (series_of d r) (all_in r)

    pub before_is : (r x : Row) → previous d r ≡ Some x → up_to d x ≡ before d r
    before_is r x e =
        let found = find_gives (is_last (before d r)) (λ z. IsIn r z × (earlier z r ≡ true)) (before d r) x (all_before r) e in
        let late = filtered_all (λ z. earlier z r) (λ z. no_later z x) (series_of d r) found.1 in
        ap (filter (λ z. no_later z x)) (series_same r x found.0.0.1)
        ∙ filter_same (λ z. no_later z x) (λ z. earlier z r) (series_of d r)
        (all_more (λ z. earlier z r ≡ true → no_later z x ≡ true) (λ z. no_later z x ≡ earlier z r) (λ z k. both_ways (no_later z x) (earlier z r) (λ f. earlier_still z x r f found.0.1) k) (series_of d r) late)

    pub none_before : (r : Row) → previous d r ≡ None → before d r ≡ []
    none_before r e = none_at_all (before d r) e
