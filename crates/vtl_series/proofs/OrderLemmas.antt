-- No row of series stands twice, and the order of the rows that they are made of is not seen.
use Rattle.std.proofs.Common.{◌≡◌, ◌*◌, ℕ, Bool, true, false, cond, not, ◌&&◌, List, [], ◌∷◌, map, refl, sym, ap, ◌∙◌, subst, nat_eq, nat_le, true≢false}
use Rattle.std.specs.List.{AllByRecursion, filter, flat_map, range_with_len}
use Rattle.std.specs.Option.{option_map_or}
use Rattle.vtl_lists.specs.Apart.{all_apart}
use Rattle.vtl_lists.specs.Perm.{Perm, empty, keep, cross, chain}
use Rattle.vtl_lists.proofs.Aparts.{all_apart-filter, list_any-Perm}
use Rattle.vtl_lists.proofs.Perms.{Perm-filter, Perm-flat_map, Perm-map, Perm-refl, Perm-same}
use Rattle.vtl_lists.proofs.Alls.{all_each}
use Rattle.vtl_lists.proofs.Sorts.{AllByRecursion-map}
use Rattle.vtl_lists.proofs.Filters.{filter_swap}
use Rattle.vtl_cell.specs.Row.{Row, same_row}
use Rattle.vtl_cell.proofs.Rows.{same_row-is, same_row-sym}
use Rattle.vtl_index.specs.Groups.{each_once}
use Rattle.vtl_index.proofs.KeyGroups.{once_apart}
use Rattle.vtl_rows.specs.Tables.{cells_at}
use Rattle.vtl_time.specs.Periods.{frequency_rank, parts_in_year}
use Rattle.vtl_time.specs.declared.periods.Frequency.{Frequency}
use Rattle.vtl_series.specs.declared.extent.Extent.{Extent}
use Rattle.vtl_series.specs.declared.extent.Extent.TheVariants as extent
use Rattle.vtl_series.specs.Series.{dated, frequencies, is_spanned, keys_by, number_at, numbers_of, rows_by, seen_by, series_at, series_rows, some_number, tuple_rows}
use Rattle.vtl_series.proofs.DatedLemmas.{frequencies_part, keys_part, numbers_part}
use Rattle.vtl_series.proofs.ListLemmas.{apart_flat_map, apart_map, numbers_apart}
use Rattle.vtl_series.proofs.WholeLemmas.{all_rows, spanned}

-- ---- no row twice
module _ (e : Extent) (on : ℕ) (by : List ℕ) (rows : List Row) where
  abbrev part : Row → Frequency → List Row
  part key f = series_at e on rows (rows_by by rows key) key f

  part_once : (key : Row) (f : Frequency) → all_apart same_row (part key f) ≡ true
  part_once key f =
      apart_map nat_eq same_row (dated f key) (numbers_part key f) (numbers_of f on (rows_by by rows key) (seen_by e rows (rows_by by rows key)))
      (all_apart-filter nat_eq (spanned e on by rows key f) (range_with_len 0 (10000 * parts_in_year f)) (numbers_apart 0 (10000 * parts_in_year f)))

  parts_differ : (key : Row) (f g : Frequency) → nat_eq (frequency_rank f) (frequency_rank g) ≡ false → AllByRecursion (λ y. AllByRecursion (λ w. same_row y w ≡ false) (part key g)) (part key f)
  parts_differ key f g ne =
      let own = rows_by by rows key in
      AllByRecursion-map (dated f key) (λ y. AllByRecursion (λ w. same_row y w ≡ false) (part key g)) (numbers_of f on own (seen_by e rows own))
      (all_each (λ i. AllByRecursion (λ w. same_row (dated f key i) w ≡ false) (part key g))
      (λ i. AllByRecursion-map (dated g key) (λ w. same_row (dated f key i) w ≡ false) (numbers_of g on own (seen_by e rows own))
      (all_each (λ j. same_row (dated f key i) (dated g key j) ≡ false) (λ j. frequencies_part key f g i j ne) (numbers_of g on own (seen_by e rows own))))
      (numbers_of f on own (seen_by e rows own)))

  rows_once : (key : Row) → all_apart same_row (tuple_rows e on by rows key) ≡ true
  rows_once key = apart_flat_map (λ f g. nat_eq (frequency_rank f) (frequency_rank g)) same_row (part key) (part_once key) (parts_differ key) frequencies refl

  keys_differ : (key other : Row) → same_row key other ≡ false → AllByRecursion (λ y. AllByRecursion (λ w. same_row y w ≡ false) (tuple_rows e on by rows other)) (tuple_rows e on by rows key)
  keys_differ key other ne =
      all_rows e on by rows (λ y. AllByRecursion (λ w. same_row y w ≡ false) (tuple_rows e on by rows other)) key
      (λ f i h s. all_rows e on by rows (λ w. same_row (dated f key i) w ≡ false) other (λ g j k t. keys_part key other f g i j ne))

  pub once : all_apart same_row (series_rows e on by rows) ≡ true
  once = apart_flat_map same_row same_row (tuple_rows e on by rows) rows_once keys_differ (keys_by by rows) (once_apart (map (cells_at by) rows))

-- ---- rows in another order
cond_swap : {X : Type 0} (p q : X → Bool) (x : X) (xs : List X) (a b : Bool) → p x ≡ a → q x ≡ b → filter p (filter q xs) ≡ filter q (filter p xs) → filter p (cond b (x ∷ filter q xs) (filter q xs)) ≡ filter q (cond a (x ∷ filter p xs) (filter p xs))
cond_swap p q x xs true true e h ih = rw (e, h) (ap (λ l. x ∷ l) ih)
cond_swap p q x xs true false e h ih = rw h ih
cond_swap p q x xs false true e h ih = rw e ih
cond_swap p q x xs false false e h ih = ih

pub once_cross : (a b : Bool) (x y : Row) (l m : List Row) → a ≡ true → b ≡ true → l ≡ m → Perm (x ∷ cond a (y ∷ l) l) (y ∷ cond b (x ∷ m) m)
once_cross true true x y l m e h same = chain (cross x y l) (Perm-same (y ∷ x ∷ l) (y ∷ x ∷ m) (ap (λ n. y ∷ x ∷ n) same))
once_cross false b x y l m e h same = absurd (true≢false (sym e))
once_cross true false x y l m e h same = absurd (true≢false (sym h))

once-Perm : {xs ys : List Row} → Perm xs ys → Perm (each_once same_row xs) (each_once same_row ys)
once-Perm empty = empty
once-Perm (keep x p) = keep x (Perm-filter (λ y. not (same_row x y)) (once-Perm p))
once-Perm (cross x y xs) = go (same_row x y) refl
  where
    go : (b : Bool) → same_row x y ≡ b → Perm (each_once same_row (x ∷ y ∷ xs)) (each_once same_row (y ∷ x ∷ xs))
    go true e = subst (λ w. Perm (each_once same_row (x ∷ w ∷ xs)) (each_once same_row (w ∷ x ∷ xs))) (same_row-is x y e) (Perm-refl (each_once same_row (x ∷ x ∷ xs)))
    go false e =
        once_cross (not (same_row x y)) (not (same_row y x)) x y (filter (λ z. not (same_row x z)) (filter (λ z. not (same_row y z)) (each_once same_row xs))) (filter (λ z. not (same_row y z)) (filter (λ z. not (same_row x z)) (each_once same_row xs)))
        (ap not e) (ap not (sym (same_row-sym x y) ∙ e)) (filter_swap (λ z. not (same_row x z)) (λ z. not (same_row y z)) (each_once same_row xs))
once-Perm (chain p q) = chain (once-Perm p) (once-Perm q)

pub seen-Perm : (e : Extent) {rows others own mine : List Row} → Perm rows others → Perm own mine → Perm (seen_by e rows own) (seen_by e others mine)
seen-Perm extent.Single p q = q
seen-Perm extent.All p q = p

spanned-Perm : (f : Frequency) (on : ℕ) {own mine seen others : List Row} → Perm own mine → Perm seen others → (i : ℕ) → is_spanned f on own seen i ≡ is_spanned f on mine others i
spanned-Perm f on {own} {mine} {seen} {others} p q i =
    ap (λ b. b && (some_number (λ j. nat_le j i) f on seen && some_number (λ j. nat_le i j) f on seen)) (list_any-Perm (λ r. option_map_or (λ j. true) (number_at on f r) false) p)
    ∙ ap (λ b. some_number (λ j. true) f on mine && (b && some_number (λ j. nat_le i j) f on seen)) (list_any-Perm (λ r. option_map_or (λ j. nat_le j i) (number_at on f r) false) q)
    ∙ ap (λ b. some_number (λ j. true) f on mine && (some_number (λ j. nat_le j i) f on others && b)) (list_any-Perm (λ r. option_map_or (λ j. nat_le i j) (number_at on f r) false) q)

module _ (e : Extent) (on : ℕ) (by : List ℕ) {rows others : List Row} (p : Perm rows others) where
  own-Perm : (key : Row) → Perm (rows_by by rows key) (rows_by by others key)
  own-Perm key = Perm-filter (λ r. same_row (cells_at by r) key) p

  same_part : (key : Row) (f : Frequency) → series_at e on rows (rows_by by rows key) key f ≡ series_at e on others (rows_by by others key) key f
  same_part key f =
      let same : spanned e on by rows key f ≡ spanned e on by others key f = λ n i. spanned-Perm f on (own-Perm key) (seen-Perm e p (own-Perm key)) i n in
      ap (λ t. map (dated f key) (filter t (range_with_len 0 (10000 * parts_in_year f)))) same

  same_rows : (key : Row) → tuple_rows e on by rows key ≡ tuple_rows e on by others key
  same_rows key = let same : series_at e on rows (rows_by by rows key) key ≡ series_at e on others (rows_by by others key) key = λ n f. same_part key f n in ap (λ F. flat_map F frequencies) same

  pub in_no_order : Perm (series_rows e on by rows) (series_rows e on by others)
  in_no_order =
      let same : tuple_rows e on by rows ≡ tuple_rows e on by others = λ n key. same_rows key n in
      chain (Perm-flat_map (tuple_rows e on by rows) (once-Perm (Perm-map (cells_at by) p)))
      (Perm-same (flat_map (tuple_rows e on by rows) (keys_by by others)) (series_rows e on by others) (ap (λ F. flat_map F (keys_by by others)) same))
