-- Series of series are the same.
use Rattle.std.proofs.Common.{◌≡◌, ◌<◌, ◌*◌, ℕ, Bool, true, false, cond, not, ◌&&◌, List, [], ◌∷◌, ◌++◌, Option, Some, None, map, length, refl, sym, ap, ◌∙◌, arith, nat_eq, nat_le, eq-eqb, eqb-true, true≢false}
use Rattle.std.specs.List.{AllByRecursion, filter, flat_map, list_any, range_with_len}
use Rattle.std.specs.Option.{option_map_or}
use Rattle.std.proofs.lemmas.Bool.{and_parts, or_left, or_right}
use Rattle.std.proofs.lemmas.Bool.Decides.{nat_tests}
use Rattle.std.proofs.lemmas.List.{length-map}
use Rattle.vtl_lists.specs.Apart.{all_apart}
use Rattle.vtl_lists.proofs.Aparts.{apart_parts}
use Rattle.vtl_lists.proofs.Sorts.{AllByRecursion-filter, AllByRecursion-map}
use Rattle.vtl_lists.proofs.Alls.{all_each, all_more}
use Rattle.vtl_lists.proofs.Filters.{filter_all}
use Rattle.vtl_lists.proofs.Tests.{same_tests}
use Rattle.vtl_tuples.proofs.Lists.{flat_map_same, map-flat_map, map_same}
use Rattle.vtl_cell.specs.Row.{Row, column_of, same_row}
use Rattle.vtl_cell.specs.declared.cell.Cell.TheVariants as c
use Rattle.vtl_cell.proofs.Rows.{same_row-is, same_row-refl}
use Rattle.vtl_cell.proofs.Times.{rank_apart}
use Rattle.vtl_index.specs.Groups.{each_once}
use Rattle.vtl_index.proofs.KeyGroups.{once_apart}
use Rattle.vtl_index.proofs.Ranges.{passing_agree}
use Rattle.vtl_rows.specs.Tables.{cells_at}
use Rattle.vtl_time.specs.Periods.{frequency_rank, parts_in_year, period_at}
use Rattle.vtl_time.specs.declared.periods.Frequency.{Frequency}
use Rattle.vtl_series.specs.declared.extent.Extent.{Extent}
use Rattle.vtl_series.specs.declared.extent.Extent.TheVariants as extent
use Rattle.vtl_series.specs.Series.{dated, frequencies, is_spanned, keys_by, number_at, rows_by, seen_by, series_at, series_rows, some_number, tuple_rows}
use Rattle.vtl_series.proofs.DatedLemmas.{front_is, number_is}
use Rattle.vtl_series.proofs.ListLemmas.{all_flat_map, any_filter, any_flat_map, any_gives, any_more}
use Rattle.vtl_series.proofs.WholeLemmas.{all_rows, among_all, row_among, row_there, spanned}

-- ---- items that come once, each again and again
abbrev has_items : {X : Type 0} → List X → Bool
has_items [] = false
has_items (x ∷ xs) = true

module _ {Y : Type 0} (F : Row → List Y) where
  abbrev pub has_some : Row → Bool
  has_some key = has_items (F key)

  abbrev copies : Row → List Y → List Row
  copies key ys = map (λ y. key) ys

  gone_twice : (key : Row) (xs : List Row) → filter (λ y. not (same_row key y)) (filter (λ y. not (same_row key y)) xs) ≡ filter (λ y. not (same_row key y)) xs
  gone_twice key [] = refl
  gone_twice key (x ∷ xs) = go (same_row key x) refl (gone_twice key xs)
    where
      go : (b : Bool) → same_row key x ≡ b → filter (λ y. not (same_row key y)) (filter (λ y. not (same_row key y)) xs) ≡ filter (λ y. not (same_row key y)) xs
          → filter (λ y. not (same_row key y)) (cond (not b) (x ∷ filter (λ y. not (same_row key y)) xs) (filter (λ y. not (same_row key y)) xs)) ≡ cond (not b) (x ∷ filter (λ y. not (same_row key y)) xs) (filter (λ y. not (same_row key y)) xs)
      go true e ih = ih
      go false e ih = ap (λ b. cond (not b) (x ∷ filter (λ y. not (same_row key y)) (filter (λ y. not (same_row key y)) xs)) (filter (λ y. not (same_row key y)) (filter (λ y. not (same_row key y)) xs))) e ∙ ap (λ l. x ∷ l) ih

  copies_go : (key : Row) (ys : List Y) (rest : List Row) → filter (λ y. not (same_row key y)) (each_once same_row (copies key ys ++ rest)) ≡ filter (λ y. not (same_row key y)) (each_once same_row rest)
  copies_go key [] rest = refl
  copies_go key (y ∷ ys) rest =
      let later = filter (λ z. not (same_row key z)) (each_once same_row (copies key ys ++ rest)) in
      ap (λ b. cond (not b) (key ∷ filter (λ z. not (same_row key z)) later) (filter (λ z. not (same_row key z)) later)) (same_row-refl key)
      ∙ gone_twice key (each_once same_row (copies key ys ++ rest)) ∙ copies_go key ys rest

  once_kept : (P : Row → Type 0) (xs : List Row) → AllByRecursion P xs → AllByRecursion P (each_once same_row xs)
  once_kept P [] all = tt
  once_kept P (x ∷ xs) all = (all.0, AllByRecursion-filter P (λ y. not (same_row x y)) (each_once same_row xs) (once_kept P xs all.1))

  pub once_of_copies : (keys : List Row) → all_apart same_row keys ≡ true → each_once same_row (flat_map (λ key. copies key (F key)) keys) ≡ filter has_some keys
  once_of_copies [] e = refl
  once_of_copies (key ∷ keys) e = go (F key) (once_of_copies keys parts.1)
    where
      parts : AllByRecursion (λ y. same_row key y ≡ false) keys × (all_apart same_row keys ≡ true)
      parts = apart_parts same_row key keys e

      rest : List Row
      rest = flat_map (λ other. copies other (F other)) keys

      others : AllByRecursion (λ y. same_row key y ≡ false) rest
      others =
          all_flat_map (λ other. copies other (F other)) (λ y. same_row key y ≡ false) keys
          (all_more (λ other. same_row key other ≡ false) (λ other. AllByRecursion (λ y. same_row key y ≡ false) (copies other (F other)))
          (λ other ne. AllByRecursion-map (λ y. other) (λ y. same_row key y ≡ false) (F other) (all_each (λ y. same_row key other ≡ false) (λ y. ne) (F other))) keys parts.0)

      stay : filter (λ y. not (same_row key y)) (each_once same_row rest) ≡ each_once same_row rest
      stay =
          filter_all (λ y. not (same_row key y)) (each_once same_row rest)
          (all_more (λ y. same_row key y ≡ false) (λ y. not (same_row key y) ≡ true) (λ y ne. ap not ne) (each_once same_row rest) (once_kept (λ y. same_row key y ≡ false) rest others))

      go : (ys : List Y) → each_once same_row rest ≡ filter has_some keys → each_once same_row (copies key ys ++ rest) ≡ cond (has_items ys) (key ∷ filter has_some keys) (filter has_some keys)
      go [] ih = ih
      go (y ∷ ys) ih = ap (λ l. key ∷ l) (copies_go key ys rest ∙ stay ∙ ih)

  -- those without items add none
  pub some_suffice : (keys : List Row) → flat_map F (filter has_some keys) ≡ flat_map F keys
  some_suffice [] = refl
  some_suffice (key ∷ keys) = go (F key) refl (some_suffice keys)
    where
      go : (ys : List Y) → F key ≡ ys → flat_map F (filter has_some keys) ≡ flat_map F keys → flat_map F (cond (has_items ys) (key ∷ filter has_some keys) (filter has_some keys)) ≡ ys ++ flat_map F keys
      go [] e ih = ih
      go (y ∷ ys) e ih = ap (λ l. l ++ flat_map F (filter has_some keys)) e ∙ ap (λ l. (y ∷ ys) ++ l) ih

-- ---- the series of a table, and those of their rows
module _ (e : Extent) (on : ℕ) (by : List ℕ) (rows : List Row) where
  abbrev n : ℕ
  n = length by

  abbrev places : List ℕ
  places = range_with_len 0 n

  abbrev keys : List Row
  keys = keys_by by rows

  abbrev made : List Row
  made = series_rows e on by rows

  abbrev R : Row → List Row
  R = tuple_rows e on by rows

  -- a tuple of the table
  record IsKey (key : Row) : Type 0 where
    pub wide : length key ≡ n
    pub there : list_any (same_row key) keys ≡ true

  are_keys : AllByRecursion IsKey keys
  are_keys = both keys wide there
    where
      wide : AllByRecursion (λ key. length key ≡ n) keys
      wide = once_kept (λ (r : Row). r) (λ key. length key ≡ n) (map (cells_at by) rows) (AllByRecursion-map (cells_at by) (λ key. length key ≡ n) rows (all_each (λ r. length (cells_at by r) ≡ n) (λ r. length-map by (λ i. column_of i r)) rows))

      later : (x : Row) (xs : List Row) → AllByRecursion (λ key. list_any (same_row key) xs ≡ true) xs → AllByRecursion (λ key. list_any (same_row key) (x ∷ xs) ≡ true) xs
      later x xs all = all_more (λ key. list_any (same_row key) xs ≡ true) (λ key. list_any (same_row key) (x ∷ xs) ≡ true) (λ key h. or_right (same_row key x) (list_any (same_row key) xs) h) xs all

      themselves : (xs : List Row) → AllByRecursion (λ key. list_any (same_row key) xs ≡ true) xs
      themselves [] = tt
      themselves (x ∷ xs) = (or_left (same_row x x) (list_any (same_row x) xs) (same_row-refl x), later x xs (themselves xs))

      there : AllByRecursion (λ key. list_any (same_row key) keys ≡ true) keys
      there = themselves keys

      both : (xs : List Row) → AllByRecursion (λ key. length key ≡ n) xs → AllByRecursion (λ key. list_any (same_row key) keys ≡ true) xs → AllByRecursion IsKey xs
      both [] h i = tt
      both (x ∷ xs) h i = (record { wide = h.0; there = i.0 }, both xs h.1 i.1)

  -- the tuples of the rows that are made are those with some row
  fronts : map (cells_at places) made ≡ flat_map (λ key. map (λ r. key) (R key)) keys
  fronts =
      map-flat_map (cells_at places) R keys
      ∙ flat_map_same (λ key. map (cells_at places) (R key)) (λ key. map (λ r. key) (R key)) keys
      (all_more IsKey (λ key. map (cells_at places) (R key) ≡ map (λ r. key) (R key))
      (λ key is. map_same (cells_at places) (λ r. key) (R key) (all_rows e on by rows (λ r. cells_at places r ≡ key) key (λ f i h s. front_is key (c.Period (period_at f i)) n is.wide))) keys are_keys)

  keys_again : keys_by places made ≡ filter (has_some R) keys
  keys_again = ap (each_once same_row) fronts ∙ once_of_copies R keys (once_apart (map (cells_at by) rows))

  -- what a test of numbers says of the rows that are made
  abbrev told : (ℕ → Bool) → Frequency → Row → Bool
  told t f r = option_map_or t (number_at n f r) false

  told_of : (t : ℕ → Bool) (f g : Frequency) (key : Row) (j : ℕ) → length key ≡ n → told t f (dated g key j) ≡ true → (g ≡ f) × (t j ≡ true)
  told_of t f g key j w h = go (nat_eq (frequency_rank g) (frequency_rank f)) refl (sym (ap (λ o. option_map_or t o false) (number_is key f g n j w)) ∙ h)
    where
      go : (b : Bool) → nat_eq (frequency_rank g) (frequency_rank f) ≡ b → option_map_or t (cond b (Some j) None) false ≡ true → (g ≡ f) × (t j ≡ true)
      go true e h = (rank_apart g f (eqb-true (frequency_rank g) (frequency_rank f) e), h)
      go false e h = absurd (true≢false (sym h))

  told_to : (t : ℕ → Bool) (f : Frequency) (key : Row) (j : ℕ) → length key ≡ n → t j ≡ true → told t f (dated f key j) ≡ true
  told_to t f key j w h =
      ap (λ o. option_map_or t o false) (number_is key f f n j w)
      ∙ ap (λ b. option_map_or t (cond b (Some j) None) false) (eq-eqb (frequency_rank f) (frequency_rank f) refl) ∙ h

  -- some row of a tuple passes: a period that belongs to its series does
  gives_in : (t : ℕ → Bool) (b : Bool) (f : Frequency) (key : Row) → length key ≡ n → ((j : ℕ) → spanned e on by rows key f j ≡ true → t j ≡ true → b ≡ true) → list_any (told t f) (R key) ≡ true → b ≡ true
  gives_in t b f key w h =
      any_gives (λ r. told t f r ≡ true → b ≡ true) (told t f) b (R key)
      (all_rows e on by rows (λ r. told t f r ≡ true → b ≡ true) key
      (λ g j k s m. let both = told_of t f g key j w m in h j (ap (λ x. spanned e on by rows key x j) (sym both.0) ∙ s) both.1))
      (λ r q. q)

  module _ (key : Row) (is : IsKey key) where
    abbrev own : List Row
    own = rows_by places made key

    abbrev seen : List Row
    seen = seen_by e rows (rows_by by rows key)

    -- some row that is made for the tuple
    own_gives : (t : ℕ → Bool) (b : Bool) (f : Frequency) → ((j : ℕ) → spanned e on by rows key f j ≡ true → t j ≡ true → b ≡ true) → some_number t f n own ≡ true → b ≡ true
    own_gives t b f h m =
        any_gives IsKey (λ other. list_any (λ r. same_row (cells_at places r) key && told t f r) (R other)) b keys are_keys
        (λ other it.
        any_gives (λ r. (same_row (cells_at places r) key && told t f r) ≡ true → b ≡ true) (λ r. same_row (cells_at places r) key && told t f r) b (R other)
        (all_rows e on by rows (λ r. (same_row (cells_at places r) key && told t f r) ≡ true → b ≡ true) other
        (λ g j k s q.
        let two = and_parts (same_row (cells_at places (dated g other j)) key) (told t f (dated g other j)) q in
        let both = told_of t f g other j it.wide two.1 in
        let same : other ≡ key = sym (front_is other (c.Period (period_at g j)) n it.wide) ∙ same_row-is (cells_at places (dated g other j)) key two.0 in
        h j (ap (λ x. spanned e on by rows x f j) (sym same) ∙ ap (λ x. spanned e on by rows other x j) (sym both.0) ∙ s) both.1))
        (λ r q. q))
        (sym (any_flat_map (λ r. same_row (cells_at places r) key && told t f r) R keys) ∙ sym (any_filter (told t f) (λ r. same_row (cells_at places r) key) made) ∙ m)

    own_has : (t : ℕ → Bool) (f : Frequency) (j : ℕ) → j < 10000 * parts_in_year f → spanned e on by rows key f j ≡ true → t j ≡ true → some_number t f n own ≡ true
    own_has t f j k s h =
        any_filter (told t f) (λ r. same_row (cells_at places r) key) made
        ∙ row_among e on by rows (λ r. same_row (cells_at places r) key && told t f r) key is.there
        (row_there e on by rows (λ r. same_row (cells_at places r) key && told t f r) key f j k s
        (ap (λ x. same_row x key && told t f (dated f key j)) (front_is key (c.Period (period_at f j)) n is.wide)
        ∙ ap (λ b. b && told t f (dated f key j)) (same_row-refl key) ∙ told_to t f key j is.wide h))

  -- some row that is made for any tuple
  made_gives : (t : ℕ → Bool) (b : Bool) (f : Frequency) → ((key : Row) (j : ℕ) → spanned e on by rows key f j ≡ true → t j ≡ true → b ≡ true) → some_number t f n made ≡ true → b ≡ true
  made_gives t b f h m =
      any_gives IsKey (λ other. list_any (told t f) (R other)) b keys are_keys (λ other it. gives_in t b f other it.wide (h other)) (sym (any_flat_map (told t f) R keys) ∙ m)

-- ---- a period belongs to the one where it belongs to the other
abbrev IsSeen : ℕ → Frequency → List Row → ℕ → Type 0
IsSeen on f seen j = (some_number (λ z. nat_le z j) f on seen ≡ true) × (some_number (λ z. nat_le j z) f on seen ≡ true)

parts_of : (f : Frequency) (on : ℕ) (own seen : List Row) (j : ℕ) → is_spanned f on own seen j ≡ true → (some_number (λ z. true) f on own ≡ true) × IsSeen on f seen j
parts_of f on own seen j s =
    let there = and_parts (some_number (λ z. true) f on own) (some_number (λ z. nat_le z j) f on seen && some_number (λ z. nat_le j z) f on seen) s in
    (there.0, and_parts (some_number (λ z. nat_le z j) f on seen) (some_number (λ z. nat_le j z) f on seen) there.1)

some_more : (t u : ℕ → Bool) (f : Frequency) (on : ℕ) (rows : List Row) → ((z : ℕ) → t z ≡ true → u z ≡ true) → some_number t f on rows ≡ true → some_number u f on rows ≡ true
some_more t u f on rows h = any_more (λ r. option_map_or t (number_at on f r) false) (λ r. option_map_or u (number_at on f r) false) (λ r. one (number_at on f r)) rows
  where
    one : (o : Option ℕ) → option_map_or t o false ≡ true → option_map_or u o false ≡ true
    one None e = e
    one (Some z) e = h z e

not_later : (a b k : ℕ) → nat_le b k ≡ true → nat_le a b ≡ true → nat_le a k ≡ true
not_later a b k h g = grind (arith, nat_tests, h, g)

itself : (a : ℕ) → nat_le a a ≡ true
itself a = grind (arith, nat_tests)

module _ (on : ℕ) (by : List ℕ) (rows : List Row) (key : Row) where
  abbrev seen_in : Extent → List Row
  seen_in e = seen_by e rows (rows_by by rows key)

  abbrev seen_again : Extent → List Row
  seen_again e = seen_by e (series_rows e on by rows) (rows_by (range_with_len 0 (length by)) (series_rows e on by rows) key)

  seen_gives : (e : Extent) → IsKey e on by rows key → (t : ℕ → Bool) (b : Bool) (f : Frequency) → ((j : ℕ) → IsSeen on f (seen_in e) j → t j ≡ true → b ≡ true) → some_number t f (length by) (seen_again e) ≡ true → b ≡ true
  seen_gives extent.Single is t b f h = own_gives extent.Single on by rows key is t b f (λ j s m. h j (parts_of f on (rows_by by rows key) (rows_by by rows key) j s).1 m)
  seen_gives extent.All is t b f h = made_gives extent.All on by rows t b f (λ other j s m. h j (parts_of f on (rows_by by rows other) rows j s).1 m)

  seen_has : (e : Extent) → IsKey e on by rows key → (t : ℕ → Bool) (f : Frequency) (j : ℕ) → j < 10000 * parts_in_year f → spanned e on by rows key f j ≡ true → t j ≡ true → some_number t f (length by) (seen_again e) ≡ true
  seen_has extent.Single is t f j k s h = own_has extent.Single on by rows key is t f j k s h
  seen_has extent.All is t f j k s h =
      among_all (length by) (range_with_len 0 (length by)) (series_rows extent.All on by rows) t f key (own_has extent.All on by rows key is t f j k s h)

  module _ (e : Extent) (is : IsKey e on by rows key) where
    abbrev own_rows : List Row
    own_rows = rows_by by rows key

    abbrev own_again : List Row
    own_again = rows_by (range_with_len 0 (length by)) (series_rows e on by rows) key

    spanned_again : (f : Frequency) (i : ℕ) → i < 10000 * parts_in_year f → spanned e (length by) (range_with_len 0 (length by)) (series_rows e on by rows) key f i ≡ spanned e on by rows key f i
    spanned_again f i k = same_tests (is_spanned f (length by) own_again (seen_again e) i) (is_spanned f on own_rows (seen_in e) i) to back
      where
        to : is_spanned f (length by) own_again (seen_again e) i ≡ true → is_spanned f on own_rows (seen_in e) i ≡ true
        to s =
            let parts = parts_of f (length by) own_again (seen_again e) i s in
            let there = own_gives e on by rows key is (λ z. true) (some_number (λ z. true) f on own_rows) f (λ j q m. (parts_of f on own_rows (seen_in e) j q).0) parts.0 in
            let from = seen_gives e is (λ z. nat_le z i) (some_number (λ z. nat_le z i) f on (seen_in e)) f (λ j q m. some_more (λ z. nat_le z j) (λ z. nat_le z i) f on (seen_in e) (λ z h. not_later z j i m h) q.0) parts.1.0 in
            let upto = seen_gives e is (λ z. nat_le i z) (some_number (λ z. nat_le i z) f on (seen_in e)) f (λ j q m. some_more (λ z. nat_le j z) (λ z. nat_le i z) f on (seen_in e) (λ z h. not_later i j z h m) q.1) parts.1.1 in
            ap (λ b. b && (some_number (λ z. nat_le z i) f on (seen_in e) && some_number (λ z. nat_le i z) f on (seen_in e))) there
            ∙ ap (λ b. b && some_number (λ z. nat_le i z) f on (seen_in e)) from ∙ upto

        back : is_spanned f on own_rows (seen_in e) i ≡ true → is_spanned f (length by) own_again (seen_again e) i ≡ true
        back s =
            ap (λ b. b && (some_number (λ z. nat_le z i) f (length by) (seen_again e) && some_number (λ z. nat_le i z) f (length by) (seen_again e))) (own_has e on by rows key is (λ z. true) f i k s refl)
            ∙ ap (λ b. b && some_number (λ z. nat_le i z) f (length by) (seen_again e)) (seen_has e is (λ z. nat_le z i) f i k s (itself i))
            ∙ seen_has e is (λ z. nat_le i z) f i k s (itself i)

    rows_again : tuple_rows e (length by) (range_with_len 0 (length by)) (series_rows e on by rows) key ≡ tuple_rows e on by rows key
    rows_again = ap (λ F. flat_map F frequencies) (λ n f. part f n)
      where
        part : (f : Frequency) → series_at e (length by) (series_rows e on by rows) own_again key f ≡ series_at e on rows own_rows key f
        part f =
            ap (map (dated f key)) (passing_agree (spanned e (length by) (range_with_len 0 (length by)) (series_rows e on by rows) key f) (spanned e on by rows key f) (10000 * parts_in_year f) (spanned_again f))

pub again : (e : Extent) (on : ℕ) (by : List ℕ) (rows : List Row) → series_rows e (length by) (range_with_len 0 (length by)) (series_rows e on by rows) ≡ series_rows e on by rows
again e on by rows =
    let R = tuple_rows e on by rows in
    let R' = tuple_rows e (length by) (range_with_len 0 (length by)) (series_rows e on by rows) in
    let keys = keys_by by rows in
    ap (flat_map R') (keys_again e on by rows)
    ∙ flat_map_same R' R (filter (has_some R) keys) (AllByRecursion-filter (λ key. R' key ≡ R key) (has_some R) keys (all_more (IsKey e on by rows) (λ key. R' key ≡ R key) (λ key is. rows_again on by rows key e is) keys (are_keys e on by rows)))
    ∙ some_suffice R keys
