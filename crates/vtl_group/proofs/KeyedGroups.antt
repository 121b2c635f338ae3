-- The groups that are found are those of the points: their keys, their rows, and the first row of each.
use Rattle.std.proofs.Common.{◌≡◌, ℕ, zero, suc, ◌<◌, Bool, not, List, [], ◌∷◌, length, get_or, map, filter, refl, sym, ap, ◌∙◌, arith, subst, eqb, eq-eqb, ne_eqb}
use Rattle.std.specs.List.{position_or_len, range_with_len}
use Rattle.std.proofs.lemmas.List.{get_or-map, length-map}
use Rattle.vtl_lists.proofs.Sorts.{AllByRecursion-filter}
use Rattle.vtl_lists.proofs.Filters.{map-filter}
use Rattle.vtl_lists.proofs.Alls.{numbers_within}
use Rattle.vtl_cell.specs.Row.{Row, same_row}
use Rattle.vtl_rows.specs.Places.{row_at}
use Rattle.vtl_rows.specs.Tables.{cells_at}
use Rattle.vtl_index.specs.Groups.{each_once, firsts, is_first, rows_led}
use Rattle.vtl_index.specs.Leads.{leads_of}
use Rattle.vtl_index.proofs.KeyGroups.{are_leads, keys_once, rows_of_key}
use Rattle.vtl_index.proofs.Ranges.{all_indexed, none_pass, passing, passing_at, passing_is}
use Rattle.vtl_tuples.specs.Keys as tuples
use Rattle.vtl_meaning.specs.Groups.{keys_by, points_with}
use Rattle.vtl_group.specs.Calls.{AreWithin, rows_at}
use Rattle.vtl_group.specs.Walks.{first_of}

same_once : (ks : List Row) → each_once same_row ks ≡ tuples.each_once same_row ks
same_once [] = refl
same_once (x ∷ ks) = ap (λ l. x ∷ filter (λ y. not (same_row x y)) l) (same_once ks)

passing_rows : (p : Row → Bool) (rows : List Row) → rows_at rows (passing (λ i. p (row_at rows i)) (length rows)) ≡ filter p rows
passing_rows p rows = map-filter (row_at rows) p (range_with_len 0 (length rows)) ∙ ap (filter p) (all_indexed rows [])

module _ (places : List ℕ) (rows : List Row) where
  abbrev key : Row → Row
  key = cells_at places

  abbrev leads : List ℕ
  leads = leads_of key rows

  many_leads : length leads ≡ length rows
  many_leads = length-map rows (λ r. position_or_len (λ s. same_row (key s) (key r)) rows)

  -- the keys of the first rows
  abbrev first_key : ℕ → Row
  first_key i = key (row_at rows i)

  pub keys_are : map first_key (firsts leads) ≡ keys_by places rows
  keys_are = keys_once key rows ∙ same_once (map key rows)

  pub many_keys : length (firsts leads) ≡ length (keys_by places rows)
  many_keys = sym (length-map (firsts leads) first_key) ∙ ap length keys_are

  module _ (g : ℕ) (h : g < length (firsts leads)) where
    abbrev pub first : ℕ
    first = get_or (firsts leads) g 0

    abbrev pub numbers : List ℕ
    numbers = rows_led leads first

    first_within : first < length leads
    first_within = (passing_is (is_first leads) (length leads) g h).0

    first_own : get_or leads first 0 ≡ first
    first_own = let e = (passing_is (is_first leads) (length leads) g h).1 in grind (arith, e)

    within_rows : first < length rows
    within_rows = let w = first_within in let m = many_leads in omega (arith, w, m)

    first_stands : (0 < length numbers) × (get_or numbers 0 0 ≡ first)
    first_stands =
        let within = first_within in
        let none = none_pass (λ k. eqb (get_or leads k 0) first) first
        (λ k j. ne_eqb (get_or leads k 0) first (λ e. let b = (are_leads key rows).before k (omega (arith, j, within)) in absurd (omega (arith, e, b, j)))) in
        let stands = passing_at (λ k. eqb (get_or leads k 0) first) (length leads) first within (eq-eqb (get_or leads first 0) first first_own) in
        let zero_th : length (passing (λ k. eqb (get_or leads k 0) first) first) ≡ 0 = ap length none in
        subst (λ z. (z < length numbers) × (get_or numbers z 0 ≡ first)) zero_th stands

    pub some_numbers : 0 < length numbers
    some_numbers = first_stands.0

    pub all_within : AreWithin rows numbers
    all_within = AllByRecursion-filter (λ i. i < length rows) (λ i. eqb (get_or leads i 0) first) (range_with_len 0 (length leads)) (numbers_within 0 (length leads) (length rows) (let m = many_leads in omega (arith, m)))

    -- the key of the group, by its number
    pub key_of_first : key (row_at rows (first_of numbers)) ≡ row_at (keys_by places rows) g
    key_of_first =
        ap first_key first_stands.1
        ∙ sym (get_or-map first_key (firsts leads) g 0 [] h)
        ∙ ap (λ ks. row_at ks g) keys_are

    pub rows_are : rows_at rows numbers ≡ points_with places rows (row_at (keys_by places rows) g)
    rows_are =
        ap (λ f. rows_at rows (rows_led leads f)) (sym first_own)
        ∙ ap (rows_at rows) (rows_of_key key rows first within_rows)
        ∙ passing_rows (λ r. same_row (key r) (first_key first)) rows
        ∙ ap (points_with places rows) (ap first_key (sym first_stands.1) ∙ key_of_first)
