-- Groups of rows by the other columns: their rows, and their tuples.
use Rattle.std.proofs.Common.{◌≡◌, ℕ, zero, suc, ◌<◌, List, [], ◌∷◌, length, get_or, map, filter, sym, ap, ◌∙◌, arith, subst, eqb, eq-eqb, ne_eqb}
use Rattle.std.specs.List.{position_or_len, range_with_len}
use Rattle.std.specs.Prelude.{All}
use Rattle.std.proofs.lemmas.List.Elements.{All-from_recursion}
use Rattle.std.proofs.lemmas.List.{get_or-map, length-map}
use Rattle.vtl_lists.proofs.Sorts.{AllByRecursion-filter}
use Rattle.vtl_lists.proofs.Alls.{numbers_within}
use Rattle.vtl_tuples.proofs.Lists.{filter-map}
use Rattle.vtl_cell.specs.Row.{Row, same_row}
use Rattle.vtl_rows.specs.Places.{row_at}
use Rattle.vtl_rows.specs.Tables.{cells_at}
use Rattle.vtl_index.specs.Groups.{AreLeads, firsts, is_first, rows_led}
use Rattle.vtl_index.specs.Leads.{leads_of}
use Rattle.vtl_index.proofs.KeyGroups.{are_leads, keys_once, rows_of_key}
use Rattle.vtl_index.proofs.Ranges.{all_indexed, none_pass, passing, passing_at, passing_is}
use Rattle.vtl_series.specs.Series.{keys_by, rows_by}

-- the rows of a group are rows
pub led_below : (leads : List ℕ) (n f : ℕ) → length leads ≡ n → All (λ i. i < n) (rows_led leads f)
led_below leads n f e =
    All-from_recursion (λ i. i < n) (rows_led leads f)
    (AllByRecursion-filter (λ i. i < n) (λ i. eqb (get_or leads i 0) f) (range_with_len 0 (length leads)) (numbers_within 0 (length leads) n (omega (arith, e))))

module _ (by : List ℕ) (rows : List Row) where
  abbrev leads : List ℕ
  leads = leads_of (cells_at by) rows

  abbrev key_of : ℕ → Row
  key_of i = cells_at by (row_at rows i)

  pub many_leads : length leads ≡ length rows
  many_leads = length-map rows (λ r. position_or_len (λ s. same_row (cells_at by s) (cells_at by r)) rows)

  pub many_keys : length (keys_by by rows) ≡ length (firsts leads)
  many_keys = ap length (sym (keys_once (cells_at by) rows)) ∙ length-map (firsts leads) key_of

  -- one of the groups
  module _ (g : ℕ) (h : g < length (firsts leads)) where
    abbrev first : ℕ
    first = get_or (firsts leads) g 0

    are : AreLeads leads
    are = are_leads (cells_at by) rows

    first_inside : first < length leads
    first_inside = (passing_is (is_first leads) (length leads) g h).0

    first_own : get_or leads first 0 ≡ first
    first_own = let e = (passing_is (is_first leads) (length leads) g h).1 in grind (arith, e)

    first_stands : (0 < length (rows_led leads first)) × (get_or (rows_led leads first) 0 0 ≡ first)
    first_stands =
        let within = first_inside in
        let none = none_pass (λ k. eqb (get_or leads k 0) first) first
        (λ k j. ne_eqb (get_or leads k 0) first (λ e. let b = are.before k (omega (arith, j, within)) in absurd (omega (arith, e, b, j)))) in
        let stands = passing_at (λ k. eqb (get_or leads k 0) first) (length leads) first within (eq-eqb (get_or leads first 0) first first_own) in
        let zero_th : length (passing (λ k. eqb (get_or leads k 0) first) first) ≡ 0 = ap length none in
        subst (λ z. (z < length (rows_led leads first)) × (get_or (rows_led leads first) z 0 ≡ first)) zero_th stands

    pub some_led : 0 < length (rows_led leads first)
    some_led = first_stands.0

    pub front_within : get_or (rows_led leads first) 0 0 < length rows
    front_within = let e = first_stands.1 in let w = first_inside in let m = many_leads in omega (arith, e, w, m)

    -- the cells of the group's first row are its tuple
    pub front_key : key_of (get_or (rows_led leads first) 0 0) ≡ get_or (keys_by by rows) g []
    front_key =
        ap key_of first_stands.1
        ∙ sym (get_or-map key_of (firsts leads) g 0 [] h)
        ∙ ap (λ l. get_or l g []) (keys_once (cells_at by) rows)

    -- and its rows those of the tuple
    pub led_rows : map (row_at rows) (rows_led leads first) ≡ rows_by by rows (get_or (keys_by by rows) g [])
    led_rows =
        let within : first < length rows = let w = first_inside in let m = many_leads in omega (arith, w, m) in
        ap (λ f. map (row_at rows) (rows_led leads f)) (sym first_own)
        ∙ ap (map (row_at rows)) (rows_of_key (cells_at by) rows first within)
        ∙ sym (filter-map (λ r. same_row (cells_at by r) (key_of first)) (row_at rows) (range_with_len 0 (length rows)))
        ∙ ap (filter (λ r. same_row (cells_at by r) (key_of first))) (all_indexed rows [])
        ∙ ap (λ k. rows_by by rows k) (sym (ap key_of first_stands.1) ∙ front_key)

-- ---- the places of a group's rows
pub record IsGroup (by : List ℕ) (rows : List Row) (g : ℕ) (places : List ℕ) : Type 0 where
  pub within : g < length (firsts (leads_of (cells_at by) rows))
  pub led : places ≡ rows_led (leads_of (cells_at by) rows) (get_or (firsts (leads_of (cells_at by) rows)) g 0)

pub group_is : (by : List ℕ) (rows : List Row) (groups : List ℕ) (g : ℕ) (places : List ℕ) → groups ≡ leads_of (cells_at by) rows → g < length (firsts groups) → places ≡ rows_led groups (get_or (firsts groups) g 0) → IsGroup by rows g places
group_is by rows groups g places e h p = record { within = subst (λ l. g < length (firsts l)) e h; led = p ∙ ap (λ l. rows_led l (get_or (firsts l) g 0)) e }

module _ (by : List ℕ) (rows : List Row) (g : ℕ) (places : List ℕ) (is : IsGroup by rows g places) where
  pub group_within : All (λ i. i < length rows) places
  group_within =
      subst (All (λ i. i < length rows)) (sym is.led)
      (led_below (leads_of (cells_at by) rows) (length rows) (get_or (firsts (leads_of (cells_at by) rows)) g 0) (many_leads by rows))

  pub group_some : 0 < length places
  group_some = subst (λ l. 0 < length l) (sym is.led) (some_led by rows g is.within)

  pub group_front : get_or places 0 0 < length rows
  group_front = subst (λ l. get_or l 0 0 < length rows) (sym is.led) (front_within by rows g is.within)

  pub group_key : cells_at by (row_at rows (get_or places 0 0)) ≡ row_at (keys_by by rows) g
  group_key = ap (λ l. cells_at by (row_at rows (get_or l 0 0))) is.led ∙ front_key by rows g is.within

-- a row that is what stands at its place
pub row_found : (rows : List Row) (i : ℕ) (r : Row) → i < length rows → r ≡ get_or rows i r → r ≡ row_at rows i
row_found [] i r h e = absurd (omega (arith, h))
row_found (x ∷ rows) zero r h e = e
row_found (x ∷ rows) (suc i) r h e = row_found rows i r (omega (arith, h)) e
