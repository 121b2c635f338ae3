-- The first rows of groups, by the leads of their keys.
use Rattle.std.proofs.Common.{◌≡◌, ℕ, suc, ◌+◌, ◌<◌, ◌≤◌, Bool, true, false, not, cond, ◌&&◌, ◌||◌, All, List, [], ◌∷◌, ◌++◌, length, get_or, map, take, refl, sym, ap, ◌∙◌, subst, arith, inl, inr, append_assoc, eqb, eqb-true}
use Rattle.std.specs.List.{AllByRecursion, filter, range_with_len}
use Rattle.std.proofs.lemmas.List.{get_or-map, get_or_at, length-append, length-map, length_push, take_more}
use Rattle.std.proofs.lemmas.Bool.{cases_lt}
use Rattle.std.proofs.lemmas.List.Elements.{All-filter}
use Rattle.std.proofs.lemmas.List.FromFn.{length-range_with_len, take-map-range_with_len}
use Rattle.std.proofs.lemmas.List.Sums.{count_by-le-length, length-filter}
use Rattle.std.proofs.lemmas.List.Folds.{list_any-append}
use Rattle.vtl_lists.proofs.Filters.{filter-filter, first_within, map_cond}
use Rattle.vtl_lists.proofs.Alls.{all_more}
use Rattle.vtl_tuples.specs.Keys.{each_once}
use Rattle.vtl_tuples.proofs.Lists.{filter_each, filter_same}
use Rattle.vtl_tuples.proofs.Onces.{once_hold}
use Rattle.vtl_cell.specs.Row.{Row, column_of, same_key, same_row}
use Rattle.vtl_cell.specs.declared.cell.Cell.TheVariants as cell
use Rattle.vtl_index.specs.Groups.{AreLeads, firsts, is_first, rows_led}
use Rattle.vtl_index.specs.Leads.{leads_of}
use Rattle.vtl_index.proofs.KeyGroups.{first_where_new, lead_of, met}
use Rattle.vtl_index.proofs.Ranges.{all_indexed, passing_at, passing_is}
use Rattle.vtl_rows.specs.Places.{row_at}
use Rattle.vtl_rows.specs.Tables.{cells_at}

-- ---- numbers and rows
-- the cells at the first places of a row that has them
pub first_cells : (n : ℕ) (r : Row) → n ≤ length r → cells_at (range_with_len 0 n) r ≡ take n r
first_cells n r h = sym (take-map-range_with_len (λ i. column_of i r) 0 (length r) n h) ∙ ap (take n) (all_indexed r cell.Null)

-- ---- the first row of a group is the one by which it is known
module _ (leads : List ℕ) (are : AreLeads leads) (g : ℕ) (within : g < length (firsts leads)) where
  abbrev lead : ℕ
  lead = get_or (firsts leads) g 0

  abbrev in_group : ℕ → Bool
  in_group i = eqb (get_or leads i 0) lead

  pub some_led : 0 < length (rows_led leads lead)
  some_led =
      let is = passing_is (is_first leads) (length leads) g within in
      let at = passing_at in_group (length leads) lead is.0 is.1 in
      omega (arith, at.0)

  pub first_led : get_or (rows_led leads lead) 0 0 ≡ lead
  first_led =
      let is = passing_is (is_first leads) (length leads) g within in
      let one = passing_is in_group (length leads) 0 some_led in
      let x = get_or (rows_led leads lead) 0 0 in
      let led : get_or leads x 0 ≡ lead = eqb-true (get_or leads x 0) lead one.1 in
      let before = are.before x one.0 in
      elim (cases_lt lead x) [
        | inl less ↦ let at = passing_at in_group x lead less is.1 in absurd (omega (arith, at.0, one.2))
        | inr up ↦ omega (arith, up, led, before)
      ]

  -- one group more
  pub first_more : (rows old new : List ℕ) → rows ≡ rows_led leads lead → old ≡ take g (firsts leads) → new ≡ old ++ get_or rows 0 0 ∷ [] → new ≡ take (g + 1) (firsts leads)
  first_more rows old new led o n =
      n ∙ ap (λ l. l ++ get_or rows 0 0 ∷ []) o ∙ ap (λ x. take g (firsts leads) ++ x ∷ []) (ap (λ (l : List ℕ). get_or l 0 0) led ∙ first_led)
      ∙ sym (take_more (firsts leads) g 0 within)

-- ---- the first rows are those whose keys no row before has
abbrev pub same_by : (Row → Row) → Row → Row → Bool
same_by key r s = same_row (key r) (key s)

not_met : (key : Row → Row) (before : List Row) (r q : Row) → not (met key (before ++ r ∷ []) (key q)) ≡ (not (same_by key r q) && not (met key before (key q)))
not_met key before r q = ap not (list_any-append (λ s. same_row (key s) (key q)) before (r ∷ [])) ∙ not_either (met key before (key q)) (same_by key r q)
  where
    not_either : (a b : Bool) → not (a || (b || false)) ≡ (not b && not a)
    not_either true true = refl
    not_either true false = refl
    not_either false true = refl
    not_either false false = refl

module _ (key : Row → Row) (rows : List Row) where
  rows_behind : (before behind : List Row) → before ++ behind ≡ rows → (i : ℕ) → length before ≡ i
      → map (row_at rows) (filter (is_first (leads_of key rows)) (range_with_len i (length behind))) ≡ filter (λ q. not (met key before (key q))) (each_once (same_by key) behind)
  rows_behind before [] e i at = refl
  rows_behind before (r ∷ behind) e i at =
      map_cond (row_at rows) (is_first (leads_of key rows) i) i (filter (is_first (leads_of key rows)) (range_with_len (i + 1) (length behind)))
      ∙ ap (λ b. cond b (row_at rows i ∷ map (row_at rows) (filter (is_first (leads_of key rows)) (range_with_len (i + 1) (length behind)))) (map (row_at rows) (filter (is_first (leads_of key rows)) (range_with_len (i + 1) (length behind))))) here
      ∙ ap (λ q. cond (not (met key before (key r))) (q ∷ map (row_at rows) (filter (is_first (leads_of key rows)) (range_with_len (i + 1) (length behind)))) (map (row_at rows) (filter (is_first (leads_of key rows)) (range_with_len (i + 1) (length behind))))) row_here
      ∙ ap (λ l. cond (not (met key before (key r))) (r ∷ l) l) (rows_behind (before ++ r ∷ []) behind (append_assoc before (r ∷ []) behind ∙ e) (i + 1) (length_push before r ∙ ap (λ n. n + 1) at) ∙ rest)
    where
      row_here : row_at rows i ≡ r
      row_here = ap (λ l. get_or l i []) (sym e) ∙ get_or_at before r behind [] i at

      within : i < length rows
      within = let l = length-append before (r ∷ behind) in let m = ap length e in omega (arith, l, m, at)

      here : is_first (leads_of key rows) i ≡ not (met key before (key r))
      here =
          ap (λ n. eqb n i) (get_or-map (λ s. lead_of key rows (key s)) rows i [] 0 within ∙ ap (λ s. lead_of key rows (key s)) row_here ∙ ap (λ l. lead_of key l (key r)) (sym e))
          ∙ ap (eqb (lead_of key (before ++ r ∷ behind) (key r))) (sym at) ∙ first_where_new key before r behind

      rest : filter (λ q. not (met key (before ++ r ∷ []) (key q))) (each_once (same_by key) behind) ≡ filter (λ q. not (met key before (key q))) (filter (λ q. not (same_by key r q)) (each_once (same_by key) behind))
      rest =
          filter_each (λ q. not (met key (before ++ r ∷ []) (key q))) (λ q. not (same_by key r q) && not (met key before (key q))) (not_met key before r) (each_once (same_by key) behind)
          ∙ sym (filter-filter (λ q. not (met key before (key q))) (λ q. not (same_by key r q)) (each_once (same_by key) behind))

  kept : (xs : List Row) → filter (λ k. true) xs ≡ xs
  kept [] = refl
  kept (x ∷ xs) = ap (λ l. x ∷ l) (kept xs)

  pub first_rows : map (row_at rows) (firsts (leads_of key rows)) ≡ each_once (same_by key) rows
  first_rows =
      ap (λ n. map (row_at rows) (filter (is_first (leads_of key rows)) (range_with_len 0 n))) (length-map rows (λ r. lead_of key rows (key r))) ∙ rows_behind [] rows refl 0 refl
      ∙ kept (each_once (same_by key) rows)

-- ---- where the keys are the first cells
by_first_cells : (n : ℕ) (key : Row → Row) (rows : List Row) → AllByRecursion (λ r. key r ≡ take n r) rows → each_once (same_by key) rows ≡ each_once (same_key n) rows
by_first_cells n key [] all = refl
by_first_cells n key (r ∷ rows) all =
    ap (λ l. r ∷ filter (λ q. not (same_by key r q)) l) (by_first_cells n key rows all.1)
    ∙ ap (λ l. r ∷ l) (filter_same (λ q. not (same_by key r q)) (λ q. not (same_key n r q)) (each_once (same_key n) rows)
    (all_more (λ q. key q ≡ take n q) (λ q. not (same_by key r q) ≡ not (same_key n r q)) (λ q e. ap (λ k. not (same_row k (key q))) all.0 ∙ ap (λ k. not (same_row (take n r) k)) e) (each_once (same_key n) rows)
    (once_hold (λ q. key q ≡ take n q) (same_key n) rows all.1)))

-- the first rows of groups by the first cells
pub firsts_once : (n : ℕ) (rows : List Row) → AllByRecursion (λ r. n ≤ length r) rows → map (row_at rows) (firsts (leads_of (cells_at (range_with_len 0 n)) rows)) ≡ each_once (same_key n) rows
firsts_once n rows wide =
    first_rows (cells_at (range_with_len 0 n)) rows
    ∙ by_first_cells n (cells_at (range_with_len 0 n)) rows (all_more (λ r. n ≤ length r) (λ r. cells_at (range_with_len 0 n) r ≡ take n r) (λ r h. first_cells n r h) rows wide)

pub firsts_below : (key : Row → Row) (rows : List Row) → All (λ i. i < length rows) (firsts (leads_of key rows))
firsts_below key rows =
    let count : length (leads_of key rows) ≡ length rows = length-map rows (λ r. lead_of key rows (key r)) in
    subst (λ n. All (λ i. i < n) (firsts (leads_of key rows))) count (All-filter (is_first (leads_of key rows)) (λ i. i < length (leads_of key rows)) (range_with_len 0 (length (leads_of key rows))) (first_within (length (leads_of key rows))))

-- where each row is the first of its group
whole : {X : Type 0} (p : X → Bool) (xs : List X) → length (filter p xs) ≡ length xs → filter p xs ≡ xs
whole p [] e = refl
whole p (x ∷ xs) e = go (p x) e (whole p xs)
  where
    go : (b : Bool) → length (cond b (x ∷ filter p xs) (filter p xs)) ≡ suc (length xs) → (length (filter p xs) ≡ length xs → filter p xs ≡ xs) → cond b (x ∷ filter p xs) (filter p xs) ≡ x ∷ xs
    go true h ih = ap (λ l. x ∷ l) (ih (omega arith))
    go false h ih = absurd (omega (arith, length-filter p xs, count_by-le-length p xs))

pub all_once : (n : ℕ) (rows : List Row) → AllByRecursion (λ r. n ≤ length r) rows → length (firsts (leads_of (cells_at (range_with_len 0 n)) rows)) ≡ length rows → rows ≡ each_once (same_key n) rows
all_once n rows wide count =
    let key : Row → Row = cells_at (range_with_len 0 n) in
    let leads : List ℕ = leads_of key rows in
    let same : length leads ≡ length rows = length-map rows (λ r. lead_of key rows (key r)) in
    let numbers : firsts leads ≡ range_with_len 0 (length leads) = whole (is_first leads) (range_with_len 0 (length leads)) (count ∙ sym (length-range_with_len 0 (length leads) ∙ same)) in
    sym (ap (map (row_at rows)) (numbers ∙ ap (range_with_len 0) same) ∙ all_indexed rows []) ∙ firsts_once n rows wide
