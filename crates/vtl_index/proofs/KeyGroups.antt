-- Groups of the rows that have one key.
use Rattle.std.proofs.Common.{◌≡◌, ℕ, suc, ◌+◌, ◌<◌, ◌≤◌, Bool, true, false, not, cond, ◌&&◌, ◌||◌, List, [], ◌∷◌, ◌++◌, length, get_or, map, filter, refl, sym, ap, ◌∙◌, arith, inl, inr, append_assoc, eqb, eq-eqb, ne_eqb, true≢false}
use Rattle.std.specs.List.{list_any, position_or_len, range_with_len, AllByRecursion}
use Rattle.std.proofs.lemmas.Bool.{cases_lt}
use Rattle.std.proofs.lemmas.List.{get_or-map, get_or_at, length-append, length-map, length_push}
use Rattle.std.proofs.lemmas.List.Folds.{list_any-append}
use Rattle.std.proofs.lemmas.List.Sums.{fails_before_first, passes_at_first}
use Rattle.vtl_lists.specs.Apart.{all_apart}
use Rattle.vtl_cell.specs.Row.{Row, same_row}
use Rattle.vtl_lists.proofs.Aparts.{all_apart-filter, apart_more}
use Rattle.vtl_lists.proofs.Filters.{map_cond}
use Rattle.vtl_cell.proofs.Rows.{same_row-is, same_row-refl}
use Rattle.vtl_index.proofs.Ranges.{passing_agree, same_tests}
use Rattle.vtl_index.specs.Groups.{AreLeads, each_once, firsts, is_first, rows_led}
use Rattle.vtl_index.specs.Leads.{leads_of, rows_with}
use Rattle.vtl_rows.specs.Places.{row_at}

-- the lead of a row of a key
abbrev pub lead_of : (Row → Row) → List Row → Row → ℕ
lead_of key rows k = position_or_len (λ s. same_row (key s) k) rows

module _ (key : Row → Row) (rows : List Row) where
  abbrev leads : List ℕ
  leads = leads_of key rows

  abbrev key_at : ℕ → Row
  key_at i = key (row_at rows i)

  all : length leads ≡ length rows
  all = length-map rows (λ r. lead_of key rows (key r))

  lead_at : (i : ℕ) → i < length rows → get_or leads i 0 ≡ lead_of key rows (key_at i)
  lead_at i h = get_or-map (λ r. lead_of key rows (key r)) rows i [] 0 h

  -- a lead is not behind the row
  lead_before : (i : ℕ) → i < length rows → lead_of key rows (key_at i) ≤ i
  lead_before i h = elim (cases_lt i (lead_of key rows (key_at i))) [
    | inl late ↦ absurd (true≢false (sym (same_row-refl (key_at i)) ∙ fails_before_first (λ s. same_row (key s) (key_at i)) rows i [] late))
    | inr fine ↦ fine
  ]

  -- and has its key
  lead_has : (i : ℕ) → i < length rows → key_at (lead_of key rows (key_at i)) ≡ key_at i
  lead_has i h =
      let before = lead_before i h in
      same_row-is (key_at (lead_of key rows (key_at i))) (key_at i) (passes_at_first (λ s. same_row (key s) (key_at i)) rows [] (omega (arith, before, h)))

  pub are_leads : AreLeads leads
  are_leads = record {
    before = λ i h. let a = all in let w : i < length rows = omega (arith, a, h) in let e = lead_at i w in let b = lead_before i w in omega (arith, e, b);
    own = λ i h.
        let a = all in
        let w : i < length rows = omega (arith, a, h) in
        let e = lead_at i w in
        let b = lead_before i w in
        let v : lead_of key rows (key_at i) < length rows = omega (arith, b, w) in
        ap (λ k. get_or leads k 0) e ∙ lead_at (lead_of key rows (key_at i)) v ∙ ap (lead_of key rows) (lead_has i w) ∙ sym e;
  }

  -- rows have one lead where they have one key
  led_together : (i : ℕ) → i < length rows → (j : ℕ) → j < length leads → eqb (get_or leads j 0) (get_or leads i 0) ≡ same_row (key_at j) (key_at i)
  led_together i h j k = go (same_row (key_at j) (key_at i)) refl
    where
      w : j < length rows
      w = let a = all in omega (arith, a, k)

      go : (b : Bool) → same_row (key_at j) (key_at i) ≡ b → eqb (get_or leads j 0) (get_or leads i 0) ≡ same_row (key_at j) (key_at i)
      go true e =
          eq-eqb (get_or leads j 0) (get_or leads i 0) (lead_at j w ∙ ap (lead_of key rows) (same_row-is (key_at j) (key_at i) e) ∙ sym (lead_at i h)) ∙ sym e
      go false e =
          ne_eqb (get_or leads j 0) (get_or leads i 0)
          (λ same.
          let one : key_at j ≡ key_at i = sym (lead_has j w) ∙ ap key_at (sym (lead_at j w) ∙ same ∙ lead_at i h) ∙ lead_has i h in
          true≢false (sym (same_row-refl (key_at i)) ∙ ap (λ z. same_row z (key_at i)) (sym one) ∙ e))
          ∙ sym e

  pub rows_of_key : (i : ℕ) → i < length rows → rows_led leads (get_or leads i 0) ≡ rows_with key rows (key_at i)
  rows_of_key i h =
      passing_agree (λ j. eqb (get_or leads j 0) (get_or leads i 0)) (λ j. same_row (key_at j) (key_at i)) (length leads) (led_together i h)
      ∙ ap (λ n. filter (λ j. same_row (key_at j) (key_at i)) (range_with_len 0 n)) all

-- ---- the keys of the groups
-- whether a row before has the key
abbrev pub met : (Row → Row) → List Row → Row → Bool
met key before k = list_any (λ s. same_row (key s) k) before

-- the row behind others is the first of its group where none of them has its key
pub first_where_new : (key : Row → Row) (before : List Row) (r : Row) (behind : List Row) → eqb (lead_of key (before ++ r ∷ behind) (key r)) (length before) ≡ not (met key before (key r))
first_where_new key [] r behind = ap (λ b. eqb (cond (not b) (1 + lead_of key behind (key r)) 0) 0) (same_row-refl (key r))
first_where_new key (s ∷ before) r behind = go (same_row (key s) (key r)) (first_where_new key before r behind)
  where
    deep : ℕ
    deep = lead_of key (before ++ r ∷ behind) (key r)

    one_on : eqb (1 + deep) (suc (length before)) ≡ eqb deep (length before)
    one_on = same_tests (1 + deep) (suc (length before)) deep (length before) (λ e. omega (arith, e)) (λ e. omega (arith, e))

    go : (b : Bool) → eqb deep (length before) ≡ not (met key before (key r)) → eqb (cond (not b) (1 + deep) 0) (suc (length before)) ≡ not (b || met key before (key r))
    go true ih = ne_eqb 0 (suc (length before)) (λ e. omega (arith, e))
    go false ih = one_on ∙ ih

-- what the rows that are left bring
filter_twice : {X : Type 0} (p q : X → Bool) (xs : List X) → filter p (filter q xs) ≡ filter (λ x. p x && q x) xs
filter_twice p q [] = refl
filter_twice p q (x ∷ xs) = go (q x) (p x) refl (filter_twice p q xs)
  where
    go : (b c : Bool) → p x ≡ c → filter p (filter q xs) ≡ filter (λ z. p z && q z) xs → filter p (cond b (x ∷ filter q xs) (filter q xs)) ≡ cond (c && b) (x ∷ filter (λ z. p z && q z) xs) (filter (λ z. p z && q z) xs)
    go true true e ih = ap (λ d. cond d (x ∷ filter p (filter q xs)) (filter p (filter q xs))) e ∙ ap (λ l. x ∷ l) ih
    go true false e ih = ap (λ d. cond d (x ∷ filter p (filter q xs)) (filter p (filter q xs))) e ∙ ih
    go false true e ih = ih
    go false false e ih = ih

not_either : (a b : Bool) → not (a || (b || false)) ≡ (not a && not b)
not_either true b = refl
not_either false true = refl
not_either false false = refl

not_met : (key : Row → Row) (before : List Row) (r : Row) (k : Row) → not (met key (before ++ r ∷ []) k) ≡ (not (met key before k) && not (same_row (key r) k))
not_met key before r k = ap not (list_any-append (λ s. same_row (key s) k) before (r ∷ [])) ∙ not_either (met key before k) (same_row (key r) k)

filter_by : {X : Type 0} (p q : X → Bool) → ((x : X) → p x ≡ q x) → (xs : List X) → filter p xs ≡ filter q xs
filter_by p q h [] = refl
filter_by p q h (x ∷ xs) = ap (λ b. cond b (x ∷ filter p xs) (filter p xs)) (h x) ∙ ap (λ l. cond (q x) (x ∷ l) l) (filter_by p q h xs)

module _ (key : Row → Row) (rows : List Row) where
  abbrev first_key : ℕ → Row
  first_key i = key (row_at rows i)

  keys_behind : (before behind : List Row) → before ++ behind ≡ rows → (i : ℕ) → length before ≡ i
      → map first_key (filter (is_first (leads_of key rows)) (range_with_len i (length behind))) ≡ filter (λ k. not (met key before k)) (each_once same_row (map key behind))
  keys_behind before [] e i at = refl
  keys_behind before (r ∷ behind) e i at =
      map_cond first_key (is_first (leads_of key rows) i) i (filter (is_first (leads_of key rows)) (range_with_len (i + 1) (length behind)))
      ∙ ap (λ b. cond b (first_key i ∷ map first_key (filter (is_first (leads_of key rows)) (range_with_len (i + 1) (length behind)))) (map first_key (filter (is_first (leads_of key rows)) (range_with_len (i + 1) (length behind))))) here
      ∙ ap (λ k. cond (not (met key before (key r))) (k ∷ map first_key (filter (is_first (leads_of key rows)) (range_with_len (i + 1) (length behind)))) (map first_key (filter (is_first (leads_of key rows)) (range_with_len (i + 1) (length behind))))) (ap key row_here)
      ∙ ap (λ l. cond (not (met key before (key r))) (key r ∷ l) l) (keys_behind (before ++ r ∷ []) behind (append_assoc before (r ∷ []) behind ∙ e) (i + 1) (length_push before r ∙ ap (λ n. n + 1) at) ∙ rest)
    where
      row_here : row_at rows i ≡ r
      row_here = ap (λ l. get_or l i []) (sym e) ∙ get_or_at before r behind [] i at

      within : i < length rows
      within = let l = length-append before (r ∷ behind) in let m = ap length e in omega (arith, l, m, at)

      here : is_first (leads_of key rows) i ≡ not (met key before (key r))
      here =
          ap (λ n. eqb n i) (get_or-map (λ s. lead_of key rows (key s)) rows i [] 0 within ∙ ap (λ s. lead_of key rows (key s)) row_here ∙ ap (λ l. lead_of key l (key r)) (sym e))
          ∙ ap (eqb (lead_of key (before ++ r ∷ behind) (key r))) (sym at) ∙ first_where_new key before r behind

      rest : filter (λ k. not (met key (before ++ r ∷ []) k)) (each_once same_row (map key behind)) ≡ filter (λ k. not (met key before k)) (filter (λ k. not (same_row (key r) k)) (each_once same_row (map key behind)))
      rest =
          filter_by (λ k. not (met key (before ++ r ∷ []) k)) (λ k. not (met key before k) && not (same_row (key r) k)) (not_met key before r) (each_once same_row (map key behind))
          ∙ sym (filter_twice (λ k. not (met key before k)) (λ k. not (same_row (key r) k)) (each_once same_row (map key behind)))

  kept : (xs : List Row) → filter (λ k. true) xs ≡ xs
  kept [] = refl
  kept (x ∷ xs) = ap (λ l. x ∷ l) (kept xs)

  pub keys_once : map first_key (firsts (leads_of key rows)) ≡ each_once same_row (map key rows)
  keys_once =
      ap (λ n. map first_key (filter (is_first (leads_of key rows)) (range_with_len 0 n))) (all key rows) ∙ keys_behind [] rows refl 0 refl
      ∙ kept (each_once same_row (map key rows))

-- ---- each row once
passed : (p : Row → Bool) (xs : List Row) → AllByRecursion (λ y. p y ≡ false) (filter (λ y. not (p y)) xs)
passed p [] = tt
passed p (x ∷ xs) = go (p x) refl (passed p xs)
  where
    go : (b : Bool) → p x ≡ b → AllByRecursion (λ y. p y ≡ false) (filter (λ y. not (p y)) xs) → AllByRecursion (λ y. p y ≡ false) (cond (not b) (x ∷ filter (λ y. not (p y)) xs) (filter (λ y. not (p y)) xs))
    go true e ih = ih
    go false e ih = (e, ih)

pub once_apart : (rows : List Row) → all_apart same_row (each_once same_row rows) ≡ true
once_apart [] = refl
once_apart (r ∷ rows) =
    apart_more same_row r (filter (λ y. not (same_row r y)) (each_once same_row rows)) (passed (same_row r) (each_once same_row rows))
    (all_apart-filter same_row (λ y. not (same_row r y)) (each_once same_row rows) (once_apart rows))

-- rows that are not the one that is looked for may be left out
still_there : (r s : Row) → same_row s r ≡ false → (rows : List Row) → list_any (same_row s) (filter (λ y. not (same_row r y)) rows) ≡ list_any (same_row s) rows
still_there r s ne [] = refl
still_there r s ne (x ∷ rows) = go (same_row r x) refl (still_there r s ne rows)
  where
    go : (b : Bool) → same_row r x ≡ b → list_any (same_row s) (filter (λ y. not (same_row r y)) rows) ≡ list_any (same_row s) rows
        → list_any (same_row s) (cond (not b) (x ∷ filter (λ y. not (same_row r y)) rows) (filter (λ y. not (same_row r y)) rows)) ≡ (same_row s x || list_any (same_row s) rows)
    go true e ih = ih ∙ sym (ap (λ b. b || list_any (same_row s) rows) (ap (same_row s) (sym (same_row-is r x e)) ∙ ne))
    go false e ih = ap (λ b. same_row s x || b) ih

pub once_all : (rows : List Row) (s : Row) → list_any (same_row s) (each_once same_row rows) ≡ list_any (same_row s) rows
once_all [] s = refl
once_all (r ∷ rows) s = go (same_row s r) refl (once_all rows s)
  where
    go : (b : Bool) → same_row s r ≡ b → list_any (same_row s) (each_once same_row rows) ≡ list_any (same_row s) rows
        → (b || list_any (same_row s) (filter (λ y. not (same_row r y)) (each_once same_row rows))) ≡ (b || list_any (same_row s) rows)
    go true e ih = refl
    go false e ih = still_there r s e (each_once same_row rows) ∙ ih
