-- Groups of rows as they are laid out: their first rows, their keys and their rows.
use Rattle.std.proofs.Common.{◌≡◌, ℕ, zero, suc, ◌<◌, Bool, true, false, not, cond, List, [], ◌∷◌, length, get_or, map, filter, refl, sym, ap, ◌∙◌, arith, subst, eqb, eq-eqb, ne_eqb}
use Rattle.std.specs.List.{AllByRecursion, position_or_len, range_with_len}
use Rattle.std.specs.Prelude.{slice_index_or}
use Rattle.std.proofs.lemmas.Bool.{eqb-true}
use Rattle.std.proofs.lemmas.List.{get_or-map, length-map}
use Rattle.vtl_lists.proofs.Sorts.{AllByRecursion-filter}
use Rattle.vtl_lists.proofs.Alls.{all_get, numbers_within}
use Rattle.vtl_lists.proofs.Filters.{map-filter}
use Rattle.vtl_cell.specs.Row.{Row, same_row}
use Rattle.vtl_rows.specs.Places.{row_at}
use Rattle.vtl_rows.specs.Tables.{cells_at}
use Rattle.vtl_index.specs.Groups.{AreLeads, each_once, firsts, is_first, rows_led}
use Rattle.vtl_index.specs.Leads.{leads_of}
use Rattle.vtl_index.proofs.KeyGroups.{are_leads, keys_once, rows_of_key}
use Rattle.vtl_index.proofs.Ranges.{all_indexed, none_pass, passing, passing_at, passing_is}
use Rattle.vtl_tuples.specs.Keys as tuples
use Rattle.sql_meaning.specs.Groups.{keys_by, rows_with}
use Rattle.sql_groups.specs.Grouped.{AreGroups, AreWithin, Grouped, groups_led, rows_at}

-- ---- the first row of a group
module _ (leads : List ℕ) (are : AreLeads leads) (g : ℕ) (h : g < length (firsts leads)) where
  abbrev first : ℕ
  first = get_or (firsts leads) g 0

  first_within : first < length leads
  first_within = (passing_is (is_first leads) (length leads) g h).0

  first_own : get_or leads first 0 ≡ first
  first_own = let e = (passing_is (is_first leads) (length leads) g h).1 in grind (arith, e)

  first_stands : (0 < length (rows_led leads first)) × (get_or (rows_led leads first) 0 0 ≡ first)
  first_stands =
      let within = first_within in
      let none = none_pass (λ k. eqb (get_or leads k 0) first) first
      (λ k j. ne_eqb (get_or leads k 0) first (λ e. let b = are.before k (omega (arith, j, within)) in absurd (omega (arith, e, b, j)))) in
      let stands = passing_at (λ k. eqb (get_or leads k 0) first) (length leads) first within (eq-eqb (get_or leads first 0) first first_own) in
      let zero_th : length (passing (λ k. eqb (get_or leads k 0) first) first) ≡ 0 = ap length none in
      subst (λ z. (z < length (rows_led leads first)) × (get_or (rows_led leads first) z 0 ≡ first)) zero_th stands

-- ---- what is laid out, seen as groups
module _ (places : List ℕ) (rows : List Row) (leads : List ℕ) (x : Grouped) (g : ℕ) (e : groups_led places rows leads ≡ x) where
  abbrev key_at : ℕ → Row
  key_at i = cells_at places (row_at rows i)

  keys_many : length x.keys ≡ length (firsts leads)
  keys_many = ap (λ y. length y.keys) (sym e) ∙ length-map (firsts leads) key_at

  key_is : g < length x.keys → key_at (get_or (firsts leads) g 0) ≡ row_at x.keys g
  key_is h =
      let many = keys_many in
      sym (get_or-map key_at (firsts leads) g 0 [] (omega (arith, many, h))) ∙ ap (λ y. row_at y.keys g) e

  pub rows_are : g < length x.numbers → rows_led leads (get_or (firsts leads) g 0) ≡ slice_index_or x.numbers g []
  rows_are h =
      let many = ap (λ y. length y.numbers) (sym e) ∙ length-map (firsts leads) (rows_led leads) in
      sym (get_or-map (rows_led leads) (firsts leads) g 0 [] (omega (arith, many, h))) ∙ ap (λ y. slice_index_or y.numbers g []) e

  -- the first row of a group has its key
  module _ (laid : (length leads ≡ length rows) × AreLeads leads) (h : g < length x.keys) where
    abbrev led : List ℕ
    led = rows_led leads (get_or (firsts leads) g 0)

    is_there : g < length (firsts leads)
    is_there = let many = keys_many in omega (arith, many, h)

    pub some_led : 0 < length led
    some_led = (first_stands leads laid.1 g is_there).0

    pub first_led_within : get_or led 0 0 < length rows
    first_led_within = let first = (first_stands leads laid.1 g is_there).1 in let within = first_within leads laid.1 g is_there in omega (arith, first, within, laid.0)

    pub key_led : key_at (get_or led 0 0) ≡ row_at x.keys g
    key_led = ap key_at (first_stands leads laid.1 g is_there).1 ∙ key_is h

-- ---- numbers of rows
passing_rows : (p : Row → Bool) (rows : List Row) → rows_at rows (passing (λ i. p (row_at rows i)) (length rows)) ≡ filter p rows
passing_rows p rows = map-filter (row_at rows) p (range_with_len 0 (length rows)) ∙ ap (filter p) (all_indexed rows [])

every_one : (rows : List Row) → filter (λ r. true) rows ≡ rows
every_one [] = refl
every_one (r ∷ rows) = ap (λ l. r ∷ l) (every_one rows)

all_mapped : {X Y : Type 0} (P : Y → Type 0) (f : X → Y) → ((x : X) → P (f x)) → (xs : List X) → AllByRecursion P (map f xs)
all_mapped P f h [] = tt
all_mapped P f h (x ∷ xs) = (h x, all_mapped P f h xs)

same_once : (ks : List Row) → each_once same_row ks ≡ tuples.each_once same_row ks
same_once [] = refl
same_once (x ∷ ks) = ap (λ l. x ∷ filter (λ y. not (same_row x y)) l) (same_once ks)

-- ---- one group of all rows
pub whole_groups : (rows : List Row) (numbers : List ℕ) (x : Grouped) → numbers ≡ range_with_len 0 (length rows) → (let y : Grouped = record { keys = [] ∷ []; numbers = numbers ∷ [] } in y) ≡ x → AreGroups [] rows x
whole_groups rows numbers x is e = subst (AreGroups [] rows) e (record {
  keys_are = refl;
  rows_are = ap (λ l. l ∷ []) (ap (rows_at rows) is ∙ all_indexed rows [] ∙ sym (every_one rows));
  within = (subst (AreWithin rows) (sym is) (numbers_within 0 (length rows) (length rows) (omega arith)), tt);
})

-- ---- groups by the cells at places
module _ (places : List ℕ) (rows : List Row) where
  abbrev key : Row → Row
  key = cells_at places

  abbrev leads : List ℕ
  leads = leads_of key rows

  many_leads : length leads ≡ length rows
  many_leads = length-map rows (λ r. position_or_len (λ s. same_row (key s) (key r)) rows)

  -- the leads are of groups
  pub are_laid_out : (length leads ≡ length rows) × AreLeads leads
  are_laid_out = (many_leads, are_leads key rows)

  firsts_within : AllByRecursion (λ i. i < length rows) (firsts leads)
  firsts_within = AllByRecursion-filter (λ i. i < length rows) (is_first leads) (range_with_len 0 (length leads)) (numbers_within 0 (length leads) (length rows) (let m = many_leads in omega (arith, m)))

  -- each first row is of its own group
  firsts_own : AllByRecursion (λ i. get_or leads i 0 ≡ i) (firsts leads)
  firsts_own = go (range_with_len 0 (length leads))
    where
      go : (xs : List ℕ) → AllByRecursion (λ i. get_or leads i 0 ≡ i) (filter (is_first leads) xs)
      go [] = tt
      go (x ∷ xs) = two (is_first leads x) refl (go xs)
        where
          two : (b : Bool) → is_first leads x ≡ b → AllByRecursion (λ i. get_or leads i 0 ≡ i) (filter (is_first leads) xs) → AllByRecursion (λ i. get_or leads i 0 ≡ i) (cond b (x ∷ filter (is_first leads) xs) (filter (is_first leads) xs))
          two true e ih = (eqb-true (get_or leads x 0) x e, ih)
          two false e ih = ih

  abbrev key_of : ℕ → Row
  key_of i = key (row_at rows i)

  rows_of_first : (i : ℕ) → i < length rows → get_or leads i 0 ≡ i → rows_at rows (rows_led leads i) ≡ rows_with places rows (key_of i)
  rows_of_first i h own =
      ap (λ f. rows_at rows (rows_led leads f)) (sym own)
      ∙ ap (rows_at rows) (rows_of_key key rows i h)
      ∙ passing_rows (λ r. same_row (key r) (key_of i)) rows

  rows_of_firsts : (fs : List ℕ) → AllByRecursion (λ i. i < length rows) fs → AllByRecursion (λ i. get_or leads i 0 ≡ i) fs → map (rows_at rows) (map (rows_led leads) fs) ≡ map (rows_with places rows) (map key_of fs)
  rows_of_firsts [] within own = refl
  rows_of_firsts (f ∷ fs) within own = λ n. rows_of_first f within.0 own.0 n ∷ rows_of_firsts fs within.1 own.1 n

  led_within : (f : ℕ) → AreWithin rows (rows_led leads f)
  led_within f = AllByRecursion-filter (λ i. i < length rows) (λ i. eqb (get_or leads i 0) f) (range_with_len 0 (length leads)) (numbers_within 0 (length leads) (length rows) (let m = many_leads in omega (arith, m)))

  groups_are : (places ≡ [] → ⊥) → AreGroups places rows (groups_led places rows leads)
  groups_are some = record {
    keys_are = keys_once key rows ∙ same_once (map key rows) ∙ go places refl;
    rows_are = rows_of_firsts (firsts leads) firsts_within firsts_own;
    within = all_mapped (AreWithin rows) (rows_led leads) led_within (firsts leads);
  }
    where
      go : (ps : List ℕ) → ps ≡ places → tuples.each_once same_row (map key rows) ≡ keys_by places rows
      go [] e = absurd (some (sym e))
      go (i ∷ is) e = subst (λ qs. tuples.each_once same_row (map (cells_at qs) rows) ≡ keys_by qs rows) e refl

-- what is found of the rows
pub keyed_groups : (places : List ℕ) (rows : List Row) (groups : List ℕ) (x : Grouped) → (places ≡ [] → ⊥) → groups ≡ leads_of (cells_at places) rows → groups_led places rows groups ≡ x → AreGroups places rows x
keyed_groups places rows groups x some found e =
    subst (AreGroups places rows) (ap (groups_led places rows) (sym found) ∙ e) (groups_are places rows some)

pub found_leads : (places : List ℕ) (rows : List Row) (groups : List ℕ) → groups ≡ leads_of (cells_at places) rows → (length groups ≡ length rows) × AreLeads groups
found_leads places rows groups found = subst (λ ls. (length ls ≡ length rows) × AreLeads ls) (sym found) (are_laid_out places rows)

-- ---- one of the groups
module _ (places : List ℕ) (rows : List Row) (x : Grouped) (are : AreGroups places rows x) where
  pub numbers_many : length x.numbers ≡ length x.keys
  numbers_many = sym (length-map x.numbers (rows_at rows)) ∙ ap length are.rows_are ∙ length-map x.keys (rows_with places rows)

  pub group_within : (i : ℕ) → i < length x.keys → AreWithin rows (slice_index_or x.numbers i [])
  group_within i h = all_get (AreWithin rows) x.numbers i [] (let m = numbers_many in omega (arith, m, h)) are.within

  pub group_rows : (i : ℕ) → i < length x.keys → rows_at rows (slice_index_or x.numbers i []) ≡ rows_with places rows (row_at x.keys i)
  group_rows i h =
      let inside : i < length x.numbers = let m = numbers_many in omega (arith, m, h) in
      sym (get_or-map (rows_at rows) x.numbers i [] [] inside) ∙ ap (λ l. get_or l i []) are.rows_are ∙ get_or-map (rows_with places rows) x.keys i [] [] h
