-- Groups by the leads of rows.
use Rattle.std.proofs.Common.{◌≡◌, ℕ, zero, suc, ◌+◌, ◌-◌, ◌<◌, ◌≤◌, true, List, [], ◌∷◌, ◌++◌, length, length-append, length-drop, length-take, get_or, get_or-drop, get_or-take, map, set, take, drop, refl, sym, ap, ◌∙◌, subst, arith, eqb, eq-eqb, ne_eqb, All}
use Rattle.std.specs.List.{range_with_len}
use Rattle.std.proofs.lemmas.List.{ext_get_or, get_or-append_right, get_or-map, get_or_default, get_or_append_left, length-map, length_push, length-take-le}
use Rattle.std.proofs.lemmas.List.Edits.{map_over_more}
use Rattle.std.proofs.lemmas.List.FromFn.{get_or-range_with_len, length-range_with_len}
use Rattle.vtl_index.proofs.Counts.{begin_few, begin_rises, begin_zero}
use Rattle.vtl_index.proofs.Ranges.{all_pass, more_passing, none_pass, one_passes, passing, passing_agree, passing_at, passing_is, same_passing, same_tests}
use Rattle.vtl_index.specs.Groups.{AreLeads, firsts, is_first, rows_led}
use Rattle.vtl_index.specs.Members.{AreApart, IsGrouped, StandByGroup, begin_of, led_by, number_of, start_in}
use Rattle.vtl_index.specs.declared.members.Members.{Members}

-- ---- the numbers of the groups
module _ (leads : List ℕ) (are : AreLeads leads) where
  -- the lead of a row is the first of a group
  lead_passes : (i : ℕ) → i < length leads → is_first leads (get_or leads i 0) ≡ true
  lead_passes i h = eq-eqb (get_or leads (get_or leads i 0) 0) (get_or leads i 0) (are.own i h)

  lead_stands : (i : ℕ) → i < length leads → (number_of leads (get_or leads i 0) < length (firsts leads)) × (get_or (firsts leads) (number_of leads (get_or leads i 0)) 0 ≡ get_or leads i 0)
  lead_stands i h = let before = are.before i h in passing_at (is_first leads) (length leads) (get_or leads i 0) (omega (arith, before, h)) (lead_passes i h)

  number_at : (i : ℕ) → i < length leads → get_or (map (number_of leads) leads) i 0 ≡ number_of leads (get_or leads i 0)
  number_at i h = get_or-map (number_of leads) leads i 0 0 h

  pub numbers_within : All (λ g. g < length (firsts leads)) (map (number_of leads) leads)
  numbers_within k d h =
      let within : k < length leads = let l = length-map leads (number_of leads) in omega (arith, l, h) in
      let stands = lead_stands k within in
      subst (λ g. g < length (firsts leads)) (sym (get_or-map (number_of leads) leads k 0 d within)) stands.0

  -- ---- the walk that numbers them
  module _ (row : ℕ) (now : List ℕ) (h : row < length leads) (so_far : now ≡ map (number_of leads) (take row leads) ++ drop row leads) where
    front : length (map (number_of leads) (take row leads)) ≡ row
    front = length-map (take row leads) (number_of leads) ∙ length-take-le row leads (omega (arith, h))

    pub lead_here : get_or now row 0 ≡ get_or leads row 0
    lead_here =
        let zero_on : row + (row - row) ≡ row = omega arith in
        ap (λ l. get_or l row 0) so_far ∙ get_or-append_right (map (number_of leads) (take row leads)) (drop row leads) row row 0 front (omega arith)
        ∙ get_or-drop row leads (row - row) 0 ∙ ap (λ k. get_or leads k 0) zero_on

    pub lead_no_later : get_or now row 0 ≤ row
    lead_no_later = let e = lead_here in let b = are.before row h in omega (arith, e, b)

    number_here : get_or now row 0 < row → get_or now (get_or now row 0) 0 ≡ number_of leads (get_or leads row 0)
    number_here before =
        let e = lead_here in
        let f : get_or leads row 0 < row = omega (arith, e, before) in
        let g : get_or leads row 0 < length (take row leads) = let l = length-take-le row leads (omega (arith, h)) in omega (arith, l, f) in
        ap (λ k. get_or now k 0) e ∙ ap (λ l. get_or l (get_or leads row 0) 0) so_far
        ∙ get_or_append_left (map (number_of leads) (take row leads)) (drop row leads) 0 (get_or leads row 0) (let l = front in omega (arith, l, f))
        ∙ get_or-map (number_of leads) (take row leads) (get_or leads row 0) 0 0 g
        ∙ ap (number_of leads) (get_or-take row leads (get_or leads row 0) 0 f ∙ are.own row h)

    written : (x y : ℕ) → x ≡ get_or now row 0 → y ≡ number_of leads x → set now row y ≡ map (number_of leads) (take (row + 1) leads) ++ drop (row + 1) leads
    written x y at is = ap (set now row) is ∙ map_over_more (number_of leads) leads now row x h so_far (at ∙ read)
      where
        read : get_or now row 0 ≡ get_or now row x
        read = get_or_default now row 0 x (inside now so_far)
          where
            inside : (l : List ℕ) → l ≡ map (number_of leads) (take row leads) ++ drop row leads → row < length l
            inside l e =
                let whole = ap length e ∙ length-append (map (number_of leads) (take row leads)) (drop row leads) in
                let rest = length-drop row leads in
                let before = front in
                omega (arith, whole, rest, before, h)

    -- the row is a first one, and gets the next number
    pub first_numbered : (count : ℕ) → count ≡ number_of leads row → get_or now row 0 ≡ row → set now row count ≡ map (number_of leads) (take (row + 1) leads) ++ drop (row + 1) leads
    first_numbered count at own = written row count (sym own) at

    pub first_counted : get_or now row 0 ≡ row → number_of leads (row + 1) ≡ number_of leads row + 1
    first_counted own = ap length (more_passing (is_first leads) row (eq-eqb (get_or leads row 0) row (sym lead_here ∙ own))) ∙ length_push (passing (is_first leads) row) row

    -- the row is of a group with a number
    pub other_numbered : (get_or now row 0 ≡ row → ⊥) → set now row (get_or now (get_or now row 0) 0) ≡ map (number_of leads) (take (row + 1) leads) ++ drop (row + 1) leads
    other_numbered ne =
        let le = lead_no_later in
        written (get_or now row 0) (get_or now (get_or now row 0) 0) refl (number_here (omega (arith, le, ne)) ∙ ap (number_of leads) (sym lead_here))

    pub other_counted : (get_or now row 0 ≡ row → ⊥) → number_of leads (row + 1) ≡ number_of leads row
    other_counted ne = ap length (same_passing (is_first leads) row (ne_eqb (get_or leads row 0) row (λ e. ne (lead_here ∙ e))))

  -- ---- what stands in the places of a group
  module _ (m : Members) (is : m.groups.items ≡ map (number_of leads) leads) (many : length m.ends.items ≡ length (firsts leads)) (long : length m.rows.items ≡ length m.groups.items) (ended : (g : ℕ) → g < length (firsts leads) → get_or m.ends.items g 0 ≡ begin_of m.groups.items (g + 1)) (stand : StandByGroup m.groups.items (length (firsts leads)) m.rows.items) where
    all_rows : length m.groups.items ≡ length leads
    all_rows = ap length is ∙ length-map leads (number_of leads)

    group_at : (i : ℕ) → i < length leads → get_or m.groups.items i 0 ≡ number_of leads (get_or leads i 0)
    group_at i h = ap (λ l. get_or l i 0) is ∙ number_at i h

    begins : (g : ℕ) → g < length (firsts leads) → start_in m.ends.items g ≡ begin_of m.groups.items g
    begins zero h = sym (begin_zero m.groups.items)
    begins (suc g) h = let next : g + 1 ≡ suc g = omega arith in ended g (omega (arith, h)) ∙ ap (begin_of m.groups.items) next

    -- a row is in a group where the first of it is its lead
    led_together : (g : ℕ) → g < length (firsts leads) → (k : ℕ) → k < length leads → eqb (get_or m.groups.items k 0) g ≡ eqb (get_or leads k 0) (get_or (firsts leads) g 0)
    led_together g h k j =
        let first = passing_is (is_first leads) (length leads) g h in
        same_tests (get_or m.groups.items k 0) g (get_or leads k 0) (get_or (firsts leads) g 0)
        (λ e. sym (lead_stands k j).1 ∙ ap (λ z. get_or (firsts leads) z 0) (sym (group_at k j) ∙ e))
        (λ e. group_at k j ∙ ap (number_of leads) e ∙ first.2)

    group_rows : (g : ℕ) → g < length (firsts leads) → rows_led m.groups.items g ≡ rows_led leads (get_or (firsts leads) g 0)
    group_rows g h =
        ap (passing (λ k. eqb (get_or m.groups.items k 0) g)) all_rows
        ∙ passing_agree (λ k. eqb (get_or m.groups.items k 0) g) (λ k. eqb (get_or leads k 0) (get_or (firsts leads) g 0)) (length leads) (led_together g h)

    standing_is : (g : ℕ) → g < length (firsts leads) → take (get_or m.ends.items g 0 - start_in m.ends.items g) (drop (start_in m.ends.items g) m.rows.items) ≡ rows_led leads (get_or (firsts leads) g 0)
    standing_is g h =
        ap (λ e. take (e - start_in m.ends.items g) (drop (start_in m.ends.items g) m.rows.items)) (ended g h)
        ∙ ap (λ s. take (begin_of m.groups.items (g + 1) - s) (drop s m.rows.items)) (begins g h)
        ∙ stand g h ∙ group_rows g h

    pub grouped : IsGrouped leads m
    grouped = record {
      count = many;
      all = all_rows;
      within = λ i h. subst (λ g. g < length (firsts leads)) (sym (group_at i h)) (lead_stands i h).0;
      led = λ i h. ap (λ g. get_or (firsts leads) g 0) (group_at i h) ∙ (lead_stands i h).1;
      rise = λ g h. let b = begins g h in let e = ended g h in let up = begin_rises m.groups.items g (g + 1) (omega arith) in omega (arith, b, e, up);
      inside = λ g h. let e = ended g h in let few = begin_few m.groups.items (g + 1) in omega (arith, e, few, long);
      rows = standing_is;
    }

    -- the first of the rows that stand there is the lead
    led_first : (i : ℕ) → i < length leads → (0 < length (rows_led leads (get_or leads i 0))) × (get_or (rows_led leads (get_or leads i 0)) 0 0 ≡ get_or leads i 0)
    led_first i h =
        let first = get_or leads i 0 in
        let before = are.before i h in
        let none = none_pass (λ k. eqb (get_or leads k 0) first) first
        (λ k j. ne_eqb (get_or leads k 0) first (λ e. let b = are.before k (omega (arith, j, before, h)) in absurd (omega (arith, e, b, j)))) in
        let stands = passing_at (λ k. eqb (get_or leads k 0) first) (length leads) first (omega (arith, before, h)) (lead_passes i h) in
        let zero_th : length (passing (λ k. eqb (get_or leads k 0) first) first) ≡ 0 = ap length none in
        subst (λ z. (z < length (rows_led leads first)) × (get_or (rows_led leads first) z 0 ≡ first)) zero_th stands

    first_standing : (g : ℕ) → g < length (firsts leads) → 0 < length (rows_led leads (get_or (firsts leads) g 0)) → get_or m.rows.items (start_in m.ends.items g) 0 ≡ get_or (rows_led leads (get_or (firsts leads) g 0)) 0 0
    first_standing g h some =
        let start = start_in m.ends.items g in
        let count = get_or m.ends.items g 0 - start in
        let l = ap length (standing_is g h) in
        let t = length-take count (drop start m.rows.items) in
        let some_taken : 0 < count = omega (arith, l, t, some) in
        let at : start ≡ start + 0 = omega arith in
        ap (λ k. get_or m.rows.items k 0) at ∙ sym (get_or-drop start m.rows.items 0 0) ∙ sym (get_or-take count (drop start m.rows.items) 0 0 some_taken) ∙ ap (λ r. get_or r 0 0) (standing_is g h)

    led_at : (i : ℕ) → i < length leads → get_or (led_by m) i 0 ≡ get_or leads i 0
    led_at i h =
        let within : i < length m.groups.items = let a = all_rows in omega (arith, a, h) in
        let g = number_of leads (get_or leads i 0) in
        let stands = lead_stands i h in
        let first = led_first i h in
        get_or-map (λ z. get_or m.rows.items (start_in m.ends.items z) 0) m.groups.items i 0 0 within
        ∙ ap (λ z. get_or m.rows.items (start_in m.ends.items z) 0) (group_at i h)
        ∙ first_standing g stands.0 (subst (λ z. 0 < length (rows_led leads z)) (sym stands.1) first.0)
        ∙ ap (λ z. get_or (rows_led leads z) 0 0) stands.1 ∙ first.1

    pub led_same : led_by m ≡ leads
    led_same =
        let l : length (led_by m) ≡ length leads = length-map m.groups.items (λ z. get_or m.rows.items (start_in m.ends.items z) 0) ∙ all_rows in
        ext_get_or 0 (led_by m) leads l (λ i h. led_at i (omega (arith, l, h)))

-- what numbering, counting, summing and placing one after the other make
module _ (leads : List ℕ) (are : AreLeads leads) (groups : List ℕ) (is : groups ≡ map (number_of leads) leads) where
  pub all_within : (count : ℕ) → count ≡ length (firsts leads) → All (λ g. g < count) groups
  all_within count e =
      subst (λ l. All (λ g. g < count) l) (sym is) (subst (λ n. All (λ g. g < n) (map (number_of leads) leads)) (sym e) (numbers_within leads are))

  pub whole : (m : Members) (begins ends : List ℕ) → m.groups.items ≡ groups → m.ends.items ≡ ends → length ends ≡ length begins → length begins ≡ length (firsts leads) → length m.rows.items ≡ length groups
      → ((g : ℕ) → g < length begins → get_or ends g 0 ≡ begin_of groups (g + 1)) → StandByGroup groups (length begins) m.rows.items → (led_by m ≡ leads) × IsGrouped leads m
  whole m begins ends same ended long count all each stand = (led_same leads are m is' many all' ended' stand', grouped leads are m is' many all' ended' stand')
    where
      is' : m.groups.items ≡ map (number_of leads) leads
      is' = same ∙ is

      many : length m.ends.items ≡ length (firsts leads)
      many = ap length ended ∙ long ∙ count

      all' : length m.rows.items ≡ length m.groups.items
      all' = all ∙ ap length (sym same)

      ended' : (g : ℕ) → g < length (firsts leads) → get_or m.ends.items g 0 ≡ begin_of m.groups.items (g + 1)
      ended' g h = ap (λ l. get_or l g 0) ended ∙ each g (omega (arith, h, count)) ∙ ap (λ l. begin_of l (g + 1)) (sym same)

      stand' : StandByGroup m.groups.items (length (firsts leads)) m.rows.items
      stand' = subst (λ l. StandByGroup l (length (firsts leads)) m.rows.items) (sym same) (subst (λ n. StandByGroup groups n m.rows.items) count stand)

-- ---- rows of which each is a group
module _ (leads : List ℕ) (apart : AreApart leads) where
  each_first : (i : ℕ) → i < length leads → is_first leads i ≡ true
  each_first i h = eq-eqb (get_or leads i 0) i (apart i h)

  firsts_apart : firsts leads ≡ range_with_len 0 (length leads)
  firsts_apart = all_pass (is_first leads) (length leads) each_first

  pub count_apart : length leads ≡ length (firsts leads)
  count_apart = sym (ap length firsts_apart ∙ length-range_with_len 0 (length leads))

  pub first_apart : (i : ℕ) → i < length leads → get_or (firsts leads) i 0 ≡ i
  first_apart i h = ap (λ l. get_or l i 0) firsts_apart ∙ get_or-range_with_len 0 (length leads) i 0 h ∙ (let z : 0 + i ≡ i = omega arith in z)

  pub rows_apart : (i : ℕ) → i < length leads → get_or leads i 0 ∷ [] ≡ rows_led leads (get_or (firsts leads) i 0)
  rows_apart i h =
      ap (λ k. k ∷ []) (apart i h)
      ∙ sym (passing_agree (λ k. eqb (get_or leads k 0) i) (λ k. eqb k i) (length leads) (λ k j. ap (λ z. eqb z i) (apart k j)) ∙ one_passes (length leads) i h)
      ∙ ap (rows_led leads) (sym (first_apart i h))
