-- What one more row changes of an index.
use Rattle.std.proofs.Common.{◌≡◌, ◌≢◌, ℕ, ◌+◌, ◌-◌, ◌*◌, ◌^◌, ◌<◌, ◌≤◌, Bool, true, false, cond, ◌&&◌, List, [], ◌∷◌, ◌++◌, length, length-append, length-drop, length-set, get_or, set, take, drop, Option, Some, None, refl, sym, ap, ◌∙◌, subst, arith, true≢false, ltb, ltb-true, ltb-false, lt-ltb, le-ltb, eqb, eqb-true, eq-eqb}
use Rattle.std.proofs.Math.Nat.{le_refl}
use Rattle.std.proofs.Math.Seq.{get_or-append_seam}
use Rattle.std.proofs.lemmas.List.{drop-append-le, drop_all, get_or-set_other, get_or-set_same, get_or_append_left, get_or_default, take-append-le, take_all}
use Rattle.std.proofs.lemmas.Nat.{mul-le}
use Rattle.std.proofs.lemmas.Option.{none-some}
use Rattle.std.proofs.lemmas.Bool.{and_parts}
use Rattle.vtl_cell.proofs.Rows.{same_row-is, same_row-refl}
use Rattle.vtl_cell.specs.Row.{Row, same_row}
use Rattle.vtl_cell.specs.declared.cell.Cell.{Cell}
use Rattle.vtl_index.proofs.Finding.{seek_passes, some_same}
use Rattle.vtl_index.specs.Entries.{IsIndexed, place_in, rows_at, rows_in}
use Rattle.vtl_index.specs.Keys.{is_at, key_at}
use Rattle.vtl_index.specs.Lookup.{with_row}
use Rattle.vtl_index.specs.Places.{AllFound, FindsSame, FoundBelow, IsApart, IsBacked, KeepsOthers, Others, TakesPlace, seek}
use Rattle.vtl_index.specs.declared.bucket.Bucket.{Bucket}
use Rattle.vtl_index.specs.declared.entries.Entries.{Entries}

pub is_at-true : (cells : List Cell) (w n : ℕ) (k : Row) (e : ℕ) → is_at cells w n k e ≡ true → (e < n) × (key_at cells w e ≡ k)
is_at-true cells w n k e h = let both = and_parts (ltb e n) (same_row (key_at cells w e) k) h in (ltb-true e n both.0, same_row-is (key_at cells w e) k both.1)

pub is_at-past : (cells : List Cell) (w n : ℕ) (k : Row) (e : ℕ) → n ≤ e → is_at cells w n k e ≡ false
is_at-past cells w n k e h = ap (λ b. b && same_row (key_at cells w e) k) (le-ltb e n h)

module _ (cells : List Cell) (w n : ℕ) (buckets : List Bucket) (others : Others) where
  -- what is found is the key
  pub seek_at : (k : Row) (e : ℕ) → seek (is_at cells w n k) k buckets others ≡ Some e → (e < n) × (key_at cells w e ≡ k)
  seek_at k e h = is_at-true cells w n k e (seek_passes (is_at cells w n k) k buckets others e h)

  pub found_here : AllFound cells w n buckets others → (k : Row) (e : ℕ) → e < n → key_at cells w e ≡ k → seek (is_at cells w n k) k buckets others ≡ Some e
  found_here found k e h same = subst (λ r. seek (is_at cells w n r) r buckets others ≡ Some e) same (found e h)

  pub apart : AllFound cells w n buckets others → IsApart cells w n
  apart found d e hd he same = some_same d e (sym (found_here found (key_at cells w e) d hd same) ∙ found e he)

-- one more key that has its place
pub place_more : (cells : List Cell) (w n : ℕ) (bs bs' : List Bucket) (os os' : Others) (i : ℕ) → IsApart cells w n → n < 2 ^ 64 → i < n → KeepsOthers (key_at cells w i) i bs os bs' os' → TakesPlace (key_at cells w i) i bs' os' → FoundBelow i cells w n bs os → FoundBelow (i + 1) cells w n bs' os'
place_more cells w n bs bs' os os' i apart few h kept taken found e k = go (ltb e i) refl
  where
    other : (d : ℕ) → d < i → (b : Bool) → same_row (key_at cells w i) (key_at cells w d) ≡ b → same_row (key_at cells w i) (key_at cells w d) ≡ false
    other d below true f = let same = apart i d h (omega arith) (same_row-is (key_at cells w i) (key_at cells w d) f) in absurd (omega arith)
    other d below false f = f

    one : (d : ℕ) → is_at cells w n (key_at cells w i) d ≡ true → d ≡ i
    one d t = let at = is_at-true cells w n (key_at cells w i) d t in apart d i at.0 h at.1

    go : (b : Bool) → ltb e i ≡ b → seek (is_at cells w n (key_at cells w e)) (key_at cells w e) bs' os' ≡ Some e
    go true f =
        let below = ltb-true e i f in
        let ne = other e below (same_row (key_at cells w i) (key_at cells w e)) refl in
        kept (is_at cells w n (key_at cells w e)) (key_at cells w e) (is_at-past cells w n (key_at cells w e) (2 ^ 64 - 1) (omega arith))
        (ap (λ b. b && same_row (key_at cells w i) (key_at cells w e)) (lt-ltb i n h) ∙ ne) (λ s. absurd (true≢false (sym s ∙ ne)))
        ∙ found e below
    go false f =
        let up = ltb-false e i f in
        let same : i ≡ e = omega (arith, up, k) in
        subst (λ z. seek (is_at cells w n (key_at cells w z)) (key_at cells w z) bs' os' ≡ Some z) same
        (taken (is_at cells w n (key_at cells w i)) (ap (λ b. b && same_row (key_at cells w i) (key_at cells w i)) (lt-ltb i n h) ∙ same_row-refl (key_at cells w i)) one)

-- two ways to find the same keys
pub same_places : (cells : List Cell) (w n : ℕ) (bs bs' : List Bucket) (os os' : Others) → AllFound cells w n bs os → AllFound cells w n bs' os' → (k : Row) → seek (is_at cells w n k) k bs' os' ≡ seek (is_at cells w n k) k bs os
same_places cells w n bs bs' os os' found found' k = go (seek (is_at cells w n k) k bs os) refl (seek (is_at cells w n k) k bs' os') refl
  where
    go : (o : Option ℕ) → seek (is_at cells w n k) k bs os ≡ o → (p : Option ℕ) → seek (is_at cells w n k) k bs' os' ≡ p → seek (is_at cells w n k) k bs' os' ≡ seek (is_at cells w n k) k bs os
    go None e None f = f ∙ sym e
    go (Some d) e p f = let at = seek_at cells w n bs os k d e in found_here cells w n bs' os' found' k d at.0 at.1 ∙ sym e
    go None e (Some d) f = let at = seek_at cells w n bs' os' k d f in f ∙ sym (found_here cells w n bs os found k d at.0 at.1)

-- ---- the cells of one more key
module _ (cells : List Cell) (w n : ℕ) (key : Row) (whole : length cells ≡ n * w) (wide : length key ≡ w) where
  key_at-before : (e : ℕ) → e < n → key_at (cells ++ key) w e ≡ key_at cells w e
  key_at-before e h =
      let ends = mul-le (e + 1) w n w (omega arith) (le_refl w) in
      let left = length-drop (e * w) cells in
      ap (take w) (drop-append-le (e * w) cells key (omega (arith, ends, whole))) ∙ take-append-le w (drop (e * w) cells) key (omega (arith, ends, left, whole))

  key_at-last : key_at (cells ++ key) w n ≡ key
  key_at-last =
      ap (take w) (drop-append-le (n * w) cells key (omega (arith, whole))) ∙ ap (λ l. take w (l ++ key)) (drop_all (n * w) cells (omega (arith, whole)))
      ∙ take_all w key (omega (arith, wide))

  is_at-before : (k : Row) (e : ℕ) → e < n → is_at (cells ++ key) w (n + 1) k e ≡ is_at cells w n k e
  is_at-before k e h =
      ap (λ b. b && same_row (key_at (cells ++ key) w e) k) (lt-ltb e (n + 1) (omega arith)) ∙ ap (λ r. same_row r k) (key_at-before e h)
      ∙ sym (ap (λ b. b && same_row (key_at cells w e) k) (lt-ltb e n h))

  is_at-last : (k : Row) → is_at (cells ++ key) w (n + 1) k n ≡ same_row key k
  is_at-last k = ap (λ b. b && same_row (key_at (cells ++ key) w n) k) (lt-ltb n (n + 1) (omega arith)) ∙ ap (λ r. same_row r k) key_at-last

  is_at-other : (k : Row) → same_row key k ≡ false → (e : ℕ) → is_at (cells ++ key) w (n + 1) k e ≡ is_at cells w n k e
  is_at-other k ne e = go (ltb e n) refl (eqb e n) refl
    where
      go : (b : Bool) → ltb e n ≡ b → (c : Bool) → eqb e n ≡ c → is_at (cells ++ key) w (n + 1) k e ≡ is_at cells w n k e
      go true h c f = is_at-before k e (ltb-true e n h)
      go false h true f =
          subst (λ z. is_at (cells ++ key) w (n + 1) k z ≡ is_at cells w n k z) (sym (eqb-true e n f)) (is_at-last k ∙ ne ∙ sym (is_at-past cells w n k n (le_refl n)))
      go false h false f =
          let up = ltb-false e n h in
          let apart : e ≢ n = λ same. true≢false (sym (eq-eqb e n same) ∙ f) in
          is_at-past (cells ++ key) w (n + 1) k e (omega arith) ∙ sym (is_at-past cells w n k e up)

  -- ---- its place
  module _ (bs bs' : List Bucket) (os os' : Others) (found : AllFound cells w n bs os) (kept : KeepsOthers key n bs os bs' os') (taken : TakesPlace key n bs' os') (absent : seek (is_at cells w n key) key bs os ≡ None) (small : n + 1 < 2 ^ 64) where
    not_found : (e : ℕ) → e < n → key_at cells w e ≡ key → ⊥
    not_found e h same = none-some e (sym absent ∙ found_here cells w n bs os found key e h same)

    pub others_kept : (k : Row) → same_row key k ≡ false → seek (is_at (cells ++ key) w (n + 1) k) k bs' os' ≡ seek (is_at cells w n k) k bs os
    others_kept k ne =
        kept (is_at (cells ++ key) w (n + 1) k) k (is_at-past (cells ++ key) w (n + 1) k (2 ^ 64 - 1) (omega arith)) (is_at-last k ∙ ne) (λ e. absurd (true≢false (sym e ∙ ne)))
        ∙ ap (λ p. seek p k bs os) (λ i e. is_at-other k ne e i)

    pub taken_here : seek (is_at (cells ++ key) w (n + 1) key) key bs' os' ≡ Some n
    taken_here = taken (is_at (cells ++ key) w (n + 1) key) (is_at-last key ∙ same_row-refl key) one
      where
        one_by : (e : ℕ) (b : Bool) → ltb e n ≡ b → is_at (cells ++ key) w (n + 1) key e ≡ true → e ≡ n
        one_by e true h t = let at = is_at-true cells w n key e (sym (is_at-before key e (ltb-true e n h)) ∙ t) in absurd (not_found e at.0 at.1)
        one_by e false h t = let up = ltb-false e n h in let at = is_at-true (cells ++ key) w (n + 1) key e t in omega (arith, up, at.0)

        one : (e : ℕ) → is_at (cells ++ key) w (n + 1) key e ≡ true → e ≡ n
        one e t = one_by e (ltb e n) refl t

    pub all_found : AllFound (cells ++ key) w (n + 1) bs' os'
    all_found e h = go (ltb e n) refl
      where
        other : e < n → (b : Bool) → same_row key (key_at cells w e) ≡ b → same_row key (key_at cells w e) ≡ false
        other k true f = absurd (not_found e k (sym (same_row-is key (key_at cells w e) f)))
        other k false f = f

        go : (b : Bool) → ltb e n ≡ b → seek (is_at (cells ++ key) w (n + 1) (key_at (cells ++ key) w e)) (key_at (cells ++ key) w e) bs' os' ≡ Some e
        go true f =
            let k = ltb-true e n f in
            subst (λ r. seek (is_at (cells ++ key) w (n + 1) r) r bs' os' ≡ Some e) (sym (key_at-before e k))
            (others_kept (key_at cells w e) (other k (same_row key (key_at cells w e)) refl) ∙ found e k)
        go false f =
            let up = ltb-false e n f in
            let same : n ≡ e = omega (arith, up, h) in
            subst (λ z. seek (is_at (cells ++ key) w (n + 1) (key_at (cells ++ key) w z)) (key_at (cells ++ key) w z) bs' os' ≡ Some z) same
            (subst (λ r. seek (is_at (cells ++ key) w (n + 1) r) r bs' os' ≡ Some n) (sym key_at-last) taken_here)

    pub rows_added : (rows : List (List ℕ)) (row : ℕ) → length rows ≡ n → (k : Row) → rows_at (rows ++ (row ∷ []) ∷ []) (seek (is_at (cells ++ key) w (n + 1) k) k bs' os') ≡ with_row key row (λ r. rows_at rows (seek (is_at cells w n r) r bs os)) k
    rows_added rows row count k = go (same_row key k) refl
      where
        here : rows_at (rows ++ (row ∷ []) ∷ []) (Some n) ≡ row ∷ []
        here = ap (λ m. get_or (rows ++ (row ∷ []) ∷ []) m []) (sym count) ∙ get_or-append_seam rows (row ∷ []) [] []

        there : (o : Option ℕ) → seek (is_at cells w n k) k bs os ≡ o → rows_at (rows ++ (row ∷ []) ∷ []) o ≡ rows_at rows o
        there None e = refl
        there (Some d) e = get_or_append_left rows ((row ∷ []) ∷ []) [] d (let at = seek_at cells w n bs os k d e in omega (arith, at.0, count))

        go : (b : Bool) → same_row key k ≡ b → rows_at (rows ++ (row ∷ []) ∷ []) (seek (is_at (cells ++ key) w (n + 1) k) k bs' os') ≡ with_row key row (λ r. rows_at rows (seek (is_at cells w n r) r bs os)) k
        go true e =
            let same = same_row-is key k e in
            ap (rows_at (rows ++ (row ∷ []) ∷ [])) (subst (λ r. seek (is_at (cells ++ key) w (n + 1) r) r bs' os' ≡ Some n) same taken_here) ∙ here
            ∙ sym (ap (λ o. rows_at rows o ++ row ∷ []) (subst (λ r. seek (is_at cells w n r) r bs os ≡ None) same absent))
            ∙ sym (ap (λ b. cond b (rows_at rows (seek (is_at cells w n k) k bs os) ++ row ∷ []) (rows_at rows (seek (is_at cells w n k) k bs os))) e)
        go false e =
            ap (rows_at (rows ++ (row ∷ []) ∷ [])) (others_kept k e) ∙ there (seek (is_at cells w n k) k bs os) refl
            ∙ sym (ap (λ b. cond b (rows_at rows (seek (is_at cells w n k) k bs os) ++ row ∷ []) (rows_at rows (seek (is_at cells w n k) k bs os))) e)

-- ---- one more row of a key
pub rows_pushed : (cells : List Cell) (w n : ℕ) (bs : List Bucket) (os : Others) (rows : List (List ℕ)) (key : Row) (e row : ℕ) → length rows ≡ n → seek (is_at cells w n key) key bs os ≡ Some e → (k : Row) → rows_at (set rows e (get_or rows e [] ++ row ∷ [])) (seek (is_at cells w n k) k bs os) ≡ with_row key row (λ r. rows_at rows (seek (is_at cells w n r) r bs os)) k
rows_pushed cells w n bs os rows key e row count at_key k = go (same_row key k) refl
  where
    within : e < length rows
    within = let at = seek_at cells w n bs os key e at_key in omega (arith, at.0, count)

    apart : (d : ℕ) → seek (is_at cells w n k) k bs os ≡ Some d → same_row key k ≡ false → d ≢ e
    apart d f ne same =
        let one = seek_at cells w n bs os k d f in
        let two = seek_at cells w n bs os key e at_key in
        true≢false (sym (same_row-refl key) ∙ ap (same_row key) (sym two.1 ∙ ap (key_at cells w) (sym same) ∙ one.1) ∙ ne)

    there : same_row key k ≡ false → (o : Option ℕ) → seek (is_at cells w n k) k bs os ≡ o → rows_at (set rows e (get_or rows e [] ++ row ∷ [])) o ≡ rows_at rows o
    there ne None f = refl
    there ne (Some d) f = get_or-set_other rows e d (get_or rows e [] ++ row ∷ []) [] (apart d f ne)

    go : (b : Bool) → same_row key k ≡ b → rows_at (set rows e (get_or rows e [] ++ row ∷ [])) (seek (is_at cells w n k) k bs os) ≡ with_row key row (λ r. rows_at rows (seek (is_at cells w n r) r bs os)) k
    go true f =
        let at = subst (λ r. seek (is_at cells w n r) r bs os ≡ Some e) (same_row-is key k f) at_key in
        ap (rows_at (set rows e (get_or rows e [] ++ row ∷ []))) at ∙ get_or-set_same rows e (get_or rows e [] ++ row ∷ []) [] within ∙ sym (ap (λ o. rows_at rows o ++ row ∷ []) at)
        ∙ sym (ap (λ b. cond b (rows_at rows (seek (is_at cells w n k) k bs os) ++ row ∷ []) (rows_at rows (seek (is_at cells w n k) k bs os))) f)
    go false f = there f (seek (is_at cells w n k) k bs os) refl ∙ sym (ap (λ b. cond b (rows_at rows (seek (is_at cells w n k) k bs os) ++ row ∷ []) (rows_at rows (seek (is_at cells w n k) k bs os))) f)

-- the rows at a place within
pub rows_found : (rows : List (List ℕ)) (place : ℕ) (r : List ℕ) (o : Option ℕ) → place < length rows → r ≡ get_or rows place r → Some place ≡ o → r ≡ rows_at rows o
rows_found rows place r o h e at = e ∙ get_or_default rows place r [] h ∙ ap (rows_at rows) at

-- the same keys, rows and places
pub found_along : (cells cells' : List Cell) (w w' n n' : ℕ) (bs : List Bucket) (os : Others) → cells' ≡ cells → w' ≡ w → n' ≡ n → AllFound cells' w' n' bs os → AllFound cells w n bs os
found_along cells cells' w w' n n' bs os c e m found =
    subst (λ z. AllFound z w n bs os) c (subst (λ z. AllFound cells' z n bs os) e (subst (λ z. AllFound cells' w' z bs os) m found))

pub same_seen : (t t' : Entries) → t'.cells.items ≡ t.cells.items → t'.width ≡ t.width → t'.rows.items ≡ t.rows.items → FindsSame t.places.buckets.items t.places.others t'.places.buckets.items t'.places.others → (k : Row) → place_in t' k ≡ place_in t k
same_seen t t' c w r same k =
    ap (λ z. seek (is_at z t'.width (length t'.rows.items) k) k t'.places.buckets.items t'.places.others) c ∙ ap (λ z. seek (is_at t.cells.items z (length t'.rows.items) k) k t'.places.buckets.items t'.places.others) w
    ∙ ap (λ z. seek (is_at t.cells.items t.width (length z) k) k t'.places.buckets.items t'.places.others) r ∙ same (is_at t.cells.items t.width (length t.rows.items) k) k

pub same_rows : (t t' : Entries) → t'.rows.items ≡ t.rows.items → ((k : Row) → place_in t' k ≡ place_in t k) → rows_in t' ≡ rows_in t
same_rows t t' r same = λ i k. rows_at (r i) (same k i)

-- the entries with one more key
pub added : (t t' : Entries) (key : Row) (row : ℕ) → IsIndexed t → length key ≡ t.width → place_in t key ≡ None → length t.rows.items + 1 < 2 ^ 64 → t'.width ≡ t.width → t'.cells.items ≡ t.cells.items ++ key → t'.rows.items ≡ t.rows.items ++ (row ∷ []) ∷ []
    → KeepsOthers key (length t.rows.items) t.places.buckets.items t.places.others t'.places.buckets.items t'.places.others → TakesPlace key (length t.rows.items) t'.places.buckets.items t'.places.others → IsBacked t'.places.buckets.items t'.places.others
    → IsIndexed t' × (rows_in t' ≡ with_row key row (rows_in t))
added t t' key row indexed wide absent small w c r kept taken backed = (record { whole = whole; found = found; backed = backed }, λ i k. seen k i)
  where
    count : length t'.rows.items ≡ length t.rows.items + 1
    count = ap length r ∙ length-append t.rows.items ((row ∷ []) ∷ [])

    whole : length t'.cells.items ≡ length t'.rows.items * t'.width
    whole =
        let more = length-append t.cells.items key in
        let mid : length (t.cells.items ++ key) ≡ (length t.rows.items + 1) * t.width = omega (arith, more, indexed.whole, wide) in
        ap length c ∙ mid ∙ sym (ap (λ m. m * t'.width) count ∙ ap (λ z. (length t.rows.items + 1) * z) w)

    found : AllFound t'.cells.items t'.width (length t'.rows.items) t'.places.buckets.items t'.places.others
    found =
        found_along t'.cells.items (t.cells.items ++ key) t'.width t.width (length t'.rows.items) (length t.rows.items + 1) t'.places.buckets.items t'.places.others (sym c) (sym w) (sym count)
        (all_found t.cells.items t.width (length t.rows.items) key indexed.whole wide t.places.buckets.items t'.places.buckets.items t.places.others t'.places.others indexed.found kept taken absent small)

    seen : (k : Row) → rows_in t' k ≡ with_row key row (rows_in t) k
    seen k =
        ap (λ z. rows_at z (place_in t' k)) r
        ∙ ap (λ z. rows_at (t.rows.items ++ (row ∷ []) ∷ []) (seek (is_at z t'.width (length t'.rows.items) k) k t'.places.buckets.items t'.places.others)) c
        ∙ ap (λ z. rows_at (t.rows.items ++ (row ∷ []) ∷ []) (seek (is_at (t.cells.items ++ key) z (length t'.rows.items) k) k t'.places.buckets.items t'.places.others)) w
        ∙ ap (λ z. rows_at (t.rows.items ++ (row ∷ []) ∷ []) (seek (is_at (t.cells.items ++ key) t.width z k) k t'.places.buckets.items t'.places.others)) count
        ∙ rows_added t.cells.items t.width (length t.rows.items) key indexed.whole wide t.places.buckets.items t'.places.buckets.items t.places.others t'.places.others indexed.found kept taken absent small
        t.rows.items row refl k

-- the entries with one more row of a key
pub pushed : (t t' : Entries) (key : Row) (row e : ℕ) → place_in t key ≡ Some e → t'.width ≡ t.width → t'.cells.items ≡ t.cells.items → t'.rows.items ≡ set t.rows.items e (get_or t.rows.items e [] ++ row ∷ []) → FindsSame t.places.buckets.items t.places.others t'.places.buckets.items t'.places.others → rows_in t' ≡ with_row key row (rows_in t)
pushed t t' key row e at w c r same = λ i k. seen k i
  where
    count : length t'.rows.items ≡ length t.rows.items
    count = ap length r ∙ length-set t.rows.items e (get_or t.rows.items e [] ++ row ∷ [])

    place : (k : Row) → place_in t' k ≡ place_in t k
    place k =
        ap (λ z. seek (is_at z t'.width (length t'.rows.items) k) k t'.places.buckets.items t'.places.others) c ∙ ap (λ z. seek (is_at t.cells.items z (length t'.rows.items) k) k t'.places.buckets.items t'.places.others) w
        ∙ ap (λ z. seek (is_at t.cells.items t.width z k) k t'.places.buckets.items t'.places.others) count ∙ same (is_at t.cells.items t.width (length t.rows.items) k) k

    seen : (k : Row) → rows_in t' k ≡ with_row key row (rows_in t) k
    seen k =
        ap (λ z. rows_at z (place_in t' k)) r ∙ ap (rows_at (set t.rows.items e (get_or t.rows.items e [] ++ row ∷ []))) (place k)
        ∙ rows_pushed t.cells.items t.width (length t.rows.items) t.places.buckets.items t.places.others t.rows.items key e row refl at k
