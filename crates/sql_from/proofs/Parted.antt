-- The cells of rows that consist of parts.
use Rattle.std.proofs.Common.{◌≡◌, ℕ, zero, suc, ◌+◌, ◌<◌, ◌≤◌, List, [], ◌∷◌, ◌++◌, map, length, get_or, take, None, Some, arith, refl, sym, ap, ◌∙◌, append_assoc, length-append}
use Rattle.std.specs.Prelude.{slice_get, slice_index}
use Rattle.std.specs.List.{range_with_len}
use Rattle.std.proofs.lemmas.List.{append-nil, length-map, map-append}
use Rattle.vtl_lists.proofs.Filters.{range_more}
use Rattle.vtl_cell.specs.declared.cell.Cell.{Cell}
use Rattle.vtl_cell.specs.declared.cell.Cell.TheVariants as c
use Rattle.vtl_cell.specs.Row.{column_of}
use Rattle.vtl_rows.specs.Gathered.{part_at, picked, picked_cell}
use Rattle.vtl_rows.specs.Places.{row_at}
use Rattle.vtl_rows.specs.Tables.{Listed}
use Rattle.vtl_rows.specs.declared.gather.Pick.{Pick}
use Rattle.sql_from.specs.Joins.{marks_of}
use Rattle.sql_from.specs.Rows.{combined, picks_at, picks_from, width_of}

-- one more column of a source
pub picks_more : (k j : ℕ) (old now then : List Pick) → now ≡ old ++ picks_at k j → then ≡ now ++ record { part = k; column = j } ∷ [] → then ≡ old ++ picks_at k (j + 1)
picks_more k j old now then e h =
    let z : 0 + j ≡ j = omega arith in
    let more : picks_at k (j + 1) ≡ picks_at k j ++ record { part = k; column = j } ∷ [] =
    ap (map (λ i. record { part = k; column = i })) (range_more 0 j ∙ ap (λ i. range_with_len 0 j ++ i ∷ []) z) ∙ map-append (λ i. record { part = k; column = i }) (range_with_len 0 j) (j ∷ []) in
    h ∙ ap (λ l. l ++ record { part = k; column = j } ∷ []) e ∙ append_assoc old (picks_at k j) (record { part = k; column = j } ∷ []) ∙ ap (λ l. old ++ l) (sym more)

-- ---- picks
length-picks_at : (k n : ℕ) → length (picks_at k n) ≡ n
length-picks_at k n = length-map (range_with_len 0 n) (λ j. record { part = k; column = j }) ∙ ranged 0 n
  where
    ranged : (a m : ℕ) → length (range_with_len a m) ≡ m
    ranged a zero = refl
    ranged a (suc m) = ap suc (ranged (a + 1) m)

pub length-picks_from : (k : ℕ) (ts : List Listed) → length (picks_from k ts) ≡ width_of ts
length-picks_from k [] = refl
length-picks_from k (t ∷ ts) =
    let all = length-append (picks_at k (length t.columns)) (picks_from (k + 1) ts) in
    let one = length-picks_at k (length t.columns) in
    let rest = length-picks_from (k + 1) ts in
    omega (arith, all, one, rest)

-- one more source
pub picks_last : (k : ℕ) (ts : List Listed) (t : Listed) → picks_from k (ts ++ t ∷ []) ≡ picks_from k ts ++ picks_at (k + length ts) (length t.columns)
picks_last k [] t = let e : k ≡ k + 0 = omega arith in append-nil (picks_at k (length t.columns)) ∙ ap (λ n. picks_at n (length t.columns)) e
picks_last k (u ∷ ts) t =
    let e : k + 1 + length ts ≡ k + suc (length ts) = omega arith in
    ap (λ l. picks_at k (length u.columns) ++ l) (picks_last (k + 1) ts t ∙ ap (λ n. picks_from (k + 1) ts ++ picks_at n (length t.columns)) e)
    ∙ sym (append_assoc (picks_at k (length u.columns)) (picks_from (k + 1) ts) (picks_at (k + suc (length ts)) (length t.columns)))

-- ---- the row is what is picked
pub get_behind : {X : Type 0} (before : List X) (x : X) (rest : List X) (d : X) → get_or (before ++ x ∷ rest) (length before) d ≡ x
get_behind [] x rest d = refl
get_behind (y ∷ before) x rest d = get_behind before x rest d

picked_at : (parts : List Listed) (tuple : List ℕ) (k : ℕ) (t : Listed) (i : ℕ) → part_at parts k ≡ t → slice_index tuple k ≡ i → (js : List ℕ) → map (picked_cell parts tuple) (map (λ j. record { part = k; column = j }) js) ≡ map (λ j. column_of j (row_at t.rows i)) js
picked_at parts tuple k t i e h [] = refl
picked_at parts tuple k t i e h (j ∷ js) = λ n. column_of j (row_at (e n).rows (h n)) ∷ picked_at parts tuple k t i e h js n

picked_from : (before ts : List Listed) (xs x : List ℕ) (k : ℕ) → k ≡ length before → length xs ≡ length before → length x ≡ length ts → picked (before ++ ts) (picks_from k ts) (xs ++ x) ≡ combined ts x
picked_from before [] xs [] k e h l = refl
picked_from before [] xs (i ∷ x) k e h l = absurd (omega (arith, l))
picked_from before (t ∷ ts) xs [] k e h l = absurd (omega (arith, l))
picked_from before (t ∷ ts) xs (i ∷ x) k e h l =
    let parts = before ++ t ∷ ts in
    let tuple = xs ++ i ∷ x in
    let moved : before ++ t ∷ ts ≡ (before ++ t ∷ []) ++ ts = sym (append_assoc before (t ∷ []) ts) in
    let moved_x : xs ++ i ∷ x ≡ (xs ++ i ∷ []) ++ x = sym (append_assoc xs (i ∷ []) x) in
    let one = length-append before (t ∷ []) in
    let one_x = length-append xs (i ∷ []) in
    let here : part_at parts k ≡ t = ap (part_at parts) e ∙ get_behind before t ts (record { columns = []; rows = [] }) in
    let here_x : slice_index tuple k ≡ i = ap (slice_index tuple) (e ∙ sym h) ∙ get_behind xs i x 0 in
    map-append (picked_cell parts tuple) (picks_at k (length t.columns)) (picks_from (k + 1) ts)
    ∙ (λ n. picked_at parts tuple k t i here here_x (range_with_len 0 (length t.columns)) n
    ++ (ap (λ (ps : List Listed). picked ps (picks_from (k + 1) ts) tuple) moved ∙ ap (picked ((before ++ t ∷ []) ++ ts) (picks_from (k + 1) ts)) moved_x
    ∙ picked_from (before ++ t ∷ []) ts (xs ++ i ∷ []) x (k + 1) (omega (arith, e, one)) (omega (arith, h, one, one_x)) (omega (arith, l))) n)

pub picked_all : (ts : List Listed) (x : List ℕ) → length x ≡ length ts → picked ts (picks_from 0 ts) x ≡ combined ts x
picked_all ts x l = picked_from [] ts [] x 0 refl refl l

-- ---- a cell at a place
got_mapped : {X : Type 0} (f : X → Cell) (xs : List X) (i : ℕ) (x : X) → slice_get xs i ≡ Some x → f x ≡ column_of i (map f xs)
got_mapped f [] i x e = cc
got_mapped f (y ∷ xs) zero x e = let s : y ≡ x = cc in ap f (sym s)
got_mapped f (y ∷ xs) (suc i) x e = got_mapped f xs i x e

none_mapped : {X : Type 0} (f : X → Cell) (xs : List X) (i : ℕ) → slice_get xs i ≡ None → c.Null ≡ column_of i (map f xs)
none_mapped f [] i e = refl
none_mapped f (y ∷ xs) zero e = cc
none_mapped f (y ∷ xs) (suc i) e = none_mapped f xs i e

-- each pick is of a source
pub pick_among : (ts : List Listed) (picks : List Pick) → picks ≡ picks_from 0 ts → (place : ℕ) (pick : Pick) → slice_get picks place ≡ Some pick → pick.part < length ts
pick_among ts picks are place pick got = let h = go 0 ts place (ap (λ l. slice_get l place) (sym are) ∙ got) in omega (arith, h)
  where
    among : (k m : ℕ) (js : List ℕ) (rest : List Pick) (i : ℕ) → k < m → ((j : ℕ) → slice_get rest j ≡ Some pick → pick.part < m) → slice_get (map (λ j. record { part = k; column = j }) js ++ rest) i ≡ Some pick → pick.part < m
    among k m [] rest i h later e = later i e
    among k m (j ∷ js) rest zero h later e = let s : k ≡ pick.part = cc in omega (arith, s, h)
    among k m (j ∷ js) rest (suc i) h later e = among k m js rest i h later e

    go : (k : ℕ) (us : List Listed) (i : ℕ) → slice_get (picks_from k us) i ≡ Some pick → pick.part < k + length us
    go k [] i e = cc
    go k (u ∷ us) i e =
        among k (k + length (u ∷ us)) (range_with_len 0 (length u.columns)) (picks_from (k + 1) us) i (omega arith) (λ j f. let ih = go (k + 1) us j f in omega (arith, ih)) e

module _ (ts : List Listed) (picks : List Pick) (are : picks ≡ picks_from 0 ts) (front : List ℕ) (last place : ℕ) (whole : length front + 1 ≡ length ts) where
  wide : length (front ++ last ∷ []) ≡ length ts
  wide = let l = length-append front (last ∷ []) in omega (arith, l, whole)

  pub cell_missing : slice_get picks place ≡ None → c.Null ≡ column_of place (combined ts (front ++ last ∷ []))
  cell_missing e = none_mapped (picked_cell ts (front ++ last ∷ [])) (picks_from 0 ts) place (ap (λ l. slice_get l place) (sym are) ∙ e) ∙ ap (column_of place) (picked_all ts (front ++ last ∷ []) wide)

  module _ (pick : Pick) (got : slice_get picks place ≡ Some pick) where
    pub pick_within : pick.part < length ts
    pick_within = pick_among ts picks are place pick got

    pub cell_picked : column_of place (combined ts (front ++ last ∷ [])) ≡ picked_cell ts (front ++ last ∷ []) pick
    cell_picked =
        sym (got_mapped (picked_cell ts (front ++ last ∷ [])) (picks_from 0 ts) place pick (ap (λ l. slice_get l place) (sym are) ∙ got)
        ∙ ap (column_of place) (picked_all ts (front ++ last ∷ []) wide))

    pub cell_there : (t : Listed) (number : ℕ) → slice_get ts pick.part ≡ Some t → number ≡ slice_index (front ++ last ∷ []) pick.part → column_of pick.column (row_at t.rows number) ≡ column_of place (combined ts (front ++ last ∷ []))
    cell_there t number there n =
        (λ i. column_of pick.column (row_at (part_there ts pick.part there i).rows (n i)))
        ∙ sym cell_picked
      where
        part_there : (us : List Listed) (k : ℕ) → slice_get us k ≡ Some t → t ≡ part_at us k
        part_there [] k e = cc
        part_there (u ∷ us) zero e = cc
        part_there (u ∷ us) (suc k) e = part_there us k e

-- ---- look-ups
pub got_at : {X : Type 0} (xs : List X) (i : ℕ) (x : X) → i < length xs → x ≡ get_or xs i x → slice_get xs i ≡ Some x
got_at [] i x h e = absurd (omega (arith, h))
got_at (y ∷ xs) zero x h e = ap Some (sym e)
got_at (y ∷ xs) (suc i) x h e = got_at xs i x (omega (arith, h)) e

pub got_past : {X : Type 0} (xs : List X) (i : ℕ) → length xs ≤ i → slice_get xs i ≡ None
got_past [] i h = refl
got_past (y ∷ xs) zero h = absurd (omega (arith, h))
got_past (y ∷ xs) (suc i) h = got_past xs i (omega (arith, h))

pub take_got : {X : Type 0} (xs : List X) (i : ℕ) (x : X) → slice_get xs i ≡ Some x → take (i + 1) xs ≡ take i xs ++ x ∷ []
take_got [] i x e = cc
take_got (y ∷ xs) zero x e = let s : y ≡ x = cc in ap (λ z. z ∷ []) s
take_got (y ∷ xs) (suc i) x e = let n : suc i + 1 ≡ suc (i + 1) = omega arith in ap (λ k. take k (y ∷ xs)) n ∙ ap (λ l. y ∷ l) (take_got xs i x e)

-- ---- the number at a place
pub front_number : (front : List ℕ) (last k : ℕ) → k < length front → slice_index front k ≡ slice_index (front ++ last ∷ []) k
front_number [] last k h = absurd (omega (arith, h))
front_number (i ∷ front) last zero h = refl
front_number (i ∷ front) last (suc k) h = front_number front last k (omega (arith, h))

pub last_number : (front : List ℕ) (last k : ℕ) → length front ≤ k → k < length front + 1 → last ≡ slice_index (front ++ last ∷ []) k
last_number [] last zero h l = refl
last_number [] last (suc k) h l = absurd (omega (arith, l))
last_number (i ∷ front) last zero h l = absurd (omega (arith, h))
last_number (i ∷ front) last (suc k) h l = last_number front last k (omega (arith, h)) (omega (arith, l))

-- the number of one missing part more
pub marks_more : (ts : List Listed) (i : ℕ) (t : Listed) (n : ℕ) (now then : List ℕ) → slice_get ts i ≡ Some t → n ≡ length t.rows → now ≡ marks_of (take i ts) → then ≡ now ++ n ∷ [] → then ≡ marks_of (take (i + 1) ts)
marks_more ts i t n now then got rows e is = is ∙ (λ j. e j ++ rows j ∷ []) ∙ sym (ap marks_of (take_got ts i t got) ∙ map-append (λ u. length u.rows) (take i ts) (t ∷ []))
