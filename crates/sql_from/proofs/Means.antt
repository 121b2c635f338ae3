-- Tuples of numbers stand for rows of FROM: a join of tuples is the join of the rows.
use Rattle.std.proofs.Common.{◌≡◌, ℕ, zero, suc, ◌+◌, ◌<◌, List, [], ◌∷◌, ◌++◌, Bool, true, false, cond, not, ◌||◌, map, length, length-append, append_assoc, refl, sym, ap, ◌∙◌, arith, replicate}
use Rattle.std.specs.List.{AllByRecursion, filter, flat_map, range_with_len}
use Rattle.std.proofs.lemmas.List.{append-nil, length-replicate, map-append, replicate-append-replicate}
use Rattle.std.proofs.lemmas.List.FromFn.{fill_by_all}
use Rattle.vtl_cell.specs.declared.cell.Cell.{Cell}
use Rattle.vtl_cell.specs.declared.cell.Cell.TheVariants as c
use Rattle.vtl_cell.specs.Outcome.{Outcome, fault_in, faults_by, join}
use Rattle.vtl_cell.specs.Outcomes.{is_true}
use Rattle.vtl_cell.specs.Row.{Row, column_of}
use Rattle.vtl_rows.specs.Places.{row_at}
use Rattle.vtl_rows.specs.Tables.{Listed, cells_at}
use Rattle.vtl_rows.proofs.Placed.{all_places}
use Rattle.sql_tree.specs.declared.word_groups.JoinKind.{JoinKind}
use Rattle.sql_tree.specs.declared.word_groups.JoinKind.TheVariants as joining
use Rattle.sql_meaning.specs.From.{beside, is_met, joined_by, joined_rows, nulls, or_alone, pairs, pairs_by, partners, partners_or_alone, unmet}
use Rattle.sql_meaning.proofs.SourceKinds.{joined_all, pairs_all}
use Rattle.sql_meaning.proofs.UpToOrder.{faults_by-append}
use Rattle.sql_meaning.proofs.UnionParts.{faults_mapped}
use Rattle.sql_from.specs.Joins.{crossed_tuples, fault_of, joined_tuples, kept_tuples, marks_of, numbers_to, pairs_fault, passes, singles, with_number}
use Rattle.sql_from.specs.Rows.{combined, part, places_of, width_of}
use Rattle.sql_from.specs.Sources.{IsWide}

-- ---- joins through maps
module _ {A B C A' B' C' : Type 0} (test : A → B → Bool) (both : A → B → C) (alone : A → C) (only : B → C) (test' : A' → B' → Bool) (both' : A' → B' → C') (alone' : A' → C') (only' : B' → C')
    (p : A → A') (q : B → B') (h : C → C') (P : A → Type 0) (Q : B → Type 0)
    (tests : (x : A) (y : B) → P x → Q y → test x y ≡ test' (p x) (q y)) (boths : (x : A) (y : B) → P x → Q y → h (both x y) ≡ both' (p x) (q y))
    (alones : (x : A) → P x → h (alone x) ≡ alone' (p x)) (onlys : (y : B) → Q y → h (only y) ≡ only' (q y)) where
  partners_map : (x : A) → P x → (ys : List B) → AllByRecursion Q ys → map h (partners test both ys x) ≡ partners test' both' (map q ys) (p x)
  partners_map x g [] all = refl
  partners_map x g (y ∷ ys) all = go (test x y) (test' (p x) (q y)) (tests x y g all.0) (partners_map x g ys all.1)
    where
      go : (b d : Bool) → b ≡ d → map h (partners test both ys x) ≡ partners test' both' (map q ys) (p x)
          → map h (map (both x) (cond b (y ∷ filter (test x) ys) (filter (test x) ys))) ≡ map (both' (p x)) (cond d (q y ∷ filter (test' (p x)) (map q ys)) (filter (test' (p x)) (map q ys)))
      go true true e ih = λ i. boths x y g all.0 i ∷ ih i
      go false false e ih = ih
      go true false e ih = cc
      go false true e ih = cc

  alone_map : (l : List C) (z : C) → map h (or_alone l z) ≡ or_alone (map h l) (h z)
  alone_map [] z = refl
  alone_map (w ∷ l) z = refl

  module _ (ys : List B) (theirs : AllByRecursion Q ys) where
    inner_map : (xs : List A) → AllByRecursion P xs → map h (flat_map (partners test both ys) xs) ≡ flat_map (partners test' both' (map q ys)) (map p xs)
    inner_map [] all = refl
    inner_map (x ∷ xs) all = map-append h (partners test both ys x) (flat_map (partners test both ys) xs) ∙ (λ i. partners_map x all.0 ys theirs i ++ inner_map xs all.1 i)

    padded_map : (xs : List A) → AllByRecursion P xs → map h (flat_map (partners_or_alone test both alone ys) xs) ≡ flat_map (partners_or_alone test' both' alone' (map q ys)) (map p xs)
    padded_map [] all = refl
    padded_map (x ∷ xs) all =
        map-append h (partners_or_alone test both alone ys x) (flat_map (partners_or_alone test both alone ys) xs)
        ∙ (λ i. (alone_map (partners test both ys x) (alone x) ∙ (λ k. or_alone (partners_map x all.0 ys theirs k) (alones x all.0 k))) i ++ padded_map xs all.1 i)

    met_map : (y : B) → Q y → (xs : List A) → AllByRecursion P xs → is_met test xs y ≡ is_met test' (map p xs) (q y)
    met_map y g [] all = refl
    met_map y g (x ∷ xs) all = λ i. tests x y all.0 g i || met_map y g xs all.1 i

    unmet_map : (xs : List A) → AllByRecursion P xs → (zs : List B) → AllByRecursion Q zs → map h (unmet test only xs zs) ≡ unmet test' only' (map p xs) (map q zs)
    unmet_map xs all [] these = refl
    unmet_map xs all (z ∷ zs) these = go (is_met test xs z) (is_met test' (map p xs) (q z)) (met_map z these.0 xs all) (unmet_map xs all zs these.1)
      where
        go : (b d : Bool) → b ≡ d → map h (unmet test only xs zs) ≡ unmet test' only' (map p xs) (map q zs)
            → map h (map only (cond (not b) (z ∷ filter (λ y. not (is_met test xs y)) zs) (filter (λ y. not (is_met test xs y)) zs))) ≡ map only' (cond (not d) (q z ∷ filter (λ y. not (is_met test' (map p xs) y)) (map q zs)) (filter (λ y. not (is_met test' (map p xs) y)) (map q zs)))
        go true true e ih = ih
        go false false e ih = λ i. onlys z these.0 i ∷ ih i
        go true false e ih = cc
        go false true e ih = cc

    pub joined_map : (kind : JoinKind) (xs : List A) → AllByRecursion P xs → map h (joined_by kind test both alone only xs ys) ≡ joined_by kind test' both' alone' only' (map p xs) (map q ys)
    joined_map joining.Inner xs all = inner_map xs all
    joined_map joining.Left xs all = padded_map xs all
    joined_map joining.Full xs all = map-append h (flat_map (partners_or_alone test both alone ys) xs) (unmet test only xs ys) ∙ (λ i. padded_map xs all i ++ unmet_map xs all ys theirs i)

-- ---- parts

-- a part that is missing is nulls
part_missing : (u : Listed) → part u (length u.rows) ≡ nulls (length u.columns)
part_missing u = ap (cells_at (places_of u)) (none u.rows) ∙ blank 0 (length u.columns)
  where
    none : (rows : List Row) → row_at rows (length rows) ≡ []
    none [] = refl
    none (r ∷ rows) = none rows

    blank : (a n : ℕ) → cells_at (range_with_len a n) [] ≡ nulls n
    blank a zero = refl
    blank a (suc n) = ap (λ r. c.Null ∷ r) (blank (a + 1) n)

-- one that is there is its row
part_there : (u : Listed) (j : ℕ) → IsWide u → j < length u.rows → part u j ≡ row_at u.rows j
part_there u j wide h = sym (fill_by_all (λ i. column_of i (row_at u.rows j)) (row_at u.rows j) (length u.columns) c.Null (wide j [] h) (λ k l. refl))

map_range : {Y : Type 0} (f g : ℕ → Y) (a n : ℕ) → ((j : ℕ) → j < a + n → f j ≡ g j) → map f (range_with_len a n) ≡ map g (range_with_len a n)
map_range f g a zero h = refl
map_range f g a (suc n) h = λ i. h a (omega arith) i ∷ map_range f g (a + 1) n (λ j k. h j (omega arith)) i

parts_all : (u : Listed) → IsWide u → map (part u) (numbers_to (length u.rows)) ≡ u.rows
parts_all u wide = map_range (part u) (row_at u.rows) 0 (length u.rows) (λ j h. part_there u j wide (omega arith)) ∙ all_places u.rows

pub combined_more : (ts : List Listed) (u : Listed) (x : List ℕ) (j : ℕ) → length x ≡ length ts → combined (ts ++ u ∷ []) (x ++ j ∷ []) ≡ combined ts x ++ part u j
combined_more [] u [] j e = append-nil (part u j)
combined_more [] u (i ∷ x) j e = absurd (omega (arith, e))
combined_more (t ∷ ts) u [] j e = absurd (omega (arith, e))
combined_more (t ∷ ts) u (i ∷ x) j e = ap (λ r. part t i ++ r) (combined_more ts u x j (omega (arith, e))) ∙ sym (append_assoc (part t i) (combined ts x) (part u j))

missing_all : (ts : List Listed) → combined ts (marks_of ts) ≡ nulls (width_of ts)
missing_all [] = refl
missing_all (t ∷ ts) = (λ i. part_missing t i ++ missing_all ts i) ∙ replicate-append-replicate (length t.columns) (width_of ts) c.Null

pub marks_many : (ts : List Listed) → length (marks_of ts) ≡ length ts
marks_many [] = refl
marks_many (t ∷ ts) = let e = marks_many ts in omega (arith, e)

-- ---- a step
all_true : {X : Type 0} (xs : List X) → AllByRecursion (λ x. Unit {0}) xs
all_true [] = tt
all_true (x ∷ xs) = (tt, all_true xs)

faults_of_pairs : (f : List ℕ → Outcome Cell) (xs : List (List ℕ)) (js : List ℕ) → faults_by (λ x. faults_by (fault_of f x) js) xs ≡ faults_by (λ z. fault_in (f z)) (pairs_by with_number xs js)
faults_of_pairs f [] js = refl
faults_of_pairs f (x ∷ xs) js = (λ i. join (one js i) (faults_of_pairs f xs js i)) ∙ sym (faults_by-append (λ z. fault_in (f z)) (map (with_number x) js) (pairs_by with_number xs js))
  where
    one : (ks : List ℕ) → faults_by (fault_of f x) ks ≡ faults_by (λ z. fault_in (f z)) (map (with_number x) ks)
    one [] = refl
    one (k ∷ ks) = ap (join (fault_of f x k)) (one ks)

module _ (ts : List Listed) (u : Listed) (rows_wide : IsWide u) (v : Row → Outcome Cell) where
  abbrev more : List Listed
  more = ts ++ u ∷ []

  abbrev at : List ℕ → Outcome Cell
  at x = v (combined more x)

  abbrev IsTuple : List ℕ → Type 0
  IsTuple x = length x ≡ length ts

  pub step_means : (kind : JoinKind) (xs : List (List ℕ)) → AllByRecursion IsTuple xs
      → map (combined more) (joined_tuples kind at (marks_of ts) (length u.rows) xs) ≡ joined_rows kind (λ r. is_true (v r)) (width_of ts) (length u.columns) (map (combined ts) xs) u.rows
  step_means kind xs all =
      joined_map (passes at) with_number (λ x. with_number x (length u.rows)) (with_number (marks_of ts)) (λ x y. is_true (v (x ++ y))) beside (λ x. x ++ nulls (length u.columns)) (λ y. nulls (width_of ts) ++ y)
      (combined ts) (part u) (combined more) IsTuple (λ j. Unit {0})
      (λ x j g k. ap (λ r. is_true (v r)) (combined_more ts u x j g))
      (λ x j g k. combined_more ts u x j g)
      (λ x g. combined_more ts u x (length u.rows) g ∙ ap (λ r. combined ts x ++ r) (part_missing u))
      (λ j k. combined_more ts u (marks_of ts) j (marks_many ts) ∙ ap (λ r. r ++ part u j) (missing_all ts))
      (numbers_to (length u.rows)) (all_true (numbers_to (length u.rows))) kind xs all
      ∙ ap (joined_rows kind (λ r. is_true (v r)) (width_of ts) (length u.columns) (map (combined ts) xs)) (parts_all u rows_wide)

  pairs_mean : (xs : List (List ℕ)) → AllByRecursion IsTuple xs → (js : List ℕ) → map (combined more) (pairs_by with_number xs js) ≡ pairs (map (combined ts) xs) (map (part u) js)
  pairs_mean [] all js = refl
  pairs_mean (x ∷ xs) all js = map-append (combined more) (map (with_number x) js) (pairs_by with_number xs js) ∙ (λ i. one js i ++ pairs_mean xs all.1 js i)
    where
      one : (ks : List ℕ) → map (combined more) (map (with_number x) ks) ≡ map (λ y. combined ts x ++ y) (map (part u) ks)
      one [] = refl
      one (k ∷ ks) = λ i. combined_more ts u x k all.0 i ∷ one ks i

  pub step_faults : (xs : List (List ℕ)) → AllByRecursion IsTuple xs → pairs_fault at (length u.rows) xs ≡ faults_by (λ r. fault_in (v r)) (pairs (map (combined ts) xs) u.rows)
  step_faults xs all =
      faults_of_pairs at xs (numbers_to (length u.rows)) ∙ faults_mapped (λ r. fault_in (v r)) (combined more) (pairs_by with_number xs (numbers_to (length u.rows)))
      ∙ ap (faults_by (λ r. fault_in (v r))) (pairs_mean xs all (numbers_to (length u.rows)) ∙ ap (pairs (map (combined ts) xs)) (parts_all u rows_wide))

  pub cross_means : (xs : List (List ℕ)) → AllByRecursion IsTuple xs → map (combined more) (crossed_tuples (length u.rows) xs) ≡ pairs (map (combined ts) xs) u.rows
  cross_means xs all = pairs_mean xs all (numbers_to (length u.rows)) ∙ ap (pairs (map (combined ts) xs)) (parts_all u rows_wide)

-- ---- WHERE
pub kept_means : (h : List ℕ → Row) (v : Row → Outcome Cell) (xs : List (List ℕ)) → map h (kept_tuples (λ x. v (h x)) xs) ≡ filter (λ r. is_true (v r)) (map h xs)
kept_means h v [] = refl
kept_means h v (x ∷ xs) = go (is_true (v (h x))) (kept_means h v xs)
  where
    go : (b : Bool) → map h (kept_tuples (λ y. v (h y)) xs) ≡ filter (λ r. is_true (v r)) (map h xs) → map h (cond b (x ∷ kept_tuples (λ y. v (h y)) xs) (kept_tuples (λ y. v (h y)) xs)) ≡ cond b (h x ∷ filter (λ r. is_true (v r)) (map h xs)) (filter (λ r. is_true (v r)) (map h xs))
    go true e = ap (λ l. h x ∷ l) e
    go false e = e

-- ---- the first source
pub single_rows : (t : Listed) → IsWide t → map (combined (t ∷ [])) (singles (length t.rows)) ≡ t.rows
single_rows t wide = alone (numbers_to (length t.rows)) ∙ parts_all t wide
  where
    alone : (js : List ℕ) → map (combined (t ∷ [])) (map (λ i. i ∷ []) js) ≡ map (part t) js
    alone [] = refl
    alone (j ∷ js) = λ i. append-nil (part t j) i ∷ alone js i

-- ---- widths of tuples
abbrev pub AreOf : ℕ → List (List ℕ) → Type 0
AreOf n xs = AllByRecursion (λ x. length x ≡ n) xs

pub singles_wide : (js : List ℕ) → AreOf 1 (map (λ i. i ∷ []) js)
singles_wide [] = tt
singles_wide (j ∷ js) = (refl, singles_wide js)

longer : (x : List ℕ) (j n : ℕ) → length x ≡ n → length (with_number x j) ≡ n + 1
longer x j n e = let l = length-append x (j ∷ []) in omega (arith, l, e)

pub joined_wide : (kind : JoinKind) (f : List ℕ → Outcome Cell) (marks : List ℕ) (count n : ℕ) (xs : List (List ℕ)) → length marks ≡ n → AreOf n xs → AreOf (n + 1) (joined_tuples kind f marks count xs)
joined_wide kind f marks count n xs e all =
    joined_all (λ x. length x ≡ n) (λ j. Unit {0}) (λ x. length x ≡ n + 1) (passes f) with_number (λ x. with_number x count) (with_number marks)
    (λ x j g k. longer x j n g) (λ x g. longer x count n g) (λ j k. longer marks j n e) kind xs (numbers_to count) all (all_true (numbers_to count))

pub crossed_wide : (count n : ℕ) (xs : List (List ℕ)) → AreOf n xs → AreOf (n + 1) (crossed_tuples count xs)
crossed_wide count n xs all =
    pairs_all (λ x. length x ≡ n) (λ j. Unit {0}) (λ x. length x ≡ n + 1) (λ (x : List ℕ) (j : ℕ). true) with_number (λ x. with_number x count) (λ j. replicate (n + 1) j)
    (λ x j g k. longer x j n g) (λ x g. longer x count n g) (λ j k. length-replicate (n + 1) j) xs (numbers_to count) all (all_true (numbers_to count))
