-- More tuples made, and more rows marked, one step after the other.
use Rattle.std.proofs.Common.{◌≡◌, ℕ, ◌+◌, ◌<◌, ◌≤◌, List, [], ◌∷◌, ◌++◌, Bool, true, false, cond, not, ◌||◌, map, length, get_or, set, take, append_assoc, length-set, Option, None, Some, Ok, Err, refl, sym, ap, ◌∙◌, subst, arith}
use Rattle.std.specs.Prelude.{◌==◌}
use Rattle.std.specs.List.{filter, flat_map, list_any}
use Rattle.std.proofs.lemmas.List.{append-nil, map-append, take_more}
use Rattle.std.proofs.lemmas.List.Elements.{filter-append}
use Rattle.std.proofs.lemmas.List.Folds.{list_any-append}
use Rattle.vtl_lists.proofs.Tests.{or_false}
use Rattle.vtl_decimal.specs.declared.number.Fault.{Fault}
use Rattle.vtl_decimal.specs.declared.number.Fault.TheVariants.{DivZero, Range}
use Rattle.vtl_cell.specs.Outcome.{Outcome, fault_in, faults_by, join}
use Rattle.vtl_cell.specs.Outcomes.{is_true}
use Rattle.vtl_scalar.specs.Answers.{Answers}
use Rattle.vtl_scalar.specs.Seen.{SeesAlso, seen_of}
use Rattle.vtl_scalar.specs.declared.error.ScalarErr.{ScalarErr}
use Rattle.vtl_scalar.specs.declared.error.ScalarErr.TheVariants as err
use Rattle.vtl_scalar.specs.declared.seen.Seen.{Seen}
use Rattle.sql_meaning.specs.From.{partners}
use Rattle.sql_meaning.proofs.UpToOrder.{faults_by-append, join_assoc, join_none, join_swap}
use Rattle.sql_from.specs.Gains.{AreMarked, Gains, Tries}
use Rattle.sql_from.specs.Joins.{Test, fault_of, from_left, kept_fault, kept_tuples, numbers_to, pairs_with, passes, told, unmarked_to, with_number}
use Rattle.sql_from.specs.declared.pairs.Walked.{Walked}
use Rattle.sql_from.proofs.Marks.{mark_past, mark_set}
use Rattle.sql_from.proofs.Walks.{faults_by_more, flat_more, left_made, one_number, told_fault, told_true}

-- ---- tuples

-- two faults of making tuples and two of the filter
regrouped : (s f k g l : Option Fault) → join (join s (join f k)) (join g l) ≡ join s (join (join f g) (join k l))
regrouped s f k g l =
    join_assoc s (join f k) (join g l)
    ∙ ap (join s) (join_assoc f k (join g l) ∙ ap (join f) (join_swap k g l) ∙ sym (join_assoc f g (join k l)))

pub gains_both : (g : Test) (f h : Option Fault) (xs ys : List (List ℕ)) (a b d : Walked) → Gains g f xs a b → Gains g h ys b d → Gains g (join f h) (xs ++ ys) a d
gains_both g f h xs ys a b d one two = record {
  width = two.width ∙ one.width;
  rows = two.rows ∙ ap (λ l. l ++ kept_tuples g ys) one.rows ∙ append_assoc a.rows.tuples (kept_tuples g xs) (kept_tuples g ys) ∙ ap (λ l. a.rows.tuples ++ l) (sym (filter-append (λ x. is_true (g x)) xs ys));
  seen =
      two.seen ∙ ap (λ s. join s (join h (kept_fault g ys))) one.seen ∙ regrouped (seen_of a.seen) f (kept_fault g xs) h (kept_fault g ys)
      ∙ ap (λ k. join (seen_of a.seen) (join (join f h) k)) (sym (faults_by-append (λ x. fault_in (g x)) xs ys));
}

pub gains_nothing : (g : Test) (a : Walked) → Gains g None [] a a
gains_nothing g a = record { width = refl; rows = sym (append-nil a.rows.tuples); seen = sym (join_none (seen_of a.seen)) }

-- the same tuples and the same fault, as they are written otherwise
pub gains_as : (g : Test) (f h : Option Fault) (xs ys : List (List ℕ)) (a b : Walked) → f ≡ h → xs ≡ ys → Gains g f xs a b → Gains g h ys a b
gains_as g f h xs ys a b e l gains = subst (λ (k : Option Fault). Gains g k ys a b) e (subst (λ (m : List (List ℕ)). Gains g f m a b) l gains)

-- a filter is tried on one tuple
module _ (g : Test) (x : List ℕ) (a b : Walked) where
  abbrev Tried : Type 0
  Tried = Gains g None (x ∷ []) a b

  pub keeps_it : told (g x) ≡ Ok true → b.rows.width ≡ a.rows.width → b.rows.tuples ≡ a.rows.tuples ++ x ∷ [] → b.seen ≡ a.seen → Tried
  keeps_it e w is same =
      let t = told_true (g x) true e in
      record {
        width = w;
        rows = is ∙ ap (λ d. a.rows.tuples ++ cond d (x ∷ []) []) t.0;
        seen = ap seen_of same ∙ sym (ap (λ f. join (seen_of a.seen) (join f None)) t.1 ∙ join_none (seen_of a.seen));
      }

  pub drops_it : told (g x) ≡ Ok false → b.rows.width ≡ a.rows.width → b.rows.tuples ≡ a.rows.tuples → b.seen ≡ a.seen → Tried
  drops_it e w is same =
      let t = told_true (g x) false e in
      record {
        width = w;
        rows = is ∙ sym (append-nil a.rows.tuples) ∙ ap (λ d. a.rows.tuples ++ cond d (x ∷ []) []) t.0;
        seen = ap seen_of same ∙ sym (ap (λ f. join (seen_of a.seen) (join f None)) t.1 ∙ join_none (seen_of a.seen));
      }

-- what an error tells of a condition, and is seen
record IsFaulty (m : Outcome Bool) (before behind : Option Fault) : Type 0 where
  by : Fault
  is : m ≡ Err by
  seen : behind ≡ join before (Some by)

faulty : (m : Outcome Bool) (before : Option Fault) (s : Seen) (e : ScalarErr) → Answers {A = Bool} (Err e) m → SeesAlso (Ok s) before e → IsFaulty m before (seen_of s)
faulty m before s err.DivZero is seen = record { by = DivZero; is = is; seen = seen }
faulty m before s err.Range is seen = record { by = Range; is = is; seen = seen }
faulty m before s err.OutOfMemory is seen = absurd seen

pub faults_at_it : (g : Test) (x : List ℕ) (a b : Walked) (e : ScalarErr) → Answers {A = Bool} (Err e) (told (g x)) → SeesAlso (Ok b.seen) (seen_of a.seen) e → b.rows ≡ a.rows → Gains g None (x ∷ []) a b
faults_at_it g x a b e is seen same =
    let fault = faulty (told (g x)) (seen_of a.seen) b.seen e is seen in
    let t = told_fault (g x) fault.by fault.is in
    record {
      width = ap (λ r. r.width) same;
      rows = ap (λ r. r.tuples) same ∙ sym (append-nil a.rows.tuples) ∙ ap (λ d. a.rows.tuples ++ cond d (x ∷ []) []) t.0;
      seen = fault.seen ∙ sym (ap (λ f. join (seen_of a.seen) (join f None)) t.1 ∙ ap (join (seen_of a.seen)) (join_none (Some fault.by)));
    }

-- ---- marks

or_grouped : (a b d : Bool) → ((a || b) || d) ≡ (a || (b || d))
or_grouped true b d = refl
or_grouped false b d = refl

pub marked_both : (xs ys : List ℕ) (m n o : List Bool) → AreMarked xs m n → AreMarked ys n o → AreMarked (xs ++ ys) m o
marked_both xs ys m n o one two = record {
  many = two.many ∙ one.many;
  marks = λ j h.
      let here : j < length n = omega (arith, one.many) in
      two.marks j here ∙ ap (λ b. b || list_any (λ i. i == j) ys) (one.marks j h) ∙ or_grouped (get_or m j false) (list_any (λ i. i == j) xs) (list_any (λ i. i == j) ys)
      ∙ ap (λ b. get_or m j false || b) (sym (list_any-append (λ i. i == j) xs ys));
}

pub marked_nothing : (m : List Bool) → AreMarked [] m m
marked_nothing m = record { many = refl; marks = λ j h. sym (or_false (get_or m j false)) }

pub marks_it : (number : ℕ) (m n : List Bool) → number < length m → n ≡ set m number true → AreMarked (number ∷ []) m n
marks_it number m n h e = record {
  many = ap length e ∙ length-set m number true;
  marks = λ j k. ap (λ l. get_or l j false) e ∙ mark_set m number h j ∙ ap (λ b. get_or m j false || b) (sym (or_false (number == j)));
}

pub marks_none : (number : ℕ) (m : List Bool) → length m ≤ number → AreMarked (number ∷ []) m m
marks_none number m h = record { many = refl; marks = λ j k. mark_past m number h j k ∙ ap (λ b. get_or m j false || b) (sym (or_false (number == j))) }

-- ---- a tuple with some rows

module _ (f g : Test) (x : List ℕ) where
  abbrev made : List ℕ → List (List ℕ)
  made js = partners (passes f) with_number js x

  made_both : (js ks : List ℕ) → made (js ++ ks) ≡ made js ++ made ks
  made_both js ks = ap (map (with_number x)) (filter-append (passes f x) js ks) ∙ map-append (with_number x) (filter (passes f x) js) (filter (passes f x) ks)

  pub tries_both : (js ks : List ℕ) (a b d : Walked) (m n o : List Bool) → Tries f g x js a b m n → Tries f g x ks b d n o → Tries f g x (js ++ ks) a d m o
  tries_both js ks a b d m n o one two = record {
    gains = gains_as g (join (faults_by (fault_of f x) js) (faults_by (fault_of f x) ks)) (faults_by (fault_of f x) (js ++ ks)) (made js ++ made ks) (made (js ++ ks)) a d (sym (faults_by-append (fault_of f x) js ks)) (sym (made_both js ks))
        (gains_both g (faults_by (fault_of f x) js) (faults_by (fault_of f x) ks) (made js) (made ks) a b d one.gains two.gains);
    marked = subst (λ (l : List ℕ). AreMarked l m o) (sym (filter-append (passes f x) js ks)) (marked_both (filter (passes f x) js) (filter (passes f x) ks) m n o one.marked two.marked);
  }

  pub tries_nothing : (a : Walked) (m : List Bool) → Tries f g x [] a a m m
  tries_nothing a m = record { gains = gains_nothing g a; marked = marked_nothing m }

  -- one number more
  pub tries_more : (j : ℕ) (a b d : Walked) (m n o : List Bool) → Tries f g x (numbers_to j) a b m n → Tries f g x (j ∷ []) b d n o → Tries f g x (numbers_to (j + 1)) a d m o
  tries_more j a b d m n o one two = subst (λ (js : List ℕ). Tries f g x js a d m o) (sym (one_number j)) (tries_both (numbers_to j) (j ∷ []) a b d m n o one two)

  -- a pair
  module _ (j : ℕ) (a b : Walked) (m n : List Bool) where
    pub is_pair : told (f (with_number x j)) ≡ Ok true → Gains g None (with_number x j ∷ []) a b → AreMarked (j ∷ []) m n → Tries f g x (j ∷ []) a b m n
    is_pair e gains marks =
        let t = told_true (f (with_number x j)) true e in
        record {
          gains = gains_as g None (join (fault_of f x j) None) (with_number x j ∷ []) (map (with_number x) (cond (passes f x j) (j ∷ []) [])) a b (sym (ap (λ k. join k None) t.1)) (ap (λ d. map (with_number x) (cond d (j ∷ []) [])) t.0) gains;
          marked = subst (λ (l : List ℕ). AreMarked l m n) (ap (λ d. cond d (j ∷ []) []) t.0) marks;
        }

  pub is_none : (j : ℕ) (a : Walked) (m : List Bool) → told (f (with_number x j)) ≡ Ok false → Tries f g x (j ∷ []) a a m m
  is_none j a m e =
      let t = told_true (f (with_number x j)) false e in
      record {
        gains = gains_as g None (join (fault_of f x j) None) [] (map (with_number x) (cond (passes f x j) (j ∷ []) [])) a a (sym (ap (λ k. join k None) t.1)) (ap (λ d. map (with_number x) (cond d (j ∷ []) [])) t.0) (gains_nothing g a);
        marked = subst (λ (l : List ℕ). AreMarked l m m) (ap (λ d. cond d (j ∷ []) []) t.0) (marked_nothing m);
      }

  pub is_faulty : (j : ℕ) (a b : Walked) (m : List Bool) (e : ScalarErr) → Answers {A = Bool} (Err e) (told (f (with_number x j))) → SeesAlso (Ok b.seen) (seen_of a.seen) e → b.rows ≡ a.rows → Tries f g x (j ∷ []) a b m m
  is_faulty j a b m e is seen same =
      let fault = faulty (told (f (with_number x j))) (seen_of a.seen) b.seen e is seen in
      let t = told_fault (f (with_number x j)) fault.by fault.is in
      record {
        gains = gains_as g (Some fault.by) (join (fault_of f x j) None) [] (map (with_number x) (cond (passes f x j) (j ∷ []) [])) a b (sym (ap (λ k. join k None) t.1 ∙ join_none (Some fault.by))) (ap (λ d. map (with_number x) (cond d (j ∷ []) [])) t.0)
            (record { width = ap (λ r. r.width) same; rows = ap (λ r. r.tuples) same ∙ sym (append-nil a.rows.tuples); seen = fault.seen ∙ ap (join (seen_of a.seen)) (sym (join_none (Some fault.by))) });
        marked = subst (λ (l : List ℕ). AreMarked l m m) (ap (λ d. cond d (j ∷ []) []) t.0) (marked_nothing m);
      }

-- listed rows, one more
pub found_tried : (f g : Test) (x found : List ℕ) (i number : ℕ) (a b d : Walked) (m n o : List Bool) → i < length found → number ≡ get_or found i number
    → Tries f g x (take i found) a b m n → Tries f g x (number ∷ []) b d n o → Tries f g x (take (i + 1) found) a d m o
found_tried f g x found i number a b d m n o h at one two =
    subst (λ (js : List ℕ). Tries f g x js a d m o) (sym (take_more found i number h ∙ ap (λ j. take i found ++ j ∷ []) (sym at))) (tries_both f g x (take i found) (number ∷ []) a b d m n o one two)

-- rows that are tried in the place of others, where the same ones are pairs
pub tries_as : (f g : Test) (x js ks : List ℕ) (a b : Walked) (m n : List Bool) → filter (passes f x) js ≡ filter (passes f x) ks → faults_by (fault_of f x) js ≡ faults_by (fault_of f x) ks → Tries f g x js a b m n → Tries f g x ks a b m n
tries_as f g x js ks a b m n same fault tries = record {
  gains = gains_as g (faults_by (fault_of f x) js) (faults_by (fault_of f x) ks) (map (with_number x) (filter (passes f x) js)) (map (with_number x) (filter (passes f x) ks)) a b fault (ap (map (with_number x)) same) tries.gains;
  marked = subst (λ (l : List ℕ). AreMarked l m n) same tries.marked;
}

-- all of which are pairs
pub tries_found : (f g : Test) (x found ks : List ℕ) (a b : Walked) (m n : List Bool) → found ≡ filter (passes f x) ks → faults_by (fault_of f x) ks ≡ None → Gains g None (map (with_number x) found) a b → AreMarked found m n → Tries f g x ks a b m n
tries_found f g x found ks a b m n same fault gains marked = record {
  gains = gains_as g None (faults_by (fault_of f x) ks) (map (with_number x) found) (map (with_number x) (filter (passes f x) ks)) a b (sym fault) (ap (map (with_number x)) same) gains;
  marked = subst (λ (l : List ℕ). AreMarked l m n) same marked;
}

-- a tuple with rows that are pairs
pub found_more : (g : Test) (x : List ℕ) (found : List ℕ) (i number : ℕ) (a b d : Walked) (m n o : List Bool) → i < length found → number ≡ get_or found i number
    → Gains g None (map (with_number x) (take i found)) a b → AreMarked (take i found) m n → Gains g None (with_number x number ∷ []) b d → AreMarked (number ∷ []) n o
    → Gains g None (map (with_number x) (take (i + 1) found)) a d × AreMarked (take (i + 1) found) m o
found_more g x found i number a b d m n o h at gains marks more mark =
    let step : take (i + 1) found ≡ take i found ++ number ∷ [] = take_more found i number h ∙ ap (λ j. take i found ++ j ∷ []) (sym at) in (
      gains_as g None None (map (with_number x) (take i found) ++ with_number x number ∷ []) (map (with_number x) (take (i + 1) found)) a d refl (sym (ap (map (with_number x)) step ∙ map-append (with_number x) (take i found) (number ∷ [])))
          (gains_both g None None (map (with_number x) (take i found)) (with_number x number ∷ []) a b d gains more),
      subst (λ (l : List ℕ). AreMarked l m o) (sym step) (marked_both (take i found) (number ∷ []) m n o marks mark),
    )

-- all left tuples, one more
pub lefts_more : (g : Test) (fault : List ℕ → Option Fault) (make : List ℕ → List (List ℕ)) (xs : List (List ℕ)) (i : ℕ) (x : List ℕ) (a b d : Walked) → i < length xs → x ≡ get_or xs i x
    → Gains g (faults_by fault (take i xs)) (flat_map make (take i xs)) a b → Gains g (fault x) (make x) b d → Gains g (faults_by fault (take (i + 1) xs)) (flat_map make (take (i + 1) xs)) a d
lefts_more g fault make xs i x a b d h at gains more =
    gains_as g (join (faults_by fault (take i xs)) (fault x)) (faults_by fault (take (i + 1) xs)) (flat_map make (take i xs) ++ make x) (flat_map make (take (i + 1) xs)) a d
    (sym (faults_by_more fault xs i x h ∙ ap (λ y. join (faults_by fault (take i xs)) (fault y)) (sym at))) (sym (flat_more make xs i x h at))
    (gains_both g (faults_by fault (take i xs)) (fault x) (flat_map make (take i xs)) (make x) a b d gains more)

-- and the rows that they mark
pub marks_more : {X : Type 0} (numbers : X → List ℕ) (xs : List X) (i : ℕ) (x : X) (m n o : List Bool) → i < length xs → x ≡ get_or xs i x → AreMarked (flat_map numbers (take i xs)) m n → AreMarked (numbers x) n o → AreMarked (flat_map numbers (take (i + 1) xs)) m o
marks_more numbers xs i x m n o h at marks more =
    subst (λ (l : List ℕ). AreMarked l m o) (sym (flat_more numbers xs i x h at)) (marked_both (flat_map numbers (take i xs)) (numbers x) m n o marks more)

-- all tuples that are there, one more
pub kept_more : (g : Test) (tuples : List (List ℕ)) (i : ℕ) (x y : List ℕ) (a b d : Walked) → i < length tuples → x ≡ get_or tuples i x → y ≡ x → Gains g None (take i tuples) a b → Gains g None (y ∷ []) b d → Gains g None (take (i + 1) tuples) a d
kept_more g tuples i x y a b d h at same gains more =
    gains_as g None None (take i tuples ++ y ∷ []) (take (i + 1) tuples) a d refl (ap (λ z. take i tuples ++ z ∷ []) (same ∙ at) ∙ sym (take_more tuples i x h))
    (gains_both g None None (take i tuples) (y ∷ []) a b d gains more)

-- what becomes of one left tuple
pub left_gains : (keeps any : Bool) (f g : Test) (count : ℕ) (x : List ℕ) (a b d : Walked) → any ≡ list_any (passes f x) (numbers_to count) → Gains g (faults_by (fault_of f x) (numbers_to count)) (pairs_with f count x) a b
    → Gains g None (cond keeps (cond (not any) (with_number x count ∷ []) []) []) b d → Gains g (faults_by (fault_of f x) (numbers_to count)) (from_left keeps f count x) a d
left_gains keeps any f g count x a b d e pairs alone =
    let fault = faults_by (fault_of f x) (numbers_to count) in
    let more = cond keeps (cond (not any) (with_number x count ∷ []) []) [] in
    gains_as g (join fault None) fault (pairs_with f count x ++ more) (from_left keeps f count x) a d (join_none fault)
    (ap (λ b. pairs_with f count x ++ cond keeps (cond (not b) (with_number x count ∷ []) []) []) e ∙ sym (left_made keeps f count x))
    (gains_both g fault None (pairs_with f count x) more a b d pairs alone)

-- the numbers that are not marked, one more
pub unmarked_more : (g : Test) (marks : List ℕ) (met : List Bool) (j : ℕ) (a b d : Walked) → Gains g None (unmarked_to marks met j) a b → Gains g None (cond (not (get_or met j false)) (with_number marks j ∷ []) []) b d → Gains g None (unmarked_to marks met (j + 1)) a d
unmarked_more g marks met j a b d gains more =
    let rest = cond (not (get_or met j false)) (with_number marks j ∷ []) [] in
    gains_as g None None (unmarked_to marks met j ++ rest) (unmarked_to marks met (j + 1)) a d refl (sym step) (gains_both g None None (unmarked_to marks met j) rest a b d gains more)
  where
    one : (d : Bool) → map (with_number marks) (cond d (j ∷ []) []) ≡ cond d (with_number marks j ∷ []) []
    one true = refl
    one false = refl

    step : unmarked_to marks met (j + 1) ≡ unmarked_to marks met j ++ cond (not (get_or met j false)) (with_number marks j ∷ []) []
    step =
        ap (λ l. map (with_number marks) (filter (λ i. not (get_or met i false)) l)) (one_number j)
        ∙ ap (map (with_number marks)) (filter-append (λ i. not (get_or met i false)) (numbers_to j) (j ∷ []))
        ∙ map-append (with_number marks) (filter (λ i. not (get_or met i false)) (numbers_to j)) (filter (λ i. not (get_or met i false)) (j ∷ []))
        ∙ ap (λ l. unmarked_to marks met j ++ l) (one (not (get_or met j false)))
