-- Nested loops, step by step.
use Rattle.std.proofs.Common.{◌≡◌, ℕ, ◌+◌, ◌-◌, ◌<◌, ◌≤◌, List, [], ◌∷◌, ◌++◌, Bool, true, false, cond, not, ◌||◌, map, length, get_or, take, Option, None, Some, Ok, Err, refl, sym, ap, ◌∙◌, arith}
use Rattle.std.specs.List.{filter, flat_map, list_any}
use Rattle.std.proofs.lemmas.Grind.{flat_map-append}
use Rattle.std.proofs.lemmas.List.{append-nil, take_all, take_more}
use Rattle.std.proofs.lemmas.List.Folds.{list_any-append}
use Rattle.vtl_lists.proofs.Filters.{range_more}
use Rattle.vtl_lists.proofs.Tests.{or_false}
use Rattle.vtl_cell.specs.declared.cell.Cell.{Cell}
use Rattle.vtl_decimal.specs.declared.number.Fault.{Fault}
use Rattle.vtl_cell.specs.Outcome.{Outcome, fault_in, faults_by, join}
use Rattle.vtl_cell.specs.Outcomes.{is_true}
use Rattle.sql_meaning.proofs.UpToOrder.{faults_by-append, join_none}
use Rattle.sql_meaning.specs.From.{or_alone}
use Rattle.sql_from.specs.Joins.{from_left, numbers_to, pairs_with, passes, told, with_number}

-- ---- one item more
pub faults_by_more : {X : Type 0} (f : X → Option Fault) (xs : List X) (i : ℕ) (x : X) → i < length xs → faults_by f (take (i + 1) xs) ≡ join (faults_by f (take i xs)) (f (get_or xs i x))
faults_by_more f xs i x h = ap (faults_by f) (take_more xs i x h) ∙ faults_by-append f (take i xs) (get_or xs i x ∷ []) ∙ ap (join (faults_by f (take i xs))) (join_none (f (get_or xs i x)))

pub one_number : (j : ℕ) → numbers_to (j + 1) ≡ numbers_to j ++ j ∷ []
one_number j = range_more 0 j ∙ (let e : 0 + j ≡ j = omega arith in ap (λ i. numbers_to j ++ i ∷ []) e)

module _ (f : List ℕ → Outcome Cell) (x : List ℕ) (j : ℕ) where
  pub any_more : list_any (passes f x) (numbers_to (j + 1)) ≡ (list_any (passes f x) (numbers_to j) || passes f x j)
  any_more = ap (list_any (passes f x)) (one_number j) ∙ list_any-append (passes f x) (numbers_to j) (j ∷ []) ∙ ap (λ b. list_any (passes f x) (numbers_to j) || b) (or_false (passes f x j))

-- ---- one left tuple
padded_or_not : {X Y : Type 0} (g : X → Y) (t : X → Bool) (ys : List X) (z : Y) → or_alone (map g (filter t ys)) z ≡ map g (filter t ys) ++ cond (not (list_any t ys)) (z ∷ []) []
padded_or_not g t [] z = refl
padded_or_not {X} {Y} g t (y ∷ ys) z = go (t y) (padded_or_not g t ys z)
  where
    go : (b : Bool) → or_alone (map g (filter t ys)) z ≡ map g (filter t ys) ++ cond (not (list_any t ys)) (z ∷ []) []
        → or_alone (map g (cond b (y ∷ filter t ys) (filter t ys))) z ≡ map g (cond b (y ∷ filter t ys) (filter t ys)) ++ cond (not (b || list_any t ys)) (z ∷ []) []
    go true e = sym (append-nil (g y ∷ map g (filter t ys)))
    go false e = e

pub left_made : (keeps : Bool) (f : List ℕ → Outcome Cell) (count : ℕ) (x : List ℕ)
    → from_left keeps f count x ≡ pairs_with f count x ++ cond keeps (cond (not (list_any (passes f x) (numbers_to count))) ((x ++ count ∷ []) ∷ []) []) []
left_made false f count x = sym (append-nil (pairs_with f count x))
left_made true f count x = padded_or_not (with_number x) (passes f x) (numbers_to count) (x ++ count ∷ [])

-- ---- all left tuples
pub flat_more : {X Y : Type 0} (g : X → List Y) (xs : List X) (i : ℕ) (x : X) → i < length xs → x ≡ get_or xs i x → flat_map g (take (i + 1) xs) ≡ flat_map g (take i xs) ++ g x
flat_more g xs i x h at =
    ap (flat_map g) (take_more xs i x h) ∙ flat_map-append g (take i xs) (get_or xs i x ∷ []) ∙ ap (λ m. flat_map g (take i xs) ++ m) (append-nil (g (get_or xs i x))) ∙ ap (λ y. flat_map g (take i xs) ++ g y) (sym at)

-- ---- conditions
pub told_true : (m : Outcome Cell) (b : Bool) → told m ≡ Ok b → (b ≡ is_true m) × (fault_in m ≡ None)
told_true (Ok v) b e = let s : is_true (Ok v) ≡ b = cc in (sym s, refl)
told_true (Err f) b e = cc

pub told_fault : (m : Outcome Cell) (f : Fault) → told m ≡ Err f → (false ≡ is_true m) × (fault_in m ≡ Some f)
told_fault (Ok v) f e = cc
told_fault (Err g) f e = let s : g ≡ f = cc in (refl, ap Some s)

-- ---- tuples that are kept
pub whole_tuple : (x : List ℕ) (w : ℕ) → length x ≡ w → 0 < w → take (w - 1) x ++ get_or x (w - 1) 0 ∷ [] ≡ x
whole_tuple x w e h =
    let all : w - 1 + 1 ≡ length x = omega arith in
    let up : length x ≤ length x = omega arith in
    sym (take_more x (w - 1) 0 (omega arith)) ∙ ap (λ n. take n x) all ∙ take_all (length x) x up
