-- Lists, faults and results up to order.
use Rattle.std.proofs.Common.{◌≡◌, ℕ, ◌+◌, List, [], ◌∷◌, ◌++◌, map, Bool, true, false, cond, not, Option, Some, None, Ok, Err, refl, sym, ap, ◌∙◌, subst, arith}
use Rattle.std.specs.List.{filter, count_by, fold}
use Rattle.vtl_lists.specs.Perm.{Perm, empty, keep, cross, chain}
use Rattle.vtl_lists.proofs.Perms.{Perm-refl, Perm-same, Perm-map, Perm-filter}
use Rattle.vtl_lists.proofs.Filters.{filter_swap}
use Rattle.vtl_tuples.specs.Keys.{each_once}
use Rattle.vtl_decimal.specs.declared.number.Fault.{Fault}
use Rattle.vtl_decimal.specs.declared.number.Fault.TheVariants.{DivZero, Range}
use Rattle.vtl_cell.specs.Outcome.{Outcome, after, fault_in, faults_by, join, unless}
use Rattle.vtl_cell.specs.Outcomes.{Same}
use Rattle.vtl_cell.specs.Row.{Row, same_row}
use Rattle.vtl_cell.specs.declared.cell.Cell.{Cell}
use Rattle.vtl_cell.proofs.Rows.{same_row-is, same_row-sym}
use Rattle.vtl_series.proofs.OrderLemmas.{once_cross}
use Rattle.sql_meaning.specs.Outcomes.{all_values, cell_or_null}
use Rattle.sql_meaning.specs.Windows.{told_apart}

-- ---- faults

pub join_swap : (f g h : Option Fault) → join f (join g h) ≡ join g (join f h)
join_swap None g h = refl
join_swap (Some DivZero) None h = refl
join_swap (Some DivZero) (Some DivZero) h = refl
join_swap (Some DivZero) (Some Range) h = refl
join_swap (Some Range) None h = refl
join_swap (Some Range) (Some DivZero) h = refl
join_swap (Some Range) (Some Range) h = refl

pub faults_by-Perm : {X : Type 0} (f : X → Option Fault) {xs ys : List X} → Perm xs ys → faults_by f xs ≡ faults_by f ys
faults_by-Perm f empty = refl
faults_by-Perm f (keep x p) = ap (join (f x)) (faults_by-Perm f p)
faults_by-Perm f (cross x y xs) = join_swap (f x) (f y) (faults_by f xs)
faults_by-Perm f (chain p q) = faults_by-Perm f p ∙ faults_by-Perm f q

pub join_assoc : (f g h : Option Fault) → join (join f g) h ≡ join f (join g h)
join_assoc None g h = refl
join_assoc (Some DivZero) g h = refl
join_assoc (Some Range) None None = refl
join_assoc (Some Range) None (Some h) = refl
join_assoc (Some Range) (Some DivZero) h = refl
join_assoc (Some Range) (Some Range) None = refl
join_assoc (Some Range) (Some Range) (Some h) = refl

pub join_none : (f : Option Fault) → join f None ≡ f
join_none None = refl
join_none (Some DivZero) = refl
join_none (Some Range) = refl

pub faults_by-append : {X : Type 0} (f : X → Option Fault) (xs ys : List X) → faults_by f (xs ++ ys) ≡ join (faults_by f xs) (faults_by f ys)
faults_by-append f [] ys = refl
faults_by-append f (x ∷ xs) ys = ap (join (f x)) (faults_by-append f xs ys) ∙ sym (join_assoc (f x) (faults_by f xs) (faults_by f ys))

-- ---- results

pub Same_unless : {X : Type 0} (f g : Option Fault) (xs ys : List X) → f ≡ g → Perm xs ys → Same (unless f xs) (unless g ys)
Same_unless f g xs ys e p = subst (λ h. Same (unless f xs) (unless h ys)) e (go f)
  where
    go : (h : Option Fault) → Same (unless h xs) (unless h ys)
    go None = p
    go (Some h) = refl

pub Same_after : {X Y : Type 0} (m n : Outcome (List X)) (f g : List X → Outcome (List Y)) → Same m n → ((d e : List X) → Perm d e → Same (f d) (g e)) → Same (after m f) (after n g)
Same_after (Ok d) (Ok e) f g s h = h d e s
Same_after (Err x) (Err y) f g s h = s
Same_after (Ok d) (Err y) f g s h = absurd s
Same_after (Err x) (Ok e) f g s h = absurd s

-- what is made of all values does not depend on their order
pub all_values_same : {X : Type 0} (f g : X → Outcome Cell) (xs ys : List X) (k : List Cell → Outcome Cell) → f ≡ g → Perm xs ys → ((us vs : List Cell) → Perm us vs → k us ≡ k vs) → after (all_values f xs) k ≡ after (all_values g ys) k
all_values_same f g xs ys k e p h =
    ap (λ j. after (all_values j xs) k) e
    ∙ ap (λ a. after (unless a (map (λ x. cell_or_null (g x)) xs)) k) (faults_by-Perm (λ x. fault_in (g x)) p)
    ∙ go (faults_by (λ x. fault_in (g x)) ys)
  where
    go : (a : Option Fault) → after (unless a (map (λ x. cell_or_null (g x)) xs)) k ≡ after (unless a (map (λ x. cell_or_null (g x)) ys)) k
    go None = h (map (λ x. cell_or_null (g x)) xs) (map (λ x. cell_or_null (g x)) ys) (Perm-map (λ x. cell_or_null (g x)) p)
    go (Some x) = refl

-- ---- each item once
cond_swap : {X : Type 0} (p q : X → Bool) (x : X) (xs : List X) (b d : Bool) → p x ≡ b → q x ≡ d → filter p (filter q xs) ≡ filter q (filter p xs) → filter p (cond d (x ∷ filter q xs) (filter q xs)) ≡ filter q (cond b (x ∷ filter p xs) (filter p xs))
cond_swap p q x xs true true e h ih = rw (e, h) (ap (λ l. x ∷ l) ih)
cond_swap p q x xs true false e h ih = rw h ih
cond_swap p q x xs false true e h ih = rw e ih
cond_swap p q x xs false false e h ih = ih

pub once-Perm : {xs ys : List Row} → Perm xs ys → Perm (each_once same_row xs) (each_once same_row ys)
once-Perm empty = empty
once-Perm (keep x p) = keep x (Perm-filter (λ y. not (same_row x y)) (once-Perm p))
once-Perm (cross x y xs) = go (same_row x y) refl
  where
    go : (b : Bool) → same_row x y ≡ b → Perm (each_once same_row (x ∷ y ∷ xs)) (each_once same_row (y ∷ x ∷ xs))
    go true e = subst (λ w. Perm (each_once same_row (x ∷ w ∷ xs)) (each_once same_row (w ∷ x ∷ xs))) (same_row-is x y e) (Perm-refl (each_once same_row (x ∷ x ∷ xs)))
    go false e =
        once_cross (not (same_row x y)) (not (same_row y x)) x y (filter (λ z. not (same_row x z)) (filter (λ z. not (same_row y z)) (each_once same_row xs))) (filter (λ z. not (same_row y z)) (filter (λ z. not (same_row x z)) (each_once same_row xs)))
        (ap not e) (ap not (sym (same_row-sym x y) ∙ e)) (filter_swap (λ z. not (same_row x z)) (λ z. not (same_row y z)) (each_once same_row xs))
once-Perm (chain p q) = chain (once-Perm p) (once-Perm q)

-- ---- counts
fold_swap : (f : Row → ℕ) (a : ℕ) {xs ys : List Row} → Perm xs ys → fold (λ b x. b + f x) a xs ≡ fold (λ b x. b + f x) a ys
fold_swap f a empty = refl
fold_swap f a (keep x p) = fold_swap f (a + f x) p
fold_swap f a (cross x y xs) = let e : (a + f x) + f y ≡ (a + f y) + f x = omega arith in ap (λ b. fold (λ b x. b + f x) b xs) e
fold_swap f a (chain p q) = fold_swap f a p ∙ fold_swap f a q

pub count_by-Perm : (t : Row → Bool) {xs ys : List Row} → Perm xs ys → count_by t xs ≡ count_by t ys
count_by-Perm t p = fold_swap (λ x. cond (t x) 1 0) 0 p

count_apart : (t : Row → Bool) (x : Row) (xs : List Row) → t x ≡ false → count_by t (x ∷ xs) ≡ count_by t xs
count_apart t x xs e = ap (λ b. fold (λ a y. a + cond (t y) 1 0) (0 + cond b 1 0) xs) e

-- ---- rows that are alike
pub told_apart-Perm : {xs ys : List Row} → Perm xs ys → Perm (told_apart xs) (told_apart ys)
told_apart-Perm empty = empty
told_apart-Perm (keep x {xs} {ys} p) = chain (Perm-same ((x, count_by (same_row x) xs) ∷ told_apart xs) ((x, count_by (same_row x) ys) ∷ told_apart xs) (ap (λ n. (x, n) ∷ told_apart xs) (count_by-Perm (same_row x) p))) (keep (x, count_by (same_row x) ys) (told_apart-Perm p))
told_apart-Perm (cross x y xs) = go (same_row x y) refl
  where
    go : (b : Bool) → same_row x y ≡ b → Perm (told_apart (x ∷ y ∷ xs)) (told_apart (y ∷ x ∷ xs))
    go true e = subst (λ w. Perm (told_apart (x ∷ w ∷ xs)) (told_apart (w ∷ x ∷ xs))) (same_row-is x y e) (Perm-refl (told_apart (x ∷ x ∷ xs)))
    go false e =
        chain (cross (x, count_by (same_row x) (y ∷ xs)) (y, count_by (same_row y) xs) (told_apart xs))
        (Perm-same ((y, count_by (same_row y) xs) ∷ (x, count_by (same_row x) (y ∷ xs)) ∷ told_apart xs) ((y, count_by (same_row y) (x ∷ xs)) ∷ (x, count_by (same_row x) xs) ∷ told_apart xs)
        (ap (λ n. (y, count_by (same_row y) xs) ∷ (x, n) ∷ told_apart xs) (count_apart (same_row x) y xs e)
        ∙ ap (λ n. (y, n) ∷ (x, count_by (same_row x) xs) ∷ told_apart xs) (sym (count_apart (same_row y) x xs (sym (same_row-sym x y) ∙ e)))))
told_apart-Perm (chain p q) = chain (told_apart-Perm p) (told_apart-Perm q)
