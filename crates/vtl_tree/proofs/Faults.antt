-- The fault of many values does not depend on their order.
use Rattle.std.proofs.Common.{◌≡◌, ℕ, ◌+◌, ◌<◌, length, take, get_or, List, [], ◌∷◌, ◌++◌, Option, Some, None, refl, sym, ap, ◌∙◌, subst}
use Rattle.std.proofs.lemmas.List.{take_more}
use Rattle.vtl_decimal.specs.declared.number.Fault.{Fault}
use Rattle.vtl_decimal.specs.declared.number.Fault.TheVariants.{DivZero, Range}
use Rattle.vtl_cell.specs.Outcome.{join, faults_by, unless}
use Rattle.vtl_cell.specs.Outcomes.{Same}
use Rattle.vtl_lists.specs.Perm.{Perm, empty, keep, cross, chain}

pub join_swap : (f g h : Option Fault) → join f (join g h) ≡ join g (join f h)
join_swap None g h = refl
join_swap (Some DivZero) None h = refl
join_swap (Some DivZero) (Some DivZero) h = refl
join_swap (Some DivZero) (Some Range) h = refl
join_swap (Some Range) None h = refl
join_swap (Some Range) (Some DivZero) h = refl
join_swap (Some Range) (Some Range) h = refl

pub join_assoc : (f g h : Option Fault) → join (join f g) h ≡ join f (join g h)
join_assoc None g h = refl
join_assoc (Some DivZero) g h = refl
join_assoc (Some Range) None None = refl
join_assoc (Some Range) None (Some h) = refl
join_assoc (Some Range) (Some DivZero) h = refl
join_assoc (Some Range) (Some Range) None = refl
join_assoc (Some Range) (Some Range) (Some h) = refl

pub join_none : (f : Option Fault) → join f None ≡ f
join_none None = refl
join_none (Some DivZero) = refl
join_none (Some Range) = refl

pub faults_by-Perm : {X : Type 0} (f : X → Option Fault) {xs ys : List X} → Perm xs ys → faults_by f xs ≡ faults_by f ys
faults_by-Perm f empty = refl
faults_by-Perm f (keep x p) = ap (join (f x)) (faults_by-Perm f p)
faults_by-Perm f (cross x y xs) = join_swap (f x) (f y) (faults_by f xs)
faults_by-Perm f (chain p q) = faults_by-Perm f p ∙ faults_by-Perm f q

pub faults_by-append : {X : Type 0} (f : X → Option Fault) (xs ys : List X) → faults_by f (xs ++ ys) ≡ join (faults_by f xs) (faults_by f ys)
faults_by-append f [] ys = refl
faults_by-append f (x ∷ xs) ys = ap (join (f x)) (faults_by-append f xs ys) ∙ sym (join_assoc (f x) (faults_by f xs) (faults_by f ys))

-- a loop's step
pub faults_by_more : {X : Type 0} (f : X → Option Fault) (xs : List X) (i : ℕ) (d : X) → i < length xs → faults_by f (take (i + 1) xs) ≡ join (faults_by f (take i xs)) (f (get_or xs i d))
faults_by_more f xs i d h =
    ap (faults_by f) (take_more xs i d h) ∙ faults_by-append f (take i xs) (get_or xs i d ∷ []) ∙ ap (join (faults_by f (take i xs))) (join_none (f (get_or xs i d)))

pub Same_unless : {X : Type 0} (f g : Option Fault) (xs ys : List X) → f ≡ g → Perm xs ys → Same (unless f xs) (unless g ys)
Same_unless f g xs ys e p = subst (λ h. Same (unless f xs) (unless h ys)) e (go f)
  where
    go : (h : Option Fault) → Same (unless h xs) (unless h ys)
    go None = p
    go (Some h) = refl
