-- Walks over lists, step by step.
use Rattle.std.proofs.Common.{◌≡◌, ℕ, zero, suc, ◌+◌, ◌<◌, ◌≤◌, List, [], ◌∷◌, ◌++◌, map, length, get_or, take, append_assoc, Option, refl, sym, ap, subst, ◌∙◌, arith}
use Rattle.std.specs.Prelude.{zip}
use Rattle.std.specs.List.{AllByRecursion}
use Rattle.std.proofs.lemmas.List.{map-append, take_more}
use Rattle.vtl_decimal.specs.declared.number.Fault.{Fault}
use Rattle.vtl_cell.specs.Outcome.{faults_by, join}
use Rattle.sql_meaning.proofs.UpToOrder.{faults_by-append, join_assoc, join_none}

-- a fact along an equation
pub along : {X : Type 0} {x y : X} → x ≡ y → (P : X → Type 0) → P x → P y
along e P h = subst P e h

-- ---- at one place

pub holds_at : {X : Type 0} (P : X → Type 0) (xs : List X) (i : ℕ) (x : X) → AllByRecursion P xs → i < length xs → x ≡ get_or xs i x → P x
holds_at P [] i x all h e = absurd (omega arith)
holds_at P (y ∷ ys) zero x all h e = subst P (sym e) all.0
holds_at P (y ∷ ys) (suc i) x all h e = holds_at P ys i x all.1 (omega arith) e

-- ---- one more

pub faults_by_more : {X : Type 0} (f : X → Option Fault) (xs : List X) (i : ℕ) (x : X) → i < length xs → faults_by f (take (i + 1) xs) ≡ join (faults_by f (take i xs)) (f (get_or xs i x))
faults_by_more f xs i x h = ap (faults_by f) (take_more xs i x h) ∙ faults_by-append f (take i xs) (get_or xs i x ∷ []) ∙ ap (join (faults_by f (take i xs))) (join_none (f (get_or xs i x)))

-- the fault so far, with that of one item more
pub seen_more : {X : Type 0} (f : X → Option Fault) (xs : List X) (i : ℕ) (x : X) (old now then : Option Fault) → i < length xs → x ≡ get_or xs i x → now ≡ join old (faults_by f (take i xs)) → then ≡ join now (f x) → then ≡ join old (faults_by f (take (i + 1) xs))
seen_more f xs i x old now then h at n t =
    t ∙ ap (λ g. join g (f x)) n ∙ ap (λ z. join (join old (faults_by f (take i xs))) (f z)) at
    ∙ join_assoc old (faults_by f (take i xs)) (f (get_or xs i x)) ∙ ap (join old) (sym (faults_by_more f xs i x h))

-- the list so far, with one item more
pub mapped_more : {X Y : Type 0} (f : X → Y) (xs : List X) (i : ℕ) (x : X) (old now then : List Y) → i < length xs → x ≡ get_or xs i x → now ≡ old ++ map f (take i xs) → then ≡ now ++ f x ∷ [] → then ≡ old ++ map f (take (i + 1) xs)
mapped_more f xs i x old now then h at n t =
    t ∙ ap (λ l. l ++ f x ∷ []) n ∙ append_assoc old (map f (take i xs)) (f x ∷ [])
    ∙ ap (λ l. old ++ l) (ap (λ z. map f (take i xs) ++ f z ∷ []) at ∙ sym (map-append f (take i xs) (get_or xs i x ∷ [])) ∙ ap (map f) (sym (take_more xs i x h)))

-- two lists beside each other
pub zipped_more : {X Y Z : Type 0} (f : X → Z) (xs : List X) (ys : List Y) (i : ℕ) (x : X) (y : Y) → i < length xs → i < length ys → x ≡ get_or xs i x → y ≡ get_or ys i y → take (suc i) (zip (map f xs) ys) ≡ take i (zip (map f xs) ys) ++ (f x, y) ∷ []
zipped_more f [] ys i x y h l e g = absurd (omega arith)
zipped_more f (z ∷ xs) [] i x y h l e g = absurd (omega arith)
zipped_more f (z ∷ xs) (w ∷ ys) zero x y h l e g = λ j. (f (sym e j), sym g j) ∷ []
zipped_more f (z ∷ xs) (w ∷ ys) (suc i) x y h l e g = ap (λ m. (f z, w) ∷ m) (zipped_more f xs ys i x y (omega arith) (omega arith) e g)

pub zipped_all : {X Y Z : Type 0} (f : X → Z) (xs : List X) (ys : List Y) (i : ℕ) → length xs ≤ i → take i (zip (map f xs) ys) ≡ zip (map f xs) ys
zipped_all f [] ys zero h = refl
zipped_all f [] ys (suc i) h = refl
zipped_all f (x ∷ xs) [] zero h = refl
zipped_all f (x ∷ xs) [] (suc i) h = refl
zipped_all f (x ∷ xs) (y ∷ ys) zero h = absurd (omega arith)
zipped_all f (x ∷ xs) (y ∷ ys) (suc i) h = ap (λ m. (f x, y) ∷ m) (zipped_all f xs ys i (omega arith))

-- what holds of all that items stand for holds of what one of them stands for
pub holds_mapped : {X Y : Type 0} (P : Y → Type 0) (f : X → Y) (xs : List X) (i : ℕ) (x : X) → AllByRecursion P (map f xs) → i < length xs → x ≡ get_or xs i x → P (f x)
holds_mapped P f [] i x all h e = absurd (omega arith)
holds_mapped P f (y ∷ ys) zero x all h e = subst (λ z. P (f z)) (sym e) all.0
holds_mapped P f (y ∷ ys) (suc i) x all h e = holds_mapped P f ys i x all.1 (omega arith) e

pub mapped_twice : {X Y Z : Type 0} (f : X → Y) (g : Y → Z) (xs : List X) → map (λ x. g (f x)) xs ≡ map g (map f xs)
mapped_twice f g [] = refl
mapped_twice f g (x ∷ xs) = ap (λ l. g (f x) ∷ l) (mapped_twice f g xs)
