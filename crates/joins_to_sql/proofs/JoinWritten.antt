-- Items of joins are written one by one.
use Rattle.std.proofs.Common.{◌≡◌, ℕ, zero, suc, ◌+◌, ◌<◌, ◌≤◌, min, List, [], ◌∷◌, ◌++◌, map, length, take, drop, get_or, refl, sym, ap, ◌∙◌, arith, append_assoc}
use Rattle.std.specs.Borrow.{Bor}
use Rattle.vtl_tree.specs.Shown.{shown}
use Rattle.vtl_tree.specs.declared.structure.Component.{Component}
use Rattle.sql_tree.specs.Trees.{ItemTree}
use Rattle.joins_to_sql.specs.JoinItems.{picked_column}
use Rattle.joins_to_sql.specs.Joins.{without}
use Rattle.selects_to_sql.specs.Queries.{item_as, items_as}
use Rattle.joins_to_sql.specs.declared.join_items.Picked.{Picked}

abbrev named : List Picked → List (Bor Component) → List ItemTree
named ps ys = items_as (map picked_column ps) (shown ys)

abbrev first : ℕ → List Picked → List (Bor Component) → List ItemTree
first i ps ys = named (take i ps) (take i ys)

more : (ps : List Picked) (ys : List (Bor Component)) (i : ℕ) (q : Picked) (y : Bor Component) → i < length ps → i < length ys → q ≡ get_or ps i q → y ≡ get_or ys i y → first (suc i) ps ys ≡ first i ps ys ++ item_as y.now.name (picked_column q) ∷ []
more [] ys i q y h k at bt = absurd (omega (arith, h))
more (a ∷ ps) [] i q y h k at bt = absurd (omega (arith, k))
more (a ∷ ps) (b ∷ ys) zero q y h k at bt = ap (λ (z : Picked). item_as b.now.name (picked_column z) ∷ []) (sym at) ∙ ap (λ (z : Bor Component). item_as z.now.name (picked_column q) ∷ []) (sym bt)
more (a ∷ ps) (b ∷ ys) (suc i) q y h k at bt = ap (λ l. item_as b.now.name (picked_column a) ∷ l) (more ps ys i q y (omega (arith, h)) (omega (arith, k)) at bt)

-- an item for each two, as far as there are two
pub all_named : (ps : List Picked) (ys : List (Bor Component)) (i : ℕ) → min (length ps) (length ys) ≤ i → items_as (map picked_column (take i ps)) (shown (take i ys)) ≡ items_as (map picked_column ps) (shown ys)
all_named [] ys zero h = refl
all_named [] ys (suc i) h = refl
all_named (q ∷ ps) [] zero h = refl
all_named (q ∷ ps) [] (suc i) h = refl
all_named (q ∷ ps) (y ∷ ys) zero h = absurd (omega (arith, h))
all_named (q ∷ ps) (y ∷ ys) (suc i) h = ap (λ l. item_as y.now.name (picked_column q) ∷ l) (all_named ps ys i (omega (arith, h)))

-- one more of them, behind other items
pub one_named : (old new done : List ItemTree) (ps : List Picked) (ys : List (Bor Component)) (i : ℕ) (q : Picked) (y : Bor Component)
    → new ≡ old ++ item_as y.now.name (picked_column q) ∷ [] → old ≡ done ++ items_as (map picked_column (take i ps)) (shown (take i ys))
    → i < min (length ps) (length ys) → q ≡ get_or ps i q → y ≡ get_or ys i y
    → new ≡ done ++ items_as (map picked_column (take (i + 1) ps)) (shown (take (i + 1) ys))
one_named old new done ps ys i q y n o h at bt =
    let next : i + 1 ≡ suc i = omega arith in
    n ∙ ap (λ l. l ++ item_as y.now.name (picked_column q) ∷ []) o
    ∙ append_assoc done (first i ps ys) (item_as y.now.name (picked_column q) ∷ [])
    ∙ ap (λ l. done ++ l) (sym (ap (λ m. first m ps ys) next ∙ more ps ys i q y (omega (arith, h)) (omega (arith, h)) at bt))

-- ---- operands

none_left : {X : Type 0} (i : ℕ) → drop {A = X} i [] ≡ []
none_left zero = refl
none_left (suc i) = refl

-- all but the one at a place
pub all_others : {X Y Z : Type 0} (g : Y → Z) (f : X → Y) (i : ℕ) (xs : List X) → map g (without i (map f xs)) ≡ map g (map f (take i xs)) ++ map g (map f (drop (i + 1) xs))
all_others g f zero [] = refl
all_others g f (suc i) [] = ap (λ l. map g (map f l)) (sym (none_left (suc i + 1)))
all_others g f zero (x ∷ xs) = refl
all_others g f (suc i) (x ∷ xs) =
    let next : suc (i + 1) ≡ suc i + 1 = omega arith in
    ap (λ l. g (f x) ∷ l) (all_others g f i xs) ∙ ap (λ n. g (f x) ∷ (map g (map f (take i xs)) ++ map g (map f (drop n (x ∷ xs))))) next
