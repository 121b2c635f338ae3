-- Items are written one by one.
use Rattle.std.proofs.Common.{◌≡◌, ℕ, zero, suc, ◌+◌, ◌<◌, ◌≤◌, min, List, [], ◌∷◌, ◌++◌, length, take, get_or, refl, sym, ap, ◌∙◌, arith, append_assoc}
use Rattle.std.specs.Borrow.{Bor}
use Rattle.vtl_tree.specs.Shown.{shown}
use Rattle.vtl_tree.specs.declared.structure.Component.{Component}
use Rattle.sql_tree.specs.Trees.{ItemTree}
use Rattle.selects_to_sql.specs.Items.{for_each_two}

abbrev first : (Component → Component → ItemTree) → ℕ → List (Bor Component) → List (Bor Component) → List ItemTree
first f i xs ys = for_each_two f (shown (take i xs)) (shown (take i ys))

more : (f : Component → Component → ItemTree) (xs ys : List (Bor Component)) (i : ℕ) (x y : Bor Component) → i < length xs → i < length ys → x ≡ get_or xs i x → y ≡ get_or ys i y → first f (suc i) xs ys ≡ first f i xs ys ++ f x.now y.now ∷ []
more f [] ys i x y h k at bt = absurd (omega arith)
more f (a ∷ xs) [] i x y h k at bt = absurd (omega arith)
more f (a ∷ xs) (b ∷ ys) zero x y h k at bt = ap (λ (z : Bor Component). f z.now b.now ∷ []) (sym at) ∙ ap (λ (z : Bor Component). f x.now z.now ∷ []) (sym bt)
more f (a ∷ xs) (b ∷ ys) (suc i) x y h k at bt = ap (λ l. f a.now b.now ∷ l) (more f xs ys i x y (omega arith) (omega arith) at bt)

two_more : (f : Component → Component → ItemTree) (xs ys : List (Bor Component)) (i : ℕ) (x y : Bor Component) → i < min (length xs) (length ys) → x ≡ get_or xs i x → y ≡ get_or ys i y → first f (i + 1) xs ys ≡ first f i xs ys ++ f x.now y.now ∷ []
two_more f xs ys i x y h at bt = let next : i + 1 ≡ suc i = omega arith in ap (λ n. first f n xs ys) next ∙ more f xs ys i x y (omega arith) (omega arith) at bt

-- an item for each two components, as far as there are two
pub all_two : (f : Component → Component → ItemTree) (xs ys : List (Bor Component)) (i : ℕ) → min (length xs) (length ys) ≤ i → for_each_two f (shown (take i xs)) (shown (take i ys)) ≡ for_each_two f (shown xs) (shown ys)
all_two f [] ys zero h = refl
all_two f [] ys (suc i) h = refl
all_two f (x ∷ xs) [] zero h = refl
all_two f (x ∷ xs) [] (suc i) h = refl
all_two f (x ∷ xs) (y ∷ ys) zero h = absurd (omega arith)
all_two f (x ∷ xs) (y ∷ ys) (suc i) h = ap (λ l. f x.now y.now ∷ l) (all_two f xs ys i (omega arith))

-- one more of them, behind other items
pub one_more : (f : Component → Component → ItemTree) (old new done : List ItemTree) (xs ys : List (Bor Component)) (i : ℕ) (x y : Bor Component)
    → new ≡ old ++ f x.now y.now ∷ [] → old ≡ done ++ for_each_two f (shown (take i xs)) (shown (take i ys))
    → i < min (length xs) (length ys) → x ≡ get_or xs i x → y ≡ get_or ys i y
    → new ≡ done ++ for_each_two f (shown (take (i + 1) xs)) (shown (take (i + 1) ys))
one_more f old new done xs ys i x y n o h at bt =
    n ∙ ap (λ l. l ++ f x.now y.now ∷ []) o
    ∙ append_assoc done (first f i xs ys) (f x.now y.now ∷ [])
    ∙ ap (λ l. done ++ l) (sym (two_more f xs ys i x y h at bt))
