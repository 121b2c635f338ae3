-- An expression for each two measures.
use Rattle.std.proofs.Common.{◌≡◌, ℕ, zero, suc, ◌+◌, ◌<◌, ◌≤◌, min, List, [], ◌∷◌, ◌++◌, length, map, take, get_or, refl, sym, ap, ◌∙◌, arith, append_assoc}
use Rattle.std.specs.Borrow.{Bor}
use Rattle.std.proofs.lemmas.List.{map-append}
use Rattle.vtl_tree.specs.CompExp.{CompExp}
use Rattle.vtl_tree.specs.Shown.{shown}
use Rattle.vtl_tree.specs.View.{comp_exp_of}
use Rattle.vtl_tree.specs.declared.expression.CompExpr.{CompExpr}
use Rattle.vtl_tree.specs.declared.structure.Component.{Component}
use Rattle.vtl_meaning.specs.Operators.{for_measures}

abbrev first : (Component → Component → CompExp) → ℕ → List (Bor Component) → List (Bor Component) → List CompExp
first f i xs ys = for_measures f (shown (take i xs)) (shown (take i ys))

more : (f : Component → Component → CompExp) (xs ys : List (Bor Component)) (i : ℕ) (x y : Bor Component) → i < length xs → i < length ys → x ≡ get_or xs i x → y ≡ get_or ys i y → first f (suc i) xs ys ≡ first f i xs ys ++ f x.now y.now ∷ []
more f [] ys i x y h k at bt = absurd (omega arith)
more f (a ∷ xs) [] i x y h k at bt = absurd (omega arith)
more f (a ∷ xs) (b ∷ ys) zero x y h k at bt = ap (λ (z : Bor Component). f z.now b.now ∷ []) (sym at) ∙ ap (λ (z : Bor Component). f x.now z.now ∷ []) (sym bt)
more f (a ∷ xs) (b ∷ ys) (suc i) x y h k at bt = ap (λ l. f a.now b.now ∷ l) (more f xs ys i x y (omega arith) (omega arith) at bt)

pub for_measures_more : (f : Component → Component → CompExp) (xs ys : List (Bor Component)) (i : ℕ) (x y : Bor Component) → i < min (length xs) (length ys) → x ≡ get_or xs i x → y ≡ get_or ys i y → for_measures f (shown (take (i + 1) xs)) (shown (take (i + 1) ys)) ≡ for_measures f (shown (take i xs)) (shown (take i ys)) ++ f x.now y.now ∷ []
for_measures_more f xs ys i x y h at bt = let next : i + 1 ≡ suc i = omega arith in ap (λ n. first f n xs ys) next ∙ more f xs ys i x y (omega arith) (omega arith) at bt

pub for_measures_all : (f : Component → Component → CompExp) (xs ys : List (Bor Component)) (i : ℕ) → min (length xs) (length ys) ≤ i → for_measures f (shown (take i xs)) (shown (take i ys)) ≡ for_measures f (shown xs) (shown ys)
for_measures_all f [] ys zero h = refl
for_measures_all f [] ys (suc i) h = refl
for_measures_all f (x ∷ xs) [] zero h = refl
for_measures_all f (x ∷ xs) [] (suc i) h = refl
for_measures_all f (x ∷ xs) (y ∷ ys) zero h = absurd (omega arith)
for_measures_all f (x ∷ xs) (y ∷ ys) (suc i) h = ap (λ l. f x.now y.now ∷ l) (for_measures_all f xs ys i (omega arith))

-- one more of them, behind other expressions
pub pushed : (f : Component → Component → CompExp) (old new : List CompExpr) (e : CompExpr) (done : List CompExp) (xs ys : List (Bor Component)) (i : ℕ) (x y : Bor Component)
    → new ≡ old ++ e ∷ [] → map comp_exp_of old ≡ done ++ for_measures f (shown (take i xs)) (shown (take i ys)) → comp_exp_of e ≡ f x.now y.now
    → i < min (length xs) (length ys) → x ≡ get_or xs i x → y ≡ get_or ys i y
    → map comp_exp_of new ≡ done ++ for_measures f (shown (take (i + 1) xs)) (shown (take (i + 1) ys))
pushed f old new e done xs ys i x y n o is h at bt =
    let before = for_measures f (shown (take i xs)) (shown (take i ys)) in
    ap (map comp_exp_of) n ∙ map-append comp_exp_of old (e ∷ []) ∙ ap (λ l. l ++ comp_exp_of e ∷ []) o
    ∙ append_assoc done before (comp_exp_of e ∷ []) ∙ ap (λ z. done ++ (before ++ z ∷ [])) is
    ∙ ap (λ l. done ++ l) (sym (for_measures_more f xs ys i x y h at bt))
