-- The items on the right of a rule are written one after the other.
use Rattle.std.proofs.Common.{◌≡◌, ◌<◌, ◌≤◌, ◌+◌, ◌-◌, ℕ, zero, suc, min, List, [], ◌∷◌, drop, get_or, length, map, refl, sym, ap, take, ◌∙◌, arith}
use Rattle.std.proofs.lemmas.List.{take_all}
use Rattle.vtl_syntax.specs.declared.parts.SignedComp.{SignedComp}
use Rattle.vtl_rulings.specs.Sides.{sign_op}
use Rattle.sql_tree.specs.Trees as tree
use Rattle.sql_tree.specs.Trees.{Exp, Text}
use Rattle.hierarchies_to_sql.specs.SideItems.{next_as}

no_more : (t : Exp) (xs : List SignedComp) → next_as t xs [] ≡ t
no_more t [] = refl
no_more t (x ∷ xs) = refl

module _ (f : Text → Exp) where
  pub next_more : (xs : List SignedComp) (ys : List Text) (i : ℕ) (x : SignedComp) (y : Text) (t : Exp) → i < length xs → i < length ys → x ≡ get_or xs i x → y ≡ get_or ys i y
      → next_as t (drop i xs) (map f (drop i ys)) ≡ next_as (tree.binary t (sign_op x.sign) (f y)) (drop (i + 1) xs) (map f (drop (i + 1) ys))
  next_more [] ys i x y t h k at bt = absurd (omega (arith, h))
  next_more (a ∷ xs) [] i x y t h k at bt = absurd (omega (arith, k))
  next_more (a ∷ xs) (b ∷ ys) zero x y t h k at bt =
      ap (λ (z : SignedComp). next_as (tree.binary t (sign_op z.sign) (f b)) xs (map f ys)) (sym at)
      ∙ ap (λ (z : Text). next_as (tree.binary t (sign_op x.sign) (f z)) xs (map f ys)) (sym bt)
  next_more (a ∷ xs) (b ∷ ys) (suc i) x y t h k at bt =
      let next : suc i + 1 ≡ suc (i + 1) = omega arith in
      next_more xs ys i x y t (omega (arith, h)) (omega (arith, k)) at bt
      ∙ ap (λ n. next_as (tree.binary t (sign_op x.sign) (f y)) (drop n (a ∷ xs)) (map f (drop n (b ∷ ys)))) (sym next)

  pub next_none : (xs : List SignedComp) (ys : List Text) (i : ℕ) (t : Exp) → min (length xs) (length ys) ≤ i → next_as t (drop i xs) (map f (drop i ys)) ≡ t
  next_none [] [] zero t h = refl
  next_none [] [] (suc i) t h = refl
  next_none [] (b ∷ ys) zero t h = refl
  next_none [] (b ∷ ys) (suc i) t h = refl
  next_none (a ∷ xs) [] zero t h = refl
  next_none (a ∷ xs) [] (suc i) t h = no_more t (drop i xs)
  next_none (a ∷ xs) (b ∷ ys) zero t h = absurd (omega (arith, h))
  next_none (a ∷ xs) (b ∷ ys) (suc i) t h = next_none xs ys i t (omega (arith, h))

-- a list by its first part and what is behind it
pub parted : (ys : List Text) (y : Text) → 1 ≤ length ys → y ≡ get_or ys 0 y → y ∷ take (length ys - 1) (drop 1 ys) ≡ ys
parted [] y h at = absurd (omega (arith, h))
parted (z ∷ ys) y h at =
    let less : length (z ∷ ys) - 1 ≡ length ys = omega arith in
    ap (λ (x : Text). x ∷ take (length (z ∷ ys) - 1) ys) at ∙ ap (λ n. z ∷ take n ys) less ∙ ap (λ l. z ∷ l) (take_all (length ys) ys (omega arith))

pub each_of : {X Y Z : Type 0} (f : Y → Z) (g : X → Y) (xs : List X) → map (λ x. f (g x)) xs ≡ map f (map g xs)
each_of f g [] = refl
each_of f g (x ∷ xs) = ap (λ l. f (g x) ∷ l) (each_of f g xs)
