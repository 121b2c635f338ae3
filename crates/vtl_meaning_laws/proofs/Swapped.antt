-- An inner join of two operands, whichever stands first.
use Rattle.std.specs.Prelude.{reverse}
use Rattle.std.specs.List.{filter, flat_map}
use Rattle.std.proofs.Common.{◌≡◌, Bool, true, false, cond, ◌&&◌, List, [], ◌∷◌, ◌++◌, map, refl, sym, ap, ◌∙◌}
use Rattle.vtl_lists.specs.Perm.{Perm, chain}
use Rattle.vtl_lists.proofs.Perms.{Perm-same}
use Rattle.vtl_tree.specs.Environment.{DataSet}
use Rattle.vtl_tuples.specs.Tuples.{all_agree, combinations, matching}
use Rattle.vtl_tuples.proofs.Lists.{filter-flat_map, filter-map, filter_each, flat_map_each, flat_map_turned, map-flat_map, map-map}
use Rattle.vtl_meaning.specs.Agreement.{OperandPoint, operand_points, points_agree}
use Rattle.vtl_meaning.specs.Joined.{agreeing}
use Rattle.vtl_meaning.proofs.JoinAgreements.{Agrees, agree-from, agree-gives}

agree_turned : (x y : OperandPoint) → points_agree x y ≡ points_agree y x
agree_turned x y = same (points_agree x y) (points_agree y x) (λ e. agree-from y x (turned x y (agree-gives x y e))) (λ e. agree-from x y (turned y x (agree-gives y x e)))
  where
    same : (a b : Bool) → (a ≡ true → b ≡ true) → (b ≡ true → a ≡ true) → a ≡ b
    same true b f g = sym (f refl)
    same false true f g = g refl
    same false false f g = refl

    turned : (z w : OperandPoint) → Agrees z w → Agrees w z
    turned z w h = λ name i j. sym (h name j i)

-- ---- pairs that agree
abbrev pair : OperandPoint → OperandPoint → List OperandPoint
pair x y = x ∷ y ∷ []

abbrev if_agree : OperandPoint → OperandPoint → List OperandPoint → List (List OperandPoint)
if_agree x y t = cond (points_agree x y) (t ∷ []) []

one_each : (ys : List OperandPoint) → combinations (ys ∷ []) ≡ map (λ y. y ∷ []) ys
one_each [] = refl
one_each (y ∷ ys) = ap (λ l. (y ∷ []) ∷ l) (one_each ys)

kept_each : (x : OperandPoint) (ys : List OperandPoint) → map (pair x) (filter (points_agree x) ys) ≡ flat_map (λ y. if_agree x y (pair x y)) ys
kept_each x [] = refl
kept_each x (y ∷ ys) = go (points_agree x y) (kept_each x ys)
  where
    go : (b : Bool) → map (pair x) (filter (points_agree x) ys) ≡ flat_map (λ z. if_agree x z (pair x z)) ys
        → map (pair x) (cond b (y ∷ filter (points_agree x) ys) (filter (points_agree x) ys)) ≡ cond b (pair x y ∷ []) [] ++ flat_map (λ z. if_agree x z (pair x z)) ys
    go true ih = ap (λ l. pair x y ∷ l) ih
    go false ih = ih

pairs_are : (xs ys : List OperandPoint) → matching points_agree (xs ∷ ys ∷ []) ≡ flat_map (λ x. flat_map (λ y. if_agree x y (pair x y)) ys) xs
pairs_are xs ys =
    let front : OperandPoint → List (List OperandPoint) = λ x. map (λ t. x ∷ t) (combinations (ys ∷ [])) in
    filter-flat_map (all_agree points_agree) front xs
    ∙ flat_map_each (λ x. filter (all_agree points_agree) (front x)) (λ x. flat_map (λ y. if_agree x y (pair x y)) ys) one xs
  where
    plain : (x y : OperandPoint) → all_agree points_agree (pair x y) ≡ points_agree x y
    plain x y = go (points_agree x y)
      where
        go : (b : Bool) → ((b && true) && (true && true)) ≡ b
        go true = refl
        go false = refl

    one : (x : OperandPoint) → filter (all_agree points_agree) (map (λ t. x ∷ t) (combinations (ys ∷ []))) ≡ flat_map (λ y. if_agree x y (pair x y)) ys
    one x =
        ap (λ l. filter (all_agree points_agree) (map (λ t. x ∷ t) l)) (one_each ys) ∙ ap (filter (all_agree points_agree)) (map-map (λ t. x ∷ t) (λ y. y ∷ []) ys)
        ∙ filter-map (all_agree points_agree) (pair x) ys ∙ ap (map (pair x)) (filter_each (λ y. all_agree points_agree (pair x y)) (points_agree x) (plain x) ys)
        ∙ kept_each x ys

pub pairs_turned : (a b : DataSet) → Perm (map reverse (agreeing (a ∷ b ∷ []))) (agreeing (b ∷ a ∷ []))
pairs_turned a b =
    let xs = operand_points a in
    let ys = operand_points b in
    let back : OperandPoint → OperandPoint → List (List OperandPoint) = λ x y. if_agree x y (pair y x) in
    chain
    (Perm-same (map reverse (agreeing (a ∷ b ∷ []))) (flat_map (λ x. flat_map (back x) ys) xs)
    (ap (map reverse) (pairs_are xs ys) ∙ map-flat_map reverse (λ x. flat_map (λ y. if_agree x y (pair x y)) ys) xs
    ∙ flat_map_each (λ x. map reverse (flat_map (λ y. if_agree x y (pair x y)) ys)) (λ x. flat_map (back x) ys)
    (λ x. map-flat_map reverse (λ y. if_agree x y (pair x y)) ys ∙ flat_map_each (λ y. map reverse (if_agree x y (pair x y))) (back x) (λ y. turned_one (points_agree x y) x y) ys) xs))
    (chain (flat_map_turned back xs ys)
    (Perm-same (flat_map (λ y. flat_map (λ x. back x y) xs) ys) (agreeing (b ∷ a ∷ []))
    (flat_map_each (λ y. flat_map (λ x. back x y) xs) (λ y. flat_map (λ x. if_agree y x (pair y x)) xs)
    (λ y. flat_map_each (λ x. back x y) (λ x. if_agree y x (pair y x)) (λ x. ap (λ c. cond c (pair y x ∷ []) []) (agree_turned x y)) xs) ys
    ∙ sym (pairs_are ys xs))))
  where
    turned_one : (c : Bool) (x y : OperandPoint) → map reverse (cond c (pair x y ∷ []) []) ≡ cond c (pair y x ∷ []) []
    turned_one true x y = refl
    turned_one false x y = refl
