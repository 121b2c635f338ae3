-- Tuples of one list after the other are those of all lists at once.
use Rattle.std.proofs.Common.{◌≡◌, List, [], ◌∷◌, ◌++◌, Bool, true, false, ◌&&◌, map, refl, sym, ap, ◌∙◌, append_assoc}
use Rattle.std.specs.List.{filter, flat_map, fold, list_all}
use Rattle.std.proofs.lemmas.List.{append-nil}
use Rattle.std.proofs.lemmas.List.Concat.{flat_map_single}
use Rattle.std.proofs.lemmas.List.Folds.{flat_map-map, list_all-append}
use Rattle.vtl_tuples.specs.Tuples.{all_agree, and_item, combinations, crossed_with, goes_with, matched_with, matching}
use Rattle.vtl_tuples.proofs.Lists.{filter-flat_map, filter-map, filter_before, filter_each, flat_map-flat_map, flat_map_each, map-flat_map, map-map}

-- what is known at one operand more is known of all
pub after_each : {O T : Type 0} (D : List O → T) (step : T → O → T) → ((os : List O) (o : O) → D (os ++ o ∷ []) ≡ step (D os) o) → (pre os : List O) → D (pre ++ os) ≡ fold step (D pre) os
after_each D step more pre [] = ap D (append-nil pre)
after_each D step more pre (o ∷ os) = ap D (sym (append_assoc pre (o ∷ []) os)) ∙ after_each D step more (pre ++ o ∷ []) os ∙ ap (λ t. fold step t os) (more pre o)

pub combinations_more : {X : Type 0} (xss : List (List X)) (xs : List X) → combinations (xss ++ xs ∷ []) ≡ crossed_with (combinations xss) xs
combinations_more [] xs = flat_map_single (λ x. x ∷ []) xs ∙ sym (append-nil (map (λ x. x ∷ []) xs))
combinations_more (ys ∷ xss) xs =
    let C = combinations xss in
    ap (λ c. flat_map (λ y. map (λ t. y ∷ t) c) ys) (combinations_more xss xs)
    ∙ flat_map_each (λ y. map (λ t. y ∷ t) (crossed_with C xs)) (λ y. crossed_with (map (λ t. y ∷ t) C) xs)
    (λ y. map-flat_map (λ t. y ∷ t) (λ t. map (and_item t) xs) C
    ∙ flat_map_each (λ t. map (λ u. y ∷ u) (map (and_item t) xs)) (λ t. map (and_item (y ∷ t)) xs) (λ t. map-map (λ u. y ∷ u) (and_item t) xs) C
    ∙ sym (flat_map-map (λ t. map (and_item t) xs) (λ t. y ∷ t) C)) ys
    ∙ sym (flat_map-flat_map (λ t. map (and_item t) xs) (λ y. map (λ t. y ∷ t) C) ys)

and_four : (a b c d : Bool) → ((a && (b && true)) && (c && d)) ≡ ((a && c) && (b && d))
and_four true true c d = refl
and_four true false true d = refl
and_four true false false d = refl
and_four false b c d = refl

pub all_agree_more : {X : Type 0} (agree : X → X → Bool) (t : List X) (x : X) → all_agree agree (and_item t x) ≡ (all_agree agree t && goes_with agree t x)
all_agree_more agree [] x = refl
all_agree_more agree (y ∷ t) x =
    ap (λ b. b && all_agree agree (and_item t x)) (list_all-append (agree y) t (x ∷ []))
    ∙ ap (λ b. (list_all (agree y) t && (agree y x && true)) && b) (all_agree_more agree t x)
    ∙ and_four (list_all (agree y) t) (agree y x) (all_agree agree t) (goes_with agree t x)

pub matching_more : {X : Type 0} (agree : X → X → Bool) (xss : List (List X)) (xs : List X) → matching agree (xss ++ xs ∷ []) ≡ matched_with agree (matching agree xss) xs
matching_more agree xss xs =
    let C = combinations xss in
    ap (filter (all_agree agree)) (combinations_more xss xs)
    ∙ filter-flat_map (all_agree agree) (λ t. map (and_item t) xs) C
    ∙ flat_map_each (λ t. filter (all_agree agree) (map (and_item t) xs)) (λ t. map (and_item t) (filter (λ x. all_agree agree t && goes_with agree t x) xs))
    (λ t. filter-map (all_agree agree) (and_item t) xs ∙ ap (map (and_item t)) (filter_each (λ x. all_agree agree (and_item t x)) (λ x. all_agree agree t && goes_with agree t x) (all_agree_more agree t) xs)) C
    ∙ filter_before (all_agree agree) (goes_with agree) and_item xs C

-- ---- all lists, one after the other
pub matched_each : {X : Type 0} (agree : X → X → Bool) (xss : List (List X)) → matching agree xss ≡ fold (matched_with agree) ([] ∷ []) xss
matched_each agree xss = after_each (matching agree) (matched_with agree) (matching_more agree) [] xss

pub crossed_each : {X : Type 0} (xss : List (List X)) → combinations xss ≡ fold crossed_with ([] ∷ []) xss
crossed_each xss = after_each combinations crossed_with combinations_more [] xss
