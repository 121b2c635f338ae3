-- What a value of all points is told from: the values of parts, where each of them tells as much as its points.
use Rattle.std.proofs.Common.{◌≡◌, List, [], ◌∷◌, ◌++◌, map, Ok, Err, refl, sym, ap, ◌∙◌, subst}
use Rattle.std.specs.List.{flat_map}
use Rattle.vtl_cell.specs.Outcome.{Outcome, after}
use Rattle.vtl_cell.specs.Outcomes.{all_of}
use Rattle.vtl_cell.specs.Row.{Row}
use Rattle.vtl_cell.specs.declared.cell.Cell.{Cell}

module _ {S : Type 0} (and : S → S → S) (of_cells : List Cell → S) (of_points : List Row → S) (value : List Row → Outcome Cell) where
  -- both tell of a list what they tell of its parts, and the value of points tells what they do
  pub record Tells : Type 0 where
    pub none : of_cells [] ≡ of_points []
    pub more : (v : Cell) (vs : List Cell) → of_cells (v ∷ vs) ≡ and (of_cells (v ∷ [])) (of_cells vs)
    pub both : (xs ys : List Row) → of_points (xs ++ ys) ≡ and (of_points xs) (of_points ys)
    pub own : (xs : List Row) (v : Cell) → value xs ≡ Ok v → of_cells (v ∷ []) ≡ of_points xs

  pub told : Tells → (points : Row → List Row) (ks : List Row) (vs : List Cell) → all_of (map (λ k. value (points k)) ks) ≡ Ok vs → of_cells vs ≡ of_points (flat_map points ks)
  told t points [] vs e =
      let same : [] ≡ vs = cc in
      subst (λ l. of_cells l ≡ of_points []) same t.none
  told t points (k ∷ ks) vs e = go (value (points k)) refl (all_of (map (λ j. value (points j)) ks)) refl (λ ws h. told t points ks ws h) e
    where
      go : (m : Outcome Cell) → value (points k) ≡ m → (n : Outcome (List Cell)) → all_of (map (λ j. value (points j)) ks) ≡ n → ((ws : List Cell) → all_of (map (λ j. value (points j)) ks) ≡ Ok ws → of_cells ws ≡ of_points (flat_map points ks))
          → after m (λ v. after n (λ ws. Ok (v ∷ ws))) ≡ Ok vs → of_cells vs ≡ of_points (points k ++ flat_map points ks)
      go (Err f) h n i ih g = cc
      go (Ok v) h (Err f) i ih g = cc
      go (Ok v) h (Ok ws) i ih g =
          let same : v ∷ ws ≡ vs = cc in
          ap of_cells (sym same) ∙ t.more v ws ∙ ap (λ s. and s (of_cells ws)) (t.own (points k) v h) ∙ ap (λ s. and (of_points (points k)) s) (ih ws i) ∙ sym (t.both (points k) (flat_map points ks))
