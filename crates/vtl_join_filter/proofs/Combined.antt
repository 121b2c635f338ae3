-- The tuples behind a front, one more number after the other.
use Rattle.std.proofs.Common.{◌≡◌, ℕ, ◌+◌, ◌<◌, List, [], ◌∷◌, ◌++◌, length, map, take, append_assoc, sym, ap, ◌∙◌, arith}
use Rattle.std.specs.Prelude.{slice_index}
use Rattle.std.specs.List.{flat_map}
use Rattle.std.proofs.lemmas.Grind.{flat_map-append}
use Rattle.std.proofs.lemmas.List.{append-nil, map-append, take_more}
use Rattle.std.proofs.lemmas.List.FromFn.{get_or-range_with_len, length-range_with_len}
use Rattle.vtl_decimal.specs.Settings.{Settings}
use Rattle.vtl_cell.specs.Row.{Row}
use Rattle.vtl_tree.specs.CompExp.{CompExp}
use Rattle.vtl_tuples.specs.Tuples.{combinations}
use Rattle.vtl_tuples.proofs.Lists.{flat_map_each, map-flat_map, map-map}
use Rattle.vtl_join.specs.Crossing.{tuples_behind, up_to}
use Rattle.vtl_join_filter.specs.Sifting.{Sifted, sifted}
use Rattle.vtl_join_filter.proofs.Sifts.{sifted_more}

pub tuples_step : (front : List ℕ) (count : ℕ) (rest : List ℕ) → flat_map (λ k. tuples_behind (front ++ k ∷ []) rest) (up_to count) ≡ tuples_behind front (count ∷ rest)
tuples_step front count rest =
    let C = combinations (map up_to rest) in
    let one : (k : ℕ) → tuples_behind (front ++ k ∷ []) rest ≡ map (λ t. front ++ t) (map (λ t. k ∷ t) C) = λ k.
    ap (λ (f : List ℕ → List ℕ). map f C) (λ j t. append_assoc front (k ∷ []) t j) ∙ sym (map-map (λ t. front ++ t) (λ t. k ∷ t) C) in
    flat_map_each (λ k. tuples_behind (front ++ k ∷ []) rest) (λ k. map (λ t. front ++ t) (map (λ t. k ∷ t) C)) one (up_to count)
    ∙ sym (map-flat_map (λ t. front ++ t) (λ k. map (λ t. k ∷ t) C) (up_to count))

more : {X : Type 0} (f : ℕ → List X) (ns : List ℕ) (i n : ℕ) → i < length ns → n ≡ slice_index ns i → flat_map f (take i ns) ++ f n ≡ flat_map f (take (i + 1) ns)
more f ns i n within at =
    ap (λ l. flat_map f (take i ns) ++ l) (sym (append-nil (f n))) ∙ sym (flat_map-append f (take i ns) (n ∷ [])) ∙ ap (λ k. flat_map f (take i ns ++ k ∷ [])) at ∙ ap (flat_map f) (sym (take_more ns i 0 within))

pub found_more : (p : Settings) (e : CompExp) (point : List ℕ → Row) (f : ℕ → List (List ℕ)) (before old new : Sifted) (ns : List ℕ) (i n : ℕ) → i < length ns → n ≡ slice_index ns i → old ≡ sifted p e before (map point (flat_map f (take i ns))) → new ≡ sifted p e old (map point (f n))
    → new ≡ sifted p e before (map point (flat_map f (take (i + 1) ns)))
found_more p e point f before old new ns i n within at o is =
    is ∙ ap (λ s. sifted p e s (map point (f n))) o ∙ sifted_more p e before (map point (flat_map f (take i ns))) (map point (f n))
    ∙ ap (sifted p e before) (sym (map-append point (flat_map f (take i ns)) (f n)) ∙ ap (map point) (more f ns i n within at))

-- the number at a place of all below one
pub number_below : (n i : ℕ) → i < length (up_to n) → i ≡ slice_index (up_to n) i
number_below n i h =
    let l = length-range_with_len 0 n in
    let within : i < n = omega (arith, l, h) in
    let e = get_or-range_with_len 0 n i 0 within in
    omega (arith, e)
