-- Points that are chosen by the identifiers that another operand has.
use Rattle.std.proofs.Common.{◌≡◌, ℕ, ◌+◌, ◌<◌, length, get_or, List, [], ◌∷◌, ◌++◌, Bool, true, false, ◌&&◌, cond, map, take, refl, sym, ap, ◌∙◌}
use Rattle.std.specs.List.{filter, flat_map, list_all}
use Rattle.std.proofs.lemmas.Grind.{flat_map-append}
use Rattle.std.proofs.lemmas.List.{append-nil, append_assoc, map_more, take_more}
use Rattle.std.proofs.lemmas.List.Folds.{list_all-map, list_all_more}
use Rattle.vtl_lists.proofs.Filters.{filter-filter}
use Rattle.vtl_cell.specs.Row.{Row}
use Rattle.vtl_tuples.proofs.Lists.{filter_each}

-- one item more
pub each_more : {X Y : Type 0} (f : X → List Y) (xs : List X) (i : ℕ) (x : X) → i < length xs → x ≡ get_or xs i x → flat_map f (take (i + 1) xs) ≡ flat_map f (take i xs) ++ f x
each_more f xs i x h at =
    ap (flat_map f) (take_more xs i x h) ∙ flat_map-append f (take i xs) (get_or xs i x ∷ []) ∙ ap (λ l. flat_map f (take i xs) ++ l) (append-nil (f (get_or xs i x)))
    ∙ ap (λ z. flat_map f (take i xs) ++ f z) (sym at)

pub mapped_more : {X Y : Type 0} (f : X → Y) (xs : List X) (i : ℕ) (x : X) (front old new : List Y) → i < length xs → x ≡ get_or xs i x → old ≡ front ++ map f (take i xs) → new ≡ old ++ f x ∷ [] → new ≡ front ++ map f (take (i + 1) xs)
mapped_more f xs i x front old new h at o n =
    n ∙ ap (λ l. l ++ f x ∷ []) o ∙ append_assoc front (map f (take i xs)) (f x ∷ [])
    ∙ ap (λ l. front ++ l) (sym (map_more f xs i x h ∙ ap (λ z. map f (take i xs) ++ f z ∷ []) (sym at)))

-- items that pass one test more
pub all_more_tests : {X Y Z : Type 0} (test : X → Z → Bool) (f : Y → Z) (ys : List Y) (i : ℕ) (y : Y) (xs old new : List X) → i < length ys → y ≡ get_or ys i y → old ≡ filter (λ x. list_all (test x) (map f (take i ys))) xs → new ≡ filter (λ x. test x (f y)) old
    → new ≡ filter (λ x. list_all (test x) (map f (take (i + 1) ys))) xs
all_more_tests {X = X} test f ys i y xs old new h at o n =
    n ∙ ap (filter (λ x. test x (f y))) o ∙ filter-filter (λ x. test x (f y)) (λ x. list_all (test x) (map f (take i ys))) xs
    ∙ filter_each (λ x. list_all (test x) (map f (take i ys)) && test x (f y)) (λ x. list_all (test x) (map f (take (i + 1) ys))) (λ x. sym (one x)) xs
  where
    one : (x : X) → list_all (test x) (map f (take (i + 1) ys)) ≡ (list_all (test x) (map f (take i ys)) && test x (f y))
    one x =
        list_all-map (test x) f (take (i + 1) ys) ∙ list_all_more (λ z. test x (f z)) ys i y h
        ∙ ap (λ b. b && test x (f (get_or ys i y))) (sym (list_all-map (test x) f (take i ys))) ∙ ap (λ z. list_all (test x) (map f (take i ys)) && test x (f z)) (sym at)

-- what comes of each row that passes a test
pub taken_where : {X : Type 0} (p : Row → Bool) (f : Row → X) (rows : List Row) → flat_map (λ r. cond (p r) (f r ∷ []) []) rows ≡ map f (filter p rows)
taken_where p f [] = refl
taken_where p f (r ∷ rows) = go (p r) (taken_where p f rows)
  where
    go : (b : Bool) → flat_map (λ q. cond (p q) (f q ∷ []) []) rows ≡ map f (filter p rows) → cond b (f r ∷ []) [] ++ flat_map (λ q. cond (p q) (f q ∷ []) []) rows ≡ map f (cond b (r ∷ filter p rows) (filter p rows))
    go true ih = ap (λ l. f r ∷ l) ih
    go false ih = ih
