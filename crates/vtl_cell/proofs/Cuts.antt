-- A frame has the rows whose places lie between its bounds.
use Rattle.std.proofs.Common.{◌≡◌, ℕ, zero, suc, ◌+◌, ◌-◌, ◌<◌, List, [], ◌∷◌, Bool, true, false, ◌&&◌, cond, length, get_or, take, drop, map, refl, sym, ap, ◌∙◌, arith}
use Rattle.std.specs.Prelude.{nat_le, nat_lt, filter}
use Rattle.std.specs.List.{range_with_len}
use Rattle.std.proofs.Math.Seq.{drop-nil, take-nil}
use Rattle.std.proofs.lemmas.List.{get_or_default}
use Rattle.vtl_cell.specs.Frames.{Bound, UnboundedPreceding, Preceding, Current, Following, UnboundedFollowing, before, up_to, frame_of, is_from, is_up_to, is_between, rows_at}

-- ---- a list without its first b items, up to its u-th, is that of the items at these places
nothing_left : {A : Type 0} (b c u v : ℕ) (xs ys : List A) → u ≡ 0 → v ≡ 0 → drop b (take u xs) ≡ drop c (take v ys)
nothing_left b c u v xs ys e h = ap (λ k. drop b (take k xs)) e ∙ drop-nil b ∙ sym (drop-nil c) ∙ sym (ap (λ k. drop c (take k ys)) h)

-- the item at the place o, and those behind it
cut_item : {A : Type 0} (b u o : ℕ) (x y : A) (xs ys : List A) → y ≡ x → drop (b - (o + 1)) (take (u - (o + 1)) xs) ≡ ys → (s t : Bool) → nat_le b o ≡ s → nat_lt o u ≡ t
    → drop (b - o) (take (u - o) (x ∷ xs)) ≡ cond (s && t) (y ∷ ys) ys
cut_item b u o x y xs ys at ih true true e h =
    let here : b - o ≡ 0 = grind arith in
    let next : b - (o + 1) ≡ 0 = grind arith in
    let some : u - o ≡ suc (u - (o + 1)) = grind arith in
    ap (λ k. drop k (take (u - o) (x ∷ xs))) here ∙ ap (λ k. take k (x ∷ xs)) some
    ∙ ap (λ l. x ∷ l) (ap (λ k. drop k (take (u - (o + 1)) xs)) (sym next) ∙ ih) ∙ ap (λ z. z ∷ ys) (sym at)
cut_item b u o x y xs ys at ih true false e h = nothing_left (b - o) (b - (o + 1)) (u - o) (u - (o + 1)) (x ∷ xs) xs (grind arith) (grind arith) ∙ ih
cut_item b u o x y xs ys at ih false true e h =
    let more : b - o ≡ suc (b - (o + 1)) = grind arith in
    let some : u - o ≡ suc (u - (o + 1)) = grind arith in
    ap (λ k. drop k (take (u - o) (x ∷ xs))) more ∙ ap (λ k. drop (suc (b - (o + 1))) (take k (x ∷ xs))) some ∙ ih
cut_item b u o x y xs ys at ih false false e h = nothing_left (b - o) (b - (o + 1)) (u - o) (u - (o + 1)) (x ∷ xs) xs (grind arith) (grind arith) ∙ ih

map_kept : {A : Type 0} (g : ℕ → A) (b : Bool) (o : ℕ) (os : List ℕ) → cond b (g o ∷ map g os) (map g os) ≡ map g (cond b (o ∷ os) os)
map_kept g true o os = refl
map_kept g false o os = refl

-- the places of n items from o on that lie from b to before u
abbrev places : ℕ → ℕ → ℕ → ℕ → List ℕ
places b u o n = filter (λ j. nat_le b j && nat_lt j u) (range_with_len o n)

cut_items : {A : Type 0} (b u o : ℕ) (xs : List A) (g : ℕ → A) → ((k : ℕ) (d : A) → k < length xs → g (o + k) ≡ get_or xs k d) → drop (b - o) (take (u - o) xs) ≡ map g (places b u o (length xs))
cut_items b u o [] g at = ap (drop (b - o)) (take-nil (u - o)) ∙ drop-nil (b - o)
cut_items b u o (x ∷ xs) g at =
    let here : g o ≡ x = ap g (omega arith) ∙ at 0 x (omega arith) in
    let behind = cut_items b u (o + 1) xs g (λ k d h. ap g (omega arith) ∙ at (suc k) d (omega (arith, h))) in
    cut_item b u o x (g o) xs (map g (places b u (o + 1) (length xs))) here behind (nat_le b o) (nat_lt o u) refl refl
    ∙ map_kept g (nat_le b o && nat_lt o u) o (places b u (o + 1) (length xs))

cut_is : {A : Type 0} (b u : ℕ) (xs : List A) (d : A) → drop b (take u xs) ≡ map (λ j. get_or xs j d) (places b u 0 (length xs))
cut_is b u xs d =
    ap (λ k. drop k (take u xs)) (omega arith) ∙ ap (λ k. drop (b - 0) (take k xs)) (omega arith)
    ∙ cut_items b u 0 xs (λ j. get_or xs j d) (λ k e h. ap (λ i. get_or xs i d) (omega arith) ∙ get_or_default xs k d e h)

-- ---- which are those between the bounds
from_is : (b : Bound) (n i j : ℕ) → nat_le (before b n i) j ≡ is_from b n i j
from_is UnboundedPreceding n i j = grind arith
from_is (Preceding k) n i j = grind arith
from_is Current n i j = refl
from_is (Following k) n i j = refl
from_is UnboundedFollowing n i j = grind arith

up_to_is : (b : Bound) (n i j : ℕ) → j < n → nat_lt j (up_to b n i) ≡ is_up_to b n i j
up_to_is UnboundedPreceding n i j h = grind arith
up_to_is (Preceding k) n i j h = grind arith
up_to_is Current n i j h = grind arith
up_to_is (Following k) n i j h = grind arith
up_to_is UnboundedFollowing n i j h = grind arith

same_kept : (p q : ℕ → Bool) (o n : ℕ) → ((j : ℕ) → j < o + n → p j ≡ q j) → filter p (range_with_len o n) ≡ filter q (range_with_len o n)
same_kept p q o zero same = refl
same_kept p q o (suc n) same =
    let rest = same_kept p q (o + 1) n (λ j h. same j (omega (arith, h))) in
    ap (λ b. cond b (o ∷ filter p (range_with_len (o + 1) n)) (filter p (range_with_len (o + 1) n))) (same o (omega arith)) ∙ ap (λ l. cond (q o) (o ∷ l) l) rest

same_test : (start end : Bound) (n i j : ℕ) → j < n → (nat_le (before start n i) j && nat_lt j (up_to end n i)) ≡ is_between start end n i j
same_test start end n i j h = ap (λ b. b && nat_lt j (up_to end n i)) (from_is start n i j) ∙ ap (λ b. is_from start n i j && b) (up_to_is end n i j h)

pub frame_is : {A : Type 0} (start end : Bound) (i : ℕ) (rows : List A) (d : A) → frame_of start end i rows ≡ rows_at (is_between start end (length rows) i) rows d
frame_is start end i rows d =
    let n = length rows in
    cut_is (before start n i) (up_to end n i) rows d
    ∙ ap (map (λ j. get_or rows j d)) (same_kept (λ j. nat_le (before start n i) j && nat_lt j (up_to end n i)) (is_between start end n i) 0 n (λ j h. same_test start end n i j (omega (arith, h))))
