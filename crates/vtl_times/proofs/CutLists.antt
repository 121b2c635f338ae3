-- Numbers cut into lists that stand one behind the other.
use Rattle.std.proofs.Common.{◌≡◌, ℕ, zero, suc, ◌+◌, ◌<◌, ◌≤◌, ◌==◌, ◌||◌, Bool, true, false, List, [], ◌∷◌, ◌++◌, length, take, drop, get_or, refl, sym, ap, ◌∙◌, subst, arith}
use Rattle.std.specs.List.{AllByRecursion, concat, list_any, sum}
use Rattle.std.proofs.lemmas.List.{drop-append-le, length-drop, take-append-drop, take-append-le, take_all}
use Rattle.std.proofs.lemmas.List.Folds.{list_any-append}
use Rattle.std.proofs.lemmas.List.Sums.{sum_by-cons}
use Rattle.vtl_lists.proofs.Alls.{all_append}
use Rattle.vtl_times.specs.InOrder.{has_number}
use Rattle.vtl_times.specs.Lists.{cut_by}

first : (n : ℕ) (ns : List ℕ) → sum (n ∷ ns) ≡ n + sum ns
first n ns = sum_by-cons (λ x. x) n ns

none_left : (xs : List ℕ) → 0 ≡ length xs → xs ≡ []
none_left [] e = refl
none_left (x ∷ xs) e = absurd (omega (arith, e))

-- one list more
pub cut_more : (ns xs ys : List ℕ) → sum ns ≡ length xs → cut_by (ns ++ length ys ∷ []) (xs ++ ys) ≡ cut_by ns xs ++ ys ∷ []
cut_more [] xs ys e = ap (λ (l : List ℕ). cut_by (length ys ∷ []) (l ++ ys)) (none_left xs e) ∙ ap (λ l. l ∷ []) (take_all (length ys) ys (omega arith))
cut_more (n ∷ ns) xs ys e =
    let all = first n ns in
    let h : n ≤ length xs = omega (arith, e, all) in
    let rest : sum ns ≡ length (drop n xs) = omega (arith, e, all, length-drop n xs) in
    (λ i. take-append-le n xs ys h i ∷ cut_by (ns ++ length ys ∷ []) (drop-append-le n xs ys h i)) ∙ ap (λ l. take n xs ∷ l) (cut_more ns (drop n xs) ys rest)

-- together they are all numbers
pub cut_joined : (ns xs : List ℕ) → sum ns ≡ length xs → concat (cut_by ns xs) ≡ xs
cut_joined [] xs e = sym (none_left xs e)
cut_joined (n ∷ ns) xs e =
    let all = first n ns in
    let rest : sum ns ≡ length (drop n xs) = omega (arith, e, all, length-drop n xs) in
    ap (λ l. take n xs ++ l) (cut_joined ns (drop n xs) rest) ∙ take-append-drop n xs

drop_twice : (m n : ℕ) (xs : List ℕ) → drop m (drop n xs) ≡ drop (n + m) xs
drop_twice m zero xs = let none : m ≡ 0 + m = omega arith in ap (λ k. drop k xs) none
drop_twice zero (suc n) [] = let all : suc n ≡ suc n + 0 = omega arith in ap (λ k. drop k []) all
drop_twice (suc m) (suc n) [] = let all : suc (n + suc m) ≡ suc n + suc m = omega arith in ap (λ k. drop k []) all
drop_twice m (suc n) (x ∷ xs) = let all : suc (n + m) ≡ suc n + m = omega arith in drop_twice m n xs ∙ ap (λ k. drop k (x ∷ xs)) all

-- the list at a place
pub cut_at : (P : List ℕ → Type 0) (ns xs : List ℕ) (i : ℕ) → i < length ns → AllByRecursion P (cut_by ns xs) → P (take (get_or ns i 0) (drop (sum (take i ns)) xs))
cut_at P [] xs i h all = absurd (omega (arith, h))
cut_at P (n ∷ ns) xs zero h all = all.0
cut_at P (n ∷ ns) xs (suc i) h all =
    subst (λ l. P (take (get_or ns i 0) l)) (drop_twice (sum (take i ns)) n xs ∙ ap (λ k. drop k xs) (sym (first n (take i ns)))) (cut_at P ns (drop n xs) i (omega (arith, h)) all.1)

-- ---- numbers of lists
pub any_joined : (k : ℕ) (ss : List (List ℕ)) → list_any (has_number k) ss ≡ has_number k (concat ss)
any_joined k [] = refl
any_joined k (s ∷ ss) = ap (λ b. has_number k s || b) (any_joined k ss) ∙ sym (list_any-append (λ j. j == k) s (concat ss))

pub all_joined : (P : ℕ → Type 0) (ss : List (List ℕ)) → AllByRecursion (AllByRecursion P) ss → AllByRecursion P (concat ss)
all_joined P [] all = tt
all_joined P (s ∷ ss) all = all_append P s (concat ss) all.0 (all_joined P ss all.1)

pub any_alone : (k : ℕ) (s : List ℕ) → list_any (has_number k) (s ∷ []) ≡ has_number k s
any_alone k s = go (has_number k s)
  where
    go : (b : Bool) → (b || false) ≡ b
    go true = refl
    go false = refl
