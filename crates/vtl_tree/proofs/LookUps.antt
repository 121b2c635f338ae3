-- Data sets by look-up: the point of each tuple of identifiers.
use Rattle.std.proofs.Common.{◌≡◌, ℕ, List, [], ◌∷◌, ◌++◌, Bool, true, false, cond, take, Option, Some, None, refl, sym, ap, ◌∙◌, subst, true≢false}
use Rattle.std.specs.List.{filter, AllByRecursion}
use Rattle.vtl_lists.specs.Perm.{Perm, empty, keep, cross, chain}
use Rattle.vtl_lists.proofs.Aparts.{all_apart-Perm, apart_parts}
use Rattle.vtl_lists.proofs.Perms.{Perm-same, Perm-sym, Perm-middle}
use Rattle.vtl_lists.proofs.Sorts.{AllByRecursion-filter}
use Rattle.vtl_lists.proofs.Alls.{all_more}
use Rattle.vtl_cell.specs.Row.{Row, same_key, same_row}
use Rattle.vtl_cell.proofs.Rows.{same_key-sym, same_row-is, same_row-refl, same_row-sym}
use Rattle.vtl_tree.specs.DataSet.{Distinct, look}
use Rattle.vtl_tree.specs.Kept.{kept_row}

-- the rows whose keys differ from that of a row, and what it is for the first point to differ from all others
abbrev Apart : ℕ → Row → Row → Type 0
Apart n r s = same_key n r s ≡ false

first_apart : (n : ℕ) (r : Row) (d : List Row) → Distinct n (r ∷ d) → AllByRecursion (Apart n r) d × Distinct n d
first_apart n r d s = apart_parts (same_key n) r d s

-- a key that no row has
look_nowhere : (n : ℕ) (k : Row) (d : List Row) → AllByRecursion (λ r. same_row (take n r) k ≡ false) d → look n d k ≡ None
look_nowhere n k [] all = refl
look_nowhere n k (r ∷ d) all = rw all.0 (look_nowhere n k d all.1)

apart_key : (n : ℕ) (r : Row) (k : Row) (d : List Row) → AllByRecursion (Apart n r) d → same_row (take n r) k ≡ true → AllByRecursion (λ s. same_row (take n s) k ≡ false) d
apart_key n r k d all e =
    all_more (Apart n r) _ (λ s h. subst (λ z. same_row (take n s) z ≡ false) (same_row-is (take n r) k e) (same_row-sym (take n s) (take n r) ∙ h)) d all

-- ---- filter
look_filter_at : (n : ℕ) (p : Row → Bool) (r : Row) (d : List Row) (k : Row) (b q : Bool) → same_row (take n r) k ≡ b → p r ≡ q → look n (filter p d) k ≡ kept_row p (look n d k) → (b ≡ true → look n (filter p d) k ≡ None) → look n (cond q (r ∷ filter p d) (filter p d)) k ≡ kept_row p (cond b (Some r) (look n d k))
look_filter_at n p r d k true true e h ih gone = rw (e, h) refl
look_filter_at n p r d k true false e h ih gone = rw h (gone refl)
look_filter_at n p r d k false true e h ih gone = rw e ih
look_filter_at n p r d k false false e h ih gone = ih

pub look-filter : (n : ℕ) (p : Row → Bool) (d : List Row) (k : Row) → Distinct n d → look n (filter p d) k ≡ kept_row p (look n d k)
look-filter n p [] k s = refl
look-filter n p (r ∷ d) k s =
    let parts = first_apart n r d s in
    look_filter_at n p r d k (same_row (take n r) k) (p r) refl refl (look-filter n p d k parts.1)
    (λ e. look_nowhere n k (filter p d) (AllByRecursion-filter (λ t. same_row (take n t) k ≡ false) p d (apart_key n r k d parts.0 e)))

-- ---- look-ups and order
look_cross : (n : ℕ) (x y : Row) (k : Row) (o : Option Row) (a b : Bool) → same_row (take n x) k ≡ a → same_row (take n y) k ≡ b → Apart n x y → cond a (Some x) (cond b (Some y) o) ≡ cond b (Some y) (cond a (Some x) o)
look_cross n x y k o true true e h ap' = absurd (true≢false (sym (same_row-refl k) ∙ sym (ap (λ z. same_row z k) (same_row-is (take n x) k e)) ∙ ap (λ z. same_row (take n x) z) (sym (same_row-is (take n y) k h)) ∙ ap'))
look_cross n x y k o true false e h ap' = refl
look_cross n x y k o false true e h ap' = refl
look_cross n x y k o false false e h ap' = refl

Distinct-Perm : (n : ℕ) {xs ys : List Row} → Perm xs ys → Distinct n xs → Distinct n ys
Distinct-Perm n p s = sym (all_apart-Perm (same_key n) (same_key-sym n) p) ∙ s

pub look_respects : (n : ℕ) (k : Row) {xs ys : List Row} → Perm xs ys → Distinct n xs → look n xs k ≡ look n ys k
look_respects n k empty s = refl
look_respects n k (keep x {xs} {ys} p) s = ap (cond (same_row (take n x) k) (Some x)) (look_respects n k p (first_apart n x xs s).1)
look_respects n k (cross x y xs) s = look_cross n x y k (look n xs k) (same_row (take n x) k) (same_row (take n y) k) refl refl (first_apart n x (y ∷ xs) s).0.0
look_respects n k (chain p q) s = look_respects n k p s ∙ look_respects n k q (Distinct-Perm n p s)

-- the row that a look-up gives stands in the list
found_split : (n : ℕ) (k : Row) (d : List Row) (r : Row) → look n d k ≡ Some r → (us : List Row) × (vs : List Row) × (d ≡ us ++ r ∷ vs)
found_split n k [] r e = cc
found_split n k (x ∷ d) r e = go (same_row (take n x) k) e (found_split n k d r)
  where
    go : (b : Bool) → cond b (Some x) (look n d k) ≡ Some r → (look n d k ≡ Some r → (us : List Row) × (vs : List Row) × (d ≡ us ++ r ∷ vs)) → (us : List Row) × (vs : List Row) × (x ∷ d ≡ us ++ r ∷ vs)
    go true h f = ([], d, let same : x ≡ r = cc in ap (λ z. z ∷ d) same)
    go false h f = let t = f h in (x ∷ t.0, t.1, ap (λ z. x ∷ z) t.2)

look_own : (n : ℕ) (x : Row) (d : List Row) → look n (x ∷ d) (take n x) ≡ Some x
look_own n x d = rw (same_row-refl (take n x))

look_tail : (n : ℕ) (x : Row) (d e : List Row) → AllByRecursion (Apart n x) d → AllByRecursion (Apart n x) e → ((k : Row) → look n (x ∷ d) k ≡ look n (x ∷ e) k) → (k : Row) → look n d k ≡ look n e k
look_tail n x d e s t all k = go (same_row (take n x) k) refl (all k)
  where
    go : (b : Bool) → same_row (take n x) k ≡ b → cond b (Some x) (look n d k) ≡ cond b (Some x) (look n e k) → look n d k ≡ look n e k
    go true h u = look_nowhere n k d (apart_key n x k d s h) ∙ sym (look_nowhere n k e (apart_key n x k e t h))
    go false h u = u

pub Perm-from_look : (n : ℕ) (xs ys : List Row) → Distinct n xs → Distinct n ys → ((k : Row) → look n xs k ≡ look n ys k) → Perm xs ys
Perm-from_look n [] [] s t all = empty
Perm-from_look n [] (y ∷ ys) s t all = let bad : None ≡ Some y = all (take n y) ∙ look_own n y ys in cc
Perm-from_look n (x ∷ xs) ys s t all =
    let f = found_split n (take n x) ys x (sym (all (take n x)) ∙ look_own n x xs) in
    let p : Perm ys (x ∷ (f.0 ++ f.1)) = chain (Perm-same _ _ f.2) (Perm-middle f.0 x f.1) in
    let own = first_apart n x xs s in
    let others = first_apart n x (f.0 ++ f.1) (Distinct-Perm n p t) in
    let rest = look_tail n x xs (f.0 ++ f.1) own.0 others.0 (λ k. all k ∙ look_respects n k p t) in
    chain (keep x (Perm-from_look n xs (f.0 ++ f.1) own.1 others.1 rest)) (Perm-sym p)
