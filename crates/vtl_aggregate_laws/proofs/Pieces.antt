-- The points of all groups are the points, up to order.
use Rattle.std.proofs.Common.{◌≡◌, ℕ, Bool, true, false, ◌&&◌, ◌||◌, cond, List, [], ◌∷◌, ◌++◌, map, refl, sym, ap, ◌∙◌, true≢false}
use Rattle.std.specs.List.{AllByRecursion, filter, flat_map, list_any}
use Rattle.vtl_lists.specs.Apart.{all_apart}
use Rattle.vtl_lists.specs.Perm.{Perm, empty, keep, chain}
use Rattle.vtl_cell.specs.Row.{Row, same_row}
use Rattle.vtl_lists.proofs.Aparts.{all_apart-filter, apart_parts, none_is}
use Rattle.vtl_lists.proofs.Perms.{Perm-append_front, Perm-middle, Perm-same}
use Rattle.vtl_lists.proofs.Alls.{all_more}
use Rattle.vtl_lists.proofs.Filters.{filter_true}
use Rattle.vtl_cell.proofs.Rows.{same_row-is, same_row-refl, same_row-sym}
use Rattle.vtl_rows.specs.Tables.{cells_at}
use Rattle.vtl_tuples.proofs.Lists.{filter_same}
use Rattle.vtl_tuples.proofs.Onces.{alike, among_once, once_apart}
use Rattle.vtl_meaning.specs.Groups.{keys_by, points_with}
use Rattle.vtl_meaning.proofs.JoinOrders.{rows_apart}

-- what either of two tests keeps, where none keeps what the other does
filter_either : {X : Type 0} (p q : X → Bool) → ((x : X) → p x ≡ true → q x ≡ false) → (xs : List X) → Perm (filter p xs ++ filter q xs) (filter (λ x. p x || q x) xs)
filter_either p q h [] = empty
filter_either p q h (x ∷ xs) = go (p x) refl (q x) refl (filter_either p q h xs)
  where
    go : (b : Bool) → p x ≡ b → (e : Bool) → q x ≡ e → Perm (filter p xs ++ filter q xs) (filter (λ y. p y || q y) xs)
        → Perm (cond b (x ∷ filter p xs) (filter p xs) ++ cond e (x ∷ filter q xs) (filter q xs)) (cond (b || e) (x ∷ filter (λ y. p y || q y) xs) (filter (λ y. p y || q y) xs))
    go true s true t ih = absurd (true≢false (sym t ∙ h x s))
    go true s false t ih = keep x ih
    go false s true t ih = chain (Perm-middle (filter p xs) x (filter q xs)) (keep x ih)
    go false s false t ih = ih

-- the keys that pass a test, among those of a list
any_passing : (t : Row → Bool) (k : Row) (ks : List Row) → list_any (same_row k) (filter t ks) ≡ (list_any (same_row k) ks && t k)
any_passing t k [] = refl
any_passing t k (j ∷ ks) = go (t j) refl (same_row k j) refl (any_passing t k ks)
  where
    never : (b : Bool) → (b && false) ≡ false
    never true = refl
    never false = refl

    go : (b : Bool) → t j ≡ b → (e : Bool) → same_row k j ≡ e → list_any (same_row k) (filter t ks) ≡ (list_any (same_row k) ks && t k)
        → list_any (same_row k) (cond b (j ∷ filter t ks) (filter t ks)) ≡ ((e || list_any (same_row k) ks) && t k)
    go true s true h ih = ap (λ b. b || list_any (same_row k) (filter t ks)) h ∙ sym s ∙ ap t (sym (same_row-is k j h))
    go true s false h ih = ap (λ b. b || list_any (same_row k) (filter t ks)) h ∙ ih
    go false s true h ih =
        let gone : t k ≡ false = ap t (same_row-is k j h) ∙ s in
        ih ∙ ap (λ b. list_any (same_row k) ks && b) gone ∙ never (list_any (same_row k) ks) ∙ sym gone
    go false s false h ih = ih

-- each row is among all
pub each_among : (ks : List Row) → AllByRecursion (λ j. list_any (λ k. same_row k j) ks ≡ true) ks
each_among [] = tt
each_among (k ∷ ks) = (ap (λ b. b || list_any (λ j. same_row j k) ks) (same_row-refl k), all_more (λ i. list_any (λ j. same_row j i) ks ≡ true) (λ i. list_any (λ j. same_row j i) (k ∷ ks) ≡ true) (λ i e. ap (λ b. same_row k i || b) e ∙ or_true (same_row k i)) ks (each_among ks))
  where
    or_true : (b : Bool) → (b || true) ≡ true
    or_true true = refl
    or_true false = refl

module _ (places : List ℕ) where
  abbrev key_of : Row → Row
  key_of r = cells_at places r

  abbrev has_one_of : List Row → Row → Bool
  has_one_of ks r = list_any (same_row (key_of r)) ks

  -- the points that have one of some keys, key by key
  by_keys : (d ks : List Row) → all_apart same_row ks ≡ true → Perm (flat_map (points_with places d) ks) (filter (has_one_of ks) d)
  by_keys d [] e = Perm-same [] (filter (λ r. false) d) (sym (nothing d))
    where
      nothing : (l : List Row) → filter (λ r. false) l ≡ []
      nothing [] = refl
      nothing (r ∷ l) = nothing l
  by_keys d (k ∷ ks) e =
      let parts = apart_parts same_row k ks e in
      chain (Perm-append_front (points_with places d k) (by_keys d ks parts.1))
      (filter_either (λ r. same_row (key_of r) k) (has_one_of ks) (λ r h. ap (λ j. list_any (same_row j) ks) (same_row-is (key_of r) k h) ∙ none_is (same_row k) ks parts.0) d)

  -- each point has its key among the keys
  own_key : (d : List Row) → AllByRecursion (λ r. list_any (λ k. same_row k (key_of r)) (map key_of d) ≡ true) d
  own_key d = back d (each_among (map key_of d))
    where
      back : (rows : List Row) → AllByRecursion (λ j. list_any (λ k. same_row k j) (map key_of d) ≡ true) (map key_of rows) → AllByRecursion (λ r. list_any (λ k. same_row k (key_of r)) (map key_of d) ≡ true) rows
      back [] all = tt
      back (r ∷ rows) all = (all.0, back rows all.1)

  passes : (t : Row → Bool) (d rows : List Row) → AllByRecursion (λ r. list_any (λ k. same_row k (key_of r)) (map key_of d) ≡ true) rows
      → AllByRecursion (λ r. has_one_of (filter t (keys_by places d)) r ≡ t (key_of r)) rows
  passes t d [] all = tt
  passes t d (r ∷ rows) all = (
    any_passing t (key_of r) (keys_by places d)
        ∙ ap (λ b. b && t (key_of r)) (turned (keys_by places d) ∙ among_once same_row (alike same_row rows_apart) (map key_of d) (key_of r) ∙ all.0),
    passes t d rows all.1,
  )
    where
      turned : (ks : List Row) → list_any (same_row (key_of r)) ks ≡ list_any (λ k. same_row k (key_of r)) ks
      turned ks = ap (λ f. list_any f ks) (λ i k. same_row-sym (key_of r) k i)

  -- the points of the groups whose keys pass a test are the points whose keys pass it
  pub passing_parts : (t : Row → Bool) (d : List Row) → Perm (flat_map (points_with places d) (filter t (keys_by places d))) (filter (λ r. t (key_of r)) d)
  passing_parts t d =
      let ks = filter t (keys_by places d) in
      chain (by_keys d ks (all_apart-filter same_row t (keys_by places d) (once_apart same_row (map key_of d))))
      (Perm-same (filter (has_one_of ks) d) (filter (λ r. t (key_of r)) d) (filter_same (has_one_of ks) (λ r. t (key_of r)) d (passes t d d (own_key d))))

pub parts : (places : List ℕ) (d : List Row) → Perm (flat_map (points_with places d) (keys_by places d)) d
parts places d =
    chain (Perm-same (flat_map (points_with places d) (keys_by places d)) (flat_map (points_with places d) (filter (λ k. true) (keys_by places d))) (ap (flat_map (points_with places d)) (sym (filter_true (keys_by places d)))))
    (chain (passing_parts places (λ k. true) d) (Perm-same (filter (λ r. true) d) d (filter_true d)))
