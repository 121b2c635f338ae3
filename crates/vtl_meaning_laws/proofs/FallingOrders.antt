-- An order that is turned round is the order from its end.
use Rattle.std.specs.Prelude.{reverse}
use Rattle.std.specs.List.{AllByRecursion}
use Rattle.std.specs.Ordering.{is_lt, ordering_then}
use Rattle.std.specs.declared.cmp.Ordering.TheVariants.{Equal}
use Rattle.std.proofs.Common.{◌≡◌, ℕ, Bool, true, false, not, List, [], ◌∷◌, ◌++◌, map, refl, sym, ap, ◌∙◌, subst}
use Rattle.std.proofs.lemmas.List.{reverse-append}
use Rattle.std.proofs.lemmas.List.Sorted.{IsPermutation-reverse}
use Rattle.vtl_lists.specs.Perm.{Perm, chain}
use Rattle.vtl_lists.specs.Sorting.{Rises, le_by}
use Rattle.vtl_lists.proofs.Perms.{AllByRecursion-Perm, Perm-from_IsPermutation}
use Rattle.vtl_lists.proofs.Sorts.{Rises-sorted_by, sorted_is}
use Rattle.vtl_lists.proofs.Alls.{all_append, all_more}
use Rattle.vtl_cell.specs.Row.{Row}
use Rattle.vtl_cell.specs.Sorted.{Key, by_keys, key_cmp, window_cmp}
use Rattle.vtl_cell.proofs.Keys.{window_order}
use Rattle.vtl_tree.specs.Environment.{DataSet}
use Rattle.vtl_tree.specs.Structure.{columns_of}
use Rattle.vtl_tree.specs.declared.calls.OrderKey.{OrderKey}
use Rattle.vtl_tree.specs.declared.calls.Window.{Window}
use Rattle.vtl_tree.specs.declared.structure.Component.{Component}
use Rattle.vtl_meaning.specs.Windows.{identifier_places, key_in, keys_in, partition_of, stand_of}
use Rattle.vtl_meaning.proofs.Partitions.{ordered_perm}
use Rattle.vtl_meaning_laws.specs.Frames.{turned_key, turned_round}
use Rattle.vtl_meaning_laws.proofs.Stands.{decided_whole}

-- ---- a list from its end
reversed : (x : Row) (xs : List Row) → reverse (x ∷ xs) ≡ reverse xs ++ x ∷ []
reversed x xs = reverse-append (x ∷ []) xs

from_end : (xs : List Row) → Perm xs (reverse xs)
from_end xs = Perm-from_IsPermutation xs (reverse xs) (IsPermutation-reverse xs)

rises_behind : (le : Row → Row → Bool) (ys : List Row) (x : Row) → Rises le ys → AllByRecursion (λ y. le y x ≡ true) ys → Rises le (ys ++ x ∷ [])
rises_behind le [] x r h = (tt, tt)
rises_behind le (y ∷ ys) x r h = (all_append (λ z. le y z ≡ true) ys (x ∷ []) r.0 (h.0, tt), rises_behind le ys x r.1 h.1)

both : (le back : Row → Row → Bool) (x : Row) (ys : List Row) → AllByRecursion (λ y. le x y ≡ true) ys → AllByRecursion (λ y. le x y ≡ true → back y x ≡ true) ys → AllByRecursion (λ y. back y x ≡ true) ys
both le back x [] r h = tt
both le back x (y ∷ ys) r h = (h.0 r.0, both le back x ys r.1 h.1)

rises_from_end : (le back : Row → Row → Bool) (xs : List Row) → Rises le xs → AllByRecursion (λ x. AllByRecursion (λ y. le x y ≡ true → back y x ≡ true) xs) xs → Rises back (reverse xs)
rises_from_end le back [] r h = tt
rises_from_end le back (x ∷ xs) r h =
    let later = all_more (λ z. AllByRecursion (λ y. le z y ≡ true → back y z ≡ true) (x ∷ xs)) (λ z. AllByRecursion (λ y. le z y ≡ true → back y z ≡ true) xs) (λ z g. g.1) xs h.1 in
    subst (Rises back) (sym (reversed x xs)) (rises_behind back (reverse xs) x (rises_from_end le back xs r.1 later) (AllByRecursion-Perm (λ y. back y x ≡ true) (from_end xs) (both le back x xs r.0 h.0.1)))

-- ---- keys that are turned round
one_turned : (b : Bool) (place : ℕ) (x y : Row) → key_cmp (record { place = place; falling = not b }) x y ≡ key_cmp (record { place = place; falling = b }) y x
one_turned true place x y = refl
one_turned false place x y = refl

keys_turned : (xs : List Component) (ks : List OrderKey) (x y : Row) → by_keys (map (key_in xs) (map turned_key ks)) x y ≡ by_keys (map (key_in xs) ks) y x
keys_turned xs [] x y = refl
keys_turned xs (k ∷ ks) x y =
    ap (λ o. ordering_then o (by_keys (map (key_in xs) (map turned_key ks)) x y)) (one_turned k.falling (key_in xs k).place x y)
    ∙ ap (ordering_then (key_cmp (key_in xs k) y x)) (keys_turned xs ks x y)

module _ (d : DataSet) (w : Window) (r : Row) where
  abbrev xs : List Component
  xs = columns_of d.structure

  abbrev places : List ℕ
  places = identifier_places d.structure

  abbrev keys : List Key
  keys = keys_in xs w

  abbrev other_keys : List Key
  other_keys = keys_in xs (turned_round w)

  abbrev le : Row → Row → Bool
  le = le_by (window_cmp keys places)

  abbrev back : Row → Row → Bool
  back = le_by (window_cmp other_keys places)

  abbrev Apart : Row → Row → Type 0
  Apart x y = by_keys keys x y ≡ Equal → x ≡ y

  turned_pair : (x y : Row) → Apart x y → Apart y x → le x y ≡ true → back y x ≡ true
  turned_pair x y there here e =
      ap not (decided_whole other_keys places x y (λ g. sym (here (sym (keys_turned xs w.order x y) ∙ g)))) ∙ ap (λ o. not (is_lt o)) (keys_turned xs w.order x y)
      ∙ ap not (sym (decided_whole keys places y x here)) ∙ e

  pub from_its_end : AllByRecursion (λ x. AllByRecursion (Apart x) (partition_of d w r)) (partition_of d w r) → (stand_of d (turned_round w) r).ordered ≡ reverse (stand_of d w r).ordered
  from_its_end alone =
      let rows = partition_of d w r in
      let ordered = (stand_of d w r).ordered in
      let perm : Perm rows ordered = ordered_perm d w r in
      let all : AllByRecursion (λ x. AllByRecursion (Apart x) ordered) ordered =
      all_more (λ x. AllByRecursion (Apart x) rows) (λ x. AllByRecursion (Apart x) ordered) (λ x h. AllByRecursion-Perm (Apart x) perm h) ordered (AllByRecursion-Perm (λ x. AllByRecursion (Apart x) rows) perm alone) in
      sym (sorted_is (window_order other_keys places) rows (reverse ordered) (chain perm (from_end ordered))
      (rises_from_end le back ordered (Rises-sorted_by (window_order keys places) rows) (pairs ordered all (turned_sides ordered all))))
    where
      -- each pair the other way round
      turned_sides : (l : List Row) → AllByRecursion (λ x. AllByRecursion (Apart x) l) l → AllByRecursion (λ x. AllByRecursion (λ y. Apart y x) l) l
      turned_sides l h = swapped l l h
        where
          column : (x : Row) (ys zs : List Row) → AllByRecursion (λ y. AllByRecursion (Apart y) (x ∷ zs)) ys → AllByRecursion (λ y. Apart y x) ys
          column x ys zs g = all_more (λ y. AllByRecursion (Apart y) (x ∷ zs)) (λ y. Apart y x) (λ y i. i.0) ys g

          swapped : (us ys : List Row) → AllByRecursion (λ y. AllByRecursion (Apart y) us) ys → AllByRecursion (λ x. AllByRecursion (λ y. Apart y x) ys) us
          swapped [] ys g = tt
          swapped (u ∷ us) ys g = (column u ys us g, swapped us ys (all_more (λ y. AllByRecursion (Apart y) (u ∷ us)) (λ y. AllByRecursion (Apart y) us) (λ y i. i.1) ys g))

      pairs : (l : List Row) → AllByRecursion (λ x. AllByRecursion (Apart x) l) l → AllByRecursion (λ x. AllByRecursion (λ y. Apart y x) l) l → AllByRecursion (λ x. AllByRecursion (λ y. le x y ≡ true → back y x ≡ true) l) l
      pairs l g h = each_row l l g h
        where
          row : (x : Row) (ys : List Row) → AllByRecursion (Apart x) ys → AllByRecursion (λ y. Apart y x) ys → AllByRecursion (λ y. le x y ≡ true → back y x ≡ true) ys
          row x [] i k = tt
          row x (y ∷ ys) i k = (turned_pair x y i.0 k.0, row x ys i.1 k.1)

          each_row : (us ys : List Row) → AllByRecursion (λ x. AllByRecursion (Apart x) ys) us → AllByRecursion (λ x. AllByRecursion (λ y. Apart y x) ys) us → AllByRecursion (λ x. AllByRecursion (λ y. le x y ≡ true → back y x ≡ true) ys) us
          each_row [] ys i k = tt
          each_row (u ∷ us) ys i k = (row u ys i.0 k.0, each_row us ys i.1 k.1)
