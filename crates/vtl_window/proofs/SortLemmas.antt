-- The keys of the sort: what they are, and that they are columns.
use Rattle.std.proofs.Common.{◌≡◌, ℕ, suc, ◌+◌, ◌<◌, Bool, true, false, not, cond, List, [], ◌∷◌, ◌++◌, length, map, refl, ap, ◌∙◌, arith, subst, All}
use Rattle.std.specs.List.{AllByRecursion}
use Rattle.std.proofs.lemmas.List.{map-append}
use Rattle.std.proofs.lemmas.List.Elements.{All-from_recursion}
use Rattle.vtl_lists.proofs.Alls.{all_append, all_front}
use Rattle.vtl_cell.specs.Sorted.{rising}
use Rattle.vtl_rows.specs.Keys.{key_of}
use Rattle.vtl_rows.specs.declared.column.SortKey.{SortKey}
use Rattle.vtl_tree.specs.Structure.{columns_of, same_name}
use Rattle.vtl_tree.specs.declared.structure.Component.{Component}
use Rattle.vtl_tree.specs.declared.structure.Structure.{Structure}
use Rattle.vtl_tree.specs.Columns.{identifiers_of, others_of, place_of, places_in}
use Rattle.vtl_meaning.specs.Groups.{places_named}
use Rattle.vtl_meaning.proofs.Kept.{column_within}
use Rattle.vtl_meaning.proofs.Places.{columns_split}
use Rattle.vtl_meaning.specs.Made.{IsNamedColumn}
use Rattle.vtl_meaning.specs.Windows.{key_in, keys_in}
use Rattle.vtl_tree.specs.declared.calls.AnalyticOp.{AnalyticOp}
use Rattle.vtl_tree.specs.declared.calls.AnalyticOp.TheVariants as op
use Rattle.vtl_tree.specs.declared.calls.OrderKey.{OrderKey}
use Rattle.vtl_tree.specs.declared.calls.Window.{Window}
use Rattle.vtl_tree.proofs.NotNullLemmas.{same_itself}
use Rattle.vtl_window.specs.Sorted.{identifier_keys, order_keys, ordering_key, partition_keys, rising_key, sort_keys, tie_breakers}

-- ---- what they are
module _ (xs : List Component) where
  names_are : (names : List (List ℕ)) → map key_of (map (λ name. rising_key (place_of name xs)) names) ≡ map rising (places_named names xs)
  names_are [] = refl
  names_are (n ∷ names) = ap (λ l. rising (place_of n xs) ∷ l) (names_are names)

  orders_are : (ks : List OrderKey) → map key_of (map (ordering_key xs) ks) ≡ map (key_in xs) ks
  orders_are [] = refl
  orders_are (k ∷ ks) = ap (λ l. key_in xs k ∷ l) (orders_are ks)

  ids_are : (ys : List Component) → map key_of (identifier_keys xs ys) ≡ map rising (places_in xs ys)
  ids_are [] = refl
  ids_are (y ∷ ys) = ap (λ l. rising (place_of y.name xs) ∷ l) (ids_are ys)

  pub partition_is : (w : Window) → map key_of (partition_keys xs w) ≡ map rising (places_named w.partition xs)
  partition_is w = names_are w.partition

  pub order_is : (w : Window) → map key_of (order_keys xs w) ≡ keys_in xs w
  order_is w = orders_are w.order

  pub order_ids_are : (ids : List Component) (w : Window) → map key_of (order_keys xs w ++ identifier_keys xs ids) ≡ keys_in xs w ++ map rising (places_in xs ids)
  order_ids_are ids w = map-append key_of (order_keys xs w) (identifier_keys xs ids) ∙ (λ i. order_is w i ++ ids_are ids i)

-- ---- they are columns
abbrev pub IsWithin : ℕ → SortKey → Type 0
IsWithin n k = k.column < n

module _ (xs : List Component) (w : Window) where
  names_within : (names : List (List ℕ)) → AllByRecursion (IsNamedColumn xs) names → AllByRecursion (IsWithin (length xs)) (map (λ name. rising_key (place_of name xs)) names)
  names_within [] all = tt
  names_within (n ∷ names) all = (column_within (place_of n xs) n _ xs all.0, names_within names all.1)

  orders_within : (ks : List OrderKey) → AllByRecursion (λ key. IsNamedColumn xs key.component) ks → AllByRecursion (IsWithin (length xs)) (map (ordering_key xs) ks)
  orders_within [] all = tt
  orders_within (k ∷ ks) all = (column_within (place_of k.component xs) k.component _ xs all.0, orders_within ks all.1)

-- a component is among those that it is one of
one_before : (name : List ℕ) (x : Component) (xs : List Component) → place_of name xs < length xs → place_of name (x ∷ xs) < length (x ∷ xs)
one_before name x xs h = go (same_name x.name name)
  where
    go : (b : Bool) → cond (not b) (1 + place_of name xs) 0 < suc (length xs)
    go true = omega arith
    go false = omega (arith, h)

own_places : (xs : List Component) → AllByRecursion (λ y. place_of y.name xs < length xs) xs
own_places [] = tt
own_places (x ∷ xs) = (first (same_name x.name x.name) (same_itself x.name), more xs (own_places xs))
  where
    first : (b : Bool) → b ≡ true → cond (not b) (1 + place_of x.name xs) 0 < suc (length xs)
    first true e = omega arith
    first false e = cc

    more : (ys : List Component) → AllByRecursion (λ y. place_of y.name xs < length xs) ys → AllByRecursion (λ y. place_of y.name (x ∷ xs) < length (x ∷ xs)) ys
    more [] all = tt
    more (y ∷ ys) all = (one_before y.name x xs all.0, more ys all.1)

ids_within : (xs ys : List Component) → AllByRecursion (λ y. place_of y.name xs < length xs) ys → AllByRecursion (IsWithin (length xs)) (identifier_keys xs ys)
ids_within xs [] all = tt
ids_within xs (y ∷ ys) all = (all.0, ids_within xs ys all.1)

identifier_places : (a : Structure) → AllByRecursion (λ y. place_of y.name (columns_of a) < length (columns_of a)) (identifiers_of a)
identifier_places a = all_front (λ y. place_of y.name (columns_of a) < length (columns_of a)) (identifiers_of a) (others_of a) (subst (AllByRecursion (λ y. place_of y.name (columns_of a) < length (columns_of a))) (columns_split a) (own_places (columns_of a)))

-- where points tie only columns are looked at
breakers_within : (a : Structure) (o : AnalyticOp) → AllByRecursion (IsWithin (length (columns_of a))) (identifier_keys (columns_of a) (tie_breakers o (identifiers_of a)))
breakers_within a op.Rank = tt
breakers_within a o = ids_within (columns_of a) (identifiers_of a) (identifier_places a)

pub keys_within : (a : Structure) (o : AnalyticOp) (w : Window) → AllByRecursion (IsNamedColumn (columns_of a)) w.partition → AllByRecursion (λ key. IsNamedColumn (columns_of a) key.component) w.order
    → All (λ k. k.column < length (columns_of a)) (sort_keys (columns_of a) (tie_breakers o (identifiers_of a)) w)
keys_within a o w h k =
    let xs = columns_of a in
    let P = IsWithin (length xs) in
    let ids = tie_breakers o (identifiers_of a) in
    All-from_recursion P (sort_keys xs ids w)
    (all_append P (partition_keys xs w ++ order_keys xs w) (identifier_keys xs ids)
    (all_append P (partition_keys xs w) (order_keys xs w) (names_within xs w w.partition h) (orders_within xs w w.order k))
    (breakers_within a o))
