-- What a row of the lead finds in the operands.
use Rattle.std.proofs.Common.{◌≡◌, ℕ, suc, not, ◌&&◌, List, [], ◌∷◌, ◌++◌, inl, inr, length, map, Option, Some, None, refl, sym, ap, ◌∙◌}
use Rattle.std.specs.Prelude.{is_some, nat_le, slice_get}
use Rattle.std.specs.List.{AllByRecursion, find, list_all, position_or_len}
use Rattle.std.proofs.lemmas.Bool.{cases_lt, le-leb, lt-leb}
use Rattle.std.proofs.lemmas.List.Folds.{find_at}
use Rattle.std.proofs.lemmas.Option.{slice_get-get_or, slice_get_past}
use Rattle.vtl_cell.specs.Row.{Row}
use Rattle.vtl_index.specs.Seekers.{Sought, first_meant, is_meant}
use Rattle.vtl_tree.specs.Environment.{DataSet}
use Rattle.vtl_meaning.specs.Joined.{part_of}
use Rattle.vtl_join.specs.Finding.{is_found, number}
use Rattle.vtl_join.proofs.Picked.{parts_at}

-- a number is past the end where nothing stands there
there_is : (rows : List Row) (n : ℕ) → not (nat_le (length rows) n) ≡ is_some (slice_get rows n)
there_is rows n = elim (cases_lt n (length rows)) [
  | inl within ↦ ap not (lt-leb (length rows) n within) ∙ sym (ap is_some (slice_get-get_or rows n [] within))
  | inr past ↦ ap not (le-leb (length rows) n past) ∙ sym (ap is_some (slice_get_past rows n past))
]

-- the operand gives this part to a row of the lead
pub record Finds (i : ℕ) (r : Row) (part : DataSet → Option Row) (x : Option Sought) (d : DataSet) : Type 0 where
  pub point : slice_get d.points (number i r x) ≡ part d
  pub there : is_found i r x ≡ is_some (part d)

unfoldable pub AllFind : ℕ → Row → (DataSet → Option Row) → List (Option Sought) → List DataSet → Type 0
AllFind i r part [] [] = Unit {0}
AllFind i r part [] (d ∷ ds) = ⊥
AllFind i r part (x ∷ xs) [] = ⊥
AllFind i r part (x ∷ xs) (d ∷ ds) = Finds i r part x d × AllFind i r part xs ds

-- the first point that is meant is the first that passes the same test
pub sought_finds : (i : ℕ) (r : Row) (part : DataSet → Option Row) (x : Sought) (d : DataSet) → x.rows ≡ d.points → find (is_meant x r) d.points ≡ part d → Finds i r part (Some x) d
sought_finds i r part x d rows e =
    let point : slice_get d.points (first_meant x r) ≡ part d = ap (λ l. slice_get d.points (position_or_len (is_meant x r) l)) rows ∙ sym (find_at (is_meant x r) d.points) ∙ e in
    record { point = point; there = there_is x.rows (first_meant x r) ∙ ap (λ l. is_some (slice_get l (first_meant x r))) rows ∙ ap is_some point }

-- the lead finds its own row
pub own_finds : (i : ℕ) (r : Row) (part : DataSet → Option Row) (d : DataSet) → slice_get d.points i ≡ Some r → part d ≡ Some r → Finds i r part None d
own_finds i r part d at own = record { point = at ∙ sym own; there = sym (ap is_some own) }

module _ (i : ℕ) (r : Row) (part : DataSet → Option Row) where
  pub find_append : (xs ys : List (Option Sought)) (ds es : List DataSet) → AllFind i r part xs ds → AllFind i r part ys es → AllFind i r part (xs ++ ys) (ds ++ es)
  unfolding AllFind
  find_append [] ys [] es h k = k
  find_append [] ys (d ∷ ds) es h k = absurd h
  find_append (x ∷ xs) ys [] es h k = absurd h
  find_append (x ∷ xs) ys (d ∷ ds) es h k = (h.0, find_append xs ys ds es h.1 k)

  pub find_each : (f : DataSet → Option Sought) → (ds : List DataSet) → AllByRecursion (λ d. Finds i r part (f d) d) ds → AllFind i r part (map f ds) ds
  unfolding AllFind
  find_each f [] all = tt
  find_each f (d ∷ ds) all = (all.0, find_each f ds all.1)

  pub as_many : (xs : List (Option Sought)) (ds : List DataSet) → AllFind i r part xs ds → length (map (number i r) xs) ≡ length ds
  unfolding AllFind
  as_many [] [] h = refl
  as_many [] (d ∷ ds) h = absurd h
  as_many (x ∷ xs) [] h = absurd h
  as_many (x ∷ xs) (d ∷ ds) h = ap suc (as_many xs ds h.1)

  pub parts_found : (xs : List (Option Sought)) (ds : List DataSet) → AllFind i r part xs ds → parts_at ds (map (number i r) xs) ≡ map (λ d. part_of d (part d)) ds
  unfolding AllFind
  parts_found [] [] h = refl
  parts_found [] (d ∷ ds) h = absurd h
  parts_found (x ∷ xs) [] h = absurd h
  parts_found (x ∷ xs) (d ∷ ds) h = ap (λ o. part_of d o ∷ parts_at ds (map (number i r) xs)) h.0.point ∙ ap (λ l. part_of d (part d) ∷ l) (parts_found xs ds h.1)

  pub all_found : (xs : List (Option Sought)) (ds : List DataSet) → AllFind i r part xs ds → list_all (is_found i r) xs ≡ list_all (λ p. is_some p.point) (map (λ d. part_of d (part d)) ds)
  unfolding AllFind
  all_found [] [] h = refl
  all_found [] (d ∷ ds) h = absurd h
  all_found (x ∷ xs) [] h = absurd h
  all_found (x ∷ xs) (d ∷ ds) h = ap (λ b. b && list_all (is_found i r) xs) h.0.there ∙ ap (λ b. is_some (part d) && b) (all_found xs ds h.1)
