-- Rows that agree.
use Rattle.lineage_laws.specs.Agree.{Agree, IsKnown, Known, cell, no_cells}
use Rattle.std.proofs.Common.{◌≡◌, ℕ, zero, suc, Bool, true, false, ◌&&◌, ◌||◌, List, [], ◌∷◌, ◌++◌, length, map, take, drop, refl, sym, ◌∙◌, subst, true≢false, arith}
use Rattle.std.proofs.lemmas.Bool.{and_parts}
use Rattle.std.proofs.lemmas.List.Folds.{list_all-append}
use Rattle.std.specs.List.{AllByRecursion, list_all, list_any}
use Rattle.std.specs.Prelude.{slice_index_or}
use Rattle.vtl_cell.specs.Row.{Row, column_of}
use Rattle.vtl_cell.specs.declared.cell.Cell.{Cell}
use Rattle.vtl_meaning.proofs.Places.{all_of_map, columns_split, place_here, place_later}
use Rattle.vtl_meaning.specs.LookUps.{value_named}
use Rattle.vtl_tree.specs.Columns.{identifiers_of, others_of, place_of}
use Rattle.vtl_tree.specs.Structure.{columns_of, key_width, same_name}
use Rattle.vtl_tree.specs.declared.structure.Component.{Component}
use Rattle.vtl_sources.specs.Links.{Pairs}
use Rattle.lineage_laws.specs.Over.{Operand, columns_from, namesakes, no_pairs, points_of_all, source_at, source_named, with_all}

-- ---- what is known
pub known_parts : (known : Known) (ps qs : Pairs) → IsKnown known (ps ++ qs) → IsKnown known ps × IsKnown known qs
known_parts known ps qs h = and_parts (list_all known ps) (list_all known qs) (sym (list_all-append known ps qs) ∙ h)

pub known_both : (known : Known) (ps qs : Pairs) → IsKnown known ps → IsKnown known qs → IsKnown known (ps ++ qs)
known_both known ps qs h k = list_all-append known ps qs ∙ (λ i. h i && k i)

-- of sets that stand behind another one
pub known_all : (known : Known) (before : Pairs) (xs : List Pairs) → IsKnown known (with_all before xs) → IsKnown known before × AllByRecursion (IsKnown known) xs
known_all known before [] h = (h, tt)
known_all known before (x ∷ xs) h =
    let more = known_all known (before ++ x) xs h in
    let parts = known_parts known before x more.0 in
    (parts.0, (parts.1, more.1))

pub points_known : (known : Known) (os : List Operand) → IsKnown known (points_of_all os) → AllByRecursion (λ a. IsKnown known a.sources.points) os
points_known known os h = all_of_map (λ a. a.sources.points) (IsKnown known) os (known_all known no_pairs (map (λ a. a.sources.points) os) h).1

pub namesakes_known : (known : Known) (os : List Operand) (y : Component) → IsKnown known (namesakes os y) → AllByRecursion (λ a. IsKnown known (source_named a y.name)) os
namesakes_known known os y h = all_of_map (λ a. source_named a y.name) (IsKnown known) os (known_all known no_pairs (map (λ a. source_named a y.name) os) h).1

-- ---- rows
module _ (known : Known) where
  pub agree_at : (cols : List Pairs) (r q : Row) → Agree known cols r q → (i : ℕ) → IsKnown known (slice_index_or cols i []) → column_of i r ≡ column_of i q
  agree_at _ _ _ no_cells i h = refl
  agree_at _ _ _ (cell e a) zero h = e h
  agree_at _ _ _ (cell {pss = pss} {r = r} {q = q} e a) (suc i) h = agree_at pss r q a i h

  pub agree_append : (cols : List Pairs) (r q : Row) (more : List Pairs) (u v : Row) → Agree known cols r q → Agree known more u v → Agree known (cols ++ more) (r ++ u) (q ++ v)
  agree_append _ _ _ more u v no_cells b = b
  agree_append _ _ _ more u v (cell {pss = pss} {r = r} {q = q} e a) b = cell e (agree_append pss r q more u v a b)

  -- made column by column
  pub agree_map : {X : Type 0} (k : X → Pairs) (f g : X → Cell) (xs : List X) → ((x : X) → IsKnown known (k x) → f x ≡ g x) → Agree known (map k xs) (map f xs) (map g xs)
  agree_map k f g [] h = no_cells
  agree_map k f g (x ∷ xs) h = cell (h x) (agree_map k f g xs h)

  -- and where more is asked of the columns
  pub agree_map_all : {X : Type 0} (P : X → Type 0) (k : X → Pairs) (f g : X → Cell) (xs : List X) → ((x : X) → P x → IsKnown known (k x) → f x ≡ g x) → AllByRecursion P xs → Agree known (map k xs) (map f xs) (map g xs)
  agree_map_all P k f g [] h all = no_cells
  agree_map_all P k f g (x ∷ xs) h all = cell (h x all.0) (agree_map_all P k f g xs h all.1)

  -- a row that is there agrees with itself
  pub agree_self : (cols : List Pairs) (r : Row) → length cols ≡ length r → Agree known cols r r
  agree_self [] [] e = no_cells
  agree_self (ps ∷ pss) (v ∷ r) e = cell (λ h. refl) (agree_self pss r (omega arith))
  agree_self [] (v ∷ r) e = absurd (omega arith)
  agree_self (ps ∷ pss) [] e = absurd (omega arith)

  pub agree_take : (n : ℕ) (cols : List Pairs) (r q : Row) → Agree known cols r q → Agree known (take n cols) (take n r) (take n q)
  agree_take zero _ _ _ a = no_cells
  agree_take (suc n) _ _ _ no_cells = no_cells
  agree_take (suc n) _ _ _ (cell {pss = pss} {r = r} {q = q} e a) = cell e (agree_take n pss r q a)

  pub agree_drop : (n : ℕ) (cols : List Pairs) (r q : Row) → Agree known cols r q → Agree known (drop n cols) (drop n r) (drop n q)
  agree_drop zero _ _ _ a = a
  agree_drop (suc n) _ _ _ no_cells = no_cells
  agree_drop (suc n) _ _ _ (cell {pss = pss} {r = r} {q = q} e a) = agree_drop n pss r q a

  -- ---- identifiers, which depend on no_pairs beside the points
  pub key_same : (pts : Pairs) → IsKnown known pts → (xs : List Component) (others : List Pairs) (r q : Row) → Agree known (map (λ x. pts) xs ++ others) r q → take (length xs) r ≡ take (length xs) q
  key_same pts h [] others r q a = refl
  key_same pts h (x ∷ xs) others _ _ (cell {r = r} {q = q} e a) = λ i. e h i ∷ key_same pts h xs others r q a i

  -- the identifiers alone, however much is asked
  pub key_agrees : (pts more : Pairs) → IsKnown known pts → (xs : List Component) (others : List Pairs) (r q : Row) → Agree known (map (λ x. pts) xs ++ others) r q → Agree known (map (λ x. more) xs) (take (length xs) r) (take (length xs) q)
  key_agrees pts more h [] others r q a = no_cells
  key_agrees pts more h (x ∷ xs) others _ _ (cell {r = r} {q = q} e a) = cell (λ k. e h) (key_agrees pts more h xs others r q a)

  key_at : (pts : Pairs) → IsKnown known pts → (xs ys : List Component) (others : List Pairs) (name : List ℕ) → list_any (λ x. same_name x.name name) xs ≡ true → IsKnown known (slice_index_or (map (λ x. pts) xs ++ others) (place_of name (xs ++ ys)) [])
  key_at pts h [] ys others name e = absurd (true≢false (sym e))
  key_at pts h (x ∷ xs) ys others name e = go (same_name x.name name) refl e (key_at pts h xs ys others name)
    where
      go : (b : Bool) → same_name x.name name ≡ b → (b || list_any (λ z. same_name z.name name) xs) ≡ true → (list_any (λ z. same_name z.name name) xs ≡ true → IsKnown known (slice_index_or (map (λ z. pts) xs ++ others) (place_of name (xs ++ ys)) []))
          → IsKnown known (slice_index_or (pts ∷ map (λ z. pts) xs ++ others) (place_of name (x ∷ xs ++ ys)) [])
      go true k i ih = subst (λ n. IsKnown known (slice_index_or (pts ∷ map (λ z. pts) xs ++ others) n [])) (sym (place_here name x (xs ++ ys) k)) h
      go false k i ih = subst (λ n. IsKnown known (slice_index_or (pts ∷ map (λ z. pts) xs ++ others) n [])) (sym (place_later name x (xs ++ ys) k)) (ih i)

  module _ (a : Operand) (r q : Row) (agree : Agree known (columns_from a.structure a.sources) r q) where
    pub same_at : (i : ℕ) → IsKnown known (source_at a i) → column_of i r ≡ column_of i q
    same_at i h = agree_at (columns_from a.structure a.sources) r q agree i h

    pub same_named : (name : List ℕ) → IsKnown known (source_named a name) → value_named (columns_of a.structure) r name ≡ value_named (columns_of a.structure) q name
    same_named name h = same_at (place_of name (columns_of a.structure)) h

    pub same_key : take (key_width a.structure) r ≡ take (key_width a.structure) q
    same_key = key_same no_pairs refl (identifiers_of a.structure) a.sources.others r q agree

    pub agree_key : (pts : Pairs) → Agree known (map (λ x. pts) (identifiers_of a.structure)) (take (key_width a.structure) r) (take (key_width a.structure) q)
    agree_key pts = key_agrees no_pairs pts refl (identifiers_of a.structure) a.sources.others r q agree

    pub same_identifier : (name : List ℕ) → list_any (λ x. same_name x.name name) (identifiers_of a.structure) ≡ true → value_named (columns_of a.structure) r name ≡ value_named (columns_of a.structure) q name
    same_identifier name e = same_named name (subst (λ xs. IsKnown known (slice_index_or (columns_from a.structure a.sources) (place_of name xs) [])) (sym (columns_split a.structure)) (key_at no_pairs refl (identifiers_of a.structure) (others_of a.structure) a.sources.others name e))
