-- A join of a part of the left rows has no more rows.
use Rattle.std.proofs.Common.{◌≡◌, ◌+◌, ◌≤◌, Bool, true, false, true≢false, cond, not, ◌||◌, List, [], ◌∷◌, ◌++◌, length, map, refl, sym, ap, arith, length-append}
use Rattle.std.specs.List.{filter, flat_map}
use Rattle.std.specs.Prelude.{fold}
use Rattle.std.proofs.lemmas.List.{length-map}
use Rattle.sql_tree.specs.Trees as tree
use Rattle.sql_tree.specs.Trees.{Exp, JoinTree}
use Rattle.sql_tree.specs.declared.word_groups.JoinKind.{JoinKind}
use Rattle.sql_tree.specs.declared.word_groups.JoinKind.TheVariants as joining
use Rattle.sql_meaning.specs.From.{Joined, beside, holds, is_met, joined_by, nulls, or_alone, partners, partners_or_alone, unmet, with_join}
use Rattle.sql_meaning.specs.Plans.{try_early}
use Rattle.sql_check_parts.specs.Scopes.{row_of, with_source}
use Rattle.sql_meaning.specs.Tables.{Base, columns_given, rows_from}
use Rattle.sql_meaning.specs.Values.{View, at_rows}

-- what is made of a part of a list
fewer_made : {A C : Type 0} (f : A → List C) (keep : A → Bool) (xs : List A) → length (flat_map f (filter keep xs)) ≤ length (flat_map f xs)
fewer_made f keep [] = omega arith
fewer_made {A = A} f keep (x ∷ xs) = go (keep x) (fewer_made f keep xs)
  where
    go : (b : Bool) → length (flat_map f (filter keep xs)) ≤ length (flat_map f xs) → length (flat_map f (cond b (x ∷ filter keep xs) (filter keep xs))) ≤ length (f x ++ flat_map f xs)
    go true ih = let one = length-append (f x) (flat_map f (filter keep xs)) in let two = length-append (f x) (flat_map f xs) in omega (arith, ih, one, two)
    go false ih = let two = length-append (f x) (flat_map f xs) in omega (arith, ih, two)

-- items that pass one of two tests wherever they pass a third
covered : {B : Type 0} (p t r : B → Bool) → ((y : B) → p y ≡ true → (t y || r y) ≡ true) → (ys : List B) → length (filter p ys) ≤ length (filter t ys) + length (filter r ys)
covered p t r h [] = omega arith
covered {B = B} p t r h (y ∷ ys) = go (p y) (t y) (r y) (h y) (covered p t r h ys)
  where
    go : (a b d : Bool) → (a ≡ true → (b || d) ≡ true) → length (filter p ys) ≤ length (filter t ys) + length (filter r ys)
        → length (cond a (y ∷ filter p ys) (filter p ys)) ≤ length (cond b (y ∷ filter t ys) (filter t ys)) + length (cond d (y ∷ filter r ys) (filter r ys))
    go true true true k ih = omega (arith, ih)
    go true true false k ih = omega (arith, ih)
    go true false true k ih = omega (arith, ih)
    go true false false k ih = absurd (true≢false (sym (k refl)))
    go false true true k ih = omega (arith, ih)
    go false true false k ih = omega (arith, ih)
    go false false true k ih = omega (arith, ih)
    go false false false k ih = ih

-- ---- FULL

module _ {A B C : Type 0} (test : A → B → Bool) (both : A → B → C) (alone : A → C) (ys : List B) where
  abbrev made : A → List C
  made = partners_or_alone test both alone ys

  -- right items that have no partner among these, nor pass a test
  abbrev left_over : (B → Bool) → List A → List B
  left_over q xs = filter (λ y. not (q y || is_met test xs y)) ys

  partners_made : (x : A) → length (filter (test x) ys) ≤ length (made x)
  partners_made x = let many = length-map (filter (test x) ys) (both x) in let more = padded (map (both x) (filter (test x) ys)) (alone x) in omega (arith, many, more)
    where
      padded : (l : List C) (z : C) → length l ≤ length (or_alone l z)
      padded [] z = omega arith
      padded (y ∷ l) z = omega arith

  or_grouped : (a b d : Bool) → (a || (b || d)) ≡ ((a || b) || d)
  or_grouped true b d = refl
  or_grouped false b d = refl

  passed_on : (q t m : Bool) → not (q || m) ≡ true → (t || not ((q || t) || m)) ≡ true
  passed_on true t m h = absurd (true≢false (sym h))
  passed_on false true m h = refl
  passed_on false false m h = h

  fewer_left : (keep : A → Bool) (xs : List A) (q : B → Bool) → length (flat_map made (filter keep xs)) + length (left_over q (filter keep xs)) ≤ length (flat_map made xs) + length (left_over q xs)
  fewer_left keep [] q = omega arith
  fewer_left keep (x ∷ xs) q = go (keep x) (fewer_left keep xs q) (fewer_left keep xs (λ y. q y || test x y))
    where
      regrouped : (zs : List A) → left_over q (x ∷ zs) ≡ left_over (λ y. q y || test x y) zs
      regrouped zs = ap (λ f. filter f ys) (λ i y. not (or_grouped (q y) (test x y) (is_met test zs y) i))

      go : (b : Bool) → length (flat_map made (filter keep xs)) + length (left_over q (filter keep xs)) ≤ length (flat_map made xs) + length (left_over q xs)
          → length (flat_map made (filter keep xs)) + length (left_over (λ y. q y || test x y) (filter keep xs)) ≤ length (flat_map made xs) + length (left_over (λ y. q y || test x y) xs)
          → length (flat_map made (cond b (x ∷ filter keep xs) (filter keep xs))) + length (left_over q (cond b (x ∷ filter keep xs) (filter keep xs))) ≤ length (made x ++ flat_map made xs) + length (left_over q (x ∷ xs))
      go true without with_it =
          let one = length-append (made x) (flat_map made (filter keep xs)) in
          let two = length-append (made x) (flat_map made xs) in
          let kept = ap (λ l. length l) (regrouped (filter keep xs)) in
          let all = ap (λ l. length l) (regrouped xs) in
          omega (arith, with_it, one, two, kept, all)
      go false without with_it =
          let two = length-append (made x) (flat_map made xs) in
          let all = ap (λ l. length l) (regrouped xs) in
          let more = covered (λ y. not (q y || is_met test xs y)) (test x) (λ y. not ((q y || test x y) || is_met test xs y)) (λ y. passed_on (q y) (test x y) (is_met test xs y)) ys in
          let own = partners_made x in
          omega (arith, without, two, all, more, own)

-- ---- joins

fewer_joined : {A B C : Type 0} (kind : JoinKind) (test : A → B → Bool) (both : A → B → C) (alone : A → C) (only : B → C) (keep : A → Bool) (xs : List A) (ys : List B)
    → length (joined_by kind test both alone only (filter keep xs) ys) ≤ length (joined_by kind test both alone only xs ys)
fewer_joined joining.Inner test both alone only keep xs ys = fewer_made (partners test both ys) keep xs
fewer_joined joining.Left test both alone only keep xs ys = fewer_made (partners_or_alone test both alone ys) keep xs
fewer_joined joining.Full test both alone only keep xs ys =
    let f = partners_or_alone test both alone ys in
    let less = fewer_left test both alone ys keep xs (λ y. false) in
    let one = length-append (flat_map f (filter keep xs)) (unmet test only (filter keep xs) ys) in
    let two = length-append (flat_map f xs) (unmet test only xs ys) in
    let unmet_one = length-map (filter (λ y. not (is_met test (filter keep xs) y)) ys) only in
    let unmet_two = length-map (filter (λ y. not (is_met test xs y)) ys) only in
    omega (arith, less, one, two, unmet_one, unmet_two)

-- a join behind what is tried early
module _ (b : Base) (v : View) (j : JoinTree) where
  one_tried : (f : Joined) (e : Exp) → length (with_join b (try_early v f e) j).rows ≤ length (with_join b f j).rows
  one_tried f e = go j
    where
      go : (j : JoinTree) → length (with_join b (try_early v f e) j).rows ≤ length (with_join b f j).rows
      go (tree.on kind s on) =
          let at = at_rows b (with_source b.tables f.scope s) in
          let m = length (columns_given b.tables s) in
          let n = length (row_of f.scope) in
          fewer_joined kind (λ x y. holds at on (x ++ y)) beside (λ x. x ++ nulls m) (λ y. nulls n ++ y) (holds v e) f.rows (rows_from b s)
      go (tree.cross s) = fewer_made (λ x. map (beside x) (rows_from b s)) (holds v e) f.rows

  pub fewer_tried : (es : List Exp) (f : Joined) → length (with_join b (fold (try_early v) f es) j).rows ≤ length (with_join b f j).rows
  fewer_tried [] f = omega arith
  fewer_tried (e ∷ es) f = let one = one_tried f e in let more = fewer_tried es (try_early v f e) in omega (arith, one, more)
