-- What a plan lists is chosen among all joins and parts, in their order.
use Rattle.std.specs.Prelude.{filter, zip}
use Rattle.std.specs.List.{flat_map, range_with_len}
use Rattle.std.proofs.Common.{◌≡◌, ℕ, suc, ◌+◌, Bool, true, false, cond, List, [], ◌∷◌, ◌++◌, map, length, Option, Some, None, refl, sym, ap, ◌∙◌, arith}
use Rattle.std.proofs.lemmas.Grind.{flat_map-append}
use Rattle.std.proofs.lemmas.List.{map-append}
use Rattle.std.proofs.lemmas.List.Elements.{filter-append}
use Rattle.sql_tree.specs.Trees.{Exp, JoinTree, QueryTree, SelectTree}
use Rattle.sql_meaning.specs.Plans.{conjuncts_of}
use Rattle.sql_meaning.specs.declared.plan.Early.{Early}
use Rattle.sql_meaning.specs.declared.plan.Indexed.{Indexed}
use Rattle.sql_plan.specs.Chosen.{equality_joins, equality_joins_behind, equality_joins_from, is_equality_join}
use Rattle.sql_plan.specs.EarlyChosen.{early_parts, early_parts_behind, early_parts_in, entries_from, entry_of, first_join, is_safe_select}
use Rattle.sql_meaning_laws.specs.Listed.{WherePart, chosen_joins, chosen_parts, first_join_of, join_entry, numbered, part_of, tried_before}

-- ---- places

next : {A : Type 0} (n : ℕ) (x : A) (xs : List A) → zip (range_with_len n (length (x ∷ xs))) (x ∷ xs) ≡ (n, x) ∷ zip (range_with_len (suc n) (length xs)) xs
next n x xs = let more : n + 1 ≡ suc n = omega arith in ap (λ m. (n, x) ∷ zip (range_with_len m (length xs)) xs) more

-- ---- joins

abbrev chosen : List (Indexed × JoinTree) → List Indexed
chosen js = map (λ j. j.0) (filter (λ j. is_equality_join j.1) js)

chosen_append : (js ks : List (Indexed × JoinTree)) → chosen (js ++ ks) ≡ chosen js ++ chosen ks
chosen_append js ks = ap (map (λ j. j.0)) (filter-append (λ j. is_equality_join j.1) js ks) ∙ map-append (λ j. j.0) (filter (λ j. is_equality_join j.1) js) (filter (λ j. is_equality_join j.1) ks)

one_join : (x : Indexed) (j : JoinTree) (rest : List (Indexed × JoinTree)) (more : List Indexed) (b : Bool) → more ≡ chosen rest
    → cond b (x ∷ []) [] ++ more ≡ map (λ i. i.0) (cond b ((x, j) ∷ filter (λ i. is_equality_join i.1) rest) (filter (λ i. is_equality_join i.1) rest))
one_join x j rest more true e = ap (λ l. x ∷ l) e
one_join x j rest more false e = e

joins_from : (select n : ℕ) (js : List JoinTree) → equality_joins_from select n js ≡ chosen (map (join_entry select) (zip (range_with_len n (length js)) js))
joins_from select n [] = refl
joins_from select n (j ∷ js) =
    one_join (record { select = select; join = n }) j (map (join_entry select) (zip (range_with_len (suc n) (length js)) js)) (equality_joins_from select (suc n) js) (is_equality_join j) (joins_from select (suc n) js)
    ∙ ap (λ l. chosen (map (join_entry select) l)) (sym (next n j js))

abbrev joins_of : ℕ × SelectTree → List (Indexed × JoinTree)
joins_of s = map (join_entry s.0) (numbered s.1.joins)

joins_behind : (n : ℕ) (ss : QueryTree) → equality_joins_behind n ss ≡ chosen (flat_map joins_of (zip (range_with_len n (length ss)) ss))
joins_behind n [] = refl
joins_behind n (s ∷ ss) =
    (λ i. joins_from n 0 s.joins i ++ joins_behind (suc n) ss i)
    ∙ sym (chosen_append (joins_of (n, s)) (flat_map joins_of (zip (range_with_len (suc n) (length ss)) ss)))
    ∙ ap (λ l. chosen (flat_map joins_of l)) (sym (next n s ss))

pub joins_are : (q : QueryTree) → equality_joins q ≡ chosen_joins q
joins_are q = joins_behind 0 q

-- ---- parts of WHERE

abbrev entry : WherePart → List Early
entry x = tried_before x (first_join_of x)

module _ (n : ℕ) (s : SelectTree) where
  tried_is : (k : ℕ) (x : Exp) (o : Option ℕ) → entry_of n k o ≡ tried_before (part_of (n, s) (k, x)) o
  tried_is k x None = refl
  tried_is k x (Some j) = refl

  entries_are : is_safe_select s ≡ true → (k : ℕ) (xs : List Exp) → entries_from n k (map (first_join s) xs) ≡ flat_map entry (map (part_of (n, s)) (zip (range_with_len k (length xs)) xs))
  entries_are safe k [] = refl
  entries_are safe k (x ∷ xs) =
      (λ i. (tried_is k x (first_join s x) ∙ ap (λ b. tried_before (part_of (n, s) (k, x)) (cond b (first_join s x) None)) (sym safe)) i ++ entries_are safe (suc k) xs i)
      ∙ ap (λ l. flat_map entry (map (part_of (n, s)) l)) (sym (next k x xs))

  no_entries : is_safe_select s ≡ false → (k : ℕ) (xs : List Exp) → [] ≡ flat_map entry (map (part_of (n, s)) (zip (range_with_len k (length xs)) xs))
  no_entries unsafe k [] = refl
  no_entries unsafe k (x ∷ xs) =
      (λ i. ap (λ b. tried_before (part_of (n, s) (k, x)) (cond b (first_join s x) None)) (sym unsafe) i ++ no_entries unsafe (suc k) xs i)
      ∙ ap (λ l. flat_map entry (map (part_of (n, s)) l)) (sym (next k x xs))

  abbrev parts : List Exp
  parts = conjuncts_of s.condition

  parts_within : early_parts_in n s ≡ flat_map entry (map (part_of (n, s)) (numbered parts))
  parts_within = go (is_safe_select s) refl
    where
      go : (b : Bool) → is_safe_select s ≡ b → cond b (entries_from n 0 (map (first_join s) parts)) [] ≡ flat_map entry (map (part_of (n, s)) (numbered parts))
      go true e = entries_are e 0 parts
      go false e = no_entries e 0 parts

abbrev parts_of : ℕ × SelectTree → List WherePart
parts_of s = map (part_of s) (numbered (conjuncts_of s.1.condition))

parts_behind : (n : ℕ) (ss : QueryTree) → early_parts_behind n ss ≡ flat_map entry (flat_map parts_of (zip (range_with_len n (length ss)) ss))
parts_behind n [] = refl
parts_behind n (s ∷ ss) =
    (λ i. parts_within n s i ++ parts_behind (suc n) ss i)
    ∙ sym (flat_map-append entry (parts_of (n, s)) (flat_map parts_of (zip (range_with_len (suc n) (length ss)) ss)))
    ∙ ap (λ l. flat_map entry (flat_map parts_of l)) (sym (next n s ss))

pub parts_are : (q : QueryTree) → early_parts q ≡ chosen_parts q
parts_are q = parts_behind 0 q
