-- What is chosen names parts of the query: joins whose ON is a conjunction of equalities, and parts of WHERE that may be tried early.
use Rattle.std.proofs.Common.{◌≡◌, ◌<◌, ℕ, zero, suc, ◌+◌, Bool, true, false, cond, not, List, [], ◌∷◌, map, drop, length, Option, Some, None, refl, sym, ap, ◌∙◌, subst, true≢false, arith}
use Rattle.std.specs.Prelude.{find}
use Rattle.std.specs.List.{AllByRecursion, list_all, range_with_len}
use Rattle.std.proofs.lemmas.Bool.{and_parts}
use Rattle.vtl_lists.proofs.Alls.{all_append, all_from_test}
use Rattle.sql_tree.specs.Trees as tree
use Rattle.sql_tree.specs.Trees.{Exp, JoinTree, QueryTree, SelectTree}
use Rattle.sql_check_parts.specs.Scopes.{is_among}
use Rattle.sql_meaning.specs.Early.{MayBeEarly, NamesEarly, NamesOnly, aliases_left, columns_in, is_full, is_safe_condition, is_safe_join}
use Rattle.sql_meaning.specs.Plans.{IsAt, IsEqualityJoin, IsFirst, IsPlan, NamesJoin, conjuncts_of}
use Rattle.sql_meaning.proofs.EarlyPlans.{chosen_stands}
use Rattle.sql_meaning.proofs.Lists.{under}
use Rattle.sql_meaning.proofs.Planned.{next_behind}
use Rattle.sql_plan.specs.Chosen.{equality_joins, equality_joins_behind, equality_joins_from, is_equality_join}
use Rattle.sql_plan.specs.EarlyChosen.{early_parts, early_parts_behind, early_parts_in, entries_from, entry_of, first_join, is_lasting, is_safe_select, may_precede, names_only}

-- ---- joins that go by an index

pub equality_join : (j : JoinTree) → is_equality_join j ≡ true → IsEqualityJoin j
equality_join (tree.on kind s e) h = all_from_test _ _ h
equality_join (tree.cross s) h = absurd (true≢false (sym h))

module _ (q : QueryTree) where
  joins_named : (n : ℕ) (s : SelectTree) (rest : QueryTree) → drop n q ≡ s ∷ rest → (js : List JoinTree) (k : ℕ) → drop k s.joins ≡ js → AllByRecursion (NamesJoin q) (equality_joins_from n k js)
  joins_named n s rest there [] k here = tt
  joins_named n s rest there (j ∷ js) k here =
      all_append (NamesJoin q) (cond (is_equality_join j) (record { select = n; join = k } ∷ []) []) (equality_joins_from n (suc k) js)
      (one (is_equality_join j) refl) (joins_named n s rest there js (suc k) (next_behind k s.joins j js here))
    where
      one : (b : Bool) → is_equality_join j ≡ b → AllByRecursion (NamesJoin q) (cond b (record { select = n; join = k } ∷ []) [])
      one true e = (subst (IsFirst (λ (t : SelectTree). IsAt IsEqualityJoin k t.joins)) (sym there) (subst (IsFirst IsEqualityJoin) (sym here) (equality_join j e)), tt)
      one false e = tt

  selects_named : (ss : QueryTree) (n : ℕ) → drop n q ≡ ss → AllByRecursion (NamesJoin q) (equality_joins_behind n ss)
  selects_named [] n there = tt
  selects_named (s ∷ ss) n there =
      all_append (NamesJoin q) (equality_joins_from n 0 s.joins) (equality_joins_behind (suc n) ss) (joins_named n s ss there s.joins 0 refl) (selects_named ss (suc n) (next_behind n q s ss there))

-- ---- parts of WHERE that are tried early

found : (t : ℕ → Bool) (a m j : ℕ) → find t (range_with_len a m) ≡ Some j → (t j ≡ true) × (j < a + m)
found t a zero j e = cc
found t a (suc m) j e = go (t a) refl e (found t (a + 1) m j)
  where
    go : (b : Bool) → t a ≡ b → cond b (Some a) (find t (range_with_len (a + 1) m)) ≡ Some j → (find t (range_with_len (a + 1) m) ≡ Some j → (t j ≡ true) × (j < a + 1 + m)) → (t j ≡ true) × (j < a + suc m)
    go true h e ih = let same : a ≡ j = cc in (ap t (sym same) ∙ h, omega arith)
    go false h e ih = let there = ih e in (there.0, omega (arith, there.1))

pub is_there : {A : Type 0} (n : ℕ) (xs : List A) → n < length xs → IsAt (λ x. Unit {0}) n xs
is_there zero [] h = absurd (omega arith)
is_there zero (x ∷ xs) h = tt
is_there (suc n) [] h = absurd (omega arith)
is_there (suc n) (x ∷ xs) h = is_there n xs (omega (arith, h))

none_full : (js : List JoinTree) → is_lasting js ≡ true → AllByRecursion (λ j. is_full j ≡ false) js
none_full js h = under {P = λ (j : JoinTree). not (is_full j) ≡ true} {Q = λ (j : JoinTree). is_full j ≡ false} (λ j e. other (is_full j) e) js (all_from_test (λ j. not (is_full j)) js h)
  where
    other : (b : Bool) → not b ≡ true → b ≡ false
    other true e = absurd (true≢false (sym e))
    other false e = refl

may_be : (n k j : ℕ) (s : SelectTree) (x : Exp) (rest : List Exp) → is_safe_select s ≡ true → drop k (conjuncts_of s.condition) ≡ x ∷ rest → first_join s x ≡ Some j → MayBeEarly s (record { select = n; conjunct = k; join = j })
may_be n k j s x rest safe here e =
    let both = and_parts (list_all is_safe_join s.joins) (is_safe_condition s.condition) safe in
    let at = found (may_precede s x) 0 (length s.joins) j e in
    let may = and_parts (is_lasting (drop j s.joins)) (names_only (aliases_left s j) x) at.0 in
    record {
      safe = record { joins = all_from_test is_safe_join s.joins both.0; condition = both.1 };
      lasting = none_full (drop j s.joins) may.0;
      join = is_there j s.joins (omega (arith, at.1));
      conjunct = subst (IsFirst (NamesOnly (aliases_left s j))) (sym here) (all_from_test (λ y. is_among y.source (aliases_left s j)) (columns_in x) may.1);
    }

module _ (q : QueryTree) where
  entries_named : (n : ℕ) (s : SelectTree) (rest : QueryTree) → drop n q ≡ s ∷ rest → is_safe_select s ≡ true → (xs : List Exp) (k : ℕ) → drop k (conjuncts_of s.condition) ≡ xs → AllByRecursion (NamesEarly q) (entries_from n k (map (first_join s) xs))
  entries_named n s rest there safe [] k here = tt
  entries_named n s rest there safe (x ∷ xs) k here =
      all_append (NamesEarly q) (entry_of n k (first_join s x)) (entries_from n (suc k) (map (first_join s) xs))
      (one (first_join s x) refl) (entries_named n s rest there safe xs (suc k) (next_behind k (conjuncts_of s.condition) x xs here))
    where
      one : (o : Option ℕ) → first_join s x ≡ o → AllByRecursion (NamesEarly q) (entry_of n k o)
      one None e = tt
      one (Some j) e = (subst (IsFirst (λ (t : SelectTree). MayBeEarly t (record { select = n; conjunct = k; join = j }))) (sym there) (may_be n k j s x xs safe here e), tt)

  parts_named : (ss : QueryTree) (n : ℕ) → drop n q ≡ ss → AllByRecursion (NamesEarly q) (early_parts_behind n ss)
  parts_named [] n there = tt
  parts_named (s ∷ ss) n there =
      all_append (NamesEarly q) (early_parts_in n s) (early_parts_behind (suc n) ss) (chosen (is_safe_select s) refl) (parts_named ss (suc n) (next_behind n q s ss there))
    where
      chosen : (b : Bool) → is_safe_select s ≡ b → AllByRecursion (NamesEarly q) (cond b (entries_from n 0 (map (first_join s) (conjuncts_of s.condition))) [])
      chosen true e = entries_named n s ss there e (conjuncts_of s.condition) 0 refl
      chosen false e = tt

  pub plan_stands : IsPlan q (record { indexed = equality_joins q; early = early_parts q })
  plan_stands = chosen_stands q (record { indexed = equality_joins q; early = early_parts q }) (selects_named q q 0 refl) (parts_named q 0 refl)
